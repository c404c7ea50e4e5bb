-- What a call that loads a file gives, and what it leaves of the disk.
use Rattle.std.specs.Prelude.{◌≡◌, ◌⊎◌, ℕ, ◌+◌, Result, Err, IfOk, IfSome}
use Rattle.outer_ports.specs.disk.Disks.{DiskView, room_after_write}
use Rattle.outer_ports.specs.disk.Moments.{LeavesOnlyTo, MayLeave, past_after_step}
use Rattle.outer_ports.specs.disk.States.{durable}
use Rattle.origin_model.specs.edits.State.{State}
use Rattle.replica_file.specs.Ends.{EndsAtGate, IsWithinReach}
use Rattle.replica_file.specs.Faults.{AccountsForFaults}
use Rattle.replica_file.specs.Load.{LoadAnswerIs, LoadAnswersBy, LastsToLoad}
use Rattle.replica_file.specs.Loading.{CanTake}
use Rattle.replica_file.specs.Looks.{ReadsNoFurther}
use Rattle.replica_file.specs.declared.load_file.End.{End}
use Rattle.replica_file.specs.declared.load_file.LoadFault.{LoadFault}
use Rattle.replica_file.specs.declared.load_file.LoadFault.TheVariants.{DiskFault}

-- a replica was loaded, and a batch can be appended where the meaning of its file ends
pub record IsLoaded (old new : DiskView) (replica : State) (end : End) : Type 0 where
  -- it can take in one operation more
  pub ready : CanTake replica
  -- the file, where it is specified, ends there, whatever a crash leaves
  pub ends : IfSome new.past (λ h. EndsAtGate h.last end)
  -- and where it is not specified, the slots can reach so far
  pub reaches : IsWithinReach end
  -- no byte after the gate at the end was asked for
  pub reach : ReadsNoFurther (end.at + 1) old new

-- a load that may take in so many operations
pub record LoadMeets (most : ℕ) (old new : DiskView) (result : Result (State × End) LoadFault) : Type 0 where
  -- the bytes, where they are specified, are the cause of the answer
  pub cause : IfSome old.past (λ h. LoadAnswerIs most h.last.seen result)
  -- and each answer comes exactly where they are, but for a fault of the disk and an allocation failure
  pub exactly : IfSome old.past (λ h. LoadAnswersBy result most h.last.seen)
  -- what an answer without a fault gives
  pub loaded : IfOk result (λ loaded. IsLoaded old new loaded.0 loaded.1)
  -- the file was settled, unless that failed, and otherwise it is as it was
  pub synced : ((new.past ≡ past_after_step durable old.past) × (new.room ≡ room_after_write 0 old.room))
      ⊎ ((result ≡ Err DiskFault) × (new.past ≡ old.past) × (new.room ≡ old.room))
  -- a crash leaves nothing but what it could leave before
  pub moments : IfSome old.past (λ h. LeavesOnlyTo h new.past (MayLeave h))
  -- the size was not asked for
  pub no_size : new.sizes ≡ old.sizes
  -- one call that may fail is the sync, which needs room; the others are reads
  pub faults : AccountsForFaults old new LastsToLoad (result ≡ Err DiskFault)
