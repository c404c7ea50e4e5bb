-- What `new` does at each of its ends.
use Rattle.std.specs.Prelude.{◌≡◌, ◌≢◌, ◌⊎◌, ℕ, List, [], Some, IfSome, option_map, Ok, Err, Result}
use Rattle.fugue_ids.specs.Causes.{Faulted}
use Rattle.fugue_ids.specs.Outs.{OutView}
use Rattle.origin_model.specs.files.Image.{new_file}
use Rattle.outer_ports.specs.disk.Disks.{DiskView}
use Rattle.outer_ports.specs.disk.Moments.{LeavesOnlyTo, MayHaveWritten, MayLeave}
use Rattle.outer_ports.specs.disk.States.{at_rest}
use Rattle.command_kinds.specs.Crashes.{IsSafe, NeverTorn}
use Rattle.command_kinds.specs.Files.{bytes_of}
use Rattle.command_kinds.specs.Changes.{Change, DiskBlameless, DiskCountsNoFault, HasDiskRoom}
use Rattle.command_kinds.specs.declared.refusal.Refusal.{Refusal}
use Rattle.command_kinds.specs.declared.refusal.Refusal.TheVariants as refusal
use Rattle.command_kinds.specs.declared.status.Status.{Status}
use Rattle.command_kinds.specs.declared.status.Status.TheVariants as status
use Rattle.command_kinds.specs.Acts.{Act, Performs, all_done, no_line}

-- the file was empty, and is now the file of a replica that holds nothing; a crash leaves nothing else
pub record Created (replica hold : ℕ) (home : Change DiskView) : Type 0 where
  pub empty : IfSome home.old.past (λ h. h.last.seen ≡ [])
  pub made : bytes_of home.new.past ≡ option_map (λ bytes. new_file replica hold) (bytes_of home.old.past)
  pub at_rest : IfSome home.new.past (λ k. k.last ≡ at_rest (new_file replica hold))
  pub safe : IfSome home.new.past (λ k. IsSafe (record { replica = replica; hold = hold }) [] [] k.last)

-- something stood in the file, and it is as it was
pub record FoundNotEmpty (home : Change DiskView) : Type 0 where
  pub found : IfSome home.old.past (λ h. h.last.seen ≢ [])
  pub kept : home.new.past ≡ home.old.past

-- a call failed: nothing was written, or the range of the 14 bytes may hold anything
pub record NotCreated (home : Change DiskView) : Type 0 where
  pub torn : MayHaveWritten 0 14 home.old.past home.new.past
  pub faulted : Faulted home.old.faults home.new.faults
  pub no_room : HasDiskRoom 14 home.old → ⊥

-- the file was made, or why not: it takes no memory
abbrev pub CreateComes : (replica hold : ℕ) → Change DiskView → Result (Unit {0}) Refusal → Type 0
CreateComes replica hold home (Ok done) = Created replica hold home
CreateComes replica hold home (Err refusal.NotEmpty) = FoundNotEmpty home
CreateComes replica hold home (Err refusal.Outside) = NotCreated home
CreateComes replica hold home (Err _) = ⊥

-- the act of `new`
abbrev pub creating : (replica hold : ℕ) → Change DiskView → Act (Unit {0})
creating replica hold home = record { Comes = CreateComes replica hold home; line = no_line; status = all_done }

-- the file's length decides the status, but for faults
pub record NewIsDecided (home : Change DiskView) (end : Status) : Type 0 where
  pub empty : bytes_of home.old.past ≡ Some []
      → (end ≡ status.Done) ⊎ ((end ≡ status.OutsideFault) × Faulted home.old.faults home.new.faults)
  pub not_empty : (bytes : List ℕ) → bytes_of home.old.past ≡ Some bytes → bytes ≢ []
      → (end ≡ status.BadFile) ⊎ ((end ≡ status.OutsideFault) × Faulted home.old.faults home.new.faults)

-- A file that had bytes is as it was, whatever the answer: no crash left of it what it could not leave at entry.
pub record KeepsFilled (home : Change DiskView) : Type 0 where
  pub past : IfSome home.old.past (λ h. h.last.seen ≢ [] → home.new.past ≡ home.old.past)
  pub moments : IfSome home.old.past (λ h. h.last.seen ≢ [] → LeavesOnlyTo h home.new.past (MayLeave h))

-- the command `new`
pub record Creates (replica hold : ℕ) (home : Change DiskView) (notes : Change OutView) (end : Status) : Type 0 where
  pub performs : Performs (creating replica hold home) notes end
  pub decided : NewIsDecided home end
  pub filled : KeepsFilled home
  pub crash : NeverTorn (λ gave. gave ≡ []) home end
  -- a sure file with room counts no fault
  pub counts_no_fault : DiskCountsNoFault 14 home
  pub never_outside : HasDiskRoom 14 home.old → end ≢ status.OutsideFault
  pub blameless : DiskBlameless home end
