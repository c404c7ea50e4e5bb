-- Making a file.
use Rattle.std.specs.Prelude.{◌≡◌, ◌≢◌, ◌↔◌, ℕ, ◌≤◌, [], Result, Err, IfSome, OnOk, OnErr}
use Rattle.outer_ports.specs.disk.Disks.{DiskView, RoomView, room_after_write}
use Rattle.outer_ports.specs.disk.Moments.{MayHaveWritten, past_after_step}
use Rattle.outer_ports.specs.disk.States.{at_rest, durable, wrote}
use Rattle.origin_model.specs.files.Image.{Content, HasImage, Holds, new_file}
use Rattle.replica_file.specs.Faults.{AccountsForFaults}
use Rattle.replica_file.specs.declared.creating.CreateFault.{CreateFault}
use Rattle.replica_file.specs.declared.creating.CreateFault.TheVariants.{DiskFault, NotEmpty}

-- what a new file holds
abbrev pub nothing_yet : (replica hold : ℕ) → Content
nothing_yet replica hold = record { replica = replica; hold = hold; ops = []; at = 13; slots = 0 }

-- the room lasts for the write and the sync
pub record LastsToCreate (room : RoomView) : Type 0 where
  pub bytes_fit : 14 ≤ room.bytes
  pub calls_fit : 2 ≤ room.calls

-- the file of a replica that holds nothing was made
pub record IsCreated (replica hold : ℕ) (old new : DiskView) : Type 0 where
  -- its bytes were written and settled
  pub calls : new.past ≡ past_after_step durable (past_after_step (wrote 0 (new_file replica hold)) old.past)
  -- and nothing else stands there
  pub at_rest : IfSome new.past (λ h. h.last ≡ at_rest (new_file replica hold))
  -- they mean a replica that holds nothing
  pub holds : HasImage (new_file replica hold) (Holds (nothing_yet replica hold))
  -- that took a write of 14 bytes and a sync
  pub room : new.room ≡ room_after_write 0 (room_after_write 14 old.room)

-- the making of such a file
pub record CreateMeets (replica hold : ℕ) (old new : DiskView) (result : Result (Unit {0}) CreateFault) : Type 0 where
  -- that the file has bytes is answered exactly where it has some, but for a fault
  pub not_empty : IfSome old.past (λ h. result ≢ Err DiskFault → (result ≡ Err NotEmpty) ↔ (h.last.seen ≢ []))
  -- nothing was done then
  pub kept : result ≡ Err NotEmpty → (new.past ≡ old.past) × (new.room ≡ old.room)
  -- a file that has bytes stays as it is, whatever the answer
  pub overwrites_none : IfSome old.past (λ h. h.last.seen ≢ [] → new.past ≡ old.past)
  -- what an answer without a fault gives
  pub made : OnOk result (IsCreated replica hold old new)
  -- after a fault anything may stand in the place of the bytes
  pub torn : OnErr result (MayHaveWritten 0 14 old.past new.past)
  -- the size, a write and a sync may fail
  pub faults : AccountsForFaults old new LastsToCreate (result ≡ Err DiskFault)
