-- What a disk's count of faults says of the calls on it.
use Rattle.std.specs.Prelude.{◌≡◌, ◌≤◌, IfSome}
use Rattle.fugue_ids.specs.Causes.{Faulted}
use Rattle.outer_ports.specs.disk.Disks.{DiskIsSpecified, DiskView, RoomView}

-- some calls, of which one failed or none, and the room that lasts for all of them
pub record AccountsForFaults (old new : DiskView) (Lasts : RoomView → Type 0) (failed : Type 0) : Type 0 where
  -- the count never falls
  pub later : old.faults ≤ new.faults
  -- it rose where a call failed
  pub faulted : failed → Faulted old.faults new.faults
  -- where calls are sure and the room lasts, none fails
  pub sure : IfSome old.room (λ room. Lasts room → failed → ⊥)
  -- and no fault is counted
  pub counts_no_fault : IfSome old.room (λ room. Lasts room → new.faults ≡ old.faults)
  -- nor by a disk that is specified, where none failed
  pub specified_no_fault : DiskIsSpecified old → (failed → ⊥) → new.faults ≡ old.faults
