-- What a command did to the objects that it touches, as contracts see it.
use Rattle.std.specs.Prelude.{◌≡◌, ◌≢◌, ℕ, ◌≤◌, Some}
use Rattle.fugue_ids.specs.Outs.{OutIsSpecified, OutView}
use Rattle.outer_ports.specs.Sources.{SourceIsSpecified, SourceView}
use Rattle.outer_ports.specs.disk.Disks.{DiskIsSpecified, DiskView, RoomView}
use Rattle.outer_ports.specs.disk.Moments.{History}
use Rattle.outer_ports.specs.wire.Wires.{WireIsSpecified, WireView}
use Rattle.command_kinds.specs.declared.status.Status.{Status}
use Rattle.command_kinds.specs.declared.status.Status.TheVariants.{OutsideFault}

-- the streams of the process
pub record Streams : Type 0 where
  pub input : SourceView
  pub output : OutView
  pub notes : OutView

-- what a call did to an object: how contracts saw it before, and after
pub record Change (V : Type 0) : Type 0 where
  pub old : V
  pub new : V

-- an object before and after a call
abbrev pub change : {V : Type 0} → V → V → Change V
change old new = record { old = old; new = new }

-- writes are sure, and so many bytes fit
pub record HasRoom (bytes : ℕ) (out : OutView) : Type 0 where
  pub room : ℕ
  pub is : out.room ≡ Some room
  pub fits : bytes ≤ room

-- where so many bytes fit, no fault is counted
abbrev pub CountsNoFault : (bytes : ℕ) → OutView → OutView → Type 0
CountsNoFault bytes old new = HasRoom bytes old → new.faults ≡ old.faults

-- the room that notes need
abbrev pub notes_room : ℕ
notes_room = 256

-- calls on the disk are sure, and so many bytes, in so many writes and syncs, fit
pub record HasDiskRoom (count : ℕ) (disk : DiskView) : Type 0 where
  pub room : RoomView
  pub is : disk.room ≡ Some room
  pub bytes_fit : count ≤ room.bytes
  pub calls_fit : count ≤ room.calls

-- where so much fits, no fault is counted
abbrev pub DiskCountsNoFault : (count : ℕ) → Change DiskView → Type 0
DiskCountsNoFault count disk = HasDiskRoom count disk.old → disk.new.faults ≡ disk.old.faults

-- what stands on the disk is specified
abbrev pub IsSpecified : DiskView → Type 0
IsSpecified disk = (h : History) × (disk.past ≡ Some h)

-- Each object's count of faults rises with an outside fault alone, where the object is specified: no call that failed is made once
-- more, and none is reported as another fault.
abbrev pub SourceBlameless : Change SourceView → Status → Type 0
SourceBlameless source end = SourceIsSpecified source.old → end ≢ OutsideFault → source.new.faults ≡ source.old.faults

-- an output that is specified had none, unless the status says so
abbrev pub OutBlameless : Change OutView → Status → Type 0
OutBlameless out end = OutIsSpecified out.old → end ≢ OutsideFault → out.new.faults ≡ out.old.faults

-- a disk that is specified had none, unless the status says so
abbrev pub DiskBlameless : Change DiskView → Status → Type 0
DiskBlameless disk end = DiskIsSpecified disk.old → end ≢ OutsideFault → disk.new.faults ≡ disk.old.faults

-- a wire that is specified had none, unless the status says so
abbrev pub WireBlameless : Change WireView → Status → Type 0
WireBlameless wire end = WireIsSpecified wire.old → end ≢ OutsideFault → wire.new.faults ≡ wire.old.faults
