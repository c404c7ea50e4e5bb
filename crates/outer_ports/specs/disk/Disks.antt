-- A disk, as contracts see it, and what each call does to it.
use Rattle.std.specs.Prelude.{◌≡◌, ℕ, ◌+◌, ◌-◌, ◌^◌, ◌<◌, ◌≤◌, min, max, List, length, take, drop, Option, Some, None, Result, IfSome, IfOk}
use Rattle.std.specs.Prelude.{IsSome, OnOk, OnErr, option_map}
use Rattle.fugue_ids.specs.Causes.{HasCause}
use Rattle.outer_ports.specs.Calls.{risen}
use Rattle.outer_ports.specs.Counts.{FailsOnlyFor}
use Rattle.outer_ports.specs.disk.States.{IsHonest, wrote, durable}
use Rattle.outer_ports.specs.disk.Moments.{History, past_after_step, MayHaveWritten}

-- what all later calls together may use
pub record RoomView : Type 0 where
  -- how many bytes they write
  pub bytes : ℕ
  -- how many writes and syncs they are
  pub calls : ℕ

-- what contracts see of a disk
pub record DiskView : Type 0 where
  -- its states so far, where the object tells them
  pub past : Option History
  -- how often a call failed
  pub faults : ℕ
  -- what still fits, where calls are sure
  pub room : Option RoomView
  -- how often its size was asked for, where the object tells it
  pub sizes : Option ℕ
  -- how far it was read: the end of the range that goes furthest of the reads that succeeded, where the object tells it
  pub reach : Option ℕ

-- it tells its states
abbrev pub DiskIsSpecified : DiskView → Type 0
DiskIsSpecified disk = IsSome disk.past

-- the room that a call leaves which writes n bytes
abbrev pub room_after_write : ℕ → Option RoomView → Option RoomView
room_after_write n None = None
room_after_write n (Some room) = Some (record { bytes = room.bytes - n; calls = room.calls - 1 })

-- how far it was read once n bytes were asked for from an offset on, up to the greatest number
abbrev pub reach_after : (at n before : ℕ) → ℕ
reach_after at n before = max before (min (at + n) (2 ^ 64 - 1))

-- it was not asked for its size, and not read
pub record IsUnread (old new : DiskView) : Type 0 where
  pub sizes : new.sizes ≡ old.sizes
  pub reach : new.reach ≡ old.reach

-- A call that only looks: it changes nothing but the count, and what was asked for, and is sure where calls are. Here
-- and below, where the disk tells, the count rises only with an error.
pub record Looks {E T : Type 0} (old new : DiskView) (result : Result T E) : Type 0 where
  pub past : new.past ≡ old.past
  pub room : new.room ≡ old.room
  pub count : FailsOnlyFor old.room (λ room. ⊥) old.faults new.faults result
  pub specified_no_fault : DiskIsSpecified old → OnOk result (new.faults ≡ old.faults)

-- where calls are sure, a step that fits is taken, and one that does not fit fails and does nothing
pub record IsSureStep {E T : Type 0} (room : RoomView) (n : ℕ) (old new : DiskView) (result : Result T E) : Type 0 where
  pub fits : n ≤ room.bytes → 0 < room.calls → OnErr result ⊥
  pub within : OnOk result ((n ≤ room.bytes) × (0 < room.calls))
  pub counts_no_fault : OnOk result (new.faults ≡ old.faults)
  pub kept : OnErr result (new.past ≡ old.past)

-- the length
pub record Sizes {E : Type 0} (old new : DiskView) (result : Result ℕ E) : Type 0 where
  pub specified : IfOk result (λ n. IfSome old.past (λ h. n ≡ length h.last.seen))
  pub looks : Looks old new result
  pub asked : OnOk result (new.sizes ≡ option_map risen old.sizes)
  pub unasked : OnErr result (new.sizes ≡ old.sizes)
  pub reach : new.reach ≡ old.reach

-- n bytes of those from an offset on, none only where there is none or no room
pub record GivesAt (seen : List ℕ) (at n : ℕ) (buf : List ℕ) : Type 0 where
  pub given : take n buf ≡ take n (drop at seen)
  pub inside : n ≤ length seen - at
  pub some : 0 < length buf → at < length seen → 0 < n

-- a read at a place: what it gives, and how it may fail
pub record ReadsAt {E : Type 0} (old new : DiskView) (result : Result ℕ E) (at : ℕ) (buf : List ℕ) : Type 0 where
  pub bound : IfOk result (λ n. n ≤ length buf)
  pub specified : IfOk result (λ n. IfSome old.past (λ h. GivesAt h.last.seen at n buf))
  pub looks : Looks old new result
  pub asked : OnOk result (new.reach ≡ option_map (reach_after at (length buf)) old.reach)
  pub unasked : OnErr result (new.reach ≡ old.reach)
  pub sizes : new.sizes ≡ old.sizes

-- all bytes are written; where the call failed, their range may hold anything after a crash
pub record WritesAt {E T : Type 0} (old new : DiskView) (result : Result T E) (at : ℕ) (bytes : List ℕ) : Type 0 where
  pub wrote : OnOk result (new.past ≡ past_after_step (wrote at bytes) old.past)
  pub torn : OnErr result (MayHaveWritten at (length bytes) old.past new.past)
  pub room : OnOk result (new.room ≡ room_after_write (length bytes) old.room)
  pub same_room : OnErr result (new.room ≡ old.room)
  pub unread : IsUnread old new
  pub cause : HasCause old.faults new.faults result
  pub sure : IfSome old.room (λ room. IsSureStep room (length bytes) old new result)
  pub specified_no_fault : DiskIsSpecified old → OnOk result (new.faults ≡ old.faults)

-- what a read gives was one of the images, and is now the only one
pub record Syncs {E T : Type 0} (old new : DiskView) (result : Result T E) : Type 0 where
  pub honest : OnOk result (IfSome old.past (λ h. IsHonest h.last))
  pub settled : OnOk result (new.past ≡ past_after_step durable old.past)
  pub past : OnErr result (new.past ≡ old.past)
  pub room : OnOk result (new.room ≡ room_after_write 0 old.room)
  pub same_room : OnErr result (new.room ≡ old.room)
  pub unread : IsUnread old new
  pub cause : HasCause old.faults new.faults result
  pub sure : IfSome old.room (λ room. IsSureStep room 0 old new result)
  pub specified_no_fault : DiskIsSpecified old → OnOk result (new.faults ≡ old.faults)
