-- The disks in memory, as contracts see them, and what a call does to each.
use Rattle.std.specs.Prelude.{◌≡◌, ◌⊎◌, ◌↔◌, ℕ, ◌-◌, ◌<◌, ◌≤◌, List, [], length, Result, IsErr, IsOk, OnOk, OnErr}
use Rattle.outer_ports.specs.Calls.{CallsView, FailsNext, call_passed, call_failed, risen}
use Rattle.outer_ports.specs.disk.States.{at_rest, wrote, tried_state, durable}
use Rattle.outer_ports.specs.disk.Moments.{History, history_after_step}
use Rattle.outer_ports.specs.disk.Disks.{RoomView}

-- what contracts see of a disk in memory
pub record MemDiskView : Type 0 where
  pub past : History
  pub calls : CallsView
  -- for how many failing writes memory is there
  pub ready : ℕ
  -- for how many further bytes memory is there
  pub room : ℕ
  -- how often its size was asked for, and how far it was read
  pub sizes : ℕ
  pub reach : ℕ

-- what contracts see of a disk in memory that fails only for want of room
pub record SureDiskView : Type 0 where
  pub past : History
  pub room : RoomView
  pub faults : ℕ
  -- how often its size was asked for, and how far it was read
  pub sizes : ℕ
  pub reach : ℕ

-- these bytes stand, and nothing has been done since
abbrev pub untouched_disk : List ℕ → History
untouched_disk bytes = record { last = at_rest bytes; before = [] }

-- a look fails exactly where it is to fail; else this is what was asked for then
pub record MemLooks {E T : Type 0} (asked old new : MemDiskView) (result : Result T E) : Type 0 where
  pub fails : IsErr result ↔ FailsNext old.calls
  pub failed : OnErr result (new ≡ record old { calls = call_failed old.calls })
  pub passed : OnOk result (new ≡ record asked { calls = call_passed old.calls })

-- A write or a sync of n bytes that is to fail does. Another fails only where it needs further memory, so that as many
-- writes as calls are listed can fail after it, and then nothing is done. One that is taken leaves memory for those.
pub record MemSteps {E T : Type 0} (n : ℕ) (next : History) (old new : MemDiskView) (result : Result T E) : Type 0 where
  pub fails : FailsNext old.calls → IsErr result
  pub taken : OnOk result
      (new ≡ record old { past = next; calls = call_passed old.calls; ready = length old.calls.listed; room = new.room })
  pub counts : OnErr result (new.calls ≡ call_failed old.calls)
  pub wanting : OnErr result (FailsNext old.calls ⊎ (new ≡ record old { calls = call_failed old.calls }))
  pub short : OnErr result (FailsNext old.calls ⊎ (old.room < n) ⊎ (old.ready ≤ length old.calls.listed))

-- A write that is to fail tears its range where memory is there for that; else it may do nothing.
pub record MemDiskWrites {E T : Type 0} (old new : MemDiskView) (result : Result T E) (at : ℕ) (bytes : List ℕ) : Type 0 where
  pub steps : MemSteps (length bytes) (history_after_step (wrote at bytes) old.past) old new result
  pub torn : FailsNext old.calls → 0 < old.ready
      → new ≡ record old {
        past = history_after_step (tried_state at (length bytes)) old.past;
        calls = call_failed old.calls;
        ready = old.ready - 1;
      }
  pub may_tear : FailsNext old.calls → (new.past ≡ old.past) ⊎ (new.past ≡ history_after_step (tried_state at (length bytes)) old.past)

-- a sync that fails does nothing
pub record MemSyncs {E T : Type 0} (old new : MemDiskView) (result : Result T E) : Type 0 where
  pub steps : MemSteps 0 (history_after_step durable old.past) old new result
  pub failed : OnErr result (new ≡ record old { calls = call_failed old.calls })

-- a write or a sync of n bytes fails exactly where the bytes, or the call, have no room
pub record SureSteps {E T : Type 0} (n : ℕ) (next : History) (old new : SureDiskView) (result : Result T E) : Type 0 where
  pub fits : IsOk result ↔ ((n ≤ old.room.bytes) × (0 < old.room.calls))
  pub taken : OnOk result (new ≡ record old { past = next; room = record { bytes = old.room.bytes - n; calls = old.room.calls - 1 } })
  pub failed : OnErr result (new ≡ record old { faults = risen old.faults })
