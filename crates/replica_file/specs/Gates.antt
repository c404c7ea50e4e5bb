-- Bytes that are written after a closed gate, which is opened then.
use Rattle.std.specs.Prelude.{◌≡◌, ◌⊎◌, ℕ, ◌+◌, ◌<◌, ◌≤◌, List, [], ◌∷◌, length, take, drop, slice_get, Option, Some, None}
use Rattle.outer_ports.specs.disk.States.{DiskState, at_rest, wrote, durable}
use Rattle.outer_ports.specs.disk.Moments.{History, past_after_step}
use Rattle.outer_ports.specs.disk.Disks.{RoomView, room_after_write}

-- the bytes stand after the gate, of which nothing is said, and what stood before it stands
pub record IsWrittenAfter (before : List ℕ) (gate : ℕ) (bytes image : List ℕ) : Type 0 where
  pub inside : gate < length image
  pub front : take gate image ≡ take gate before
  pub behind : take (length bytes) (drop (gate + 1) image) ≡ bytes

-- nothing differs up to and including the gate, or the bytes stand after it
abbrev pub BeforeOrWritten : List ℕ → ℕ → List ℕ → List ℕ → Type 0
BeforeOrWritten before gate bytes image = (take (gate + 1) image ≡ take (gate + 1) before) ⊎ IsWrittenAfter before gate bytes image

-- the bytes stand after the open gate, and a crash leaves nothing else
pub record IsOpened (before : List ℕ) (gate : ℕ) (bytes : List ℕ) (s : DiskState) : Type 0 where
  pub written : IsWrittenAfter before gate bytes s.seen
  pub opened : slice_get s.seen gate ≡ Some 1
  pub settled : s ≡ at_rest s.seen

-- the same, where the state is specified
abbrev pub OpenedTo : List ℕ → ℕ → List ℕ → Option History → Type 0
OpenedTo before gate bytes None = ⊥
OpenedTo before gate bytes (Some h) = IsOpened before gate bytes h.last

-- the bytes are written after the gate and settled, and then the gate is opened and that is settled
abbrev pub gate_opened : ℕ → List ℕ → Option History → Option History
gate_opened gate bytes past =
    past_after_step durable
    (past_after_step (wrote gate (1 ∷ [])) (past_after_step durable (past_after_step (wrote (gate + 1) bytes) past)))

-- the same of the room
abbrev pub spent_opening : List ℕ → Option RoomView → Option RoomView
spent_opening bytes room = room_after_write 0 (room_after_write 1 (room_after_write 0 (room_after_write (length bytes) room)))

-- the room lasts for these four calls
pub record LastsForCalls (bytes : List ℕ) (room : RoomView) : Type 0 where
  pub bytes_fit : length bytes + 1 ≤ room.bytes
  pub calls_fit : 4 ≤ room.calls
