-- Where the meaning of a file ends, and disks that keep the file up to there whatever happens.
use Rattle.std.specs.Prelude.{◌≡◌, ℕ, ◌+◌, ◌*◌, ◌≤◌, List, length, take}
use Rattle.outer_ports.specs.disk.States.{DiskState, IsCrashImage}
use Rattle.origin_model.specs.declared.files.TheConstants.{LONGEST_BATCH}
use Rattle.origin_model.specs.files.Image.{Content, HasImage, Holds}
use Rattle.replica_file.specs.declared.load_file.End.{End}

-- how many bytes a slot has at most: its gate, the four of its word, and the longest batch
abbrev pub longest_slot : ℕ
longest_slot = LONGEST_BATCH + 5

-- where a gate after so many slots stands at most: after the 13 bytes of the header and the longest slots
abbrev pub farthest_gate : ℕ → ℕ
farthest_gate slots = 13 + longest_slot * slots

-- an end is no farther than the longest slots before it would put it
abbrev pub IsWithinReach : End → Type 0
IsWithinReach end = end.at ≤ farthest_gate end.slots

-- whatever a crash leaves, it begins with the same n bytes
pub record Agrees (s : DiskState) (n : ℕ) : Type 0 where
  pub inside : n ≤ length s.seen
  pub each : (image : List ℕ) → IsCrashImage s image → take n image ≡ take n s.seen

-- what a read gives holds this content
abbrev pub Means : DiskState → Content → Type 0
Means s content = HasImage s.seen (Holds content)

-- the file's meaning ends at the gate of this end, and whatever a crash leaves, it has the same bytes up to and including that gate
pub record EndsAtGate (s : DiskState) (end : End) : Type 0 where
  pub content : Content
  pub means : Means s content
  pub at : content.at ≡ end.at
  pub slots : content.slots ≡ end.slots
  pub agrees : Agrees s (end.at + 1)
