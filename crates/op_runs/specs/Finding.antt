-- Where an operation of a list stands, and what it is.
use Rattle.std.specs.Prelude.{◌≡◌, ℕ, ◌+◌, ◌<◌, ◌≤◌, List, [], ◌∷◌, ◌++◌, length, slice_index}
use Rattle.fugue_ids.specs.Runs.{text_by}
use Rattle.fugue_ids.specs.declared.op.Op.{Op}
use Rattle.fugue_ids.specs.declared.op.Op.TheVariants.{Delete}
use Rattle.op_runs.specs.Parts.{part_len}
use Rattle.op_runs.specs.declared.find.OpRef.{OpRef}
use Rattle.op_runs.specs.declared.find.OpRef.TheVariants.{Deletion, Letter, Whole}
use Rattle.op_runs.specs.declared.part.Part.{Part}

-- the operation
abbrev pub op_of : OpRef → Op
op_of (Letter start ch) = text_by start ch
op_of (Deletion target) = Delete target
op_of (Whole op) = op.now

-- how many operations the parts have
abbrev pub all_len : List Part → ℕ
all_len [] = 0
all_len (p ∷ ps) = part_len p + all_len ps

-- the last one that is not after the position
pub record IsFloorPart (firsts : List ℕ) (position k : ℕ) : Type 0 where
  pub inside : k < length firsts
  pub up_to : slice_index firsts k ≤ position
  pub behind : (j : ℕ) → k < j → j < length firsts → position < slice_index firsts j

-- the operation at the position is that at the offset of the k-th part
pub record IsPartSpot (parts : List Part) (position k offset : ℕ) : Type 0 where
  pub before : List Part
  pub part : Part
  pub after : List Part
  pub whole : parts ≡ before ++ part ∷ after
  pub index : k ≡ length before
  pub behind : position ≡ all_len before + offset
  pub inside : offset < part_len part
