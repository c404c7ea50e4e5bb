-- The length of the longest common prefix of two lists.
use Rattle.std.specs.Prelude.{ℕ, suc, nat_eq, if◌then◌else◌, List, [], ◌∷◌}
use Rattle.fugue_ids.specs.Ops.{op_eq}
use Rattle.fugue_ids.specs.declared.op.Op.{Op}

-- of operations
abbrev pub common_prefix : List Op → List Op → ℕ
common_prefix [] others = 0
common_prefix (op ∷ ops) [] = 0
common_prefix (op ∷ ops) (other ∷ others) = if op_eq op other then suc (common_prefix ops others) else 0

-- of scalars
abbrev pub common_letters : List ℕ → List ℕ → ℕ
common_letters [] text = 0
common_letters (c ∷ letters) [] = 0
common_letters (c ∷ letters) (d ∷ text) = if nat_eq c d then suc (common_letters letters text) else 0
