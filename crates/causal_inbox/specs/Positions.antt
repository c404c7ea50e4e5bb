-- Where the operations of a list stand that pass a test.
use Rattle.std.specs.Prelude.{ℕ, suc, Bool, List, [], ◌∷◌, if◌then◌else◌}
use Rattle.fugue_ids.specs.declared.op.Op.{Op}

-- the positions of the operations that pass the test, in order, the first operation standing at `at`
abbrev pub positions_from : ℕ → (Op → Bool) → List Op → List ℕ
positions_from at test [] = []
positions_from at test (op ∷ ops) = if test op then at ∷ positions_from (suc at) test ops else positions_from (suc at) test ops
