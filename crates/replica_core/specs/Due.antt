-- Which of the waiting operations can leave.
use Rattle.std.specs.Prelude.{◌≡◌, ◌<◌, ℕ, Bool, false, Option, None, List, [], ◌∷◌, map, slice_index_or}
use Rattle.fugue_ids.specs.Identifiers.{Identifier}
use Rattle.fugue_ids.specs.Ops.{id_of}
use Rattle.fugue_ids.specs.declared.op.Op.{Op}
use Rattle.origin_model.specs.operations.Verdict.{verdict}
use Rattle.origin_model.specs.taking.Taking.{is_decided}

-- for each waiting operation, in order, whether it is Ready or Stray
abbrev pub due_marks : List Op → List Op → List Bool
due_marks history waiting = map (λ op. is_decided (verdict history op)) waiting

-- no mark before the position is set
abbrev pub IsClearBefore : ℕ → List Bool → Type 0
IsClearBefore position marks = (k : ℕ) → k < position → slice_index_or marks k false ≡ false

-- the identifier of the newest operation
abbrev pub newest_id : List Op → Option Identifier
newest_id [] = None
newest_id (op ∷ older) = id_of op
