-- Deletes of elements of a section whose identifiers follow one another.
use Rattle.std.specs.Prelude.{ℕ, zero, suc, List, [], ◌∷◌, All}
use Rattle.fugue_ids.specs.Identifiers.{Identifier}
use Rattle.fugue_ids.specs.Runs.{next_id}
use Rattle.fugue_ids.specs.declared.op.Op.{Op}
use Rattle.origin_model.specs.order.Laws.{IsIn}
use Rattle.origin_model.specs.declared.operations.Place.TheVariants.{Section as within}

-- the first k identifiers from x on
abbrev pub ids_from : Identifier → ℕ → List Identifier
ids_from x zero = []
ids_from x (suc k) = x ∷ ids_from (next_id x) k

-- elements of the section s
abbrev pub AreWithin : Identifier → List Op → List Identifier → Type 0
AreWithin s h xs = All (λ x. IsIn (within s) h x) xs
