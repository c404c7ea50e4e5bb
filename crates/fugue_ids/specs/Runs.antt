-- Runs: Texts that were typed in a row.
use Rattle.std.specs.Prelude.{ℕ, zero, suc, ◌+◌, Option, Some, None, List, [], ◌∷◌}
use Rattle.fugue_ids.specs.Identifiers.{Identifier}
use Rattle.fugue_ids.specs.declared.op.Op.{Op}
use Rattle.fugue_ids.specs.declared.op.Op.TheVariants.{Section, Text, Delete, Note}
use Rattle.fugue_ids.specs.declared.run.RunStart.{RunStart}

-- the identifier so many after this one
abbrev pub id_after : Identifier → ℕ → Identifier
id_after id n = record { replica = id.replica; counter = id.counter + n }

-- the identifier that its replica gives next
abbrev pub next_id : Identifier → Identifier
next_id id = record { replica = id.replica; counter = id.counter + 1 }

-- the left origin of the Text so many after the first: the identifier of the one before it
abbrev pub left_after : Option Identifier → Identifier → ℕ → Option Identifier
left_after left id zero = left
left_after left id (suc n) = Some (id_after id n)

-- one Text for each scalar: each has the next identifier, and stands after the one before
abbrev pub in_a_row : (id section : Identifier) (left right : Option Identifier) → List ℕ → List Op
in_a_row id section left right [] = []
in_a_row id section left right (ch ∷ text) = Text id section left right ch ∷ in_a_row (next_id id) section (Some id) right text

-- their identifiers
abbrev pub ids_in_a_row : Identifier → List ℕ → List Identifier
ids_in_a_row id [] = []
ids_in_a_row id (ch ∷ text) = id ∷ ids_in_a_row (next_id id) text

-- the run that begins so and has these scalars
abbrev pub run_from : RunStart → List ℕ → List Op
run_from start text = in_a_row start.id start.section start.left start.right text

-- what the Text says that stands so many after the first
abbrev pub start_after : RunStart → ℕ → RunStart
start_after start n = record {
  id = id_after start.id n;
  section = start.section;
  left = left_after start.left start.id n;
  right = start.right;
}

-- the Text that says so
abbrev pub text_by : RunStart → ℕ → Op
text_by start ch = Text start.id start.section start.left start.right ch

-- what a Text says but for its scalar, and the scalar; no other operation has one
abbrev pub text_in : Op → Option (RunStart × ℕ)
text_in (Section id left right title) = None
text_in (Text id section left right ch) = Some (record { id = id; section = section; left = left; right = right }, ch)
text_in (Delete target) = None
text_in (Note id names code body) = None
