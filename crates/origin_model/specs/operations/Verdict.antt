-- What an operation is against a history, and which histories are lawful.
use Rattle.std.specs.Prelude.{◌≡◌, Option, Some, None, Bool, true, false, if◌then◌else◌, List, [], ◌∷◌, ◌++◌, map}
use Rattle.fugue_ids.specs.Identifiers.{Identifier}
use Rattle.fugue_ids.specs.Ops.{id_of}
use Rattle.fugue_ids.specs.declared.op.Op.{Op}
use Rattle.fugue_ids.specs.declared.op.Op.TheVariants.{Section, Text, Delete, Note}
use Rattle.origin_model.specs.operations.History.{holder, holds, has_op, stands_at}
use Rattle.origin_model.specs.declared.operations.named.Found.{Found}
use Rattle.origin_model.specs.declared.operations.named.Found.TheVariants.{Same, Clash, Absent}
use Rattle.origin_model.specs.declared.operations.Place.TheVariants.{Catalogue as catalogue, Section as within}
use Rattle.origin_model.specs.declared.operations.Role.{Role}
use Rattle.origin_model.specs.declared.operations.Role.TheVariants.{Any, Section as SectionRole, TextOf}
use Rattle.origin_model.specs.declared.operations.Verdict.{Verdict}
use Rattle.origin_model.specs.declared.operations.Verdict.TheVariants.{Again, Conflict, Stray, Missing, Ready}

-- the operation fits the role
abbrev pub fits : Role → Op → Bool
fits Any op = true
fits SectionRole op = stands_at catalogue op
fits (TextOf s) op = stands_at (within s) op

-- an identifier with the part that it plays, where there is one
abbrev pub given_as : Role → Option Identifier → List (Identifier × Role)
given_as role None = []
given_as role (Some i) = (i, role) ∷ []

-- the identifiers that an operation rests on, in order, each with what it has to be
abbrev pub names : Op → List (Identifier × Role)
names (Section id left right title) = given_as SectionRole left ++ given_as SectionRole right
names (Text id section left right ch) = (section, SectionRole) ∷ given_as (TextOf section) left ++ given_as (TextOf section) right
names (Delete target) = (target, Any) ∷ []
names (Note id named code body) = map (λ i. (i, Any)) named

-- the first named identifier that is held and does not fit
abbrev pub first_stray : List Op → List (Identifier × Role) → Option Identifier
first_stray history [] = None
first_stray history (n ∷ ns) =
    elim (holder history n.0) [
      | None ↦ first_stray history ns
      | Some op ↦ if fits n.1 op then first_stray history ns else Some n.0
    ]

-- the first named identifier that is not held
abbrev pub first_missing : List Op → List (Identifier × Role) → Option Identifier
first_missing history [] = None
first_missing history (n ∷ ns) = elim (holder history n.0) [ None ↦ Some n.0 | Some op ↦ first_missing history ns ]

-- an operation's own identifier is held
abbrev pub id_held : List Op → Option Identifier → Bool
id_held history None = false
id_held history (Some i) = holds history i

-- what is there of an operation: the same one, another one with its identifier, or neither
abbrev pub found_as : (is_held is_taken : Bool) → Found
found_as true is_taken = Same
found_as false true = Clash
found_as false false = Absent

-- the first line that applies: the operation is held, its identifier is held, a named one does not fit, a named one is not held
abbrev pub first_line : (is_held is_taken : Bool) (stray missing : Option Identifier) → Verdict
first_line true is_taken stray missing = Again
first_line false true stray missing = Conflict
first_line false false (Some i) missing = Stray i
first_line false false None (Some i) = Missing i
first_line false false None None = Ready

-- what an operation is against a history
unfoldable pub verdict : List Op → Op → Verdict
verdict history op =
    first_line (has_op history op) (id_held history (id_of op)) (first_stray history (names op)) (first_missing history (names op))

-- each operation was Ready when it came
abbrev pub Lawful : List Op → Type 0
Lawful [] = Unit {0}
Lawful (op ∷ older) = (verdict older op ≡ Ready) × Lawful older
