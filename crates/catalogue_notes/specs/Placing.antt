-- Which section stands at which element, by the winning candidates.
use Rattle.std.specs.Prelude.{◌≡◌, ◌↔◌, Option, Some, None, List, not, reverse}
use Rattle.std.specs.BTreeMap.{get}
use Rattle.std.specs.List.{Contains}
use Rattle.fugue_ids.specs.Identifiers.{Identifier, id_cmp}
use Rattle.fugue_ids.specs.declared.op.Op.{Op}
use Rattle.origin_model.specs.order.Printed.{is_withdrawn}
use Rattle.catalogue_notes.specs.Arranged.{arranged, position}
use Rattle.catalogue_notes.specs.Lifting.{IsLiftOf}
use Rattle.catalogue_notes.specs.Winning.{winning_candidate}
use Rattle.catalogue_notes.specs.declared.arrangement.Arrangement.{Arrangement}
use Rattle.catalogue_notes.specs.declared.reading.Candidate.{Candidate}

-- where a section stands: at the winning candidate, or at its own element where it has none
abbrev pub candidate_position : Identifier → Option Candidate → Identifier
candidate_position s o = elim o [ None ↦ s | Some b ↦ b.id ]

-- where a section stands by the winning moves
abbrev pub position_in : (Identifier → Option Candidate) → Identifier → Identifier
position_in winners s = candidate_position s (winners s)

-- no two of the sections have one position
abbrev pub HaveOwnPositions : (Identifier → Identifier) → List Identifier → Type 0
HaveOwnPositions at sections = (s t : Identifier) → Contains sections s → Contains sections t → at s ≡ at t → s ≡ t

-- each section stands at its position, and nothing else does
abbrev pub IsPlacing : (Identifier → Identifier) → List Identifier → (Identifier → Option Identifier) → Type 0
IsPlacing at sections placing = (x s : Identifier) → (placing x ≡ Some s) ↔ (Contains sections s × (at s ≡ x))

-- the winners are those of the candidates that no Delete names
abbrev pub AreWinners : List Op → List Candidate → (Identifier → Option Candidate) → Type 0
AreWinners h candidates winners = (s : Identifier) → winners s ≡ winning_candidate (λ x. not (is_withdrawn h x)) s (reverse candidates)

-- the arrangement of a history
pub record IsArranged (h : List Op) (a : Arrangement) : Type 0 where
  pub sections : a.sections.items ≡ arranged h
  pub lifted : IsLiftOf h a.lifted.list a.lifted.moves.items
  pub winners_are : AreWinners h a.lifted.moves.items (get id_cmp a.winners)
  pub positions : (s : Identifier) → position_in (get id_cmp a.winners) s ≡ position h s
