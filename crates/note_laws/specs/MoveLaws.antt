-- Laws of moves and retitles, for a history and a lawful part of it: an older state of a file, or another author's file that was merged.
use Rattle.std.specs.Prelude.{◌≡◌, ◌≢◌, ◌↔◌, Option, Some, IfSome, Bool, true, false, List, ◌++◌, nat_lt, filter}
use Rattle.std.specs.List.{Contains}
use Rattle.fugue_ids.specs.Identifiers.{Identifier}
use Rattle.fugue_ids.specs.Listed.{index_of}
use Rattle.fugue_ids.specs.declared.op.Op.{Op}
use Rattle.fugue_ids.specs.declared.op.Op.TheVariants.{Delete}
use Rattle.origin_model.specs.declared.operations.Place.TheVariants.{Catalogue as catalogue}
use Rattle.origin_model.specs.operations.History.{has_op}
use Rattle.origin_model.specs.operations.Verdict.{Lawful}
use Rattle.origin_model.specs.order.Laws.{IsPartOf}
use Rattle.origin_model.specs.order.Printed.{is_withdrawn, shown}
use Rattle.catalogue_notes.specs.Arranged.{arranged, heading, position, winner}
use Rattle.catalogue_notes.specs.Claims.{Claim, Move, Retitle, move_in, retitle_in}
use Rattle.catalogue_notes.specs.Lift.{is_section, moves, retitles}

-- an operation of a part makes a valid move there exactly where it makes one in the whole
abbrev pub MoveInPart : Type 0
MoveInPart =
    (part whole : List Op) (op : Op) (m : Move) → Lawful part → Lawful whole → IsPartOf part whole → has_op part op ≡ true
    → move_in op ≡ Some m
    → Contains (moves part) m ↔ Contains (moves whole) m

-- and a valid retitle
abbrev pub RetitleInPart : Type 0
RetitleInPart =
    (part whole : List Op) (op : Op) (r : Retitle) → Lawful part → Lawful whole → IsPartOf part whole → has_op part op ≡ true
    → retitle_in op ≡ Some r
    → Contains (retitles part) r ↔ Contains (retitles whole) r

-- of the valid claims on the section the whole has none that the part lacks, and the one that wins in the part is not withdrawn
pub record LeavesWinner {V : Type 0} (part whole : List Op) (s : Identifier) (old new : List (Claim V)) : Type 0 where
  pub no_claim : (c : Claim V) → Contains new c → c.section ≡ s → Contains old c
  pub not_withdrawn : IfSome (winner part s old) (λ c. is_withdrawn whole c.id ≡ false)

-- where nobody moved the section, it stands at the position where it stood
abbrev pub PositionStays : Type 0
PositionStays =
    (part whole : List Op) (s : Identifier) → Lawful part → Lawful whole → IsPartOf part whole
    → LeavesWinner part whole s (moves part) (moves whole) → position whole s ≡ position part s

-- the claim that wins in the part is not withdrawn, and the one that wins in the whole is a claim of the part
pub record KeepsWinner {V : Type 0} (part whole : List Op) (s : Identifier) (old new : List (Claim V)) : Type 0 where
  pub not_withdrawn : IfSome (winner part s old) (λ c. is_withdrawn whole c.id ≡ false)
  pub none_new : IfSome (winner whole s new) (λ c. Contains old c)

-- the position is the same exactly where the winning move is kept, whatever other moves came
abbrev pub PositionStaysExactly : Type 0
PositionStaysExactly =
    (part whole : List Op) (s : Identifier) → Lawful part → Lawful whole → IsPartOf part whole
    → (position whole s ≡ position part s) ↔ KeepsWinner part whole s (moves part) (moves whole)

-- where nobody retitled the section, it has the heading that it had
abbrev pub HeadingStays : Type 0
HeadingStays =
    (part whole : List Op) (s : Identifier) → Lawful part → Lawful whole → IsPartOf part whole → is_section part s ≡ true
    → LeavesWinner part whole s (retitles part) (retitles whole) → heading whole s ≡ heading part s

-- the valid claims of the new operations are on other sections, and none of the operations is a Delete of the claim that wins
pub record PassesBy {V : Type 0} (says : Op → Option (Claim V)) (new h : List Op) (s : Identifier) (old all : List (Claim V)) : Type 0 where
  pub others : (op : Op) (c : Claim V) → has_op new op ≡ true → says op ≡ Some c → Contains all c → c.section ≢ s
  pub no_delete : IfSome (winner h s old) (λ c. has_op new (Delete c.id) ≡ false)

-- operations that come later leave the position
abbrev pub LaterOpsLeavePosition : Type 0
LaterOpsLeavePosition =
    (new h : List Op) (s : Identifier) → Lawful (new ++ h) → PassesBy move_in new h s (moves h) (moves (new ++ h))
    → position (new ++ h) s ≡ position h s

-- and the heading
abbrev pub LaterOpsLeaveHeading : Type 0
LaterOpsLeaveHeading =
    (new h : List Op) (s : Identifier) → Lawful (new ++ h) → is_section h s ≡ true
    → PassesBy retitle_in new h s (retitles h) (retitles (new ++ h))
    → heading (new ++ h) s ≡ heading h s

-- s stands before t in the arrangement
abbrev pub stands_before : List Op → (s t : Identifier) → Bool
stands_before h s t = nat_lt (index_of (arranged h) s) (index_of (arranged h) t)

-- sections of this kind stand in the part in the order in which they stand in the whole: any two of them, and any set of them as a list
pub record StandInOneOrder (part whole : List Op) (IsOfKind : Identifier → Type 0) : Type 0 where
  pub two : (s t : Identifier) → IsOfKind s → IsOfKind t → stands_before part s t ≡ stands_before whole s t
  pub listed : (chosen : Identifier → Bool) → ((s : Identifier) → chosen s ≡ true → IsOfKind s)
      → filter chosen (arranged part) ≡ filter chosen (arranged whole)

-- the section is shown in both, at one position
pub record HasOnePosition (part whole : List Op) (s : Identifier) : Type 0 where
  pub in_part : Contains (shown catalogue part) s
  pub in_whole : Contains (shown catalogue whole) s
  pub same_position : position whole s ≡ position part s

-- sections that are shown at one position in a part and in the whole keep their order
abbrev pub PositionsKeepOrder : Type 0
PositionsKeepOrder = (part whole : List Op) → Lawful part → Lawful whole → IsPartOf part whole
    → StandInOneOrder part whole (HasOnePosition part whole)

-- the section is shown in both, and nobody moved it
pub record IsUnmoved (part whole : List Op) (s : Identifier) : Type 0 where
  pub in_part : Contains (shown catalogue part) s
  pub in_whole : Contains (shown catalogue whole) s
  pub leaves : LeavesWinner part whole s (moves part) (moves whole)

-- so whatever else was moved, those that nobody moved stand as they stood
abbrev pub MoveMovesOne : Type 0
MoveMovesOne = (part whole : List Op) → Lawful part → Lawful whole → IsPartOf part whole → StandInOneOrder part whole (IsUnmoved part whole)
