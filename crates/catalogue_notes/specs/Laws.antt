-- Laws of moves and retitles, each for every lawful history.
use Rattle.std.specs.Prelude.{◌≡◌, ◌≢◌, ◌↔◌, ◌⊎◌, ℕ, ◌+◌, ◌<◌, ◌≤◌, ◌^◌, Option, None, Some, IfSome, true, false, List, ◌∷◌, length, filter}
use Rattle.std.specs.Prelude.{insert, slice_get}
use Rattle.std.specs.List.{AllPairs, Contains}
use Rattle.std.specs.Str.{chars}
use Rattle.fugue_ids.specs.Identifiers.{Identifier, id_lt}
use Rattle.fugue_ids.specs.declared.op.Op.{Op}
use Rattle.origin_model.specs.declared.operations.Place.TheVariants.{Catalogue as catalogue}
use Rattle.origin_model.specs.declared.operations.Verdict.TheVariants.{Ready}
use Rattle.origin_model.specs.operations.History.{holder, holds}
use Rattle.origin_model.specs.operations.Verdict.{Lawful, verdict}
use Rattle.origin_model.specs.order.Laws.{IsPartOf, SameOps}
use Rattle.origin_model.specs.order.Order.{before, order}
use Rattle.origin_model.specs.order.Printed.{is_withdrawn, shown}
use Rattle.catalogue_notes.specs.Arranged.{arranged, arranged_text, heading, position, winner}
use Rattle.catalogue_notes.specs.Claims.{Claim, Move, Retitle, is_title, move_in, retitle_in}
use Rattle.catalogue_notes.specs.Lift.{is_section, lift, moves, retitles, stamp}
use Rattle.catalogue_notes.specs.Making.{move_of_member, retitled, without_member}

-- what is lifted is a lawful list
abbrev pub LiftIsLawful : Type 0
LiftIsLawful = (h : List Op) → Lawful h → Lawful (lift h)

-- the shown sections stand in the arrangement, each once, in the order of their positions, which are distinct
pub record IsArrangement (h : List Op) : Type 0 where
  pub members : (s : Identifier) → Contains (arranged h) s ↔ Contains (shown catalogue h) s
  pub once : AllPairs (λ s t. s ≢ t) (arranged h)
  pub in_order : AllPairs (λ s t. before catalogue (lift h) (position h s) (position h t) ≡ true) (arranged h)
  pub apart : (s t : Identifier) → Contains (arranged h) s → Contains (arranged h) t → position h s ≡ position h t → s ≡ t

-- an arrangement lists each shown section once
abbrev pub EachOnce : Type 0
EachOnce = (h : List Op) → Lawful h → IsArrangement h

-- an origin of a move is the start or the end, or an element of a Section or of a valid move
abbrev pub IsOrigin : List Op → Option Identifier → Type 0
IsOrigin h None = Unit {0}
IsOrigin h (Some o) = (is_section h o ≡ true) ⊎ ((m : Move) × Contains (moves h) m × (m.id ≡ o))

-- an operation of the history has the shape of the move, names a Section, and its origins are Sections or valid moves, withdrawn or not
pub record IsValidMove (h : List Op) (m : Move) : Type 0 where
  pub op : Op
  pub held : holder h m.id ≡ Some op
  pub says : move_in op ≡ Some m
  pub section : is_section h m.section ≡ true
  pub left : IsOrigin h m.value.left
  pub right : IsOrigin h m.value.right

-- an operation of the history has the shape of the retitle, and names a Section
pub record IsValidRetitle (h : List Op) (r : Retitle) : Type 0 where
  pub op : Op
  pub held : holder h r.id ≡ Some op
  pub says : retitle_in op ≡ Some r
  pub section : is_section h r.section ≡ true

-- what is valid when it comes is valid in the whole history, and what was not stays so
pub record ClaimsAre (h : List Op) : Type 0 where
  pub moves_are : (m : Move) → Contains (moves h) m ↔ IsValidMove h m
  pub retitles_are : (r : Retitle) → Contains (retitles h) r ↔ IsValidRetitle h r

-- in a lawful history the claims are those whose Notes are valid in the whole of it
abbrev pub ValidInWhole : Type 0
ValidInWhole = (h : List Op) → Lawful h → ClaimsAre h

-- a claim is on the section, and not withdrawn
pub record ClaimStays {V : Type 0} (h : List Op) (s : Identifier) (c : Claim V) : Type 0 where
  pub section : c.section ≡ s
  pub not_withdrawn : is_withdrawn h c.id ≡ false

-- the winner is a claim that stays, and no other one has a greater stamp, or the same stamp and a greater identifier
pub record IsWinner {V : Type 0} (h : List Op) (s : Identifier) (cs : List (Claim V)) (c : Claim V) : Type 0 where
  pub member : Contains cs c
  pub stays : ClaimStays h s c
  pub stamp : (d : Claim V) → Contains cs d → ClaimStays h s d → d.stamp ≤ c.stamp
  pub tie : (d : Claim V) → Contains cs d → ClaimStays h s d → d.stamp ≡ c.stamp → id_lt c.id d.id ≡ false

-- there is a winner exactly where a claim stays, and only one
pub record HasWinner {V : Type 0} (h : List Op) (s : Identifier) (cs : List (Claim V)) : Type 0 where
  pub is : IfSome (winner h s cs) (λ c. IsWinner h s cs c)
  pub none : (c : Claim V) → Contains cs c → ClaimStays h s c → winner h s cs ≡ None → ⊥
  pub one : (c d : Claim V) → IsWinner h s cs c → IsWinner h s cs d → c ≡ d

-- a section has one winner among its moves where one of these stays, and so among its retitles
abbrev pub Winners : Type 0
Winners = (h : List Op) (s : Identifier) → Lawful h → HasWinner h s (moves h) × HasWinner h s (retitles h)

-- one claim came in front of the others, on the section
pub record AddsOne {V : Type 0} (section : Identifier) (old new : List (Claim V)) : Type 0 where
  pub claim : Claim V
  pub on : claim.section ≡ section
  pub in_front : new ≡ claim ∷ old

-- the move is Ready, and after it member k of the arrangement stands at j, and the others as before; nothing else changed
pub record IsMoved (h : List Op) (op : Op) (section : Identifier) (k j : ℕ) : Type 0 where
  pub ready : verdict h op ≡ Ready
  pub lands : arranged (op ∷ h) ≡ insert (without_member (arranged h) k) j section
  pub stamped : stamp (op ∷ h) ≡ stamp h + 1
  pub same_shown : shown catalogue (op ∷ h) ≡ shown catalogue h
  pub same_headings : (t : Identifier) → heading (op ∷ h) t ≡ heading h t
  pub adds : AddsOne section (moves h) (moves (op ∷ h))

-- a move with a new identifier lands where it was asked, as long as stamps are left
abbrev pub MoveLands : Type 0
MoveLands =
    (h : List Op) (id s : Identifier) (k j : ℕ) → Lawful h → holds h id ≡ false → stamp h + 1 < 2 ^ 32
    → slice_get (arranged h) k ≡ Some s → j < length (arranged h)
    → IsMoved h (move_of_member h id s k j) s k j

-- the retitle is Ready, and after it the section has the title, and the others have theirs; nothing else changed
pub record IsRetitled (h : List Op) (op : Op) (section : Identifier) (title : List ℕ) : Type 0 where
  pub ready : verdict h op ≡ Ready
  pub titled : heading (op ∷ h) section ≡ title
  pub others : (t : Identifier) → t ≢ section → heading (op ∷ h) t ≡ heading h t
  pub stamped : stamp (op ∷ h) ≡ stamp h + 1
  pub same_shown : shown catalogue (op ∷ h) ≡ shown catalogue h
  pub same_arranged : arranged (op ∷ h) ≡ arranged h
  pub adds : AddsOne section (retitles h) (retitles (op ∷ h))
  pub same_moves : moves (op ∷ h) ≡ moves h

-- a retitle of a Section with a new identifier gives it the title, as long as stamps are left
abbrev pub RetitleLands : Type 0
RetitleLands =
    (h : List Op) (id s : Identifier) (title : List ℕ) → Lawful h → holds h id ≡ false → stamp h + 1 < 2 ^ 32
    → is_section h s ≡ true → is_title title ≡ true
    → IsRetitled h (retitled h id s title) s (chars title)

-- the same arrangement, the same headings, and the same text
pub record IsSameArrangement (a b : List Op) : Type 0 where
  pub same_arranged : arranged a ≡ arranged b
  pub same_headings : (s : Identifier) → heading a s ≡ heading b s
  pub same_text : arranged_text a ≡ arranged_text b

-- the set of the operations fixes all of them
abbrev pub ArrangedBySet : Type 0
ArrangedBySet = (a b : List Op) → Lawful a → Lawful b → SameOps a b → IsSameArrangement a b

-- what is lifted of a lawful part of a lawful history stands in the order of the whole
abbrev pub LiftedOrderStays : Type 0
LiftedOrderStays =
    (part whole : List Op) → Lawful part → Lawful whole → IsPartOf part whole
    → order catalogue (lift part) ≡ filter (holds (lift part)) (order catalogue (lift whole))
