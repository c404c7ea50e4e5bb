-- The notes that move and retitle a section. Sections and places count from 0.
use Rattle.std.specs.Prelude.{ℕ, suc, ◌+◌, Option, Some, None, List, [], ◌∷◌, ◌++◌, take, drop, option_to_list, option_map}
use Rattle.std.specs.Int.{to_be_bytes, w32}
use Rattle.fugue_ids.specs.Identifiers.{Identifier}
use Rattle.fugue_ids.specs.declared.op.Op.{Op}
use Rattle.fugue_ids.specs.declared.op.Op.TheVariants.{Note}
use Rattle.origin_model.specs.declared.operations.Place.TheVariants.{Catalogue as catalogue}
use Rattle.origin_model.specs.edits.Edits.{in_front}
use Rattle.origin_model.specs.edits.Landing.{following}
use Rattle.origin_model.specs.order.Order.{order}
use Rattle.catalogue_notes.specs.Arranged.{arranged, position}
use Rattle.catalogue_notes.specs.Claims.{Origins}
use Rattle.catalogue_notes.specs.Lift.{lift, stamp}
use Rattle.catalogue_notes.specs.declared.limits.TheConstants.{MOVE_CODE, RETITLE_CODE}

-- the list without its member k
abbrev pub without_member : List Identifier → ℕ → List Identifier
without_member list k = take k list ++ drop (suc k) list

-- the left origin of a move of member k to j: the position of the member in front of j, when k is taken out
abbrev pub left_of_move : List Op → (k j : ℕ) → Option Identifier
left_of_move h k j = option_map (position h) (in_front (without_member (arranged h) k) j)

-- the origins of that move: the right one is the element that follows the left one, whatever it stands for
abbrev pub origins_for : List Op → (k j : ℕ) → Origins
origins_for h k j = record { left = left_of_move h k j; right = following (order catalogue (lift h)) (left_of_move h k j) }

-- the form tells which origins are given
abbrev pub form_of : (left right : Option Identifier) → ℕ
form_of None None = 0
form_of (Some l) None = 1
form_of None (Some r) = 2
form_of (Some l) (Some r) = 3

-- the names and the body of a move
abbrev pub move_names : Identifier → Origins → List Identifier
move_names section o = section ∷ option_to_list o.left ++ option_to_list o.right

-- the body of the Note of a move: its stamp, and the form of its origins
abbrev pub move_body : ℕ → Origins → List ℕ
move_body stamp o = to_be_bytes w32 stamp ++ form_of o.left o.right ∷ []

-- the body of a retitle: the title is given in UTF-8
abbrev pub retitle_body : ℕ → List ℕ → List ℕ
retitle_body stamp title = to_be_bytes w32 stamp ++ title

-- the move of a section, which is member k, to j
abbrev pub move_of_member : List Op → (id section : Identifier) → (k j : ℕ) → Op
move_of_member h id section k j = Note id (move_names section (origins_for h k j)) MOVE_CODE (move_body (stamp h + 1) (origins_for h k j))

-- the retitle of a section
abbrev pub retitled : List Op → (id section : Identifier) → List ℕ → Op
retitled h id section title = Note id (section ∷ []) RETITLE_CODE (retitle_body (stamp h + 1) title)
