-- How what is lifted grows: the node that each operation adds to it, and the candidate of a move.
use Rattle.std.specs.Prelude.{◌≡◌, ◌≤◌, Option, Some, None, Bool, false, if◌then◌else◌, ◌&&◌, List, length, map, reverse}
use Rattle.std.specs.List.{All}
use Rattle.fugue_ids.specs.Identifiers.{Identifier}
use Rattle.fugue_ids.specs.declared.op.Op.{Op}
use Rattle.fugue_ids.specs.declared.op.Op.TheVariants.{Section, Text, Delete, Note}
use Rattle.origin_model.specs.declared.operations.Place.TheVariants.{Catalogue as catalogue}
use Rattle.origin_model.specs.declared.operations.node.Node.{Node}
use Rattle.origin_model.specs.order.Order.{order}
use Rattle.origin_model.specs.sides.Node.{has_origin, nodes}
use Rattle.run_store.specs.Cells.{cell_ids, cells_shown}
use Rattle.run_store.specs.declared.cell.Cell.{Cell}
use Rattle.section_list.specs.SectionList.{IsInOrder, Listing}
use Rattle.catalogue_notes.specs.Claims.{Move, move_in}
use Rattle.catalogue_notes.specs.Lift.{lift, moves}
use Rattle.catalogue_notes.specs.Readings.{candidate_of}
use Rattle.catalogue_notes.specs.declared.lifting.Lift.{Lift}
use Rattle.catalogue_notes.specs.declared.reading.Candidate.{Candidate}

-- an element of the catalogue by its three parts
abbrev pub node_at : Identifier → (left right : Option Identifier) → Node
node_at id left right = record { id = id; left = left; right = right }

-- a move of a known section whose origins are nodes
abbrev pub lift_move : (Identifier → Bool) → List Node → Option Move → Option Lift
lift_move known ns None = None
lift_move known ns (Some m) =
    if known m.section && (has_origin ns m.value.left && has_origin ns m.value.right)
    then Some (record { node = node_at m.id m.value.left m.value.right; candidate = Some (candidate_of m) })
    else None

-- what an operation adds, where `known` tells the Sections
abbrev pub lift_by : (Identifier → Bool) → List Node → Op → Option Lift
lift_by known ns (Section id left right title) = Some (record { node = node_at id left right; candidate = None })
lift_by known ns (Text id section left right ch) = None
lift_by known ns (Delete target) = None
lift_by known ns (Note id named code body) = lift_move known ns (move_in (Note id named code body))

-- the list has the nodes of what is lifted, none is hidden, and the candidates are those of the valid moves, the oldest first
pub record IsLifting (h : List Op) (list : Listing) (candidates : List Candidate) : Type 0 where
  pub nodes_are : list.nodes ≡ nodes catalogue (lift h)
  pub few : length list.cells ≤ length h
  pub shown : All (λ (c : Cell). c.hidden ≡ false) list.cells
  pub in_order : IsInOrder list
  pub candidates_are : reverse candidates ≡ map candidate_of (moves h)

-- the list has the elements in order, all of them visible, and the candidates are those of the valid moves
pub record IsLiftOf (h : List Op) (list : Listing) (candidates : List Candidate) : Type 0 where
  pub lifting : IsLifting h list candidates
  pub all : cell_ids list.cells ≡ order catalogue (lift h)
  pub visible : cell_ids (cells_shown list.cells) ≡ order catalogue (lift h)
