-- What a history says of an identifier, and when a place lists the elements of a history.
use Rattle.std.specs.Prelude.{◌≡◌, Option, Some, None, List, ℕ}
use Rattle.std.specs.List.{All}
use Rattle.fugue_ids.specs.Identifiers.{Identifier}
use Rattle.fugue_ids.specs.declared.op.Op.{Op}
use Rattle.fugue_ids.specs.declared.op.Op.TheVariants.{Section, Text}
use Rattle.origin_model.specs.sides.Node.{find_node, nodes}
use Rattle.origin_model.specs.operations.History.{holder, place}
use Rattle.origin_model.specs.order.Order.{order}
use Rattle.origin_model.specs.order.Printed.{is_hidden}
use Rattle.origin_model.specs.declared.operations.Place.{Place}
use Rattle.run_store.specs.Cells.{cell_ids}
use Rattle.run_store.specs.declared.cell.Cell.{Cell}
use Rattle.section_list.specs.SectionList.{IsInOrder, Listing}

-- where an operation's element stands
abbrev pub place_held : Option Op → Option Place
place_held None = None
place_held (Some op) = place op

-- the title of a section; no other element has one
abbrev pub title_held : Option Op → Option (List ℕ)
title_held (Some (Section id left right title)) = Some title
title_held _ = None

-- the scalar of an element: a space for a section
abbrev pub scalar_held : Option Op → ℕ
scalar_held (Some (Text id section left right ch)) = ch
scalar_held _ = 32

-- the cell has the scalar of its element, and is hidden exactly where a Delete names that
pub record IsCellIn (h : List Op) (c : Cell) : Type 0 where
  pub ch : c.ch ≡ scalar_held (holder h c.id)
  pub hidden : c.hidden ≡ is_hidden h c.id

-- the place lists the elements that the history has there, in order; its nodes may have come in another order, since
-- they are only looked up
pub record Lists (p : Place) (h : List Op) (s : Listing) : Type 0 where
  pub in_order : IsInOrder s
  pub same_nodes : (x : Identifier) → find_node s.nodes x ≡ find_node (nodes p h) x
  pub listed : cell_ids s.cells ≡ order p h
  pub each : All (IsCellIn h) s.cells
