-- A new cell: its key, where it goes in, and whether it continues a run.
use Rattle.std.specs.Prelude.{Bool, false, not, if◌then◌else◌, ◌&&◌, List, Option, Some, None, slice_get, ℕ, zero, suc}
use Rattle.fugue_ids.specs.Identifiers.{Identifier, id_eq, origin_eq}
use Rattle.fugue_ids.specs.Runs.{next_id}
use Rattle.fugue_ids.specs.declared.key.Gap.{Gap}
use Rattle.origin_model.specs.sides.KeyedGap.{gap_index}
use Rattle.fugue_ids.specs.declared.key.Key.{Key}
use Rattle.run_store.specs.Cells.{cell_ids, cell_of_origin}
use Rattle.run_store.specs.Heads.{typed_cells}
use Rattle.run_store.specs.declared.cell.Cell.{Cell}
use Rattle.run_store.specs.declared.cell.Head.{Head}

-- the depth of a cell: 0 where it is not held
abbrev pub cell_depth : Option Cell → ℕ
cell_depth None = 0
cell_depth (Some c) = c.key.depth

-- the depth of an element with this left origin
abbrev pub depth_under : List Cell → Option Identifier → ℕ
depth_under cells left = cell_depth (cell_of_origin cells left)

-- the cell is held and has this right origin
abbrev pub has_right : Option Cell → Option Identifier → Bool
has_right None right = false
has_right (Some c) right = origin_eq c.right right

-- the left origin itself has this right origin
abbrev pub shares_right : List Cell → Option Identifier → Option Identifier → Bool
shares_right cells left right = has_right (cell_of_origin cells left) right

-- one more than the cell's forest, where it is held and has this left origin; otherwise 0
abbrev pub cell_forest : Option Cell → Option Identifier → ℕ
cell_forest None left = 0
cell_forest (Some c) left = if origin_eq c.left left then suc c.key.forest else 0

-- the forest of the right origin, where that has this left origin
abbrev pub forest_beside : List Cell → Option Identifier → Option Identifier → ℕ
forest_beside cells left right = cell_forest (cell_of_origin cells right) left

-- The key of a new cell: one deeper than its left origin, and its forest is one more than that of its right origin,
-- where that has the same left origin. Where the left origin has the right origin itself, the forest is 0. (An element
-- whose origins are older than itself is not both left and right of another.)
abbrev pub new_cell_key : List Cell → Option Identifier → Option Identifier → Key
new_cell_key cells left right = record {
  depth = suc (depth_under cells left);
  forest = if shares_right cells left right then 0 else forest_beside cells left right;
}

-- a new cell, which is not hidden
abbrev pub new_cell : List Cell → Identifier → Option Identifier → Option Identifier → ℕ → Cell
new_cell cells id left right ch =
    record { id = id; left = left; right = right; ch = ch; hidden = false; key = new_cell_key cells left right }

-- what it says of itself
abbrev pub new_head : List Cell → Identifier → Option Identifier → Option Identifier → Head
new_head cells id left right = record { id = id; left = left; right = right; hidden = false; key = new_cell_key cells left right }

-- a run of new cells: each but the first is the letter after the one before it
abbrev pub new_cells : List Cell → Identifier → Option Identifier → Option Identifier → List ℕ → List Cell
new_cells cells id left right text = typed_cells (new_head cells id left right) text

-- the cell directly before the place i
abbrev pub cell_before : List Cell → ℕ → Option Cell
cell_before cells zero = None
cell_before cells (suc i) = slice_get cells i

-- a new cell directly after this one continues its run: this one is its left origin and the one before it of the same
-- replica, has the same right origin and is not hidden
abbrev pub is_continued : Option Cell → Identifier → Option Identifier → Option Identifier → Bool
is_continued None id left right = false
is_continued (Some c) id left right = origin_eq left (Some c.id) && (id_eq id (next_id c.id) && (origin_eq right c.right && not c.hidden))

-- a new cell in the gap continues a run
abbrev pub continues : List Cell → Gap → Identifier → Option Identifier → Option Identifier → Bool
continues cells gap id left right = is_continued (cell_before cells (gap_index gap (cell_ids cells))) id left right
