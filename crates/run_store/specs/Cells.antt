-- Cells in a list.
use Rattle.std.specs.Prelude.{Bool, not, if◌then◌else◌, ◌&&◌, List, [], ◌∷◌, Option, Some, None, option_map, ℕ, zero, suc, map, filter}
use Rattle.std.specs.Prelude.{length, take, true}
use Rattle.std.specs.List.{list_any}
use Rattle.fugue_ids.specs.Identifiers.{Identifier, id_eq}
use Rattle.fugue_ids.specs.Keys.{Keyed}
use Rattle.fugue_ids.specs.Runs.{id_after}
use Rattle.fugue_ids.specs.Listed.{index_of}
use Rattle.run_store.specs.declared.cell.Cell.{Cell}

-- the identifiers of the cells
abbrev pub cell_ids : List Cell → List Identifier
cell_ids cells = map (λ c. c.id) cells

-- the cells as elements of an order, each with its key
abbrev pub keyed_cells : List Cell → List Keyed
keyed_cells cells = map (λ c. record { id = c.id; key = c.key }) cells

-- the cells that are not hidden
abbrev pub cells_shown : List Cell → List Cell
cells_shown cells = filter (λ c. not c.hidden) cells

-- the scalars that are not hidden
abbrev pub cell_text : List Cell → List ℕ
cell_text cells = map (λ c. c.ch) (cells_shown cells)

-- how many cells that are not hidden stand before the cell of x
abbrev pub shown_before : List Cell → Identifier → ℕ
shown_before cells x = length (cells_shown (take (index_of (cell_ids cells) x) cells))

-- the cell of x
abbrev pub cell_of : List Cell → Identifier → Option Cell
cell_of [] x = None
cell_of (c ∷ cs) x = if id_eq c.id x then Some c else cell_of cs x

-- the cell of an origin: none for the start and the end
abbrev pub cell_of_origin : List Cell → Option Identifier → Option Cell
cell_of_origin cells None = None
cell_of_origin cells (Some x) = cell_of cells x

-- the origins of the cell of x
abbrev pub origins_in_cell : List Cell → Identifier → Option (Option Identifier × Option Identifier)
origins_in_cell cells x = option_map (λ c. (c.left, c.right)) (cell_of cells x)

-- a cell of x is hidden
abbrev pub is_hidden_cell : List Cell → Identifier → Bool
is_hidden_cell cells x = list_any (λ c. id_eq c.id x && c.hidden) cells

-- the cell as it is once x is hidden
abbrev pub cell_hiding : Identifier → Cell → Cell
cell_hiding x c = if id_eq c.id x then record c { hidden = true } else c

-- the cells as they are once those of the first n identifiers from x on are hidden, one after another
abbrev pub cells_hiding : Identifier → ℕ → List Cell → List Cell
cells_hiding x zero cells = cells
cells_hiding x (suc n) cells = cells_hiding (id_after x 1) n (map (cell_hiding x) cells)
