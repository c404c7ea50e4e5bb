-- Cells of identifiers that follow one another.
use Rattle.std.specs.Prelude.{◌≡◌, ◌<◌, true, ℕ, List, Contains}
use Rattle.fugue_ids.specs.Identifiers.{Identifier}
use Rattle.fugue_ids.specs.Runs.{id_after}
use Rattle.run_store.specs.Cells.{cell_ids, is_hidden_cell}
use Rattle.run_store.specs.declared.cell.Cell.{Cell}

-- the first n identifiers from this one on have cells
abbrev pub HaveCells : List Cell → Identifier → ℕ → Type 0
HaveCells cells id n = (k : ℕ) → k < n → Contains (cell_ids cells) (id_after id k)

-- and these are hidden
abbrev pub AreHidden : List Cell → Identifier → ℕ → Type 0
AreHidden cells id n = (k : ℕ) → k < n → is_hidden_cell cells (id_after id k) ≡ true
