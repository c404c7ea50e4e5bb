-- Cells more.
use Rattle.std.specs.Prelude.{◌≡◌, ◌≤◌, ◌<◌, ◌^◌, false, ℕ, suc, ◌+◌, ◌-◌, List, [], ◌++◌, Contains, length, slice_index_or}
use Rattle.std.specs.List.{splice}
use Rattle.fugue_ids.specs.Identifiers.{Identifier}
use Rattle.fugue_ids.specs.Runs.{id_after}
use Rattle.fugue_ids.specs.Listed.{index_of}
use Rattle.fugue_ids.specs.declared.limits.TheConstants.{MOST_OPERATIONS}
use Rattle.run_store.specs.Cells.{cell_ids}
use Rattle.run_store.specs.Heads.{head_after}
use Rattle.run_store.specs.NewCells.{new_cell_key}
use Rattle.run_store.specs.Runs.{AreLetters, first_of, letters_of}
use Rattle.run_store.specs.declared.cell.Cell.{Cell}
use Rattle.run_store.specs.declared.cell.Head.{Head}
use Rattle.run_store.specs.declared.run.Run.{Run}

-- the stretches of letters, each as it was or with more letters after, and perhaps others
abbrev pub AreGrown : (old new : List (List ℕ)) → Type 0
AreGrown old new = (s : ℕ) → (rest : List ℕ) × (slice_index_or new s [] ≡ slice_index_or old s [] ++ rest)

-- a run with more letters
pub record HasMoreLetters (old new : List (List ℕ)) (run : Run) (text : List ℕ) (longer : Run) : Type 0 where
  pub same : longer ≡ record run { stretch = longer.stretch; start = longer.start; len = run.len + length text }
  pub grown : AreGrown old new
  pub letters : letters_of new longer ≡ letters_of old run ++ text
  pub within : longer.start + longer.len ≤ length (slice_index_or new longer.stretch [])
  pub begin : longer.start ≤ run.start
  pub few : (count : ℕ) → run.start + run.len ≤ count → AreLetters old count → AreLetters new (count + length text)

-- what a new cell says of itself
pub record IsHead (cells : List Cell) (h : Head) : Type 0 where
  pub shown : h.hidden ≡ false
  pub key : h.key ≡ new_cell_key cells h.left h.right
  pub depths : h.key.depth ≤ suc (length cells)
  pub forests : h.key.forest ≤ suc (length cells)

-- no cell has one of the first n identifiers from this one on
abbrev pub AreFresh : List Cell → Identifier → ℕ → Type 0
AreFresh cells id n = (k : ℕ) → k < n → Contains (cell_ids cells) (id_after id k) → ⊥

-- n cells that may come to these, each after the one before it
pub record MayComeTo (cells : List Cell) (h : Head) (n : ℕ) : Type 0 where
  pub head : IsHead cells h
  pub some : 0 < n
  pub fresh : AreFresh cells h.id n
  pub room : length cells + n ≤ MOST_OPERATIONS
  pub counters : h.id.counter + n ≤ 2 ^ 32

-- the identifier of the last cell of a run
abbrev pub last_id_of_run : Run → Identifier
last_id_of_run run = (head_after (run.len - 1) (first_of run)).id

-- the cells with new ones before the place i
abbrev pub inserted_at : ℕ → List Cell → List Cell → List Cell
inserted_at i new cells = splice cells i i new

-- the cells with new ones directly after that of x, and directly before it
abbrev pub cells_inserted_after : Identifier → List Cell → List Cell → List Cell
cells_inserted_after x new cells = inserted_at (suc (index_of (cell_ids cells) x)) new cells

-- cells with new ones in front of that of x
abbrev pub cells_inserted_before : Identifier → List Cell → List Cell → List Cell
cells_inserted_before x new cells = inserted_at (index_of (cell_ids cells) x) new cells
