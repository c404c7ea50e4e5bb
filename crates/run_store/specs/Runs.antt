-- Runs of cells: each keeps its first cell, and finds its letters in a stretch of them.
use Rattle.std.specs.Prelude.{◌≡◌, ◌≢◌, ◌≤◌, ◌<◌, ◌^◌, ℕ, ◌+◌, ◌-◌, List, [], Some, All, AllPairs, drop, flat_map, length, take}
use Rattle.std.specs.Prelude.{slice_index_or, if◌then◌else◌, min}
use Rattle.fugue_ids.specs.Identifiers.{Identifier}
use Rattle.fugue_ids.specs.declared.limits.TheConstants.{MOST_OPERATIONS}
use Rattle.node_rope.specs.Beside.{placed_after, put_under}
use Rattle.node_rope.specs.Items.{value_under}
use Rattle.run_store.specs.Cells.{cell_ids}
use Rattle.run_store.specs.Heads.{head_after, typed_cells}
use Rattle.run_store.specs.declared.cell.Cell.{Cell}
use Rattle.run_store.specs.declared.cell.Head.{Head}
use Rattle.run_store.specs.declared.run.Run.{Run}

-- runs in order, each under its first identifier, with the stretches of their letters, and how many cells they have
pub record RunsView : Type 0 where
  pub rope : List (Identifier × Run)
  pub letters : List (List ℕ)
  pub count : ℕ

-- the first cell of a run
abbrev pub first_of : Run → Head
first_of r = record { id = r.id; left = r.left; right = r.right; hidden = r.hidden; key = r.key }

-- the letters of a run
abbrev pub letters_of : List (List ℕ) → Run → List ℕ
letters_of letters r = take r.len (drop r.start (slice_index_or letters r.stretch []))

-- the cells of a run
abbrev pub cells_of : List (List ℕ) → Run → List Cell
cells_of letters r = typed_cells (first_of r) (letters_of letters r)

-- the cells of all runs of a rope, in order
abbrev pub all_cells : List (List ℕ) → List (Identifier × Run) → List Cell
all_cells letters = flat_map (λ x. cells_of letters x.1)

-- those of all runs
abbrev pub cells_in : RunsView → List Cell
cells_in r = all_cells r.letters r.rope

-- a run under its first identifier: it is not empty, it has its letters, and its numbers fit
pub record IsRun (letters : List (List ℕ)) (count : ℕ) (x : Identifier × Run) : Type 0 where
  pub named : x.0 ≡ x.1.id
  pub some : 0 < x.1.len
  pub within : x.1.start + x.1.len ≤ length (slice_index_or letters x.1.stretch [])
  pub counters : x.1.id.counter + x.1.len ≤ 2 ^ 32
  pub ends : x.1.start + x.1.len ≤ count
  pub deep : 0 < x.1.key.depth
  pub depths : x.1.key.depth + x.1.len ≤ count + 1
  pub forests : x.1.key.forest ≤ count

-- the first stretch is there, with no more letters than there are cells, and there are no more others than cells
pub record AreLetters (letters : List (List ℕ)) (count : ℕ) : Type 0 where
  pub first : 0 < length letters
  pub shared : length (slice_index_or letters 0 []) ≤ count
  pub others : length letters ≤ count + 1

-- the runs keep distinct cells, and the count is theirs
pub record AreRuns (r : RunsView) : Type 0 where
  pub each : All (IsRun r.letters r.count) r.rope
  pub distinct : AllPairs (λ x y. x ≢ y) (cell_ids (cells_in r))
  pub counted : r.count ≡ length (cells_in r)
  pub few : r.count ≤ MOST_OPERATIONS
  pub letters : AreLetters r.letters r.count

-- how many cells of a run are visible
abbrev pub visible_weight : Run → ℕ
visible_weight r = if r.hidden then 0 else min r.len MOST_OPERATIONS

-- the cell of x stands after `offset` others in a run
pub record IsCellSpot (rope : List (Identifier × Run)) (x : Identifier) (run : Run) (offset : ℕ) : Type 0 where
  pub held : value_under run.id rope ≡ Some run
  pub inside : offset < run.len
  pub is : x ≡ (head_after offset (first_of run)).id

-- the cells of a run before the place n, and those from it on, as runs
abbrev pub run_to : ℕ → Run → Run
run_to n r = record r { len = n }

-- the run after its first n letters
abbrev pub run_after : ℕ → Run → Run
run_after n r =
    let h = head_after n (first_of r) in
    record {
      id = h.id;
      left = h.left;
      right = h.right;
      hidden = h.hidden;
      key = h.key;
      stretch = r.stretch;
      start = r.start + n;
      len = r.len - n;
    }

-- the rope with two runs in the place of one, whose key the first keeps
abbrev pub parted_as : Identifier → Run → Run → List (Identifier × Run) → List (Identifier × Run)
parted_as key front back rope = put_under key front (placed_after key (back.id, back) rope)

-- the rope with a run parted at a place
abbrev pub rope_parted : ℕ → Run → List (Identifier × Run) → List (Identifier × Run)
rope_parted n r rope = parted_as r.id (run_to n r) (run_after n r) rope
