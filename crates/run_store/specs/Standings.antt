-- Where cells stand among others.
use Rattle.std.specs.Prelude.{◌≡◌, ◌≤◌, ◌<◌, ◌⊎◌, Option, Some, None, ℕ, suc, ◌+◌, List, Contains, length, slice_get, take}
use Rattle.fugue_ids.specs.Identifiers.{Identifier}
use Rattle.fugue_ids.specs.Keys.{between, low_ids, rest_of}
use Rattle.fugue_ids.specs.Listed.{HoldsOrigin, index_of}
use Rattle.run_store.specs.Cells.{cell_ids, keyed_cells}
use Rattle.run_store.specs.Heads.{head_after}
use Rattle.run_store.specs.Runs.{IsCellSpot, RunsView, all_cells, cells_in, first_of}
use Rattle.run_store.specs.declared.cell.Head.{Head}
use Rattle.run_store.specs.declared.standing.Found.{Found}
use Rattle.run_store.specs.declared.standing.Part.{Part}
use Rattle.run_store.specs.declared.standing.Standing.{Standing}
use Rattle.run_store.specs.declared.run.Run.{Run}

-- the index from which on the members stand after an origin
abbrev pub begin_index : List Identifier → Option Identifier → ℕ
begin_index xs None = 0
begin_index xs (Some x) = suc (index_of xs x)

-- the index up to which they stand before it
abbrev pub end_index : List Identifier → Option Identifier → ℕ
end_index xs None = length xs
end_index xs (Some x) = index_of xs x

-- x is a member, from the index `low` on, and before `high`
pub record IsMemberWithin (xs : List Identifier) (low high : ℕ) (x : Identifier) : Type 0 where
  pub held : Contains xs x
  pub from : low ≤ index_of xs x
  pub to : index_of xs x < high

-- how many cells stand in the first runs
abbrev pub cells_to : List (List ℕ) → List (Identifier × Run) → ℕ → ℕ
cells_to letters rope runs = length (all_cells letters (take runs rope))

-- the index of the cell at a place of the run that stands after so many others
abbrev pub index_at : RunsView → ℕ → ℕ → ℕ
index_at r place offset = cells_to r.letters r.rope place + offset

-- a standing from which on cells may stand: the beginning, one after any number of the cells of a run
abbrev pub IsBegin : List (Identifier × Run) → ℕ → ℕ → Type 0
IsBegin rope place offset = ((place ≡ 0) × (offset ≡ 0)) ⊎ ((x : Identifier × Run) × (slice_get rope place ≡ Some x) × (offset ≤ x.1.len))

-- a standing before which they may stand: the end of all, or that of a cell
abbrev pub IsEndStanding : List (Identifier × Run) → ℕ → ℕ → Type 0
IsEndStanding rope place offset =
    ((place ≡ length rope) × (offset ≡ 0)) ⊎ ((x : Identifier × Run) × (slice_get rope place ≡ Some x) × (offset < x.1.len))

-- x is a cell of the run at the place, and stands in it from the offset `low` on, and before `high`
pub record IsInRun (rope : List (Identifier × Run)) (place low high : ℕ) (x : Identifier) : Type 0 where
  pub run : Run
  pub offset : ℕ
  pub at : slice_get rope place ≡ Some (run.id, run)
  pub spot : IsCellSpot rope x run offset
  pub from : low ≤ offset
  pub to : offset < high

-- the standing from which on the cells after an origin stand
pub record BeginsAfter (r : RunsView) (from : Option Identifier) (s : Standing) : Type 0 where
  pub stands : IsBegin r.rope s.place s.offset
  pub at : index_at r s.place s.offset ≡ begin_index (cell_ids (cells_in r)) from

-- the standing before which those before an origin stand
pub record EndsBefore (r : RunsView) (to : Option Identifier) (s : Standing) : Type 0 where
  pub stands : IsEndStanding r.rope s.place s.offset
  pub at : index_at r s.place s.offset ≡ end_index (cell_ids (cells_in r)) to

-- the cell of a head, found at a standing
abbrev pub found_at : ℕ → ℕ → Head → Found
found_at place offset h = record { id = h.id; key = h.key; at = record { place = place; offset = offset } }

-- a cell is found: it has the key, and stands there
pub record IsFoundCell (rope : List (Identifier × Run)) (f : Found) : Type 0 where
  pub run : Run
  pub at : slice_get rope f.at.place ≡ Some (run.id, run)
  pub spot : IsCellSpot rope f.id run f.at.offset
  pub key : f.key ≡ (head_after f.at.offset (first_of run)).key

-- a part of the cells that begins after one whose key is at most that of the part, or at the beginning, and that ends
-- before such a one, or at the end; its ends stand where it says
pub record IsStandingPart (r : RunsView) (p : Part) : Type 0 where
  pub from : HoldsOrigin (low_ids p.most (keyed_cells (cells_in r))) p.from
  pub to : HoldsOrigin (low_ids p.most (rest_of p.from (keyed_cells (cells_in r)))) p.to
  pub begin : BeginsAfter r p.from p.begin
  pub end : EndsBefore r p.to p.end

-- the cells of a part whose key is at most that of the part
abbrev pub low_cells : RunsView → Part → List Identifier
low_cells r p = low_ids p.most (between p.from p.to (keyed_cells (cells_in r)))
