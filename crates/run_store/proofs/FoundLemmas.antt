-- A cell that was found, and where it stands.
use Rattle.std.proofs.Common.{◌≡◌, ℕ, ◌+◌, ◌<◌, ◌^◌, arith, inr, refl, subst, sym}
use Rattle.std.specs.Prelude.{Some, slice_get}
use Rattle.std.specs.List.{Contains}
use Rattle.fugue_ids.specs.Keys.{HasKey}
use Rattle.fugue_ids.specs.Listed.{index_of}
use Rattle.run_store.specs.Cells.{cell_ids, keyed_cells}
use Rattle.run_store.specs.Heads.{head_after}
use Rattle.run_store.specs.Runs.{AreRuns, RunsView, cells_in, first_of}
use Rattle.run_store.specs.Standings.{BeginsAfter, EndsBefore, IsFoundCell, found_at, index_at}
use Rattle.run_store.specs.declared.run.Run.{Run}
use Rattle.run_store.specs.declared.standing.Found.{Found}
use Rattle.run_store.proofs.EarlierLemmas.{index-spot}
use Rattle.run_store.proofs.FindLemmas.{cell-found, spot-held}
use Rattle.run_store.proofs.KeyLemmas.{has-key}
use Rattle.run_store.proofs.PlaceLemmas.{value-there}
use Rattle.run_store.proofs.RunsLemmas.{cell_there, kept-run}

module _ (r : RunsView) (s : AreRuns r) where
  -- a cell of the run at a place
  pub found-in : (run : Run) (i o : ℕ) (f : Found) → f ≡ found_at i o (head_after o (first_of run)) → slice_get r.rope i ≡ Some (run.id, run) → o < run.len → IsFoundCell r.rope f
  found-in run i o f e at inside =
      subst (IsFoundCell r.rope) (sym e) (record { run = run; at = at; spot = record { held = value-there r s i run.id run at; inside = inside; is = refl }; key = refl })

  module _ (f : Found) (is : IsFoundCell r.rope f) where
    -- it is one of the cells
    pub found-held : Contains (cell_ids (cells_in r)) f.id
    found-held = spot-held r s f.id is.run f.at.offset is.spot

    -- and has its key there
    pub found-key : HasKey (keyed_cells (cells_in r)) f.id f.key
    found-key =
        subst (HasKey (keyed_cells (cells_in r)) f.id) (sym is.key)
        (has-key f.id (cells_in r) (cell_there r.letters is.run f.at.offset) (cell-found r s f.id is.run f.at.offset is.spot))

    pub found-small : f.at.offset + 1 < 2 ^ 32
    found-small = let k = kept-run r s is.run.id is.run is.spot.held in omega (arith, k.depths, is.spot.inside, s.few)

    found-index : index_of (cell_ids (cells_in r)) f.id ≡ index_at r f.at.place f.at.offset
    found-index = index-spot r s f.id is.run f.at.offset f.at.place is.spot is.at

    -- what stands after it, and before it
    pub found-begin : BeginsAfter r (Some f.id) (record { place = f.at.place; offset = f.at.offset + 1 })
    found-begin = record { stands = inr ((is.run.id, is.run), is.at, omega (arith, is.spot.inside)); at = omega (arith, found-index) }

    pub found-end : EndsBefore r (Some f.id) f.at
    found-end = record { stands = inr ((is.run.id, is.run), is.at, is.spot.inside); at = sym found-index }
