-- How many cells that are not hidden stand before one: those of the runs before its own, and its run's cells before it.
use Rattle.std.proofs.Common.{◌≡◌, ℕ, ◌+◌, ◌≤◌, Bool, List, [], ◌∷◌, ◌++◌, ap, arith, inl, inr, length, length-append, subst, suc, sym, take, ◌∙◌}
use Rattle.std.specs.Prelude.{if◌then◌else◌, drop, Some}
use Rattle.std.specs.List.{All}
use Rattle.std.proofs.Math.Seq.{take-append_seam}
use Rattle.std.proofs.lemmas.Bool.{cases_Bool}
use Rattle.std.proofs.lemmas.List.{length-take, length-take-le}
use Rattle.fugue_ids.specs.Identifiers.{Identifier}
use Rattle.fugue_ids.specs.Listed.{index_of}
use Rattle.fugue_ids.proofs.ListLemmas.{all_before}
use Rattle.fugue_ids.specs.declared.limits.TheConstants.{MOST_OPERATIONS}
use Rattle.node_rope.specs.Items.{value_under}
use Rattle.node_rope.specs.Places.{StandsAt, weight_sum}
use Rattle.run_store.specs.Cells.{cell_ids, cells_shown, shown_before}
use Rattle.run_store.specs.Heads.{typed_cells}
use Rattle.run_store.specs.Runs.{AreRuns, IsRun, IsCellSpot, RunsView, all_cells, cells_in, first_of, letters_of, visible_weight}
use Rattle.run_store.specs.declared.cell.Cell.{Cell}
use Rattle.run_store.specs.declared.run.Run.{Run}
use Rattle.run_store.proofs.CellLemmas.{Others, index-at}
use Rattle.run_store.proofs.HeadLemmas.{behind-id, length-typed}
use Rattle.run_store.proofs.PlaceLemmas.{placed-at, stands-run}
use Rattle.run_store.proofs.RunsLemmas.{cell_there, cells_before, cells_after, kept-run, length-letters}
use Rattle.run_store.proofs.VisibleLemmas.{hidden-typed, visible-append, visible-typed, visible-weight}
use Rattle.fugue_ids.proofs.RunLemmas.{none_after}

-- before a cell that stands at the end of a front stands the front
before_is : (x : Identifier) (front : List Cell) (c : Cell) (back : List Cell) → Others x front → c.id ≡ x → shown_before (front ++ c ∷ back) x ≡ length (cells_shown front)
before_is x front c back others is =
    ap (λ (k : ℕ). length (cells_shown (take k (front ++ c ∷ back)))) (index-at x front c back others is)
    ∙ ap (λ (cs : List Cell). length (cells_shown cs)) (take-append_seam front (c ∷ back))

-- no more cells are shown than there are
shown-few : (cs : List Cell) → length (cells_shown cs) ≤ length cs
shown-few [] = omega arith
shown-few (c ∷ cs) = elim (cases_Bool c.hidden) [
  | inl t ↦ rw t (omega (arith, shown-few cs))
  | inr f ↦ rw f (omega (arith, shown-few cs))
]

-- so many of a run's first cells count
abbrev pub within : Run → ℕ → ℕ
within run o = if run.hidden then 0 else o

module _ (r : RunsView) (s : AreRuns r) (x : Identifier) (run : Run) (o : ℕ) (spot : IsCellSpot r.rope x run o) (i : ℕ) (stands : StandsAt r.rope i run.id) where
  pub shown_before-spot : shown_before (cells_in r) x ≡ weight_sum visible_weight (take i r.rope) + within run o
  shown_before-spot =
      let L = r.letters in
      let at = stands-run r s i run stands spot.held in
      let p = placed-at r s i run o at spot.inside in
      let front = cells_before L (take i r.rope) run o in
      let others = subst (λ (y : Identifier). Others y front) (sym spot.is) p.before in
      let runs = subst (All (IsRun L r.count)) p.rope_is s.each in
      let first = visible-weight L r.count s.few (take i r.rope) (all_before (IsRun L r.count) (take i r.rope) ((run.id, run) ∷ drop (suc i) r.rope) runs) in
      let ls = letters_of L run in
      let long : length (take o ls) ≡ o = length-take-le o ls (omega (arith, spot.inside, length-letters L r.count (run.id, run) p.is_run)) in
      let own : length (cells_shown (typed_cells (first_of run) (take o ls))) ≡ within run o =
      elim (cases_Bool run.hidden) [
        | inl t ↦ ap length (hidden-typed (first_of run) (take o ls) t) ∙ ap (λ (b : Bool). if b then 0 else o) (sym t)
        | inr f ↦ ap length (visible-typed (first_of run) (take o ls) f) ∙ length-typed (first_of run) (take o ls) ∙ long ∙ ap (λ (b : Bool). if b then 0 else o) (sym f)
      ] in
      ap (λ (cs : List Cell). shown_before cs x) p.cells_is
      ∙ before_is x front (cell_there L run o) (cells_after L run (suc o) (drop (suc i) r.rope)) others (sym spot.is)
      ∙ ap length (visible-append (all_cells L (take i r.rope)) (typed_cells (first_of run) (take o ls)))
      ∙ length-append (cells_shown (all_cells L (take i r.rope))) (cells_shown (typed_cells (first_of run) (take o ls)))
      ∙ (λ j. first j + own j)

-- the runs before one show no more cells than there may be
pub weight-few : (r : RunsView) → AreRuns r → (run : Run) (i : ℕ) → StandsAt r.rope i run.id → value_under run.id r.rope ≡ Some run
    → weight_sum visible_weight (take i r.rope) ≤ MOST_OPERATIONS
weight-few r s run i stands held =
    let spot : IsCellSpot r.rope run.id run 0 = record {
      held = held;
      inside = (kept-run r s run.id run held).some;
      is = sym (behind-id 0 (first_of run) ∙ none_after run.id);
    } in
    let front = take (index_of (cell_ids (cells_in r)) run.id) (cells_in r) in
    omega (
      arith,
      shown_before-spot r s run.id run 0 spot i stands,
      shown-few front,
      length-take (index_of (cell_ids (cells_in r)) run.id) (cells_in r),
      s.counted,
      s.few,
    )
