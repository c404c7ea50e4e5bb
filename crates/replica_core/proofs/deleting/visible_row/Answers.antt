use Rattle.std.proofs.Common.{List, ap, arith, subst, sym, ◌∙◌, ◌≡◌}
use Rattle.std.specs.Prelude.{Contains, Some}
use borrow.Author.Count.{below_more}
use Rattle.fugue_ids.specs.Identifiers.{Identifier}
use Rattle.fugue_ids.specs.Runs.{id_after}
use Rattle.fugue_ids.proofs.IdentifierLemmas.{origin_eq-true}
use Rattle.run_store.specs.Cells.{cell_ids, cells_shown}
use Rattle.replica_core.proofs.DeletesFeedingLemmas.{next_ahead, rest_ahead}
use Rattle.replica_core.proofs.deleting.visible_row.Goals as goal

pub row-preserved : goal.row-preserved
row-preserved c =
    let so_far = c.row.invariant in
    let walk = c.row.walk in
    let x = id_after c.args.first c.row.row in
    let next : c.step.result ≡ Some x = origin_eq-true c.step.result (Some c.behind.result) (sym c.eq.ensures ∙ c.if-eq.true) ∙ ap (λ y. Some y) c.behind.ensures in
    record {
      visible = below_more (λ k. Contains (cell_ids (cells_shown c.args.list.now.cells)) (id_after c.args.first k)) c.row.row so_far.visible
          (so_far.ahead x (next_ahead walk x (sym c.step.ensures.first ∙ next)));
      within = omega (arith, c.row-test.true);
      ahead = λ y there. so_far.ahead y (rest_ahead walk y (subst (λ (ys : List Identifier). Contains ys y) c.step.ensures.rest there));
    }
