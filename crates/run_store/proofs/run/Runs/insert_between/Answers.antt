use Rattle.std.proofs.Common.{List, ap, arith, length, subst, ◌+◌, ◌-◌, ◌∙◌, ◌≡◌}
use Rattle.std.specs.Prelude.{OnOk}
use Rattle.fugue_ids.specs.Identifiers.{Identifier}
use Rattle.run_store.specs.Growth.{cells_inserted_after, last_id_of_run}
use Rattle.run_store.specs.Heads.{head_after, typed_cells}
use Rattle.run_store.specs.Runs.{RunsView, cells_in, first_of}
use Rattle.run_store.specs.Stored.{IsRaisedBy}
use Rattle.run_store.specs.declared.cell.Cell.{Cell}
use Rattle.run_store.proofs.EitherLemmas.{on-ok, one-raised, raised-twice, where-err}
use Rattle.run_store.proofs.RunsLemmas.{kept-run}
use Rattle.run_store.proofs.run.Runs.insert_between.Goals as goal

pub overflow_add-end : goal.overflow_add-end
overflow_add-end c =
    let r = c.args.spot.now.run in
    let x = kept-run c.args.self.now c.sound.ensures r.id r c.requires.held in
    omega (arith, c.requires.inside, x.depths, x.deep, c.sound.ensures.few)

pub returns : goal.returns
returns c =
    let o = c.args.spot.now.offset in
    let run = c.args.spot.now.run in
    let e : (o + 1) - 1 ≡ o = omega arith in
    let id : last_id_of_run c.run_to.result ≡ (head_after o (first_of run)).id = ap last_id_of_run c.run_to.ensures ∙ ap (λ n. (head_after n (first_of run)).id) e in
    let cut = c.in_ok-cut_after.ensures in
    let begun = c.begin.ensures in
    let old = c.args.self.now in
    let parted = c.cut_after.new.self in
    let new = c.begin.new.self in
    let n = length old.rope in
    record {
      ok = subst (λ (p : Identifier × List Cell). OnOk c.begin.result (cells_in new ≡ cells_inserted_after p.0 (typed_cells c.args.head.now c.args.text.now) p.1))
          (λ i. (id i, cut.cells i)) begun.ok;
      err = where-err (λ (r : RunsView). cells_in r ≡ cells_in old) c.begin.result parted new begun.err cut.cells;
      raised = on-ok c.begin.result (length new.rope ≡ length parted.rope + 1) (IsRaisedBy 2 n (length new.rope))
          (λ more. raised-twice 1 1 n (length parted.rope) (length new.rope) cut.raised (one-raised (length parted.rope) (length new.rope) more)) begun.raised;
      refused = where-err (λ (r : RunsView). IsRaisedBy 1 n (length r.rope)) c.begin.result parted new begun.err cut.raised;
    }
