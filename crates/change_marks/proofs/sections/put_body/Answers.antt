use Rattle.std.proofs.Common.{[], subst, sym, ◌∷◌}
use Rattle.std.specs.Prelude.{Err, Ok, ◌≢◌}
use Rattle.std.specs.List.{AllPairs}
use Rattle.std.proofs.lemmas.Result.{err_from_is_err_and}
use Rattle.fugue_ids.specs.Gathers.{GathersText}
use Rattle.fugue_ids.proofs.GatherLemmas.{gathers_join, gathers_stop}
use Rattle.origin_model.specs.declared.operations.Place.TheVariants.{Section as within}
use Rattle.origin_model.proofs.SharedLemmas.{order_total}
use Rattle.change_marks.specs.Marks.{text_with_marks, runs}
use Rattle.change_marks.proofs.WritingLemmas.{runs_found}
use Rattle.change_marks.proofs.sections.put_body.Goals as goal

pub put_runs-requires : goal.put_runs-requires
put_runs-requires g c = record {
  once = subst (AllPairs (λ x y. x ≢ y)) (sym c.elements_of-list.ensures.elements)
      (order_total (within c.args.section) c.replica-replica.result.now.held.history c.elements_of-list.ensures.sound.lawful).once;
}

pub returns-in_err-put_runs : goal.returns-in_err-put_runs
returns-in_err-put_runs g c =
    let text = text_with_marks c.args.now.now (runs c.args.is_dropped c.args.then.now c.args.now.now c.args.section) in
    let p = err_from_is_err_and c.from_residual.result c.from_residual.ensures.1 in
    rw p.1 (gathers_stop {T = Unit {0}} {S = Unit {0}} _ _ _ _ text (10 ∷ [])
    (subst (GathersText {T = Unit {0}} (g.O.Out.seen c.args.output.now) (g.O.Out.seen c.put_runs.new.output) c.args.gather.now c.put_runs.new.gather (Err (record {})))
    (runs_found c.args.is_dropped c.args.then.now _ c.args.now.now _ c.args.section _ c.replica-front.ensures c.replica-replica.ensures c.elements_of-list.ensures.elements)
    c.in_err-put_runs.ensures))

pub returns : goal.returns
returns g c =
    let text = text_with_marks c.args.now.now (runs c.args.is_dropped c.args.then.now c.args.now.now c.args.section) in
    gathers_join {T = Unit {0}} {S = Unit {0}} tt c.put.result _ _ _ _ _ _ text (10 ∷ [])
    (subst (GathersText {T = Unit {0}} (g.O.Out.seen c.args.output.now) (g.O.Out.seen c.put_runs.new.output) c.args.gather.now c.put_runs.new.gather (Ok tt))
    (runs_found c.args.is_dropped c.args.then.now _ c.args.now.now _ c.args.section _ c.replica-front.ensures c.replica-replica.ensures c.elements_of-list.ensures.elements)
    c.in_ok-put_runs.ensures)
    c.put.ensures
