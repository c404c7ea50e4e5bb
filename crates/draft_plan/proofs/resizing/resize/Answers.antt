use Rattle.std.proofs.Common.{arith, ◌+◌}
use Rattle.draft_plan.specs.Limits.{cost}
use Rattle.draft_plan.specs.Plans.{added_count, dropped_count}
use Rattle.draft_plan.proofs.EditCostLemmas.{shaping_join, shaping_stop}
use Rattle.draft_plan.proofs.LimitLemmas.{lacks_more, up}
use Rattle.std.proofs.Common.{length, map, subst}
use Rattle.std.proofs.lemmas.Bool.{false_from_ne_true, true≢false}
use Rattle.std.proofs.Common.{sym, ◌∙◌}
use Rattle.std.proofs.lemmas.Result.{err_from_is_err_and}
use Rattle.origin_model.specs.operations.History.{holds}
use Rattle.draft_plan.specs.Readings.{seen_part}
use Rattle.draft_plan.specs.Resizing.{AreTargets}
use Rattle.draft_plan.proofs.ResizingLemmas.{entries_once}
use Rattle.draft_plan.proofs.ShapeLemmas.{places_join, reshaped_shaped, stops_reshaped}
use Rattle.draft_plan.proofs.resizing.resize.Goals as goal

pub add_missing-requires-clause-once : goal.add_missing-requires-clause-once
add_missing-requires-clause-once c = entries_once c.args.replica.now.held.history c.args.entries.now c.requires.sound.lawful c.requires.outline

pub returns-in_err-added-clause-shapes : goal.returns-in_err-added-clause-shapes
returns-in_err-added-clause-shapes c =
    let p = err_from_is_err_and c.from_residual-in_err-added.result c.from_residual-in_err-added.ensures.1 in
    rw (p.1, p.2)
    (stops_reshaped c.args.replica.now c.drop_free.new.replica c.add_missing.new.replica c.in_ok-dropped.dropped c.in_err-added.field-0.0 c.in_ok-dropped.ensures.shapes
    c.in_err-added.ensures.shapes)

pub returns-clause-shapes : goal.returns-clause-shapes
returns-clause-shapes c =
    reshaped_shaped c.args.replica.now c.drop_free.new.replica c.add_missing.new.replica c.in_ok-dropped.dropped c.in_ok-added.added c.in_ok-dropped.ensures.shapes
    c.in_ok-added.ensures.shapes

pub returns-clause-targets : goal.returns-clause-targets
returns-clause-targets c =
    let s = c.args.replica.now in
    let mid = c.drop_free.new.replica in
    let keeps = c.in_ok-dropped.ensures.shapes.keeps in
    let t = subst (λ ys. AreTargets mid c.add_missing.new.replica ys c.args.pairs.now (map seen_part c.args.parts.now) c.add_missing.new.sections.items) c.requires.outline.listed
    c.in_ok-added.ensures.targets in
    record {
      long = t.long;
      kept = t.kept;
      fresh = λ j x e f. false_from_ne_true (holds s.held.history x) (λ h. true≢false (sym (keeps.held x h) ∙ t.fresh j x e f));
      shown_are = t.shown_are;
      once = t.once;
      titled = t.titled;
    }

pub returns-in_err-dropped-clause-costs : goal.returns-in_err-dropped-clause-costs
returns-in_err-dropped-clause-costs c =
    let p = err_from_is_err_and c.from_residual.result c.from_residual.ensures.1 in
    let n = dropped_count c.args.pairs.now (length c.args.entries.now) in
    let m = added_count c.args.pairs.now (length c.args.parts.now) in
    rw (p.1, p.2) (lacks_more c.args.replica.now (cost n 0 0) (cost (n + m) m 0) c.in_err-dropped.field-0.0
    (up (omega arith) (omega arith) (omega arith)) c.in_err-dropped.ensures.costs)

pub returns-in_err-added-clause-costs : goal.returns-in_err-added-clause-costs
returns-in_err-added-clause-costs c =
    let p = err_from_is_err_and c.from_residual-in_err-added.result c.from_residual-in_err-added.ensures.1 in
    let n = dropped_count c.args.pairs.now (length c.args.entries.now) in
    let m = added_count c.args.pairs.now (length c.args.parts.now) in
    rw (p.1, p.2)
    (shaping_stop c.args.replica.now c.drop_free.new.replica (cost n 0 0) (cost m m 0) (cost (n + m) m 0) c.in_ok-dropped.dropped c.in_err-added.field-0.0
    (up (omega arith) (omega arith) (omega arith)) c.in_ok-dropped.ensures.costs c.in_err-added.ensures.costs)

pub returns-clause-costs : goal.returns-clause-costs
returns-clause-costs c =
    let n = dropped_count c.args.pairs.now (length c.args.entries.now) in
    let m = added_count c.args.pairs.now (length c.args.parts.now) in
    shaping_join c.args.replica.now c.drop_free.new.replica c.add_missing.new.replica (cost n 0 0) (cost m m 0) (cost (n + m) m 0) c.in_ok-dropped.dropped c.in_ok-added.added
    (up (omega arith) (omega arith) (omega arith)) c.in_ok-dropped.ensures.costs c.in_ok-added.ensures.costs

pub returns-clause-places : goal.returns-clause-places
returns-clause-places c =
    places_join c.args.replica.now.held.history c.drop_free.new.replica.held.history c.add_missing.new.replica.held.history c.in_ok-dropped.ensures.places
    c.in_ok-added.ensures.places
