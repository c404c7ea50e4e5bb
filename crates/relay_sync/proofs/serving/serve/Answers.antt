use Rattle.relay_sync.proofs.CountLemmas.{dock_on, dock_still}
use Rattle.std.proofs.Common.{[], arith, length-append, ◌++◌, ◌∷◌}
use Rattle.std.proofs.lemmas.Result.{err_from_is_err_and}
use Rattle.relay_sync.specs.Serving.{over_after}
use Rattle.relay_sync.proofs.ServingLemmas.{none_after, none_before, over-append, serves-append, serves_none, stops_behind, long_stops}
use Rattle.relay_sync.proofs.WholeLemmas.{served_blames, stopped_blames}
use Rattle.relay_sync.proofs.OverLemmas.{is_over_none}
use Rattle.relay_sync.proofs.serving.serve.Goals as goal

pub steps-init : goal.steps-init
steps-init g c = record {
  turns = [];
  serves = serves_none _ _;
  reported = dock_still ⊥ _;
  over = is_over_none _ c.new-over.ensures.empty;
  none = none_before _;
  steps = omega arith;
}

pub returns-then-left-eq0-clause-partly : goal.returns-then-left-eq0-clause-partly
returns-then-left-eq0-clause-partly g c =
    let i = c.steps.invariant in
    long_stops _ c.args.steps _ _ _ _ i.turns i.serves i.none (omega (arith, c.steps-test.true, c.len.ensures.len, i.over.count)) (omega (arith, i.steps))

pub steps-preserved : goal.steps-preserved
steps-preserved g c =
    let i = c.steps.invariant in
    let s = c.in_ok-serve_step.ensures.ok in
    record {
      turns = i.turns ++ s.0 ∷ [];
      serves = serves-append _ _ _ _ _ _ i.turns (s.0 ∷ []) i.serves s.1;
      reported = dock_on ⊥ _ _ _ i.reported c.in_ok-serve_step.ensures.reported;
      over = rw (over-append i.turns (s.0 ∷ []) []) (s.2 (over_after [] i.turns) i.over);
      none = none_after c.args.sessions i.turns s.0 i.none (omega (arith, c.steps-test.true, c.len.ensures.len, i.over.count));
      steps = omega (arith, i.steps, c.if-left-eq0.false, length-append i.turns (s.0 ∷ []));
    }

pub returns-in_err-serve_step-clause-partly : goal.returns-in_err-serve_step-clause-partly
returns-in_err-serve_step-clause-partly g c =
    let p = err_from_is_err_and c.from_residual.result c.from_residual.ensures.1 in
    let i = c.steps.invariant in
    rw (p.1, p.2) (stops_behind _ c.args.steps _ _ _ _ _ _ _ i.turns i.serves i.none (omega (arith, c.steps-test.true, c.len.ensures.len, i.over.count))
    (omega (arith, i.steps, c.if-left-eq0.false)) c.in_err-serve_step.ensures.partly)

pub returns-then-left-eq0-clause-dock : goal.returns-then-left-eq0-clause-dock
returns-then-left-eq0-clause-dock g c =
    let i = c.steps.invariant in
    stopped_blames _ c.args.steps _ _ _ _ _
    (long_stops _ c.args.steps _ _ _ _ i.turns i.serves i.none (omega (arith, c.steps-test.true, c.len.ensures.len, i.over.count)) (omega (arith, i.steps)))

pub returns-in_err-serve_step-clause-dock : goal.returns-in_err-serve_step-clause-dock
returns-in_err-serve_step-clause-dock g c =
    let p = err_from_is_err_and c.from_residual.result c.from_residual.ensures.1 in
    let i = c.steps.invariant in
    rw (p.1, p.2) (stopped_blames _ c.args.steps _ _ _ _ _
    (stops_behind _ c.args.steps _ _ _ _ _ _ _ i.turns i.serves i.none (omega (arith, c.steps-test.true, c.len.ensures.len, i.over.count))
    (omega (arith, i.steps, c.if-left-eq0.false)) c.in_err-serve_step.ensures.partly))

pub returns-clause-dock : goal.returns-clause-dock
returns-clause-dock g c = let i = c.steps.invariant in served_blames _ _ _ _ _ _ i.turns i.serves i.none
