use Rattle.std.proofs.Common.{ap, arith, length, refl, ◌∙◌}
use Rattle.std.proofs.lemmas.Result.{err_from_is_err_and}
use Rattle.op_frame.specs.Readers.{FrameReading}
use Rattle.command_kinds.proofs.IntakeLemmas.{fresh_counts, step_took, step_ended, fed_nothing, fed_over, fed_some, fed_stops}
use Rattle.command_kinds.proofs.take_in.take_in.Goals as goal

pub frames-init : goal.frames-init
frames-init g c =
    let fresh = c.in_ok-new.ensures.fresh in
    record {
      fed = fed_nothing _ _ _ (ap (λ (r : FrameReading). r.todo) fresh) (ap (λ (r : FrameReading). r.unread) fresh) (ap (λ (r : FrameReading). r.offset) fresh) refl
          (fresh_counts _ c.default.ensures);
      ready = record {
        no_fault = ap (λ (r : FrameReading). r.fault) fresh;
        limit = ap (λ (r : FrameReading). r.limit) fresh;
        by_grammar = ap (λ (r : FrameReading). r.grammar) fresh;
        settled = c.requires.settled;
        few = omega (arith, c.requires.few, ap (λ (r : FrameReading). length r.todo) fresh);
      };
      count = record {
        later = omega arith;
        faulted = λ failed. absurd failed;
        sure = refl;
        succeeds = λ sure failed. failed;
        counts_no_fault = λ sure. refl;
        tells = λ tells. tells;
        specified_no_fault = λ tells none. refl;
      };
    }

pub returns-in_err-step-clause-err : goal.returns-in_err-step-clause-err
returns-in_err-step-clause-err g c =
    let kept = c.frames.invariant in
    let p = err_from_is_err_and c.from_residual-in_err-step.result c.from_residual-in_err-step.ensures.1 in
    rw (p.1, p.2) (fed_stops _ _ _ _ (record { reader = c.step.new.self.reader; replica = c.step.new.replica; counts = c.step.new.self.tally; kept = c.step.new.kept }) _ _
    kept.fed c.in_err-step.field-0.0 _ refl kept.ready.limit kept.ready.by_grammar c.in_err-step.ensures.steps)

pub frames-preserved : goal.frames-preserved
frames-preserved g c =
    let kept = c.frames.invariant in
    let one = step_took _ _ _ _ _ c.if-branch.true c.in_ok-step.ensures.steps in
    record {
      fed = fed_some _ _ _ _ _ _ _ kept.fed one;
      ready = one.ready;
      count = record {
        later = omega (arith, kept.count.later, c.in_ok-step.ensures.count.later);
        faulted = λ failed. absurd failed;
        sure = c.in_ok-step.ensures.count.sure ∙ kept.count.sure;
        succeeds = λ sure failed. failed;
        counts_no_fault = λ sure. c.in_ok-step.ensures.count.counts_no_fault (kept.count.sure ∙ sure) ∙ kept.count.counts_no_fault sure;
        tells = λ tells. c.in_ok-step.ensures.count.tells (kept.count.tells tells);
        specified_no_fault = λ tells none. c.in_ok-step.ensures.count.specified_no_fault (kept.count.tells tells) (λ is. cc is) ∙ kept.count.specified_no_fault tells none;
      };
    }

pub returns-clause-ok : goal.returns-clause-ok
returns-clause-ok g c =
    let kept = c.frames.invariant in
    fed_over _ _ _ _ _ _ _ kept.fed _ _ refl refl kept.ready.limit kept.ready.by_grammar (step_ended _ _ _ _ _ c.if-branch.false c.in_ok-step.ensures.steps)

pub frames-smaller : goal.frames-smaller
frames-smaller g c =
    let one = step_took _ _ _ _ _ c.if-branch.true c.in_ok-step.ensures.steps in
    omega (arith, one.gives.some, one.gives.rises, one.gives.within, one.ready.limit)
