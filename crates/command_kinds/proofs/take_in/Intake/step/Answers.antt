use Rattle.std.proofs.Common.{arith, ◌∙◌}
use Rattle.std.proofs.lemmas.Result.{err_from_is_err_and}
use Rattle.op_frame.specs.NextRuns.{ops_given}
use Rattle.command_kinds.proofs.KeptLemmas.{taking_stops}
use Rattle.command_kinds.proofs.take_in.Intake.step.Goals as goal

pub returns-clause-steps : goal.returns-clause-steps
returns-clause-steps g c =
    let gives = rw (c.in-Some.is, ← c.as_slice.ensures.value) at (c.in_ok-next.ensures.gives_many c.requires.no_fault) in
    let taken = c.in_ok-feed_next.ensures.ok in
    record {
      ops = ops_given c.in-Some.next c.as_slice.result.now;
      gives = gives;
      taken = taken;
      kept = c.in_ok-feed_next.ensures.kept;
      ready = record {
        no_fault = gives.no_fault;
        limit = gives.limit ∙ c.requires.limit;
        by_grammar = gives.grammar ∙ c.requires.by_grammar;
        settled = taken.settled;
        few = omega (arith, gives.rises, taken.once, c.requires.few);
      };
    }

pub returns-in_err-feed_next-clause-steps : goal.returns-in_err-feed_next-clause-steps
returns-in_err-feed_next-clause-steps g c =
    let p = err_from_is_err_and c.from_residual-in_err-feed_next.result c.from_residual-in_err-feed_next.ensures.1 in
    let gives = rw (c.in-Some.is, ← c.as_slice.ensures.value) at (c.in_ok-next.ensures.nexts c.requires.no_fault) in
    rw (p.1, p.2) (taking_stops (record { reader = c.args.self.now.reader; replica = c.args.replica.now; counts = c.args.self.now.tally; kept = c.args.kept.now })
    (record { reader = c.next_run.new.self; replica = c.feed_next.new.replica; counts = c.feed_next.new.tally; kept = c.feed_next.new.self })
    c.next_run.new.self (g.S.Source.seen c.args.source.now) (g.S.Source.seen c.next_run.new.source) c.in_err-feed_next.field-0.0 (ops_given c.in-Some.next c.as_slice.result.now)
    gives.0 c.in_err-feed_next.ensures.err)
