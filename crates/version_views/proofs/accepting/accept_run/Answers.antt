use Rattle.version_views.proofs.AcceptingLemmas.{all_are, quiet_settled}
use Rattle.std.proofs.Common.{ap, arith, length, ◌≡◌}
use Rattle.fugue_ids.specs.Runs.{run_from}
use Rattle.fugue_ids.proofs.RunLemmas.{length-typed}
use Rattle.version_views.proofs.accepting.accept_run.Goals as goal

pub feed_run-requires-clause-settled : goal.feed_run-requires-clause-settled
feed_run-requires-clause-settled c = quiet_settled c.args.front.now.held c.requires.can.quiet

pub feed_run-requires-clause-counts_rise : goal.feed_run-requires-clause-counts_rise
feed_run-requires-clause-counts_rise c =
    let zero = c.default-tally.ensures in
    let can = c.requires.can in
    let long : length (run_from c.args.start.now c.args.text.now) ≡ length c.args.text.now =
    length-typed c.args.start.now.id c.args.start.now.section c.args.start.now.left c.args.start.now.right c.args.text.now in
    omega (arith, zero.0, zero.1.0, zero.1.1.0, zero.1.1.1.0, zero.1.1.1.1, can.room, can.sound.most_within.1, long, ap length can.quiet)

pub returns-in-Ok-clause-ok : goal.returns-in-Ok-clause-ok
returns-in-Ok-clause-ok c = all_are c.args.front.now c.feed_run.new.self (run_from c.args.start.now c.args.text.now) c.requires.can c.in-Ok.ensures.ok.replica
