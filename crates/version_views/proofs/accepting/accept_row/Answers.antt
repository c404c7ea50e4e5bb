use Rattle.version_views.proofs.AcceptingLemmas.{all_are, quiet_settled}
use Rattle.std.proofs.Common.{ap, arith, false, length, ◌≡◌}
use Rattle.op_runs.specs.Deletions.{deletes_up}
use Rattle.op_runs.proofs.DeletionLemmas.{length-deletes}
use Rattle.version_views.proofs.accepting.accept_row.Goals as goal

pub feed_deletes-requires-clause-settled : goal.feed_deletes-requires-clause-settled
feed_deletes-requires-clause-settled c = quiet_settled c.args.front.now.held c.requires.can.quiet

pub feed_deletes-requires-clause-counts_rise : goal.feed_deletes-requires-clause-counts_rise
feed_deletes-requires-clause-counts_rise c =
    let zero = c.default-tally.ensures in
    let can = c.requires.can in
    let long : length (deletes_up c.args.first c.args.count) ≡ c.args.count = length-deletes false c.args.first c.args.count in
    omega (arith, zero.0, zero.1.0, zero.1.1.0, zero.1.1.1.0, zero.1.1.1.1, can.room, can.sound.most_within.1, long, ap length can.quiet)

pub returns-in-Ok-clause-ok : goal.returns-in-Ok-clause-ok
returns-in-Ok-clause-ok c = all_are c.args.front.now c.feed_deletes.new.self (deletes_up c.args.first c.args.count) c.requires.can c.in-Ok.ensures.ok.replica
