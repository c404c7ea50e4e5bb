use Rattle.std.proofs.Common.{subst, Bool, arith}
use Rattle.replica_core.specs.Answering.{IsTallied}
use Rattle.replica_core.proofs.CountLemmas.{settling_starts, settling_more}
use Rattle.replica_core.proofs.StepLemmas.{step_moves}
use Rattle.replica_core.proofs.open_replica.OpenReplica.settle.Goals as goal

pub loop-init : goal.loop-init
loop-init c = settling_starts c.args.self.now.state c.args.tally.now c.requires.sound c.requires.accepted c.requires.stray

pub loop-preserved : goal.loop-preserved
loop-preserved c =
    let Counts : Bool → Type 0 = λ more. IsTallied c.loop.self.state.held c.settle_counted.new.self.state.held c.loop.tally c.settle_counted.new.tally more in
    settling_more c.args.self.now.state c.loop.self.state c.settle_counted.new.self.state c.args.tally.now c.loop.tally c.settle_counted.new.tally c.loop.invariant
    (subst Counts c.if-branch.true c.in_ok-settle_counted.ensures.step) c.settle_counted.ensures.others c.settle_counted.ensures.sound

pub loop-smaller : goal.loop-smaller
loop-smaller c =
    let Counts : Bool → Type 0 = λ more. IsTallied c.loop.self.state.held c.settle_counted.new.self.state.held c.loop.tally c.settle_counted.new.tally more in
    let step = subst Counts c.if-branch.true c.in_ok-settle_counted.ensures.step in
    let moves = step_moves c.loop.self.state.held c.settle_counted.new.self.state.held step.0 in
    omega (arith, moves.shorter)
