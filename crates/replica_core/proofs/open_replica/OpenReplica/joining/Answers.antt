use Rattle.std.proofs.Common.{arith, refl}
use Rattle.replica_core.proofs.FeedingLemmas.{goes_at_once}
use Rattle.replica_core.proofs.open_replica.OpenReplica.joining.Goals as goal

pub returns-clause-at_once : goal.returns-clause-at_once
returns-clause-at_once c = λ some.
    goes_at_once c.args.self.now.state c.args.start.now c.args.text.now c.untouched.result c.index-text-0.result c.room.ensures.sound c.requires.settled some
    (omega (arith, c.untouched.ensures.within, c.min-most.ensures)) c.index-text-0.is c.untouched.ensures.untouched (c.if-not-is_ready.ensures.ready.0 refl)
    (omega (arith, c.untouched.ensures.within, c.min-most.ensures, c.room.ensures.room))
