use Rattle.relay_core.proofs.JoiningLemmas.{joins_single}
use Rattle.relay_core.proofs.joining.take_frame.Goals as goal

pub returns-then-frame-ne-RUN-clause-ok : goal.returns-then-frame-ne-RUN-clause-ok
returns-then-frame-ne-RUN-clause-ok g c = joins_single c.args.limit _ c.args.frame.now _ c.join.result c.requires.frame c.if-frame-ne-RUN.true c.join.ensures.ok
