use Rattle.std.proofs.Common.{ap, ◌∙◌, drop}
use Rattle.causal_inbox.proofs.QueueLemmas.{removed_after}
use Rattle.causal_inbox.proofs.queue.close_up.Goals as goal

pub returns-clause-rest : goal.returns-clause-rest
returns-clause-rest g c =
    ap (drop c.args.gone.now) c.remove.ensures.items ∙ removed_after c.args.items.now.items c.args.gone.now c.args.position c.requires
