use Rattle.node_rope.proofs.RiseLemmas.{rearranged-trans}
use Rattle.node_rope.proofs.balance.rebalance.Goals as goal

pub returns : goal.returns
returns g c = rearranged-trans c.sink-top.ensures c.restore_above.ensures
