use Rattle.node_rope.proofs.FilingLemmas.{filed-had}
use Rattle.node_rope.proofs.store.Store.drop.Goals as goal

pub free_all-requires-clause-filed : goal.free_all-requires-clause-filed
free_all-requires-clause-filed g c = filed-had c.args.self.newest c.args.self.pile.values c.args.self.pile.moorings c.args.self.filed
