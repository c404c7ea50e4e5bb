use Rattle.origin_model.proofs.sides.WalkLemmas.{walk_is_order, walk_is_whole}
use Rattle.origin_model.proofs.laws.walk_is_order.Goals as goal

pub returns-clause-order : goal.returns-clause-order
returns-clause-order c = walk_is_order

pub returns-clause-whole : goal.returns-clause-whole
returns-clause-whole c = walk_is_whole
