use Rattle.origin_model.proofs.order.{order_by_set}
use Rattle.origin_model.proofs.laws.order_by_set.Goals as goal

pub returns : goal.returns
returns c = order_by_set
