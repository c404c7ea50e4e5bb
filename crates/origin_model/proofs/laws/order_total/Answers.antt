use Rattle.origin_model.proofs.order.{order_total}
use Rattle.origin_model.proofs.laws.order_total.Goals as goal

pub returns : goal.returns
returns c = order_total
