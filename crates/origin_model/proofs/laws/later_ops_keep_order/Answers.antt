use Rattle.origin_model.proofs.order.{later_ops_keep_order, parts_keep_order}
use Rattle.origin_model.proofs.laws.later_ops_keep_order.Goals as goal

pub returns-clause-later : goal.returns-clause-later
returns-clause-later c = later_ops_keep_order

pub returns-clause-parts : goal.returns-clause-parts
returns-clause-parts c = parts_keep_order
