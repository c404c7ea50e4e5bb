use Rattle.origin_model.proofs.Words.{ap, index_of_origin, sym, ◌∙◌}
use Rattle.origin_model.proofs.order.PositionLemmas.{index_end}
use Rattle.origin_model.proofs.order.comparison.index_of_origin.Goals as goal

pub returns-in-None : goal.returns-in-None
returns-in-None c = sym (ap (index_of_origin c.args.finished.now) c.in-None.is ∙ index_end c.args.finished.now)
