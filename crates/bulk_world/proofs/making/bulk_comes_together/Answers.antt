use Rattle.bulk_world.proofs.TogetherLemmas.{together}
use Rattle.bulk_world.proofs.making.bulk_comes_together.Goals as goal

pub returns : goal.returns
returns c seed count few = together c.order_by_set.ensures seed count few
