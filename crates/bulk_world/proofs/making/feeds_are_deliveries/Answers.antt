use Rattle.bulk_world.proofs.DeliveryLemmas.{calls_are_deliveries}
use Rattle.bulk_world.proofs.making.feeds_are_deliveries.Goals as goal

pub returns : goal.returns
returns c = calls_are_deliveries
