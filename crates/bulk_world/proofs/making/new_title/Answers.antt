use Rattle.bulk_world.proofs.OpeningLemmas.{title_is}
use Rattle.bulk_world.proofs.making.new_title.Goals as goal

pub returns-in-Ok : goal.returns-in-Ok
returns-in-Ok c = title_is c.in-Ok.title c.in-Ok.ensures.ok
