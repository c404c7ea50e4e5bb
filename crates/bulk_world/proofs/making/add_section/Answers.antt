use Rattle.bulk_world.proofs.OpeningLemmas.{first_opens}
use Rattle.bulk_world.proofs.making.add_section.Goals as goal

pub returns : goal.returns
returns c =
    first_opens _ _ c.in_ok-title.title c.add.result c.unless_memory_wants.result c.requires c.in_ok-title.ensures c.unless_memory_wants.ensures
    (record { made = c.add.ensures.made; refused = c.add.ensures.refused; unmade = c.add.ensures.unmade })
