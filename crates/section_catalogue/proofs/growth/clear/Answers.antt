use Rattle.fugue_ids.proofs.IdentifierLemmas.{id_at-other}
use Rattle.section_catalogue.proofs.growth.clear.Goals as goal

pub returns : goal.returns
returns g c =
    let u = c.remove.ensures.updates in
    record { here = u.1; others = λ y d. u.2 y (id_at-other c.args.id.now y d) }
