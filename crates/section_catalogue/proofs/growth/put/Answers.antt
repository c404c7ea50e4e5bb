use Rattle.fugue_ids.proofs.IdentifierLemmas.{id_at-other}
use Rattle.section_catalogue.proofs.growth.put.Goals as goal

pub returns-clause-ok : goal.returns-clause-ok
returns-clause-ok g c =
    let u = c.in_ok-insert.ensures.updates in
    record { here = u.1; others = λ y d. u.2 y (id_at-other c.args.id y d) }
