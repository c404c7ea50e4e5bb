use Rattle.std.proofs.Common.{ap}
use Rattle.section_catalogue.proofs.HomeLemmas.{no_home, settled}
use Rattle.stretch_map.proofs.ResultLemmas.{ok_makes}
use Rattle.section_catalogue.proofs.homes.note_home.Goals as goal

pub insert-requires : goal.insert-requires
insert-requires c = no_home c.args.homes.now.values c.args.id c.requires

pub returns-clause-ok : goal.returns-clause-ok
returns-clause-ok c =
    ok_makes _ _ c.insert.result (λ put. settled c.args.homes.now.values c.insert.new.self.values c.args.id _ (ap (λ m. m.values) put)) c.insert.ensures.ok
