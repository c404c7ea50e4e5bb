use Rattle.std.proofs.Common.{ap}
use Rattle.section_catalogue.proofs.HomeLemmas.{no_home, settled_all}
use Rattle.stretch_map.proofs.ResultLemmas.{ok_makes}
use Rattle.fugue_ids.specs.Runs.{id_after}
use Rattle.section_catalogue.proofs.homes.note_homes.Goals as goal

pub insert_run-requires-clause-free : goal.insert_run-requires-clause-free
insert_run-requires-clause-free c = λ k less. no_home c.args.homes.now.values (id_after c.args.first k) (c.requires.unplaced k less)

pub returns-clause-ok : goal.returns-clause-ok
returns-clause-ok c =
    ok_makes _ _ c.insert_run.result (λ put. settled_all c.args.homes.now.values c.insert_run.new.self.values c.args.first c.args.count _ (ap (λ m. m.values) put))
    c.insert_run.ensures.ok
