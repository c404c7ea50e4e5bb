use Rattle.std.proofs.Common.{ap, sym, ◌∙◌}
use Rattle.std.proofs.lemmas.Result.{on_ok_weaker}
use Rattle.section_catalogue.proofs.HidingLemmas.{stands_withdrawn}
use Rattle.stretch_map.proofs.ResultLemmas.{ok_makes}
use Rattle.replica_core.proofs.ManuscriptLemmas.{hides_grows}
use Rattle.replica_core.proofs.WithdrawnLemmas.{element_withdrawn, note_withdrawn}
use Rattle.replica_core.proofs.accepted.take_in_delete.Goals as goal

pub returns-in-Some-clause-ok : goal.returns-in-Some-clause-ok
returns-in-Some-clause-ok c =
    on_ok_weaker c.hide.result (hides_grows c.args.manuscript.now c.hide.new.self c.args.target) c.hide.ensures.ok

pub returns-in-Some-clause-ok_withdrawn : goal.returns-in-Some-clause-ok_withdrawn
returns-in-Some-clause-ok_withdrawn c =
    let x = c.args.target in
    ok_makes _ _ c.hide.result
    (λ _ h s. element_withdrawn c.args.withdrawn.now.values h x c.in-Some.field-0 (sym (s.places x) ∙ sym c.place_of.ensures.place ∙ c.in-Some.is))
    c.hide.ensures.ok

pub insert-requires : goal.insert-requires
insert-requires c = c.requires.free (sym c.place_of.ensures.place ∙ c.in-None.is)

pub returns-in-None-clause-ok : goal.returns-in-None-clause-ok
returns-in-None-clause-ok c =
    ok_makes _ _ c.insert.result
    (λ _ h s ready. stands_withdrawn c.args.manuscript.now c.args.target h (sym c.place_of.ensures.place ∙ c.in-None.is) s ready) c.insert.ensures.ok

pub returns-in-None-clause-ok_withdrawn : goal.returns-in-None-clause-ok_withdrawn
returns-in-None-clause-ok_withdrawn c =
    ok_makes _ _ c.insert.result
    (λ put h s ready are. note_withdrawn c.args.withdrawn.now.values c.insert.new.self.values h c.args.target _ (ap (λ m. m.values) put) are) c.insert.ensures.ok
