use Rattle.catalogue_notes.specs.Moving.{section_cause}
use Rattle.catalogue_notes.proofs.RefusalLemmas.{note_tells, refuses_note, stamps_left}
use Rattle.catalogue_notes.proofs.RetitlingLemmas.{retitle_plan_held, retitled_by_plan}
use Rattle.catalogue_notes.proofs.retitling.make_retitle.Goals as goal

pub make-requires-clause-held : goal.make-requires-clause-held
make-requires-clause-held c = retitle_plan_held c.args.replica.now c.args.k c.args.title.now c.in_ok-plan.plan c.in_ok-plan.ensures.ok c.requires.sound

pub returns-clause-made : goal.returns-clause-made
returns-clause-made c =
    retitled_by_plan c.args.replica.now c.args.k c.args.title.now c.in_ok-plan.plan c.in_ok-plan.ensures.ok c.requires.sound c.make.new.replica c.make.result c.make.ensures.made

pub returns-clause-absent : goal.returns-clause-absent
returns-clause-absent c = note_tells c.args.replica.now (section_cause c.args.replica.now c.args.k) c.make.result c.requires.section c.make.ensures.refused

pub returns-clause-refused : goal.returns-clause-refused
returns-clause-refused c =
    refuses_note c.args.replica.now (section_cause c.args.replica.now c.args.k) c.requires.section c.make.result
    (stamps_left c.args.replica.now c.in_ok-plan.ensures.ok.left_over) c.make.ensures.refused
