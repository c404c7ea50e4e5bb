use Rattle.catalogue_notes.specs.Moving.{place_cause}
use Rattle.catalogue_notes.proofs.MovingLemmas.{made_by_plan, plan_held}
use Rattle.catalogue_notes.proofs.RefusalLemmas.{note_tells, refuses_note, stamps_left}
use Rattle.catalogue_notes.proofs.moving.make_move.Goals as goal

pub make-requires-clause-held : goal.make-requires-clause-held
make-requires-clause-held c = plan_held c.args.replica.now c.args.k c.args.j c.in_ok-plan.plan c.in_ok-plan.ensures.ok c.requires.sound

pub returns-clause-made : goal.returns-clause-made
returns-clause-made c =
    made_by_plan c.args.replica.now c.make.new.replica c.args.k c.args.j c.in_ok-plan.plan c.make.result c.in_ok-plan.ensures.ok c.requires.sound c.make.ensures.made

pub returns-clause-absent : goal.returns-clause-absent
returns-clause-absent c = note_tells c.args.replica.now (place_cause c.args.replica.now c.args.k c.args.j) c.make.result c.requires.place c.make.ensures.refused

pub returns-clause-refused : goal.returns-clause-refused
returns-clause-refused c =
    refuses_note c.args.replica.now (place_cause c.args.replica.now c.args.k c.args.j) c.requires.place c.make.result
    (stamps_left c.args.replica.now c.in_ok-plan.ensures.ok.left_over) c.make.ensures.refused
