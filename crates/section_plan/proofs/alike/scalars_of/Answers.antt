use Rattle.std.proofs.Common.{ap, arith, refl, reverse, sym, ◌∙◌}
use Rattle.std.proofs.lemmas.Grind.{common_steps}
use Rattle.section_plan.proofs.AlikeLemmas.{texts_more, texts_same}
use Rattle.section_plan.proofs.alike.scalars_of.Goals as goal
use Rattle.section_plan.proofs.alike.scalars_of.Goals.{then-is_none+in_ok-list+then-not-is_empty+in_ok-reversed+in_ok-push, then-is_none+in_ok-list+else-not-is_empty, else-is_none}

pub sections-preserved : goal.sections-preserved
sections-preserved c =
    elim c.if-is_none.branch [
      | then-is_none+in_ok-list+then-not-is_empty+in_ok-reversed+in_ok-push w ↦
          rw (w.texts-is, w.in_ok-push.ensures.items)
          (texts_more c.args.pairs.now c.args.sections.now c.sections.place c.sections.texts.items _ c.sections.invariant c.sections-test.true refl w.in_ok-list.ensures
          (w.in_ok-reversed.ensures ∙ ap reverse (sym w.in_ok-list.ensures)))
      | then-is_none+in_ok-list+else-not-is_empty w ↦
          rw w.texts-is (texts_same c.args.pairs.now c.args.sections.now c.sections.place c.sections.texts.items c.sections.invariant
          (λ free some. some (sym w.in_ok-list.ensures ∙ grind (arith, common_steps))))
      | else-is_none w ↦ rw w.texts-is (texts_same c.args.pairs.now c.args.sections.now c.sections.place c.sections.texts.items c.sections.invariant (λ free some. grind arith))
    ]
