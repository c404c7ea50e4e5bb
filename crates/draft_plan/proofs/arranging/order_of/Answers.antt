use Rattle.std.proofs.Common.{ap, subst, ◌∙◌}
use Rattle.std.specs.List.{Contains}
use Rattle.catalogue_notes.specs.Outlining.{entry_sections}
use Rattle.draft_plan.specs.Arranging.{IsOrderOf}
use Rattle.draft_plan.proofs.arranging.order_of.Goals as goal

pub numbers_of-requires : goal.numbers_of-requires
numbers_of-requires c = λ s m. c.requires s (subst (λ l. Contains l s) (ap entry_sections c.entries.ensures ∙ c.in_ok-outline.ensures.outline.listed) m)

pub returns-clause-order : goal.returns-clause-order
returns-clause-order c =
    subst (λ xs. IsOrderOf c.args.sections.now xs c.in_ok-numbers_of.field-0.items)
    (ap entry_sections c.entries.ensures ∙ c.in_ok-outline.ensures.outline.listed) c.in_ok-numbers_of.ensures
