use Rattle.std.proofs.Common.{arith, sym, ◌∙◌}
use Rattle.std.proofs.lemmas.Bool.{false≢true}
use Rattle.section_plan.specs.Matching.{no_part}
use Rattle.draft_plan.proofs.ShownLemmas.{same_at}
use Rattle.draft_plan.proofs.revision.are_same.Goals as goal

pub returns-then-not-is_same : goal.returns-then-not-is_same
returns-then-not-is_same c = (
  λ t. cc t,
  λ same.
      let here = same_at c.args.sections.now c.args.parts.now c.sections.place no_part (omega arith) (omega arith) same in
      absurd (false≢true (sym c.if-not-is_same.true ∙ c.is_same.ensures.1 here)),
)
