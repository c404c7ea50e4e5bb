use Rattle.std.proofs.Common.{ap, arith, length, subst, ◌+◌, ◌∙◌}
use Rattle.std.proofs.lemmas.List.{length_push}
use Rattle.section_plan.specs.Rises.{IsLongestRise}
use Rattle.draft_plan.proofs.resizing.staying_parts.Goals as goal

pub parts-preserved : goal.parts-preserved
parts-preserved c = ap length c.in_ok-push.ensures.items ∙ (length_push c.parts.places.items _ ∙ ap (λ n. n + 1) c.parts.invariant)

pub returns : goal.returns
returns c =
    let longest = subst (λ v. IsLongestRise v c.in_ok-stays.stays.items) c.as_slice.ensures.value c.in_ok-stays.ensures in
    longest.rise.places ∙ (c.parts.invariant ∙ omega arith)
