use Rattle.std.proofs.Common.{ap, length, sym, ◌∙◌, ◌≡◌, ◌≢◌}
use Rattle.std.proofs.lemmas.Grind.{common_steps}
use Rattle.std.proofs.Common.{arith}
use Rattle.std.proofs.lemmas.List.{length-map}
use Rattle.draft_plan.specs.Readings.{seen_part}
use Rattle.manuscript_cli.proofs.RevisingLemmas.{empties_none, empties_some}
use Rattle.manuscript_cli.proofs.revise.drops_all.Goals as goal

pub returns-then-is_empty-clause-drops : goal.returns-then-is_empty-clause-drops
returns-then-is_empty-clause-drops c =
    let none : length c.parts.result.now ≡ 0 = grind (arith, common_steps) in
    let long = sym (ap length c.parts.ensures) ∙ length-map c.parts.result.now seen_part in
    empties_some c.args.replica.now.held.history c.args.draft.now c.section_count-shown.result c.section_count-shown.ensures.sound.lawful
    (long ∙ none) c.section_count-shown.ensures.count

pub returns-else-is_empty-clause-drops : goal.returns-else-is_empty-clause-drops
returns-else-is_empty-clause-drops c =
    let some : length c.parts.result.now ≢ 0 = grind (arith, common_steps) in
    let long = sym (ap length c.parts.ensures) ∙ length-map c.parts.result.now seen_part in
    rw c.if-is_empty.false (empties_none c.args.replica.now.held.history c.args.draft.now (λ e. some (sym long ∙ e)))
