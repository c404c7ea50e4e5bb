use Rattle.std.proofs.Common.{ap, sym, ◌∙◌, ◌∷◌, []}
use Rattle.std.specs.Prelude.{None, Some}
use Rattle.std.specs.List.{join_with_byte}
use Rattle.std.proofs.lemmas.Bool.Decides.{Decides-eqb}
use Rattle.std.proofs.lemmas.Slice.Eq.{strip_suffix_is}
use Rattle.draft_plan.specs.Drafts.{pieces}
use Rattle.draft_plan.proofs.LineLemmas.{join_ended, join_unended}
use Rattle.draft_plan.proofs.reading.without_line_feed.Goals as goal

pub returns-in-Some : goal.returns-in-Some
returns-in-Some c =
    let is = strip_suffix_is Decides-eqb c.args.text.now (10 ∷ []) (Some c.in-Some.front) c.in-Some.ensures.cases in
    sym (ap (λ t. join_with_byte 10 (pieces t)) is ∙ join_ended c.in-Some.front.now)

pub returns-in-None : goal.returns-in-None
returns-in-None c = sym (join_unended c.args.text.now (strip_suffix_is Decides-eqb c.args.text.now (10 ∷ []) None c.in-None.ensures.cases))
