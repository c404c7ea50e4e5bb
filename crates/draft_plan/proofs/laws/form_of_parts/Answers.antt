use Rattle.draft_plan.proofs.FormLemmas.{form_of_parts}
use Rattle.draft_plan.proofs.laws.form_of_parts.Goals as goal

pub returns : goal.returns
returns c = form_of_parts
