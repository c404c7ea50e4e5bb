use Rattle.draft_plan.proofs.FormLemmas.{parts_of_form}
use Rattle.draft_plan.proofs.laws.parts_of_form.Goals as goal

pub returns : goal.returns
returns c = parts_of_form
