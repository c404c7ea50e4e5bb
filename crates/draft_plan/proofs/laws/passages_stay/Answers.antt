use Rattle.draft_plan.proofs.PassageLemmas.{passages_stay}
use Rattle.draft_plan.proofs.laws.passages_stay.Goals as goal

pub returns : goal.returns
returns c = passages_stay
