use Rattle.std.proofs.Common.{ap, ◌-◌, ◌∙◌, sym}
use Rattle.std.specs.Prelude.{slice_get}
use Rattle.causal_inbox.proofs.AgeLemmas.{above_last}
use Rattle.causal_inbox.proofs.index.next_age.Goals as goal

pub returns : goal.returns
returns c = above_last c.args.ages.now.items c.get-last.result.now c.requires (ap (λ n. slice_get c.args.ages.now.items (n - 1)) (sym c.len-count.ensures) ∙ c.get-last.ensures)
