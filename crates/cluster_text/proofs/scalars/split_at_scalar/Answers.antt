use Rattle.std.proofs.Common.{◌∙◌}
use Rattle.cluster_text.proofs.TextLemmas.{splits-boundary, splits-back, splits-front}
use Rattle.cluster_text.proofs.scalars.split_at_scalar.Goals as goal

pub split_at-requires : goal.split_at-requires
split_at-requires c = splits-boundary _ _ _ c.pass_scalars-rest.ensures

pub returns-clause-front : goal.returns-clause-front
returns-clause-front c = c.split_at.ensures.front ∙ splits-front _ _ _ c.pass_scalars-rest.ensures

pub returns-clause-rest : goal.returns-clause-rest
returns-clause-rest c = c.split_at.ensures.back ∙ splits-back _ _ _ c.pass_scalars-rest.ensures
