use Rattle.std.proofs.Common.{arith}
use Rattle.section_plan.proofs.LikenessLemmas.{common_all}
use Rattle.section_plan.proofs.likeness.common_front.Goals as goal

pub returns-else-front-new : goal.returns-else-front-new
returns-else-front-new c = common_all c.args.old.now c.args.new.now c.front.front c.front.invariant.old c.front.invariant.new (λ x y. absurd (omega arith)) c.front.invariant.common
