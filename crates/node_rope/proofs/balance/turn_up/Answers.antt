use Rattle.std.proofs.Common.{subst, sym}
use Rattle.node_rope.specs.Turned.{IsRearranged}
use Rattle.node_rope.proofs.RiseLemmas.{rearranged-trans}
use Rattle.node_rope.proofs.balance.turn_up.Goals as goal

pub returns-in-Some-clause-same : goal.returns-in-Some-clause-same
returns-in-Some-clause-same g c =
    subst (IsRearranged c.args.store.now c.rise-top.new.store c.args.root) (sym c.stage_at.ensures.top) (rearranged-trans c.rise-half.ensures.same c.rise-top.ensures.same)
