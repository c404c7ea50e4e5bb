use Rattle.std.proofs.Common.{ap, subst, sym}
use Rattle.sided_tree.specs.Nodes.{IsNodeMap}
use Rattle.sided_tree.proofs.NodesLemmas.{pushed}
use Rattle.sided_tree.proofs.nodes.Nodes.push.Goals as goal

pub invariant_of-self-2 : goal.invariant_of-self-2
invariant_of-self-2 c =
    subst (IsNodeMap c.insert.new.self.values) (sym c.with-self-inside.ensures)
    (pushed c.self.inside.origins.values c.insert.new.self.values c.self.inside.ages.nodes c.args.node c.self.invariant (ap (λ m. m.values) c.in_ok-insert.ensures.ok))
