use Rattle.std.proofs.Common.{subst, sym}
use Rattle.sided_tree.specs.Nodes.{IsNodeMap}
use Rattle.sided_tree.proofs.NodesLemmas.{no_nodes}
use Rattle.sided_tree.proofs.nodes.Nodes.new.Goals as goal

pub invariant_of-result : goal.invariant_of-result
invariant_of-result c = subst (IsNodeMap c.new.result.values) (sym c.new-2.ensures) (no_nodes c.new.result.values c.new.ensures.values)
