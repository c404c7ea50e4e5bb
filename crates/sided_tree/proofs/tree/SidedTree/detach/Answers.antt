use Rattle.std.proofs.Common.{subst, sym}
use Rattle.origin_model.specs.sides.Detached.{NoOrigin}
use Rattle.origin_model.specs.sides.Node.{AreNodes}
use Rattle.origin_model.proofs.SharedLemmas.{nodes_stay}
use Rattle.sided_tree.proofs.tree.SidedTree.detach.Goals as goal

-- the others are nodes
others : (c : goal.After-remove) → AreNodes c.remove.new.self
others c =
    subst AreNodes (sym c.remove.ensures) (nodes_stay c.args.id c.self.inside.nodes c.self.invariant (subst (NoOrigin c.args.id) (sym c.self.view_is) c.requires.no_origin))

pub invariant_of-self : goal.invariant_of-self
invariant_of-self c = others c

pub returns-clause-are_nodes : goal.returns-clause-are_nodes
returns-clause-are_nodes c = others c
