use Rattle.std.proofs.Common.{[], ap, subst, sym, ◌∙◌, ◌∷◌, ◌≡◌, ◌↔◌}
use Rattle.fugue_ids.specs.Keys.{ids}
use Rattle.fugue_ids.specs.declared.key.Gap.TheVariants.{Alone}
use Rattle.origin_model.specs.sides.Keys.{keyed_order}
use Rattle.origin_model.specs.sides.Node.{AreNodes, node_order}
use Rattle.origin_model.specs.sides.Slot.{at_gap}
use Rattle.origin_model.specs.declared.operations.node.Node.{Node}
use Rattle.sided_tree.proofs.tree.SidedTree.find_gap.Goals as goal

pub find_gap-requires-clause-new : goal.find_gap-requires-clause-new
find_gap-requires-clause-new g c =
    let n : Node = record { id = c.args.id; left = c.args.left; right = c.args.right } in
    subst (λ ns. AreNodes (n ∷ ns)) (sym c.self.view_is)
    (record { fresh = c.requires.fresh; left = c.requires.left; right = c.requires.right }, subst AreNodes c.self.view_is c.self.invariant)

pub find_gap-requires-clause-list : goal.find_gap-requires-clause-list
find_gap-requires-clause-list g c = c.requires.list ∙ ap keyed_order (sym c.self.view_is)

pub returns : goal.returns
returns g c =
    let n : Node = record { id = c.args.id; left = c.args.left; right = c.args.right } in
    let found = c.find_gap.ensures in
    record {
      place = subst (λ ns. node_order (n ∷ ns) ≡ at_gap c.find_gap.result n.id (ids (g.F.OrderOf.listed c.args.order.now))) c.self.view_is found.place;
      beside = found.beside;
      alone = subst (λ ns. (c.find_gap.result ≡ Alone) ↔ (ns ≡ [])) c.self.view_is found.alone;
      are_nodes = subst AreNodes c.self.view_is c.self.invariant;
    }
