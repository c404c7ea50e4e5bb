use Rattle.std.proofs.Common.{ap, inr, subst, sym}
use Rattle.origin_model.specs.sides.Detached.{NoOrigin}
use Rattle.sided_tree.specs.Nodes.{IsNodeMap}
use Rattle.stretch_map.proofs.ResultLemmas.{ok_gives}
use Rattle.sided_tree.proofs.NodesLemmas.{not_followed, removed}
use Rattle.sided_tree.proofs.nodes.Nodes.remove.Goals as goal

pub invariant_of-self : goal.invariant_of-self
invariant_of-self c =
    let values = c.self.inside.origins.values in
    let nodes = c.self.inside.ages.nodes in
    let free : NoOrigin c.args.id nodes = subst (NoOrigin c.args.id) (sym c.self.view_is) c.requires in
    let sure = c.remove-origins.ensures.sure (inr (not_followed values nodes c.args.id c.self.invariant free)) in
    let gone = ok_gives _ c.remove-origins.result sure c.remove-origins.ensures.ok in
    subst (IsNodeMap c.remove-origins.new.self.values) (sym c.without-self-inside.ensures)
    (removed values c.remove-origins.new.self.values nodes c.args.id c.self.invariant (ap (λ m. m.values) gone))
