use Rattle.std.proofs.Common.{sym, ap, ◌∙◌}
use Rattle.node_rope.specs.Shapes.{link_number}
use Rattle.node_rope.proofs.AfterLemmas.{followed-right}
use Rattle.node_rope.proofs.find.node_after.Goals as goal

pub returns-in-Some-clause-behind : goal.returns-in-Some-clause-behind
returns-in-Some-clause-behind g c =
    let right = ap (λ h. link_number h.right) (sym c.shape.ensures) ∙ ap link_number c.in-Some.is in
    followed-right c.args.store.now c.args.root c.requires.sound c.args.at c.in-Some.right.number c.first_node.result.number c.requires.made right c.first_node.ensures.first
