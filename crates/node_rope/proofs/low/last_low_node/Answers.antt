use Rattle.std.proofs.Common.{◌-◌, drop, ap, ◌∙◌}
use Rattle.node_rope.specs.declared.turn.Side.TheVariants.{Right}
use Rattle.node_rope.specs.Made.{shapes_of}
use Rattle.node_rope.specs.Shapes.{ranks}
use Rattle.node_rope.specs.Low.{first_low, seen_order}
use Rattle.node_rope.proofs.LowLemmas.{last-seen-right}
use Rattle.node_rope.proofs.low.last_low_node.Goals as goal

pub returns-clause-found : goal.returns-clause-found
returns-clause-found g c =
    let a = c.args in
    c.low_node.ensures.found ∙ ap (λ n. first_low (ranks (shapes_of a.store.now)) a.most (drop n (seen_order Right a.store.now a.root)))
    (c.saturating_sub-behind.ensures ∙ ap (λ n. n - a.to) c.count_below.ensures)
    ∙ last-seen-right a.store.now a.root c.requires.sound a.most a.to
