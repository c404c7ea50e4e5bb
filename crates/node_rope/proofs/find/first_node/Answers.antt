use Rattle.std.proofs.Common.{sym, ap, ◌∙◌, arith}
use Rattle.node_rope.specs.Made.{shapes_of}
use Rattle.node_rope.specs.Shapes.{link_number, tree_of}
use Rattle.node_rope.proofs.WalkLemmas.{below-left}
use Rattle.node_rope.proofs.AfterLemmas.{first-left, first-here}
use Rattle.node_rope.proofs.find.first_node.Goals as goal

pub shape-shape-requires-in-Some : goal.shape-shape-requires-in-Some
shape-shape-requires-in-Some g c = c.requires.sound.made_left c.down.cur.number c.in-Some.left (ap (λ h. h.left) (sym c.down.invariant.read) ∙ c.in-Some.is)

pub down-preserved : goal.down-preserved
down-preserved g c =
    let inv = c.down.invariant in
    let so = c.requires.sound in
    let down = ap (λ h. h.left) (sym inv.read) ∙ c.in-Some.is in
    record {
      made = so.made_left c.down.cur.number c.in-Some.left down;
      read = c.shape-shape-in-Some.ensures;
      same = sym (first-left c.args.store.now c.args.root so c.down.cur.number c.in-Some.left.number (ap link_number down)) ∙ inv.same;
    }

pub down-smaller : goal.down-smaller
down-smaller g c =
    let inv = c.down.invariant in
    let down = ap (λ h. h.left) (sym inv.read) ∙ c.in-Some.is in
    let less = below-left (tree_of (shapes_of c.args.store.now)) c.requires.sound.counted c.down.cur.number c.in-Some.left.number (ap link_number down) in
    omega (arith, less, ap (λ h. h.count) inv.read, ap (λ h. h.count) c.shape-shape-in-Some.ensures)

pub returns-clause-first : goal.returns-clause-first
returns-clause-first g c =
    let inv = c.down.invariant in
    sym inv.same ∙ first-here c.args.store.now c.args.root c.requires.sound c.down.cur.number (ap (λ h. link_number h.left) (sym inv.read) ∙ ap link_number c.in_default.is)
