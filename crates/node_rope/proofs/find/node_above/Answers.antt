use Rattle.std.proofs.Common.{◌≡◌, Some, inl, inr, suc, refl, sym, ap, ◌∙◌, arith}
use Rattle.node_rope.specs.Made.{made_count, shapes_of}
use Rattle.node_rope.specs.Shapes.{link_number, tree_of}
use Rattle.node_rope.proofs.ShapeLemmas.{made-below, nearer}
use Rattle.node_rope.proofs.AfterLemmas.{last-here, last-up, followed-up, followed-top}
use Rattle.node_rope.proofs.find.node_above.Goals as goal

pub up-init : goal.up-init
up-init g c = record {
  made = c.requires.made;
  read = c.shape-shape.ensures;
  last = last-here c.args.store.now c.args.root c.requires.sound c.args.at.number (ap link_number c.requires.last);
}

pub returns-then-leads_to-clause-behind : goal.returns-then-leads_to-clause-behind
returns-then-leads_to-clause-behind g c =
    let inv = c.up.invariant in
    let so = c.requires.sound in
    let up = ap (λ h. h.parent) (sym inv.read) ∙ c.in-Some.is in
    let left = ap (λ h. link_number h.left) (sym c.shape-above.ensures) ∙ c.if-leads_to.ensures.0 refl in
    followed-up c.args.store.now c.args.root so c.args.at.number c.up.cur.number c.in-Some.up (so.made_parent c.up.cur.number c.in-Some.up up) left inv.last

pub up-preserved : goal.up-preserved
up-preserved g c =
    let inv = c.up.invariant in
    let so = c.requires.sound in
    let t = tree_of (shapes_of c.args.store.now) in
    let i = c.up.cur.number in
    let p = c.in-Some.up.number in
    let up = ap (λ h. h.parent) (sym inv.read) ∙ c.in-Some.is in
    let right : t.right p ≡ Some i = elim (so.below i p (ap link_number up)) as (λ _. t.right p ≡ Some i) [
      | inl f ↦ absurd (let told = c.if-leads_to.ensures.1 (ap (λ h. link_number h.left) c.shape-above.ensures ∙ f) in cc)
      | inr f ↦ f
    ] in
    record {
      made = so.made_parent i c.in-Some.up up;
      read = c.shape-above.ensures;
      last = last-up c.args.store.now c.args.root so c.args.at.number i p right inv.last;
    }

pub up-smaller : goal.up-smaller
up-smaller g c =
    let inv = c.up.invariant in
    let up = ap (λ h. h.parent) (sym inv.read) ∙ c.in-Some.is in
    let near = nearer c.args.store.now c.args.root c.requires.sound c.up.cur.number c.in-Some.up up (suc (made_count c.args.store.now)) refl in
    omega (arith, near, ap (λ h. h.count) inv.read, ap (λ h. h.count) c.shape-above.ensures)

pub returns-clause-behind : goal.returns-clause-behind
returns-clause-behind g c =
    let inv = c.up.invariant in
    followed-top c.args.store.now c.args.root c.requires.sound c.args.at.number c.up.cur.number (made-below c.args.store.now c.up.cur inv.made)
    (ap (λ h. h.parent) (sym inv.read) ∙ c.in_default.is) inv.last
