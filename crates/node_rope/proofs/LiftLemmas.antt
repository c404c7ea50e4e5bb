-- The link over a rotation.
use Rattle.std.proofs.Common.{◌≡◌, ℕ, ◌<◌, ◌⊎◌, inl, inr, true, false, cond, List, length, slice_set, Option, None, Some, refl, sym, ap, ◌∙◌, subst, arith}
use Rattle.std.proofs.Math.ListN.{length-set}
use Rattle.std.proofs.lemmas.Bool.Decides.{eqb_tells}
use Rattle.node_rope.specs.declared.cells.Shape.{Shape}
use Rattle.node_rope.specs.declared.cells.Link.{Link}
use Rattle.node_rope.specs.Shapes.{shape_at, link_number}
use Rattle.node_rope.specs.Walk.{replaced_child}
use Rattle.node_rope.specs.Turned.{leads, relinked_child, with_swapped_child, with_child}
use Rattle.node_rope.proofs.WalkLemmas.{moved-other, moved-here, some-same, none-some}
use Rattle.node_rope.proofs.RaiseLemmas.{set_same, set_other}

pub link-same : (l m : Link) → Some l ≡ Some m → m ≡ l
link-same l m e = cc

pub length-with_child : (ss : List Shape) (o : Option Link) (p : ℕ) (c : Link) → length (with_child ss o p c) ≡ length ss
length-with_child ss None p c = refl
length-with_child ss (Some g) p c = length-set ss g.number _

pub with_child-other : (ss : List Shape) (o : Option Link) (p : ℕ) (c : Link) (j : ℕ) → (link_number o ≡ Some j → ⊥) → shape_at (with_child ss o p c) j ≡ shape_at ss j
with_child-other ss None p c j h = refl
with_child-other ss (Some g) p c j h = set_other ss g.number j _ (λ e. h (ap Some (sym e)))

pub with_child-same : (ss : List Shape) (o : Option Link) (p : ℕ) (c : Link) (j : ℕ) → link_number o ≡ Some j → j < length ss
    → shape_at (with_child ss o p c) j ≡ with_swapped_child (shape_at ss j) p c
with_child-same ss None p c j e h = absurd (none-some j e)
with_child-same ss (Some g) p c j e h =
    let is = some-same g.number j e in
    subst (λ (k : ℕ). shape_at (slice_set ss g.number (with_swapped_child (shape_at ss g.number) p c)) k ≡ with_swapped_child (shape_at ss k) p c) is
    (set_same ss g.number _ (omega (arith, is, h)))

pub leads-tells : (o : Option Link) (i : ℕ) → ((leads o i ≡ true) × (link_number o ≡ Some i)) ⊎ ((leads o i ≡ false) × (link_number o ≡ Some i → ⊥))
leads-tells None i = inr (refl, none-some i)
leads-tells (Some l) i =
    elim (eqb_tells l.number i) as (λ _. ((leads (Some l) i ≡ true) × (link_number (Some l) ≡ Some i)) ⊎ ((leads (Some l) i ≡ false) × (link_number (Some l) ≡ Some i → ⊥))) [
      | inl e ↦ inl (e.0, ap Some e.1)
      | inr e ↦ inr (e.0, λ f. e.1 (some-same l.number i f))
    ]

-- a link of the node over c, with c in the place of p
pub relinked-moved : (o : Option Link) (p : ℕ) (c : Link) → link_number (relinked_child o p c) ≡ replaced_child p c.number (link_number o)
relinked-moved o p c = elim (leads-tells o p) as (λ _. link_number (relinked_child o p c) ≡ replaced_child p c.number (link_number o)) [
  | inl e ↦ ap (λ b. link_number (cond b (Some c) o)) e.0 ∙ sym (moved-here p c.number) ∙ ap (replaced_child p c.number) (sym e.1)
  | inr e ↦ ap (λ b. link_number (cond b (Some c) o)) e.0 ∙ sym (moved-other p c.number (link_number o) e.1)
]

pub relinked-from : (o : Option Link) (p : ℕ) (c m : Link) → relinked_child o p c ≡ Some m → (m ≡ c) ⊎ (o ≡ Some m)
relinked-from o p c m h = elim (leads-tells o p) as (λ _. (m ≡ c) ⊎ (o ≡ Some m)) [
  | inl e ↦ inl (link-same c m (sym (ap (λ b. cond b (Some c) o) e.0) ∙ h))
  | inr e ↦ inr (sym (ap (λ b. cond b (Some c) o) e.0) ∙ h)
]

pub swapped-field : {X : Type 0} (f : Shape → X) → ((s : Shape) (q : Option Link) → f (record s { left = q }) ≡ f s)
    → ((s : Shape) (q : Option Link) → f (record s { right = q }) ≡ f s) → (h : Shape) (p : ℕ) (c : Link) → f (with_swapped_child h p c) ≡ f h
swapped-field f l r h p c = r (record h { left = relinked_child h.left p c }) (relinked_child h.right p c) ∙ l h (relinked_child h.left p c)
