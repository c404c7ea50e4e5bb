-- What a store's tree is once a node has joined, and once the sums above it are raised.
use Rattle.std.proofs.Common.{◌≡◌, ℕ, ◌+◌, min, ◌<◌, ◌≤◌, ◌≢◌, ◌⊎◌, inl, inr, List, length, Option, None, Some, refl, sym, ap, ◌∙◌, subst, arith}
use Rattle.fugue_ids.specs.Identifiers.{Identifier}
use Rattle.node_rope.specs.declared.turn.Side.TheVariants.{Left}
use Rattle.node_rope.specs.declared.cells.Shape.{Shape}
use Rattle.node_rope.specs.declared.cells.Link.{Link}
use Rattle.node_rope.specs.declared.cells.Own.{Own}
use Rattle.node_rope.specs.Shapes.{shape_at, link_number, tree_of, weights, owns, leasts, ranks, IsWeighed, IsRanked}
use Rattle.node_rope.specs.Walk.{HasCounts, IsLinked, mirror}
use Rattle.node_rope.specs.Sums.{sum_measure, lesser, no_rank}
use Rattle.node_rope.specs.Joined.{IsJoined, IsSummedBut, IsBelow}
use Rattle.node_rope.specs.Grown.{new_beside, joined_beside}
use Rattle.node_rope.specs.Sides.{mirrored_shape}
use Rattle.node_rope.proofs.FaceLemmas.{tree_by}
use Rattle.node_rope.proofs.MirrorLemmas.{mirror-but, mirror-linked, mirror-below}
use Rattle.node_rope.proofs.ShapeLemmas.{weight-sum, least-sum}
use Rattle.node_rope.proofs.JoinLemmas.{some-or-not, count-sum, counted-summed, joined-sums, adding-commutes, lesser-commutes, joined-proper, joined-linked, joined-below}
use Rattle.node_rope.proofs.JoinLemmas.{joined-top, joined-crown}
use Rattle.node_rope.proofs.JoinWriteLemmas as joining
use Rattle.node_rope.proofs.JoinWriteLemmas.{AreWithin}
use Rattle.fugue_ids.proofs.OptionLemmas.{cases_number}
use Rattle.node_rope.proofs.LiftLemmas.{link-same}

-- where a link of the new tree comes from
abbrev pub Came : (ℕ → Shape) → Link → Link → Link → Type 0
Came f at l m = (m ≡ l) ⊎ ((m ≡ at) ⊎ ((j : ℕ) × (((f j).left ≡ Some m) ⊎ (((f j).right ≡ Some m) ⊎ ((f j).parent ≡ Some m)))))

-- the shapes g are f and a new node, with the sums above it not yet raised
pub record IsEntered (f g : ℕ → Shape) (at l : Link) (w : Own) : Type 0 where
  pub counts : IsSummedBut sum_measure (tree_by g) (λ _. 1) (λ i. (g i).count) 1 (Some at.number)
  pub weighs : IsSummedBut sum_measure (tree_by g) (λ i. (g i).own.weight) (λ i. (g i).weight) w.weight (Some at.number)
  pub lowest : IsSummedBut lesser (tree_by g) (λ i. (g i).own.rank) (λ i. (g i).least) w.rank (Some at.number)
  pub linked : IsLinked (tree_by g)
  pub below : IsBelow (tree_by g)
  pub proper : (i : ℕ) → link_number (g i).parent ≡ Some i → ⊥
  pub top : (i : ℕ) → link_number (g i).parent ≡ None → (i ≢ l.number) × (link_number (f i).parent ≡ None)
  pub crown : (i : ℕ) → i ≢ l.number → link_number (f i).parent ≡ None → link_number (g i).parent ≡ None
  pub count_same : (i : ℕ) → i ≢ l.number → (g i).count ≡ (f i).count
  pub weight_same : (i : ℕ) → i ≢ l.number → (g i).weight ≡ (f i).weight
  pub key_same : (i : ℕ) → i ≢ l.number → (g i).key ≡ (f i).key
  pub own_same : (i : ℕ) → i ≢ l.number → (g i).own ≡ (f i).own
  pub new_count : (g l.number).count ≤ (f at.number).count
  pub new_weight : (g l.number).weight ≤ (f at.number).weight + w.weight
  pub lefts : (i : ℕ) (m : Link) → (g i).left ≡ Some m → Came f at l m
  pub rights : (i : ℕ) (m : Link) → (g i).right ≡ Some m → Came f at l m
  pub parents : (i : ℕ) (m : Link) → (g i).parent ≡ Some m → Came f at l m

-- the same with the sides exchanged
flip-came : (f : ℕ → Shape) (at l m : Link) → Came (λ i. mirrored_shape (f i)) at l m → Came f at l m
flip-came f at l m (inl e) = inl e
flip-came f at l m (inr (inl e)) = inr (inl e)
flip-came f at l m (inr (inr (j, inl e))) = inr (inr (j, inr (inl e)))
flip-came f at l m (inr (inr (j, inr (inl e)))) = inr (inr (j, inl e))
flip-came f at l m (inr (inr (j, inr (inr e)))) = inr (inr (j, inr (inr e)))

pub flip-entered : (f g : ℕ → Shape) (at l : Link) (w : Own) → IsEntered (λ i. mirrored_shape (f i)) (λ i. mirrored_shape (g i)) at l w → IsEntered f g at l w
flip-entered f g at l w e = record {
  counts = mirror-but sum_measure adding-commutes (tree_by g) (λ _. 1) (λ i. (g i).count) 1 (Some at.number) e.counts;
  weighs = mirror-but sum_measure adding-commutes (tree_by g) (λ i. (g i).own.weight) (λ i. (g i).weight) w.weight (Some at.number) e.weighs;
  lowest = mirror-but lesser lesser-commutes (tree_by g) (λ i. (g i).own.rank) (λ i. (g i).least) w.rank (Some at.number) e.lowest;
  linked = mirror-linked (mirror (tree_by g)) e.linked;
  below = mirror-below (mirror (tree_by g)) e.below;
  proper = e.proper;
  top = e.top;
  crown = e.crown;
  count_same = e.count_same;
  weight_same = e.weight_same;
  key_same = e.key_same;
  own_same = e.own_same;
  new_count = e.new_count;
  new_weight = e.new_weight;
  lefts = λ i m h. flip-came f at l m (e.rights i m h);
  rights = λ i m h. flip-came f at l m (e.lefts i m h);
  parents = λ i m h. flip-came f at l m (e.parents i m h);
}

no-link : (m : Link) → None ≡ Some m → ⊥
no-link m e = cc

module _ (ss : List Shape) (at l : Link) (key : Identifier) (w : Own) (ct : HasCounts (tree_of ss)) (wt : IsWeighed ss) (rt : IsRanked ss) (fits : w.rank ≤ no_rank)
    (linked : IsLinked (tree_of ss)) (below : IsBelow (tree_of ss))
    (within : AreWithin ss) (in_y : at.number < length ss) (number : l.number ≡ length ss) where
  abbrev h_before : Shape
  h_before = new_beside Left ss at key w

  abbrev us_before : List Shape
  us_before = joined_beside Left ss at l h_before

  pub joins_before : IsJoined (tree_of ss) (tree_of us_before) at.number l.number
  joins_before = joining.is-joined-before ss at l h_before ct within in_y number refl refl refl

  new_before_is : shape_at us_before l.number ≡ h_before
  new_before_is = joining.at_n-before ss at l h_before ct within in_y number refl refl refl

  same_before : {X : Type 0} (f : Shape → X) → ((s : Shape) (q : Option Link) → f (record s { parent = q }) ≡ f s)
      → ((s : Shape) (q : Option Link) → f (record s { left = q }) ≡ f s) → (x : ℕ) → x ≢ l.number → f (shape_at us_before x) ≡ f (shape_at ss x)
  same_before = joining.field-before ss at l h_before ct within in_y number refl refl refl

  entered_lefts_before : (i : ℕ) (m : Link) → (shape_at us_before i).left ≡ Some m → Came (shape_at ss) at l m
  entered_lefts_before i m e = elim (cases_number i at.number) as (λ _. Came (shape_at ss) at l m) [
    | inl f ↦ inl (link-same l m (sym (ap (λ s. s.left) (joining.at_y_before ss at l h_before ct within in_y number refl refl refl))
        ∙ ap (λ (j : ℕ). (shape_at us_before j).left) (sym f) ∙ e))
    | inr f ↦ elim (cases_number i l.number) as (λ _. Came (shape_at ss) at l m) [
      | inl g ↦ inr (inr (at.number, inl (sym (ap (λ s. s.left) new_before_is) ∙ ap (λ (j : ℕ). (shape_at us_before j).left) (sym g) ∙ e)))
      | inr g ↦ inr (inr (i, inl (sym (joining.others-before ss at l h_before ct within in_y number refl refl refl (λ s. s.left) (λ s q. refl) i f g) ∙ e)))
    ]
  ]

  entered_rights_before : (i : ℕ) (m : Link) → (shape_at us_before i).right ≡ Some m → Came (shape_at ss) at l m
  entered_rights_before i m e = elim (cases_number i l.number) as (λ _. Came (shape_at ss) at l m) [
    | inl g ↦ absurd (no-link m (sym (ap (λ s. s.right) new_before_is) ∙ ap (λ (j : ℕ). (shape_at us_before j).right) (sym g) ∙ e))
    | inr g ↦ inr (inr (i, inr (inl (sym (same_before (λ s. s.right) (λ s q. refl) (λ s q. refl) i g) ∙ e))))
  ]

  entered_parents_before : (i : ℕ) (m : Link) → (shape_at us_before i).parent ≡ Some m → Came (shape_at ss) at l m
  entered_parents_before i m e = elim (cases_number i l.number) as (λ _. Came (shape_at ss) at l m) [
    | inl g ↦ inr (inl (link-same at m (sym (ap (λ s. s.parent) new_before_is) ∙ ap (λ (j : ℕ). (shape_at us_before j).parent) (sym g) ∙ e)))
    | inr g ↦ elim (some-or-not (link_number (shape_at ss at.number).left) i) as (λ _. Came (shape_at ss) at l m) [
      | inl f ↦ inl (link-same l m (sym (ap (λ s. s.parent) (joining.at_m-before ss at l h_before ct within in_y number refl refl refl i f)) ∙ e))
      | inr f ↦ inr (inr (i, inr (inr (sym (joining.parents-before ss at l h_before ct within in_y number refl refl refl i g f) ∙ e))))
    ]
  ]

  pub entered_before : IsEntered (shape_at ss) (shape_at us_before) at l w
  entered_before =
      let t = tree_of ss in
      let u = (tree_of us_before) in
      let c = ct in
      let j = joins_before in
      let cs = joined-sums t u c linked below at.number l.number j sum_measure adding-commutes (λ _. 1) (λ _. 1) (tree_of ss).count (tree_of us_before).count (counted-summed t c)
      (λ x e. refl)
      (λ x e. same_before (λ s. s.count) (λ s q. refl) (λ s q. refl) x e)
      (omega (arith, ap (λ s. s.count) new_before_is, count-sum (tree_of ss) (link_number (shape_at ss at.number).left))) (omega arith) in
      let own_new : (shape_at us_before l.number).own ≡ w = ap (λ s. s.own) new_before_is in
      let ws = joined-sums t u c linked below at.number l.number j sum_measure adding-commutes (owns ss) (owns us_before) (weights ss) (weights us_before) wt
      (λ x e. same_before (λ s. s.own.weight) (λ s q. refl) (λ s q. refl) x e) (λ x e. same_before (λ s. s.weight) (λ s q. refl) (λ s q. refl) x e)
      (omega (arith, ap (λ s. s.weight) new_before_is, ap (λ o. o.weight) own_new, weight-sum ss (shape_at ss at.number).left)) (omega arith) in
      let rank_new = ap (λ o. o.rank) own_new in
      let ls = joined-sums t u c linked below at.number l.number j lesser lesser-commutes (ranks ss) (ranks us_before) (leasts ss) (leasts us_before) rt
      (λ x e. same_before (λ s. s.own.rank) (λ s q. refl) (λ s q. refl) x e) (λ x e. same_before (λ s. s.least) (λ s q. refl) (λ s q. refl) x e)
      (ap (λ s. s.least) new_before_is ∙ (λ i. min (least-sum ss (shape_at ss at.number).left i) (sym rank_new i))) (omega (arith, rank_new, fits)) in
      record {
        counts = cs;
        weighs = subst (λ (d : ℕ). IsSummedBut sum_measure u (owns us_before) (weights us_before) d (Some at.number)) (ap (λ o. o.weight) own_new) ws;
        lowest = subst (λ (d : ℕ). IsSummedBut lesser u (ranks us_before) (leasts us_before) d (Some at.number)) rank_new ls;
        linked = joined-linked t u c linked below at.number l.number j;
        below = joined-below t u c linked below at.number l.number j;
        proper = joined-proper t u c linked below at.number l.number j;
        top = joined-top t u c linked below at.number l.number j;
        crown = joined-crown t u c linked below at.number l.number j;
        count_same = λ i e. same_before (λ s. s.count) (λ s q. refl) (λ s q. refl) i e;
        weight_same = λ i e. same_before (λ s. s.weight) (λ s q. refl) (λ s q. refl) i e;
        key_same = λ i e. same_before (λ s. s.key) (λ s q. refl) (λ s q. refl) i e;
        own_same = λ i e. same_before (λ s. s.own) (λ s q. refl) (λ s q. refl) i e;
        new_count = omega (arith, ap (λ s. s.count) new_before_is, ct at.number);
        new_weight = omega (arith, ap (λ s. s.weight) new_before_is, wt at.number, weight-sum ss (shape_at ss at.number).left);
        lefts = entered_lefts_before;
        rights = entered_rights_before;
        parents = entered_parents_before;
      }

  pub key_before : (shape_at us_before l.number).key ≡ key
  key_before = ap (λ s. s.key) new_before_is

  pub own_before : (shape_at us_before l.number).own ≡ w
  own_before = ap (λ s. s.own) new_before_is
