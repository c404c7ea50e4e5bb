-- What a rotation writes is a rotated tree: the left child comes up.
use Rattle.std.proofs.Common.{◌≡◌, ℕ, ◌+◌, ◌-◌, min, ◌<◌, ◌≢◌, ◌⊎◌, inl, inr, List, length, slice_set, Option, Some, sym, ap, ◌∙◌, arith}
use Rattle.std.proofs.Math.ListN.{length-set}
use Rattle.node_rope.specs.declared.turn.Side.TheVariants.{Left}
use Rattle.node_rope.specs.declared.cells.Shape.{Shape}
use Rattle.node_rope.specs.declared.cells.Link.{Link}
use Rattle.node_rope.specs.Shapes.{shape_at, link_number, tree_of, weight_at, least_at}
use Rattle.node_rope.specs.Walk.{Tree, count_of, HasCounts, IsLinked, replaced_child, IsTurned}
use Rattle.node_rope.specs.Grown.{with_parent}
use Rattle.node_rope.specs.Turned.{tree_count_at, with_swapped_child, with_child, lifted_shapes}
use Rattle.node_rope.proofs.WalkLemmas.{below-left, below-right, moved-other}
use Rattle.node_rope.proofs.RaiseLemmas.{set_same, set_other}
use Rattle.node_rope.proofs.JoinWriteLemmas.{length-with_parent, with_parent-other, with_parent-same}
use Rattle.node_rope.proofs.LiftLemmas.{with_child-other, with_child-same, leads-tells, relinked-moved, swapped-field}

module _ (ss : List Shape) (p c : Link) (ct : HasCounts (tree_of ss)) (linked : IsLinked (tree_of ss)) (was : link_number (shape_at ss p.number).left ≡ Some c.number)
    (in_p : p.number < length ss) (in_c : c.number < length ss) where
  abbrev t : Tree
  t = tree_of ss

  abbrev above : Shape
  above = shape_at ss p.number

  abbrev below : Shape
  below = shape_at ss c.number

  abbrev after : List Shape
  after = lifted_shapes Left ss p c above below

  low : below.count < above.count
  low = below-left t ct p.number c.number was

  differ : p.number ≢ c.number
  differ e = omega (arith, low, ap t.count e)

  abbrev new_p : Shape
  new_p = record above {
    left = below.right;
    parent = Some c;
    count = (above.count - below.count) + tree_count_at ss below.right;
    weight = (above.weight - below.weight) + weight_at ss below.right;
    least = min (least_at ss below.right) (min above.own.rank (least_at ss above.right));
  }

  abbrev new_c : Shape
  new_c = record below { right = Some p; parent = above.parent; count = above.count; weight = above.weight; least = above.least }

  pub at_c : shape_at after c.number ≡ new_c
  unfolding lifted_shapes
  at_c = set_same (slice_set (with_parent ss below.right (Some p)) p.number new_p) c.number new_c
      (omega (arith, in_c, length-set (with_parent ss below.right (Some p)) p.number new_p, length-with_parent ss below.right (Some p)))

  pub at_p : shape_at after p.number ≡ new_p
  unfolding lifted_shapes
  at_p = set_other (slice_set (with_parent ss below.right (Some p)) p.number new_p) c.number p.number new_c differ
      ∙ set_same (with_parent ss below.right (Some p)) p.number new_p (omega (arith, in_p, length-with_parent ss below.right (Some p)))

  pub at_else : (i : ℕ) → i ≢ p.number → i ≢ c.number → shape_at after i ≡ shape_at (with_parent ss below.right (Some p)) i
  unfolding lifted_shapes
  at_else i f g = set_other (slice_set (with_parent ss below.right (Some p)) p.number new_p) c.number i new_c g ∙ set_other (with_parent ss below.right (Some p)) p.number i new_p f

  pub at_middle : (m : ℕ) → link_number below.right ≡ Some m → m < length ss → shape_at after m ≡ record (shape_at ss m) { parent = Some p }
  at_middle m e h =
      let small = below-right t ct c.number m e in
      at_else m (λ f. omega (arith, small, low, ap t.count f)) (λ f. omega (arith, small, ap t.count f)) ∙ with_parent-same ss below.right (Some p) m e h

  pub at_other : (i : ℕ) → i ≢ p.number → i ≢ c.number → (link_number below.right ≡ Some i → ⊥) → shape_at after i ≡ shape_at ss i
  at_other i f g h = at_else i f g ∙ with_parent-other ss below.right (Some p) i h

module _ (ss : List Shape) (p c : Link) (ct : HasCounts (tree_of ss)) (linked : IsLinked (tree_of ss)) (was : link_number (shape_at ss p.number).left ≡ Some c.number)
    (in_p : p.number < length ss) (in_c : c.number < length ss)
    (in_right : (m : ℕ) → link_number (shape_at ss c.number).right ≡ Some m → m < length ss)
    (in_top : (g : ℕ) → link_number (shape_at ss p.number).parent ≡ Some g → g < length ss)
    (over : (g : ℕ) → link_number (shape_at ss p.number).parent ≡ Some g
    → (link_number (shape_at ss g).left ≡ Some p.number) ⊎ (link_number (shape_at ss g).right ≡ Some p.number)) where
  abbrev t' : Tree
  t' = tree_of ss

  abbrev top : Option Link
  top = (shape_at ss p.number).parent

  abbrev once_lifted : List Shape
  once_lifted = lifted_shapes Left ss p c (shape_at ss p.number) (shape_at ss c.number)

  abbrev all : List Shape
  all = with_child once_lifted top p.number c

  abbrev u' : Tree
  u' = tree_of all

  pub length-lifted : length once_lifted ≡ length ss
  unfolding lifted_shapes
  length-lifted = length-set _ c.number _ ∙ length-set _ p.number _ ∙ length-with_parent ss (shape_at ss c.number).right (Some p)

  under_top : (g : ℕ) → link_number top ≡ Some g → (shape_at ss p.number).count < (shape_at ss g).count
  under_top g e = elim (over g e) as (λ _. (shape_at ss p.number).count < (shape_at ss g).count) [
    | inl f ↦ below-left t' ct g p.number f
    | inr f ↦ below-right t' ct g p.number f
  ]

  low' : (shape_at ss c.number).count < (shape_at ss p.number).count
  low' = below-left t' ct p.number c.number was

  not_top_p : link_number top ≡ Some p.number → ⊥
  not_top_p e = omega (arith, under_top p.number e)

  not_top_c : link_number top ≡ Some c.number → ⊥
  not_top_c e = omega (arith, under_top c.number e, low')

  pub all_c : shape_at all c.number ≡ record (shape_at ss c.number)
      { right = Some p; parent = top; count = (shape_at ss p.number).count; weight = (shape_at ss p.number).weight; least = (shape_at ss p.number).least }
  all_c = with_child-other once_lifted top p.number c c.number not_top_c ∙ at_c ss p c ct linked was in_p in_c

  pub all_p : shape_at all p.number ≡ record (shape_at ss p.number) {
    left = (shape_at ss c.number).right;
    parent = Some c;
    count = ((shape_at ss p.number).count - (shape_at ss c.number).count) + tree_count_at ss (shape_at ss c.number).right;
    weight =
        ((shape_at ss p.number).weight - (shape_at ss c.number).weight) + weight_at ss (shape_at ss c.number).right;
    least =
        min (least_at ss (shape_at ss c.number).right) (min (shape_at ss p.number).own.rank (least_at ss (shape_at ss p.number).right));
  }
  all_p = with_child-other once_lifted top p.number c p.number not_top_p ∙ at_p ss p c ct linked was in_p in_c

  -- a node that is none of the two: the one over them, or one whose links stay
  module _ (i : ℕ) (ip : i ≢ p.number) (ic : i ≢ c.number) where
    no_middle : link_number top ≡ Some i → link_number (shape_at ss c.number).right ≡ Some i → ⊥
    no_middle e f = omega (arith, under_top i e, low', below-right t' ct c.number i f)

    pub at_top : link_number top ≡ Some i → shape_at all i ≡ with_swapped_child (shape_at ss i) p.number c
    at_top e = with_child-same once_lifted top p.number c i e (omega (arith, in_top i e, length-lifted))
        ∙ ap (λ h. with_swapped_child h p.number c) (at_other ss p c ct linked was in_p in_c i ip ic (no_middle e))

    pub at_rest : (link_number top ≡ Some i → ⊥)
        → (shape_at all i ≡ shape_at ss i) ⊎ ((link_number (shape_at ss c.number).right ≡ Some i) × (shape_at all i ≡ record (shape_at ss i) { parent = Some p }))
    at_rest e = elim (leads-tells (shape_at ss c.number).right i) as
        (λ _. (shape_at all i ≡ shape_at ss i) ⊎ ((link_number (shape_at ss c.number).right ≡ Some i) × (shape_at all i ≡ record (shape_at ss i) { parent = Some p }))) [
          | inl f ↦ inr (f.1, with_child-other once_lifted top p.number c i e ∙ at_middle ss p c ct linked was in_p in_c i f.1 (in_right i f.1))
          | inr f ↦ inl (with_child-other once_lifted top p.number c i e ∙ at_other ss p c ct linked was in_p in_c i ip ic f.1)
        ]

    links : (u'.left i ≡ replaced_child p.number c.number (t'.left i)) × (u'.right i ≡ replaced_child p.number c.number (t'.right i)) × (u'.count i ≡ t'.count i)
    links = elim (leads-tells top i) as (λ _. (u'.left i ≡ replaced_child p.number c.number (t'.left i)) × (u'.right i ≡ replaced_child p.number c.number (t'.right i))
        × (u'.count i ≡ t'.count i)) [
          | inl e ↦ (
            ap (λ h. link_number h.left) (at_top e.1) ∙ relinked-moved (shape_at ss i).left p.number c,
            ap (λ h. link_number h.right) (at_top e.1) ∙ relinked-moved (shape_at ss i).right p.number c,
            ap (λ h. h.count) (at_top e.1),
          )
          | inr e ↦ (
              let l : replaced_child p.number c.number (t'.left i) ≡ t'.left i = moved-other p.number c.number (t'.left i) (λ f. e.1 (linked.from_left i p.number f)) in
              let r : replaced_child p.number c.number (t'.right i) ≡ t'.right i = moved-other p.number c.number (t'.right i) (λ f. e.1 (linked.from_right i p.number f)) in
              elim (at_rest e.1) as (λ _. (u'.left i ≡ replaced_child p.number c.number (t'.left i)) × (u'.right i ≡ replaced_child p.number c.number (t'.right i))
              × (u'.count i ≡ t'.count i)) [
                | inl f ↦ (ap (λ h. link_number h.left) f ∙ sym l, ap (λ h. link_number h.right) f ∙ sym r, ap (λ h. h.count) f)
                | inr f ↦ (ap (λ h. link_number h.left) f.1 ∙ sym l, ap (λ h. link_number h.right) f.1 ∙ sym r, ap (λ h. h.count) f.1)
              ])
        ]

    parent_stays : (link_number (shape_at ss c.number).right ≡ Some i → ⊥) → u'.parent i ≡ t'.parent i
    parent_stays f = elim (leads-tells top i) as (λ _. u'.parent i ≡ t'.parent i) [
      | inl e ↦ ap (λ h. link_number h.parent) (at_top e.1)
      | inr e ↦ elim (at_rest e.1) as (λ _. u'.parent i ≡ t'.parent i) [
        | inl g ↦ ap (λ h. link_number h.parent) g
        | inr g ↦ absurd (f g.0)
      ]
    ]

  middle_parent : (m : ℕ) → t'.right c.number ≡ Some m → u'.parent m ≡ Some p.number
  middle_parent m e =
      let small = below-right t' ct c.number m e in
      ap (λ h. link_number h.parent) (with_child-other once_lifted top p.number c m (λ f. omega (arith, under_top m f, low', small))
      ∙ at_middle ss p c ct linked was in_p in_c m e (in_right m e))

  pub turned : IsTurned t' u' p.number c.number
  turned = record {
    rotated = record {
      was = was;
      c_left = ap (λ h. link_number h.left) all_c;
      c_right = ap (λ h. link_number h.right) all_c;
      p_left = ap (λ h. link_number h.left) all_p;
      p_right = ap (λ h. link_number h.right) all_p;
      others_left = λ x f g. (links x f g).0;
      others_right = λ x f g. (links x f g).1;
    };
    parent_c = ap (λ h. link_number h.parent) all_c;
    parent_p = ap (λ h. link_number h.parent) all_p;
    parent_middle = middle_parent;
    parent_others = parent_stays;
    count_c = ap (λ h. h.count) all_c;
    count_p = omega (arith, ap (λ h. h.count) all_p, ct p.number, ct c.number, ap (count_of t') was);
    count_others = λ x f g. (links x f g).2;
  }

  -- a field that no write touches
  pub untouched : {X : Type 0} (f : Shape → X) → ((s : Shape) (q : Option Link) → f (record s { left = q }) ≡ f s)
      → ((s : Shape) (q : Option Link) → f (record s { right = q }) ≡ f s) → ((s : Shape) (q : Option Link) → f (record s { parent = q }) ≡ f s)
      → (i : ℕ) → i ≢ p.number → i ≢ c.number → f (shape_at all i) ≡ f (shape_at ss i)
  untouched f l r q i ip ic = elim (leads-tells top i) as (λ _. f (shape_at all i) ≡ f (shape_at ss i)) [
    | inl e ↦ ap f (at_top i ip ic e.1) ∙ swapped-field f l r (shape_at ss i) p.number c
    | inr e ↦ elim (at_rest i ip ic e.1) as (λ _. f (shape_at all i) ≡ f (shape_at ss i)) [
      | inl g ↦ ap f g
      | inr g ↦ ap f g.1 ∙ q (shape_at ss i) (Some p)
    ]
  ]
