-- One step of the climb that raises sums.
use Rattle.std.proofs.Common.{◌≡◌, ℕ, ◌+◌, ◌<◌, ◌≤◌, ◌≢◌, ◌⊎◌, inl, inr, List, length, slice_set, Option, None, Some, refl, sym, ap, ◌∙◌, subst, arith}
use Rattle.std.proofs.lemmas.List.{get_or-set_other, get_or-set_same}
use Rattle.node_rope.specs.declared.store.Store.{Store}
use Rattle.node_rope.specs.declared.cells.Shape.{Shape}
use Rattle.node_rope.specs.declared.cells.Link.{Link}
use Rattle.node_rope.specs.declared.cells.Own.{Own}
use Rattle.node_rope.specs.Made.{IsMade, KeepsMade, shapes_of}
use Rattle.node_rope.specs.Shapes.{shape_at, lone_shape, link_number, tree_of, owns, weights, ranks, leasts}
use Rattle.node_rope.specs.Walk.{Tree, IsLinked}
use Rattle.node_rope.specs.Sums.{Measure, sum_measure, lesser, sum_of}
use Rattle.node_rope.specs.Joined.{IsSummedBut, IsBelow}
use Rattle.node_rope.specs.Rising.{IsLikewise, IsRising, IsRaised, SameLinks, left_to_rise, AreSmall, more}
use Rattle.node_rope.proofs.WalkLemmas.{some-same}
use Rattle.node_rope.proofs.ShapeLemmas.{length-shapes, made-below}
use Rattle.node_rope.proofs.JoinLemmas.{raised-once, adding-commutes, lesser-commutes}
use Rattle.fugue_ids.proofs.OptionLemmas.{cases_number}

pub set_same : (ss : List Shape) (i : ℕ) (h : Shape) → i < length ss → shape_at (slice_set ss i h) i ≡ h
set_same ss i h p = get_or-set_same ss i h lone_shape p

pub set_other : (ss : List Shape) (i j : ℕ) (h : Shape) → j ≢ i → shape_at (slice_set ss i h) j ≡ shape_at ss j
set_other ss i j h p = get_or-set_other ss i j h lone_shape p

-- one shape is written
module _ {T : Type 0} (s u : Store T) (l : Link) (h : Shape) (made : IsMade s l) (is : shapes_of u ≡ slice_set (shapes_of s) l.number h) where
  pub written : shape_at (shapes_of u) l.number ≡ h
  written = ap (λ xs. shape_at xs l.number) is ∙ set_same (shapes_of s) l.number h (omega (arith, made-below s l made, length-shapes s))

  pub unwritten : (i : ℕ) → i ≢ l.number → shape_at (shapes_of u) i ≡ shape_at (shapes_of s) i
  unwritten i e = ap (λ xs. shape_at xs i) is ∙ set_other (shapes_of s) l.number i h e

likewise : (h : Shape) → IsLikewise h h
likewise h = record { left = refl; right = refl; parent = refl; key = refl; own = refl }

pub links-trans : (ss us ws : List Shape) → SameLinks ss us → SameLinks us ws → SameLinks ss ws
links-trans ss us ws f g i = let a = f i in let b =
    g i in record { left = b.left ∙ a.left; right = b.right ∙ a.right; parent = b.parent ∙ a.parent; key = b.key ∙ a.key; own = b.own ∙ a.own }

pub linked-along : (ss us : List Shape) → SameLinks ss us → IsLinked (tree_of ss) → IsLinked (tree_of us)
linked-along ss us same linked = record {
  from_left = λ x m e. ap link_number (same m).parent ∙ linked.from_left x m (sym (ap link_number (same x).left) ∙ e);
  from_right = λ x m e. ap link_number (same m).parent ∙ linked.from_right x m (sym (ap link_number (same x).right) ∙ e);
  apart = λ x m e f. linked.apart x m (sym (ap link_number (same x).left) ∙ e) (sym (ap link_number (same x).right) ∙ f);
}

pub below-along : (ss us : List Shape) → SameLinks ss us → IsBelow (tree_of ss) → IsBelow (tree_of us)
below-along ss us same below i p e =
    elim (below i p (sym (ap link_number (same i).parent) ∙ e)) as (λ _. (link_number (shape_at us p).left ≡ Some i) ⊎ (link_number (shape_at us p).right ≡ Some i)) [
      | inl f ↦ inl (ap link_number (same p).left ∙ f)
      | inr f ↦ inr (ap link_number (same p).right ∙ f)
    ]

module _ {T : Type 0} (s u : Store T) (w : Own) (l : Link) (rising : IsRising s w (Some l)) (kept : KeepsMade s u)
    (is : shapes_of u ≡ slice_set (shapes_of s) l.number (more w (shape_at (shapes_of s) l.number))) where
  abbrev ss : List Shape
  ss = shapes_of s

  abbrev us : List Shape
  us = shapes_of u

  abbrev x : ℕ
  x = l.number

  here : shape_at us x ≡ more w (shape_at ss x)
  here = written s u l (more w (shape_at ss x)) (rising.made_here l refl) is

  elsewhere : (i : ℕ) → i ≢ x → shape_at us i ≡ shape_at ss i
  elsewhere = unwritten s u l (more w (shape_at ss x)) (rising.made_here l refl) is

  step-links : SameLinks ss us
  step-links i = elim (cases_number i x) as (λ _. IsLikewise (shape_at ss i) (shape_at us i)) [
    | inl e ↦ subst (λ (j : ℕ). IsLikewise (shape_at ss j) (shape_at us j)) (sym e)
        (subst (λ h. IsLikewise (shape_at ss x) h) (sym here) (record { left = refl; right = refl; parent = refl; key = refl; own = refl }))
    | inr e ↦ subst (λ h. IsLikewise (shape_at ss i) h) (sym (elsewhere i e)) (likewise (shape_at ss i))
  ]

  own : (z : ℕ) → (tree_of ss).parent x ≡ Some z → z ≢ x
  own z e f = rising.proper x (e ∙ ap Some f)

  higher : (z : ℕ) → (tree_of ss).parent x ≡ Some z → (shape_at ss x).count + 1 ≤ (shape_at ss z).count
  higher z e = elim (rising.below x z e) as (λ _. (shape_at ss x).count + 1 ≤ (shape_at ss z).count) [
    | inl f ↦ omega (arith, rising.counts.rest z (λ g. own z e (some-same z x (sym g))), ap (sum_of sum_measure (tree_of ss).count) f)
    | inr f ↦ omega (arith, rising.counts.rest z (λ g. own z e (some-same z x (sym g))), ap (sum_of sum_measure (tree_of ss).count) f)
  ]

  -- the same with single values that are equal
  with-owns : {M : Type 0} (m : Measure M) (own own' s' : ℕ → M) (t : Tree) (d : M) (o : Option ℕ) → ((i : ℕ) → own' i ≡ own i) → IsSummedBut m t own s' d o
      → IsSummedBut m t own' s' d o
  with-owns m own own' s' t d o e b = record {
    low = λ z f. b.low z f ∙ ap (λ a. m.both (sum_of m s' (t.left z)) (m.both a (sum_of m s' (t.right z)))) (sym (e z));
    rest = λ z f. b.rest z f ∙ ap (λ a. m.both (sum_of m s' (t.left z)) (m.both a (sum_of m s' (t.right z)))) (sym (e z));
  }

  step-rising : IsRising u w (shape_at ss x).parent
  step-rising = record {
    counts = raised-once sum_measure adding-commutes (tree_of ss) (tree_of us) rising.linked rising.below (λ _. 1) (tree_of ss).count (tree_of us).count 1 x
        (λ i. ap link_number (step-links i).left) (λ i. ap link_number (step-links i).right)
        (ap (λ h. h.count) here) (λ i e. ap (λ h. h.count) (elsewhere i e)) (rising.proper x) rising.counts;
    weighs = with-owns sum_measure (owns ss) (owns us) (weights us) (tree_of us) w.weight (link_number (shape_at ss x).parent) (λ i. ap (λ o. o.weight) (step-links i).own)
        (raised-once sum_measure adding-commutes (tree_of ss) (tree_of us) rising.linked rising.below (owns ss) (weights ss) (weights us) w.weight x
        (λ i. ap link_number (step-links i).left) (λ i. ap link_number (step-links i).right)
        (ap (λ h. h.weight) here) (λ i e. ap (λ h. h.weight) (elsewhere i e)) (rising.proper x) rising.weighs);
    lowest = with-owns lesser (ranks ss) (ranks us) (leasts us) (tree_of us) w.rank (link_number (shape_at ss x).parent) (λ i. ap (λ o. o.rank) (step-links i).own)
        (raised-once lesser lesser-commutes (tree_of ss) (tree_of us) rising.linked rising.below (ranks ss) (leasts ss) (leasts us) w.rank x
        (λ i. ap link_number (step-links i).left) (λ i. ap link_number (step-links i).right)
        (ap (λ h. h.least) here) (λ i e. ap (λ h. h.least) (elsewhere i e)) (rising.proper x) rising.lowest);
    linked = linked-along ss us step-links rising.linked;
    below = below-along ss us step-links rising.below;
    proper = λ i e. rising.proper i (sym (ap link_number (step-links i).parent) ∙ e);
    made_here = λ m e. kept m (rising.made_parent x m e);
    made_parent = λ i m e. kept m (rising.made_parent i m (sym (step-links i).parent ∙ e));
  }

  module _ (ss₀ : List Shape) (raised : IsRaised ss₀ ss w (Some l)) where
    up_kept : (z : ℕ) → link_number (shape_at ss x).parent ≡ Some z → shape_at us z ≡ shape_at ss z
    up_kept z e = elsewhere z (own z e)

    step-raised : IsRaised ss₀ us w (shape_at ss x).parent
    step-raised = record {
      each = λ i. elim (cases_number i x) as (λ _. (shape_at us i ≡ shape_at ss₀ i)
          ⊎ ((shape_at us i ≡ more w (shape_at ss₀ i)) × ((z : ℕ) → link_number (shape_at ss x).parent ≡ Some z → (shape_at us i).count ≤ (shape_at us z).count))) [
            | inl e ↦ inr (
              ap (shape_at us) e ∙ here ∙ ap (more w) (raised.at x refl ∙ ap (shape_at ss₀) (sym e)),
              λ z f. omega (arith, ap (λ h. h.count) here, higher z f, ap (λ h. h.count) (up_kept z f), ap (λ (j : ℕ). (shape_at us j).count) e),
            )
            | inr e ↦ elim (raised.each i) as (λ _. (shape_at us i ≡ shape_at ss₀ i)
                ⊎ ((shape_at us i ≡ more w (shape_at ss₀ i)) × ((z : ℕ) → link_number (shape_at ss x).parent ≡ Some z → (shape_at us i).count ≤ (shape_at us z).count))) [
                  | inl f ↦ inl (elsewhere i e ∙ f)
                  | inr f ↦ inr (elsewhere i e ∙ f.0, λ z g. omega (arith, ap (λ h. h.count) (elsewhere i e), f.1 x refl, higher z g, ap (λ h. h.count) (up_kept z g)))
                ]
          ];
      at = λ z e. elim (raised.each z) as (λ _. shape_at us z ≡ shape_at ss₀ z) [
        | inl f ↦ up_kept z e ∙ f
        | inr f ↦ absurd (omega (arith, f.1 x refl, higher z e))
      ];
    }

    step-smaller : AreSmall ss₀ w.weight → left_to_rise us (shape_at ss x).parent < left_to_rise ss (Some l)
    step-smaller small = by (shape_at ss x).parent refl where
      by : (o : Option Link) → (shape_at ss x).parent ≡ o → left_to_rise us o < left_to_rise ss (Some l)
      by None e = omega arith
      by (Some z) e = let f = ap link_number e in omega (arith, ap (λ h. h.count) (up_kept z.number f), higher z.number f, small.counts x, ap (λ h. h.count) (raised.at x refl))

-- ---- one step of the loop: q is the next node
pub record IsRaisedOnce {T : Type 0} (s u : Store T) (w : Own) (o q : Option Link) : Type 0 where
  pub rising : IsRising u w q
  pub links : SameLinks (shapes_of s) (shapes_of u)
  pub raised : (ss₀ : List Shape) → IsRaised ss₀ (shapes_of s) w o → IsRaised ss₀ (shapes_of u) w q
  pub smaller : (ss₀ : List Shape) → IsRaised ss₀ (shapes_of s) w o → AreSmall ss₀ w.weight → left_to_rise (shapes_of u) q < left_to_rise (shapes_of s) o

pub raised-step : {T : Type 0} (s u : Store T) (w : Own) (o q : Option Link) (l : Link) → o ≡ Some l → IsRising s w o → q ≡ (shape_at (shapes_of s) l.number).parent → KeepsMade s u
    → shapes_of u ≡ slice_set (shapes_of s) l.number (more w (shape_at (shapes_of s) l.number)) → IsRaisedOnce s u w o q
raised-step s u w o q l is_l rising up kept writes = subst (λ o. IsRaisedOnce s u w o q) (sym is_l) (subst (λ o. IsRaisedOnce s u w (Some l) o) (sym up) once) where
  at : IsRising s w (Some l)
  at = subst (IsRising s w) is_l rising

  once : IsRaisedOnce s u w (Some l) (shape_at (shapes_of s) l.number).parent
  once = record {
    rising = step-rising s u w l at kept writes;
    links = step-links s u w l at kept writes;
    raised = step-raised s u w l at kept writes;
    smaller = step-smaller s u w l at kept writes;
  }
