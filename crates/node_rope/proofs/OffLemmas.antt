-- One step of the climb that adds a difference to the weights.
use Rattle.std.proofs.Common.{◌≡◌, ◌≢◌, ◌⊎◌, inl, inr, ℕ, ◌+◌, ◌-◌, min, ◌<◌, ◌≤◌, List, slice_set, Option, None, Some, refl, sym, ap, ◌∙◌, subst, arith}
use Rattle.node_rope.specs.declared.store.Store.{Store}
use Rattle.node_rope.specs.declared.cells.Shape.{Shape}
use Rattle.node_rope.specs.declared.cells.Link.{Link}
use Rattle.node_rope.specs.Made.{KeepsMade, made_count, shapes_of}
use Rattle.node_rope.specs.Shapes.{shape_at, link_number, tree_of, weight_at, weights, least_at}
use Rattle.node_rope.specs.Sums.{sum_measure, sum_of}
use Rattle.node_rope.specs.Reweighed.{IsSoundBut, IsOff, AreOff, summed_node, reweighed_node}
use Rattle.node_rope.proofs.WalkLemmas.{some-same, below-left, below-right}
use Rattle.node_rope.proofs.ShapeLemmas.{weight-sum}
use Rattle.node_rope.proofs.RaiseLemmas.{written, unwritten}
use Rattle.node_rope.proofs.ReweighLemmas.{IsSummedOnce, summed-step}
use Rattle.fugue_ids.proofs.OptionLemmas.{cases_number}

-- the difference brings a node's weight to the sum
shifted-summed : (ss : List Shape) (less more : ℕ) (l : Link) → IsOff ss less more l → reweighed_node less more (shape_at ss l.number) ≡ summed_node ss (shape_at ss l.number)
shifted-summed ss less more l off =
    let h = shape_at ss l.number in
    let sum = weight_at ss h.left + (h.own.weight + weight_at ss h.right) in
    let e : (h.weight + more) - less ≡ sum = omega (arith, off.weight) in
    ap (λ (w : ℕ). record h { weight = w }) e ∙ ap (λ (r : ℕ). record h { weight = sum; least = r }) off.least

module _ {T : Type 0} (s u : Store T) (root : Option Link) (l : Link) (less more : ℕ) (b : IsSoundBut s root (Some l)) (off : IsOff (shapes_of s) less more l)
    (is : shapes_of u ≡ slice_set (shapes_of s) l.number (reweighed_node less more (shape_at (shapes_of s) l.number))) where
  abbrev x : ℕ
  x = l.number

  abbrev ss : List Shape
  ss = shapes_of s

  abbrev us : List Shape
  us = shapes_of u

  here : shape_at us x ≡ reweighed_node less more (shape_at ss x)
  here = written s u l (reweighed_node less more (shape_at ss x)) (b.here l refl) is

  elsewhere : (i : ℕ) → i ≢ x → shape_at us i ≡ shape_at ss i
  elsewhere = unwritten s u l (reweighed_node less more (shape_at ss x)) (b.here l refl) is

  same-least : (i : ℕ) → (shape_at us i).least ≡ (shape_at ss i).least
  same-least i = elim (cases_number i x) as (λ _. (shape_at us i).least ≡ (shape_at ss i).least) [
    | inl e ↦ ap (λ (j : ℕ). (shape_at us j).least) e ∙ ap (λ (h : Shape). h.least) here ∙ ap (λ (j : ℕ). (shape_at ss j).least) (sym e)
    | inr e ↦ ap (λ (h : Shape). h.least) (elsewhere i e)
  ]

  same-least-at : (o : Option Link) → least_at us o ≡ least_at ss o
  same-least-at None = refl
  same-least-at (Some k) = same-least k.number

  weight-here : (o : Option Link) → link_number o ≡ Some x → weight_at us o + less ≡ weight_at ss o + more
  weight-here o e =
      let new = weight-sum us o ∙ ap (sum_of sum_measure (weights us)) e in
      let old = weight-sum ss o ∙ ap (sum_of sum_measure (weights ss)) e in
      omega (arith, new, old, ap (λ (h : Shape). h.weight) here, off.weight)

  weight-there : (o : Option Link) → (link_number o ≡ Some x → ⊥) → weight_at us o ≡ weight_at ss o
  weight-there None e = refl
  weight-there (Some k) e = ap (λ (h : Shape). h.weight) (elsewhere k.number (λ f. e (ap Some f)))

  -- at the parent
  module _ (p : Link) (up : (shape_at ss x).parent ≡ Some p) where
    abbrev y : ℕ
    y = p.number

    side : (link_number (shape_at ss y).left ≡ Some x) ⊎ (link_number (shape_at ss y).right ≡ Some x)
    side = b.tree.below x y (ap link_number up)

    apart : y ≢ x
    apart e = elim side as (λ _. ⊥) [
      | inl f ↦ (let h = below-left (tree_of ss) b.tree.counted y x f in omega (arith, h, ap (λ (j : ℕ). (shape_at ss j).count) e))
      | inr f ↦ (let h = below-right (tree_of ss) b.tree.counted y x f in omega (arith, h, ap (λ (j : ℕ). (shape_at ss j).count) e))
    ]

    same : shape_at us y ≡ shape_at ss y
    same = elsewhere y apart

    -- the sum there has gained what the child has
    gained : weight_at us (shape_at ss y).left + (weight_at us (shape_at ss y).right + less) ≡ weight_at ss (shape_at ss y).left + (weight_at ss (shape_at ss y).right + more)
    gained = elim side as (λ _. weight_at us (shape_at ss y).left + (weight_at us (shape_at ss y).right + less) ≡ weight_at ss
        (shape_at ss y).left + (weight_at ss (shape_at ss y).right + more)) [
          | inl f ↦ (let l' = weight-here (shape_at ss y).left f in let r' = weight-there (shape_at ss y).right (λ g. b.tree.linked.apart y x f g) in omega (arith, l', r'))
          | inr f ↦ (let l' = weight-there (shape_at ss y).left (λ g. b.tree.linked.apart y x g f) in let r' = weight-here (shape_at ss y).right f in omega (arith, l', r'))
        ]

    parent-off : IsOff us less more p
    parent-off =
        let other : link_number (Some l) ≡ Some y → ⊥ = λ e. apart (sym (some-same x y e)) in
        let old = b.tree.weighed y other in
        let left : least_at ss (shape_at ss y).left ≡ least_at us (shape_at us y).left = sym (ap (λ (h : Shape). least_at us h.left) same ∙ same-least-at (shape_at ss y).left) in
        let right : least_at ss (shape_at ss y).right ≡ least_at us (shape_at us y).right =
        sym (ap (λ (h : Shape). least_at us h.right) same ∙ same-least-at (shape_at ss y).right) in
        let rank : (shape_at ss y).own.rank ≡ (shape_at us y).own.rank = sym (ap (λ (h : Shape). h.own.rank) same) in record {
          weight = omega (
            arith,
            old,
            gained,
            ap (λ (h : Shape). h.weight) same,
            ap (λ (h : Shape). h.own.weight) same,
            ap (λ (h : Shape). weight_at us h.left) same,
            ap (λ (h : Shape). weight_at us h.right) same,
          );
          least = same-least y ∙ b.tree.ranked y other ∙ (λ j. min (left j) (min (rank j) (right j)));
        }

-- the sum and the difference fit
pub off-fits : {T : Type 0} (s : Store T) (root o : Option Link) (l : Link) → o ≡ Some l → IsSoundBut s root o → (more : ℕ) → more < 4294967296
    → (shape_at (shapes_of s) l.number).weight + more < 18446744073709551616
off-fits s root o l is_l b more small = omega (arith, b.bound l.number, b.tree.small l.number, b.few, small)

pub off-covers : (ss : List Shape) (less more : ℕ) (o : Option Link) (l : Link) → o ≡ Some l → AreOff ss less more o → less ≤ (shape_at ss l.number).weight + more
off-covers ss less more o l is_l off = omega (arith, (off l is_l).weight)

-- one step of the loop: q is the next node
pub record IsShiftedOnce {T : Type 0} (s u : Store T) (root : Option Link) (less more : ℕ) (o q : Option Link) : Type 0 where
  pub once : IsSummedOnce s u root o q
  pub off : AreOff (shapes_of u) less more q

pub shifted-step : {T : Type 0} (s u : Store T) (root : Option Link) (less more : ℕ) (o q : Option Link) (l : Link) → o ≡ Some l → IsSoundBut s root o
    → AreOff (shapes_of s) less more o → q ≡ (shape_at (shapes_of s) l.number).parent → made_count u ≡ made_count s → KeepsMade s u
    → shapes_of u ≡ slice_set (shapes_of s) l.number (reweighed_node less more (shape_at (shapes_of s) l.number)) → IsShiftedOnce s u root less more o q
shifted-step s u root less more o q l is_l b off up count kept is =
    let h = shape_at (shapes_of s) l.number in
    let at = off l is_l in
    subst (λ o'. IsShiftedOnce s u root less more o o') (sym up) (record {
      once = summed-step s u root o l is_l b h (reweighed_node less more h) refl (shifted-summed (shapes_of s) less more l at) count kept is;
      off = λ p e. parent-off s u root l less more (subst (IsSoundBut s root) is_l b) at is p e;
    })
