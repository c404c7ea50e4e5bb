-- A rotated tree is counted and linked as before.
use Rattle.std.proofs.Common.{◌≡◌, ℕ, ◌+◌, ◌<◌, ◌≢◌, ◌⊎◌, inl, inr, Option, None, Some, refl, sym, ap, ◌∙◌, subst, arith}
use Rattle.std.proofs.lemmas.Bool.Decides.{eqb_tells}
use Rattle.node_rope.specs.Walk.{Tree, count_of, HasCounts, IsLinked, replaced_child, IsTurned}
use Rattle.node_rope.specs.Sums.{Measure, sum_of, IsSummed}
use Rattle.node_rope.proofs.WalkLemmas.{below-left, below-right, moved-other, moved-here, some-same, none-some}
use Rattle.fugue_ids.proofs.OptionLemmas.{cases_number}

-- what a moved link leads to
pub moved-cases : (p c : ℕ) (o : Option ℕ) (m : ℕ) → replaced_child p c o ≡ Some m → ((o ≡ Some p) × (m ≡ c)) ⊎ ((o ≡ Some m) × (m ≢ p))
moved-cases p c None m e = absurd (none-some m e)
moved-cases p c (Some x) m e = elim (cases_number x p) as (λ _. ((Some x ≡ Some p) × (m ≡ c)) ⊎ ((Some x ≡ Some m) × (m ≢ p))) [
  | inl f ↦ inl (ap Some f, some-same m c (sym e ∙ ap (λ y. replaced_child p c (Some y)) f ∙ moved-here p c))
  | inr f ↦ (
      let is : Some x ≡ Some m = sym (moved-other p c (Some x) (λ g. f (some-same x p g))) ∙ e in
      inr (is, λ g. f (some-same x m is ∙ g)))
]

module _ (t u : Tree) (ct : HasCounts t) (linked : IsLinked t) (p c : ℕ) (n : IsTurned t u p c) where
  open n use {rotated}

  low : t.count c < t.count p
  low = below-left t ct p c rotated.was

  apart : c ≢ p
  apart e = omega (arith, low, ap t.count e)

  -- a child of c is neither, and nor is one of p but c
  under-c : (o : Option ℕ) → ((m : ℕ) → o ≡ Some m → t.count m < t.count c) → count_of u o ≡ count_of t o
  under-c None h = refl
  under-c (Some m) h = n.count_others m (λ e. omega (arith, h m refl, low, ap t.count e)) (λ e. omega (arith, h m refl, ap t.count e))

  right-p : count_of u (t.right p) ≡ count_of t (t.right p)
  right-p = by (t.right p) refl where
    by : (o : Option ℕ) → t.right p ≡ o → count_of u o ≡ count_of t o
    by None e = refl
    by (Some m) e = n.count_others m (λ f. omega (arith, below-right t ct p m e, ap t.count f)) (λ f. linked.apart p c rotated.was (e ∙ ap Some f))

  others : (x : ℕ) → x ≢ p → (o : Option ℕ) → ((m : ℕ) → o ≡ Some m → t.parent m ≡ Some x) → count_of u (replaced_child p c o) ≡ count_of t o
  others x differs None back = refl
  others x differs (Some m) back = elim (cases_number m p) as (λ _. count_of u (replaced_child p c (Some m)) ≡ count_of t (Some m)) [
    | inl e ↦ ap (λ y. count_of u (replaced_child p c (Some y))) e ∙ ap (count_of u) (moved-here p c) ∙ n.count_c ∙ ap t.count (sym e)
    | inr e ↦ ap (count_of u) (moved-other p c (Some m) (λ f. e (some-same m p f)))
        ∙ n.count_others m e (λ f. differs (some-same x p (sym (back m refl) ∙ ap t.parent f ∙ linked.from_left p c rotated.was)))
  ]

  pub turned-counted : HasCounts u
  turned-counted i = elim (cases_number i c) as (λ _. u.count i ≡ count_of u (u.left i) + (count_of u (u.right i) + 1)) [
    | inl e ↦ subst (λ (j : ℕ). u.count j ≡ count_of u (u.left j) + (count_of u (u.right j) + 1)) (sym e)
        (omega (
          arith,
          n.count_c,
          n.count_p,
          ct p,
          ct c,
          ap (count_of t) rotated.was,
          ap (count_of u) rotated.c_left,
          ap (count_of u) rotated.c_right,
          under-c (t.left c) (below-left t ct c),
        ))
    | inr e ↦ elim (cases_number i p) as (λ _. u.count i ≡ count_of u (u.left i) + (count_of u (u.right i) + 1)) [
      | inl f ↦ subst (λ (j : ℕ). u.count j ≡ count_of u (u.left j) + (count_of u (u.right j) + 1)) (sym f)
          (omega (arith, n.count_p, ap (count_of u) rotated.p_left, ap (count_of u) rotated.p_right, under-c (t.right c) (below-right t ct c), right-p))
      | inr f ↦ omega (
        arith,
        ct i,
        n.count_others i f e,
        ap (count_of u) (rotated.others_left i f e),
        ap (count_of u) (rotated.others_right i f e),
        others i f (t.left i) (linked.from_left i),
        others i f (t.right i) (linked.from_right i),
      )
    ]
  ]

  -- the same of any sum
  module _ {M : Type 0} (m : Measure M) (assoc : (a b d : M) → m.both (m.both a b) d ≡ m.both a (m.both b d)) (own s s' : ℕ → M) (summed : IsSummed m t own s) (at_c : s' c ≡ s p)
      (at_p : s' p ≡ m.both (sum_of m s (t.right c)) (m.both (own p) (sum_of m s (t.right p)))) (rest : (x : ℕ) → x ≢ p → x ≢ c → s' x ≡ s x) where
    sum-under-c : (o : Option ℕ) → ((k : ℕ) → o ≡ Some k → t.count k < t.count c) → sum_of m s' o ≡ sum_of m s o
    sum-under-c None h = refl
    sum-under-c (Some k) h = rest k (λ e. omega (arith, h k refl, low, ap t.count e)) (λ e. omega (arith, h k refl, ap t.count e))

    sum-right-p : sum_of m s' (t.right p) ≡ sum_of m s (t.right p)
    sum-right-p = by (t.right p) refl where
      by : (o : Option ℕ) → t.right p ≡ o → sum_of m s' o ≡ sum_of m s o
      by None e = refl
      by (Some k) e = rest k (λ f. omega (arith, below-right t ct p k e, ap t.count f)) (λ f. linked.apart p c rotated.was (e ∙ ap Some f))

    sum-others : (x : ℕ) → x ≢ p → (o : Option ℕ) → ((k : ℕ) → o ≡ Some k → t.parent k ≡ Some x) → sum_of m s' (replaced_child p c o) ≡ sum_of m s o
    sum-others x differs None back = refl
    sum-others x differs (Some k) back = elim (cases_number k p) as (λ _. sum_of m s' (replaced_child p c (Some k)) ≡ sum_of m s (Some k)) [
      | inl e ↦ ap (λ y. sum_of m s' (replaced_child p c (Some y))) e ∙ ap (sum_of m s') (moved-here p c) ∙ at_c ∙ ap s (sym e)
      | inr e ↦ ap (sum_of m s') (moved-other p c (Some k) (λ f. e (some-same k p f)))
          ∙ rest k e (λ f. differs (some-same x p (sym (back k refl) ∙ ap t.parent f ∙ linked.from_left p c rotated.was)))
    ]

    abbrev Right : ℕ → Type 0
    Right i = s' i ≡ m.both (sum_of m s' (u.left i)) (m.both (own i) (sum_of m s' (u.right i)))

    right-c : Right c
    right-c =
        let lc = sum_of m s (t.left c) in
        let rc = sum_of m s (t.right c) in
        let rp = m.both (own p) (sum_of m s (t.right p)) in
        let left : lc ≡ sum_of m s' (u.left c) = sym (ap (sum_of m s') rotated.c_left ∙ sum-under-c (t.left c) (below-left t ct c)) in
        let right : m.both rc rp ≡ sum_of m s' (u.right c) = sym (ap (sum_of m s') rotated.c_right ∙ at_p) in
        at_c ∙ summed p ∙ ap (λ a. m.both a rp) (ap (sum_of m s) rotated.was ∙ summed c) ∙ assoc lc (m.both (own c) rc) rp ∙ ap (m.both lc) (assoc (own c) rc rp)
        ∙ (λ i. m.both (left i) (m.both (own c) (right i)))

    right-p-now : Right p
    right-p-now = at_p ∙ (λ i. m.both (sym (ap (sum_of m s') rotated.p_left ∙ sum-under-c (t.right c) (below-right t ct c)) i)
        (m.both (own p) (sym (ap (sum_of m s') rotated.p_right ∙ sum-right-p) i)))

    right-other : (x : ℕ) → x ≢ p → x ≢ c → Right x
    right-other x xp xc = rest x xp xc ∙ summed x
        ∙ (λ i. m.both (sym (ap (sum_of m s') (rotated.others_left x xp xc) ∙ sum-others x xp (t.left x) (linked.from_left x)) i)
        (m.both (own x) (sym (ap (sum_of m s') (rotated.others_right x xp xc) ∙ sum-others x xp (t.right x) (linked.from_right x)) i)))

    pub turned-sums : IsSummed m u own s'
    turned-sums i = elim (cases_number i c) as (λ _. Right i) [
      | inl e ↦ subst Right (sym e) right-c
      | inr e ↦ elim (cases_number i p) as (λ _. Right i) [
        | inl f ↦ subst Right (sym f) right-p-now
        | inr f ↦ right-other i f e
      ]
    ]

  -- a child of another node that is not p keeps its parent
  kept-parent : (x m : ℕ) → x ≢ c → x ≢ p → m ≢ p → t.parent m ≡ Some x → u.parent m ≡ Some x
  kept-parent x m xc xp mp e =
      n.parent_others m mp
      (λ f. xp (some-same x p (sym e ∙ ap t.parent f ∙ linked.from_left p c rotated.was)))
      (λ f. xc (some-same x c (sym e ∙ linked.from_right c m f)))
      ∙ e

  from_other : (x m : ℕ) → x ≢ p → x ≢ c → (o : Option ℕ) → replaced_child p c o ≡ Some m → ((k : ℕ) → o ≡ Some k → t.parent k ≡ Some x) → u.parent m ≡ Some x
  from_other x m xp xc o e back = elim (moved-cases p c o m e) as (λ _. u.parent m ≡ Some x) [
    | inl f ↦ ap u.parent f.1 ∙ n.parent_c ∙ back p f.0
    | inr f ↦ kept-parent x m xc xp f.1 (back m f.0)
  ]

  link_left : (x m : ℕ) → u.left x ≡ Some m → u.parent m ≡ Some x
  link_left x m e = elim (cases_number x c) as (λ _. u.parent m ≡ Some x) [
    | inl f ↦ (
        let l : t.left c ≡ Some m = sym rotated.c_left ∙ ap u.left (sym f) ∙ e in
        let small = below-left t ct c m l in
        n.parent_others m (λ g. omega (arith, small, low, ap t.count g)) (λ g. omega (arith, small, ap t.count g)) (λ g. linked.apart c m l g) ∙ linked.from_left c m l
        ∙ ap Some (sym f))
    | inr f ↦ elim (cases_number x p) as (λ _. u.parent m ≡ Some x) [
      | inl g ↦ n.parent_middle m (sym rotated.p_left ∙ ap u.left (sym g) ∙ e) ∙ ap Some (sym g)
      | inr g ↦ from_other x m g f (t.left x) (sym (rotated.others_left x g f) ∙ e) (linked.from_left x)
    ]
  ]

  link_right : (x m : ℕ) → u.right x ≡ Some m → u.parent m ≡ Some x
  link_right x m e = elim (cases_number x c) as (λ _. u.parent m ≡ Some x) [
    | inl f ↦ (
        let is : p ≡ m = some-same p m (sym rotated.c_right ∙ ap u.right (sym f) ∙ e) in
        ap u.parent (sym is) ∙ n.parent_p ∙ ap Some (sym f))
    | inr f ↦ elim (cases_number x p) as (λ _. u.parent m ≡ Some x) [
      | inl g ↦ (
          let r : t.right p ≡ Some m = sym rotated.p_right ∙ ap u.right (sym g) ∙ e in
          let small = below-right t ct p m r in
          n.parent_others m (λ h. omega (arith, small, ap t.count h)) (λ h. linked.apart p c rotated.was (r ∙ ap Some h))
          (λ h. apart (some-same c p (sym (linked.from_right c m h) ∙ linked.from_right p m r))) ∙ linked.from_right p m r ∙ ap Some (sym g))
      | inr g ↦ from_other x m g f (t.right x) (sym (rotated.others_right x g f) ∙ e) (linked.from_right x)
    ]
  ]

  -- links of another node lead apart
  apart_other : (x m : ℕ) → x ≢ p → (o q : Option ℕ) → replaced_child p c o ≡ Some m → replaced_child p c q ≡ Some m
      → ((k : ℕ) → o ≡ Some k → t.parent k ≡ Some x) → ((k : ℕ) → q ≡ Some k → t.parent k ≡ Some x) → ((k : ℕ) → o ≡ Some k → q ≡ Some k → ⊥) → ⊥
  apart_other x m xp o q e f bo bq ap_t = elim (moved-cases p c o m e) as (λ _. ⊥) [
    | inl g ↦ elim (moved-cases p c q m f) as (λ _. ⊥) [
      | inl h ↦ ap_t p g.0 h.0
      | inr h ↦ xp (some-same x p (sym (bq m h.0) ∙ ap t.parent g.1 ∙ linked.from_left p c rotated.was))
    ]
    | inr g ↦ elim (moved-cases p c q m f) as (λ _. ⊥) [
      | inl h ↦ xp (some-same x p (sym (bo m g.0) ∙ ap t.parent h.1 ∙ linked.from_left p c rotated.was))
      | inr h ↦ ap_t m g.0 h.0
    ]
  ]

  link_apart : (x m : ℕ) → u.left x ≡ Some m → u.right x ≡ Some m → ⊥
  link_apart x m e f = elim (cases_number x c) as (λ _. ⊥) [
    | inl g ↦ (
        let small = below-left t ct c m (sym rotated.c_left ∙ ap u.left (sym g) ∙ e) in
        let is : p ≡ m = some-same p m (sym rotated.c_right ∙ ap u.right (sym g) ∙ f) in
        omega (arith, small, low, ap t.count is))
    | inr g ↦ elim (cases_number x p) as (λ _. ⊥) [
      | inl h ↦ (
          let l = linked.from_right c m (sym rotated.p_left ∙ ap u.left (sym h) ∙ e) in
          let r = linked.from_right p m (sym rotated.p_right ∙ ap u.right (sym h) ∙ f) in
          apart (some-same c p (sym l ∙ r)))
      | inr h ↦ apart_other x m h (t.left x) (t.right x) (sym (rotated.others_left x h g) ∙ e) (sym (rotated.others_right x h g) ∙ f) (linked.from_left x) (linked.from_right x)
          (linked.apart x)
    ]
  ]

  pub turned-linked : IsLinked u
  turned-linked = record { from_left = link_left; from_right = link_right; apart = link_apart }

  opt-tells : (o : Option ℕ) (i : ℕ) → (o ≡ Some i) ⊎ (o ≡ Some i → ⊥)
  opt-tells None i = inr (none-some i)
  opt-tells (Some x) i = elim (cases_number x i) as (λ _. (Some x ≡ Some i) ⊎ (Some x ≡ Some i → ⊥)) [ inl e ↦ inl (ap Some e) | inr e ↦ inr (λ f. e (some-same x i f)) ]

  module _ (below : (i q : ℕ) → t.parent i ≡ Some q → (t.left q ≡ Some i) ⊎ (t.right q ≡ Some i)) where
    over-p : (q : ℕ) → t.parent p ≡ Some q → (u.left q ≡ Some c) ⊎ (u.right q ≡ Some c)
    over-p q e = elim (below p q e) as (λ _. (u.left q ≡ Some c) ⊎ (u.right q ≡ Some c)) [
      | inl f ↦ (let h = below-left t ct q p f in
          inl (rotated.others_left q (λ g. omega (arith, h, ap t.count g)) (λ g. omega (arith, h, low, ap t.count g)) ∙ ap (replaced_child p c) f ∙ moved-here p c))
      | inr f ↦ (let h = below-right t ct q p f in
          inr (rotated.others_right q (λ g. omega (arith, h, ap t.count g)) (λ g. omega (arith, h, low, ap t.count g)) ∙ ap (replaced_child p c) f ∙ moved-here p c))
    ]

    elsewhere-below : (i q : ℕ) → i ≢ p → i ≢ c → (t.right c ≡ Some i → ⊥) → t.parent i ≡ Some q → (u.left q ≡ Some i) ⊎ (u.right q ≡ Some i)
    elsewhere-below i q ip ic im e =
        let stays : replaced_child p c (Some i) ≡ Some i = moved-other p c (Some i) (λ g. ip (some-same i p g)) in
        elim (below i q e) as (λ _. (u.left q ≡ Some i) ⊎ (u.right q ≡ Some i)) [
          | inl f ↦ elim (cases_number q p) as (λ _. (u.left q ≡ Some i) ⊎ (u.right q ≡ Some i)) [
            | inl g ↦ absurd (ic (some-same i c (sym f ∙ ap t.left g ∙ rotated.was)))
            | inr g ↦ elim (cases_number q c) as (λ _. (u.left q ≡ Some i) ⊎ (u.right q ≡ Some i)) [
              | inl h ↦ inl (ap u.left h ∙ rotated.c_left ∙ ap t.left (sym h) ∙ f)
              | inr h ↦ inl (rotated.others_left q g h ∙ ap (replaced_child p c) f ∙ stays)
            ]
          ]
          | inr f ↦ elim (cases_number q p) as (λ _. (u.left q ≡ Some i) ⊎ (u.right q ≡ Some i)) [
            | inl g ↦ inr (ap u.right g ∙ rotated.p_right ∙ ap t.right (sym g) ∙ f)
            | inr g ↦ elim (cases_number q c) as (λ _. (u.left q ≡ Some i) ⊎ (u.right q ≡ Some i)) [
              | inl h ↦ absurd (im (ap t.right (sym h) ∙ f))
              | inr h ↦ inr (rotated.others_right q g h ∙ ap (replaced_child p c) f ∙ stays)
            ]
          ]
        ]

    pub turned-below : (i q : ℕ) → u.parent i ≡ Some q → (u.left q ≡ Some i) ⊎ (u.right q ≡ Some i)
    turned-below i q e = elim (cases_number i c) as (λ _. (u.left q ≡ Some i) ⊎ (u.right q ≡ Some i)) [
      | inl f ↦ subst (λ (k : ℕ). (u.left q ≡ Some k) ⊎ (u.right q ≡ Some k)) (sym f) (over-p q (sym n.parent_c ∙ ap u.parent (sym f) ∙ e))
      | inr f ↦ elim (cases_number i p) as (λ _. (u.left q ≡ Some i) ⊎ (u.right q ≡ Some i)) [
        | inl g ↦ (let is : c ≡ q = some-same c q (sym n.parent_p ∙ ap u.parent (sym g) ∙ e) in inr (ap u.right (sym is) ∙ rotated.c_right ∙ ap Some (sym g)))
        | inr g ↦ elim (opt-tells (t.right c) i) as (λ _. (u.left q ≡ Some i) ⊎ (u.right q ≡ Some i)) [
          | inl h ↦ (let is : p ≡ q = some-same p q (sym (n.parent_middle i h) ∙ e) in inl (ap u.left (sym is) ∙ rotated.p_left ∙ h))
          | inr h ↦ elsewhere-below i q g f h (sym (n.parent_others i g f h) ∙ e)
        ]
      ]
    ]

  -- the top of a rotated tree
  pub turned-top : (P : ℕ → Type 0) → P p → (root : Option ℕ) → ((i : ℕ) → P i → t.parent i ≡ None → root ≡ Some i) → (i : ℕ) → P i → u.parent i ≡ None
      → replaced_child p c root ≡ Some i
  turned-top P pp root top i pi e = elim (cases_number i c) as (λ _. replaced_child p c root ≡ Some i) [
    | inl f ↦ ap (replaced_child p c) (top p pp (sym n.parent_c ∙ ap u.parent (sym f) ∙ e)) ∙ moved-here p c ∙ ap Some (sym f)
    | inr f ↦ elim (cases_number i p) as (λ _. replaced_child p c root ≡ Some i) [
      | inl g ↦ absurd (none-some c (sym e ∙ ap u.parent g ∙ n.parent_p))
      | inr g ↦ elim (opt-tells (t.right c) i) as (λ _. replaced_child p c root ≡ Some i) [
        | inl h ↦ absurd (none-some p (sym e ∙ n.parent_middle i h))
        | inr h ↦ ap (replaced_child p c) (top i pi (sym (n.parent_others i g f h) ∙ e)) ∙ moved-other p c (Some i) (λ k. g (some-same i p k))
      ]
    ]
  ]

  pub turned-crown : (root : Option ℕ) → ((i : ℕ) → root ≡ Some i → t.parent i ≡ None) → (i : ℕ) → replaced_child p c root ≡ Some i → u.parent i ≡ None
  turned-crown root crown i e = elim (moved-cases p c root i e) as (λ _. u.parent i ≡ None) [
    | inl f ↦ ap u.parent f.1 ∙ n.parent_c ∙ crown p f.0
    | inr f ↦ (
        let none = crown i f.0 in
        n.parent_others i f.1 (λ g. none-some p (sym none ∙ ap t.parent g ∙ linked.from_left p c rotated.was)) (λ g. none-some c (sym none ∙ linked.from_right c i g)) ∙ none)
  ]
