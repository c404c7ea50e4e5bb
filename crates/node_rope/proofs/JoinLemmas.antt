-- A tree that a node has joined.
use Rattle.std.proofs.Common.{◌≡◌, ℕ, ◌≢◌, ◌⊎◌, inl, inr, Option, None, Some, refl, sym, ap, ◌∙◌, subst, arith}
use Rattle.node_rope.specs.Walk.{Tree, count_of, HasCounts, IsLinked, IsAttached}
use Rattle.node_rope.specs.Sums.{Measure, IsCommutative, sum_measure, lesser, sum_of, IsSummed}
use Rattle.node_rope.specs.Joined.{IsJoined, IsSummedBut, IsBelow}
use Rattle.node_rope.proofs.WalkLemmas.{below-left, below-right, some-same, none-some}
use Rattle.fugue_ids.proofs.OptionLemmas.{cases_number}

pub some-or-not : (o : Option ℕ) (i : ℕ) → (o ≡ Some i) ⊎ (o ≡ Some i → ⊥)
some-or-not None i = inr (λ e. none-some i e)
some-or-not (Some x) i = elim (cases_number x i) as (λ _. (Some x ≡ Some i) ⊎ (Some x ≡ Some i → ⊥)) [ inl e ↦ inl (ap Some e) | inr e ↦ inr (λ f. e (some-same x i f)) ]

pub count-sum : (t : Tree) (o : Option ℕ) → count_of t o ≡ sum_of sum_measure t.count o
count-sum t None = refl
count-sum t (Some x) = refl

pub counted-summed : (t : Tree) → HasCounts t → IsSummed sum_measure t (λ _. 1) t.count
counted-summed t c x = omega (arith, c x, count-sum t (t.left x), count-sum t (t.right x))

pub summed-counted : (t : Tree) → IsSummed sum_measure t (λ _. 1) t.count → HasCounts t
summed-counted t s x = omega (arith, s x, count-sum t (t.left x), count-sum t (t.right x))

pub adding-commutes : IsCommutative sum_measure
adding-commutes = record { assoc = λ a b c. omega arith; comm = λ a b. omega arith }

pub lesser-commutes : IsCommutative lesser
lesser-commutes = record { assoc = λ a b c. omega arith; comm = λ a b. omega arith }

pub all-right : {M : Type 0} (m : Measure M) (t : Tree) (own s : ℕ → M) (d : M) → IsSummedBut m t own s d None → IsSummed m t own s
all-right m t own s d b x = b.rest x (λ e. none-some x e)

module _ {M : Type 0} (m : Measure M) (C : IsCommutative m) where
  -- what is added to a sum is added to its first part, or to its last
  add-first : (l x d : M) → m.both (m.both l x) d ≡ m.both (m.both l d) x
  add-first l x d = C.assoc l x d ∙ ap (m.both l) (C.comm x d) ∙ sym (C.assoc l d x)

  add-last : (l o r d : M) → m.both (m.both l (m.both o r)) d ≡ m.both l (m.both o (m.both r d))
  add-last l o r d = C.assoc l (m.both o r) d ∙ ap (m.both l) (C.assoc o r d)

  -- the parts of a sum the other way round
  pub turn-round : (l o r : M) → m.both l (m.both o r) ≡ m.both r (m.both o l)
  turn-round l o r = C.comm l (m.both o r) ∙ ap (λ x. m.both x l) (C.comm o r) ∙ C.assoc r o l

module _ (t u : Tree) (ct : HasCounts t) (linked : IsLinked t) (below : IsBelow t) (y n : ℕ) (j : IsJoined t u y n) where
  module _ {M : Type 0} (m : Measure M) (C : IsCommutative m) (own own' s s' : ℕ → M) (summed : IsSummed m t own s) (eo : (x : ℕ) → x ≢ n → own' x ≡ own x)
      (es : (x : ℕ) → x ≢ n → s' x ≡ s x)
      (en : s' n ≡ m.both (sum_of m s (t.left y)) (own' n)) (alone : m.both (own' n) m.none ≡ own' n) where
    -- a sum of a child is as it was
    same : (o : Option ℕ) → (o ≡ Some n → ⊥) → sum_of m s' o ≡ sum_of m s o
    same None h = refl
    same (Some k) h = es k (λ f. h (ap Some f))

    abbrev Right : ℕ → Type 0
    Right k = s' k ≡ m.both (sum_of m s' (u.left k)) (m.both (own' k) (sum_of m s' (u.right k)))

    right-y : sum_of m s' (u.right y) ≡ sum_of m s (t.right y)
    right-y = ap (sum_of m s') (j.others_right y (λ f. j.fresh (sym f))) ∙ same (t.right y) (j.new_right y)

    low-y : m.both (s' y) (own' n) ≡ m.both (sum_of m s' (u.left y)) (m.both (own' y) (sum_of m s' (u.right y)))
    low-y =
        let yn : y ≢ n = λ f. j.fresh (sym f) in
        let left : m.both (sum_of m s (t.left y)) (own' n) ≡ sum_of m s' (u.left y) = sym en ∙ ap (sum_of m s') (sym j.y_left) in
        ap (λ a. m.both a (own' n)) (es y yn ∙ summed y) ∙ add-first m C (sum_of m s (t.left y)) (m.both (own y) (sum_of m s (t.right y))) (own' n)
        ∙ (λ i. m.both (left i) (m.both (sym (eo y yn) i) (sym right-y i)))

    right-n : Right n
    right-n = en ∙ (λ i. m.both (sym (ap (sum_of m s') j.n_left ∙ same (t.left y) (j.new_left y)) i) ((sym alone ∙ ap (λ o. m.both (own' n) (sum_of m s' o)) (sym j.n_right)) i))

    right-other : (x : ℕ) → x ≢ y → x ≢ n → Right x
    right-other x xy xn = es x xn ∙ summed x
        ∙ (λ i. m.both (sym (ap (sum_of m s') (j.others_left x xy xn) ∙ same (t.left x) (j.new_left x)) i)
        (m.both (sym (eo x xn) i) (sym (ap (sum_of m s') (j.others_right x xn) ∙ same (t.right x) (j.new_right x)) i)))

    pub joined-sums : IsSummedBut m u own' s' (own' n) (Some y)
    joined-sums = record {
      low = λ x e. subst (λ (k : ℕ). m.both (s' k) (own' n) ≡ m.both (sum_of m s' (u.left k)) (m.both (own' k) (sum_of m s' (u.right k)))) (some-same y x e) low-y;
      rest = λ x e. elim (cases_number x n) as (λ _. Right x) [
        | inl f ↦ subst Right (sym f) right-n
        | inr f ↦ right-other x (λ g. e (ap Some (sym g))) f
      ];
    }

  own-parent : (i : ℕ) → t.parent i ≡ Some i → ⊥
  own-parent i e = elim (below i i e) as (λ _. ⊥) [
    | inl f ↦ (let h = below-left t ct i i f in omega (arith, h))
    | inr f ↦ (let h = below-right t ct i i f in omega (arith, h))
  ]

  pub joined-proper : (i : ℕ) → u.parent i ≡ Some i → ⊥
  joined-proper i e = elim (cases_number i n) as (λ _. ⊥) [
    | inl f ↦ j.fresh (some-same n y (ap Some (sym f) ∙ sym e ∙ ap u.parent f ∙ j.n_parent))
    | inr f ↦ (
        let nl : t.left y ≡ Some i → ⊥ = λ g. f (sym (some-same n i (sym (j.moved_parent i g) ∙ e))) in
        own-parent i (sym (j.others_parent i f nl) ∙ e))
  ]

  -- the parent of a child of a node other than y
  kept : (x m : ℕ) → x ≢ y → t.parent m ≡ Some x → u.parent m ≡ Some x
  kept x m xy e = j.others_parent m not-new (λ g. xy (some-same x y (sym e ∙ linked.from_left y m g))) ∙ e where
    not-new : m ≡ n → ⊥
    not-new f = elim (below m x e) as (λ _. ⊥) [ inl g ↦ j.new_left x (g ∙ ap Some f) | inr g ↦ j.new_right x (g ∙ ap Some f) ]

  joined_left : (x m : ℕ) → u.left x ≡ Some m → u.parent m ≡ Some x
  joined_left x m e = elim (cases_number x y) as (λ _. u.parent m ≡ Some x) [
    | inl f ↦ (let is : n ≡ m = some-same n m (sym j.y_left ∙ ap u.left (sym f) ∙ e) in ap u.parent (sym is) ∙ j.n_parent ∙ ap Some (sym f))
    | inr f ↦ elim (cases_number x n) as (λ _. u.parent m ≡ Some x) [
      | inl g ↦ j.moved_parent m (sym j.n_left ∙ ap u.left (sym g) ∙ e) ∙ ap Some (sym g)
      | inr g ↦ kept x m f (linked.from_left x m (sym (j.others_left x f g) ∙ e))
    ]
  ]

  joined_right : (x m : ℕ) → u.right x ≡ Some m → u.parent m ≡ Some x
  joined_right x m e = elim (cases_number x n) as (λ _. u.parent m ≡ Some x) [
    | inl f ↦ absurd (none-some m (sym j.n_right ∙ ap u.right (sym f) ∙ e))
    | inr f ↦ (
        let r : t.right x ≡ Some m = sym (j.others_right x f) ∙ e in
        elim (cases_number x y) as (λ _. u.parent m ≡ Some x) [
          | inl g ↦ j.others_parent m (λ h. j.new_right x (r ∙ ap Some h)) (λ h. linked.apart y m h (ap t.right (sym g) ∙ r)) ∙ linked.from_right x m r
          | inr g ↦ kept x m g (linked.from_right x m r)
        ])
  ]

  joined_apart : (x m : ℕ) → u.left x ≡ Some m → u.right x ≡ Some m → ⊥
  joined_apart x m e f = elim (cases_number x n) as (λ _. ⊥) [
    | inl g ↦ none-some m (sym j.n_right ∙ ap u.right (sym g) ∙ f)
    | inr g ↦ elim (cases_number x y) as (λ _. ⊥) [
      | inl h ↦ (let is : n ≡ m = some-same n m (sym j.y_left ∙ ap u.left (sym h) ∙ e) in j.new_right x (sym (j.others_right x g) ∙ f ∙ ap Some (sym is)))
      | inr h ↦ linked.apart x m (sym (j.others_left x h g) ∙ e) (sym (j.others_right x g) ∙ f)
    ]
  ]

  pub joined-linked : IsLinked u
  joined-linked = record { from_left = joined_left; from_right = joined_right; apart = joined_apart }

  pub joined-below : IsBelow u
  joined-below i p e = elim (cases_number i n) as (λ _. (u.left p ≡ Some i) ⊎ (u.right p ≡ Some i)) [
    | inl f ↦ (let is : y ≡ p = some-same y p (sym j.n_parent ∙ ap u.parent (sym f) ∙ e) in inl (ap u.left (sym is) ∙ j.y_left ∙ ap Some (sym f)))
    | inr f ↦ elim (some-or-not (t.left y) i) as (λ _. (u.left p ≡ Some i) ⊎ (u.right p ≡ Some i)) [
      | inl g ↦ (let is : n ≡ p = some-same n p (sym (j.moved_parent i g) ∙ e) in inl (ap u.left (sym is) ∙ j.n_left ∙ g))
      | inr g ↦ (
          let was : t.parent i ≡ Some p = sym (j.others_parent i f g) ∙ e in
          let pn : p ≢ n = λ h. j.new_parent i (was ∙ ap Some h) in
          elim (below i p was) as (λ _. (u.left p ≡ Some i) ⊎ (u.right p ≡ Some i)) [
            | inl h ↦ inl (j.others_left p (λ k. g (ap t.left (sym k) ∙ h)) pn ∙ h)
            | inr h ↦ inr (j.others_right p pn ∙ h)
          ])
    ]
  ]

  pub joined-top : (i : ℕ) → u.parent i ≡ None → (i ≢ n) × (t.parent i ≡ None)
  joined-top i e = (
    λ f. none-some y (sym e ∙ ap u.parent f ∙ j.n_parent),
    (
        let nn : i ≢ n = λ f. none-some y (sym e ∙ ap u.parent f ∙ j.n_parent) in
        sym (j.others_parent i nn (λ g. none-some n (sym e ∙ j.moved_parent i g))) ∙ e),
  )

  pub joined-crown : (i : ℕ) → i ≢ n → t.parent i ≡ None → u.parent i ≡ None
  joined-crown i ne e = j.others_parent i ne (λ g. none-some y (sym e ∙ linked.from_left y i g)) ∙ e

  pub joined-attached : (v : Tree) → ((i : ℕ) → v.left i ≡ u.left i) → ((i : ℕ) → v.right i ≡ u.right i) → IsAttached t v y n
  joined-attached v l r = record {
    y_left = l y ∙ j.y_left;
    n_left = l n ∙ j.n_left;
    n_right = r n ∙ j.n_right;
    others_left = λ x f g. l x ∙ j.others_left x f g;
    others_right = λ x g. r x ∙ j.others_right x g;
    new_left = j.new_left;
    new_right = j.new_right;
  }

-- ---- one step of the climb: what is lacking is added at x
module _ {M : Type 0} (m : Measure M) (C : IsCommutative m) (t u : Tree) (linked : IsLinked t) (below : IsBelow t) (own s s' : ℕ → M) (d : M) (x : ℕ)
    (same_left : (i : ℕ) → u.left i ≡ t.left i) (same_right : (i : ℕ) → u.right i ≡ t.right i)
    (here : s' x ≡ m.both (s x) d) (others : (i : ℕ) → i ≢ x → s' i ≡ s i) (proper : t.parent x ≡ Some x → ⊥) (b : IsSummedBut m t own s d (Some x)) where
  same_sum : (o : Option ℕ) → (o ≡ Some x → ⊥) → sum_of m s' o ≡ sum_of m s o
  same_sum None h = refl
  same_sum (Some k) h = others k (λ e. h (ap Some e))

  more_sum : (o : Option ℕ) → o ≡ Some x → m.both (sum_of m s o) d ≡ sum_of m s' o
  more_sum o e = ap (λ q. m.both (sum_of m s q) d) e ∙ sym here ∙ ap (sum_of m s') (sym e)

  left_is : (z : ℕ) → (t.left z ≡ Some x → ⊥) → sum_of m s (t.left z) ≡ sum_of m s' (u.left z)
  left_is z h = sym (same_sum (t.left z) h) ∙ ap (sum_of m s') (sym (same_left z))

  right_is : (z : ℕ) → (t.right z ≡ Some x → ⊥) → sum_of m s (t.right z) ≡ sum_of m s' (u.right z)
  right_is z h = sym (same_sum (t.right z) h) ∙ ap (sum_of m s') (sym (same_right z))

  abbrev Lacking : ℕ → Type 0
  Lacking z = m.both (s' z) d ≡ m.both (sum_of m s' (u.left z)) (m.both (own z) (sum_of m s' (u.right z)))

  lacks-left : (z : ℕ) → z ≢ x → t.left z ≡ Some x → Lacking z
  lacks-left z zx f =
      let added = more_sum (t.left z) f ∙ ap (sum_of m s') (sym (same_left z)) in
      let kept = right_is z (linked.apart z x f) in
      ap (λ a. m.both a d) (others z zx ∙ b.rest z (λ g. zx (some-same z x (sym g)))) ∙ add-first m C (sum_of m s (t.left z)) (m.both (own z) (sum_of m s (t.right z))) d
      ∙ (λ i. m.both (added i) (m.both (own z) (kept i)))

  lacks-right : (z : ℕ) → z ≢ x → t.right z ≡ Some x → Lacking z
  lacks-right z zx f =
      let added = more_sum (t.right z) f ∙ ap (sum_of m s') (sym (same_right z)) in
      let kept = left_is z (λ g. linked.apart z x g f) in
      ap (λ a. m.both a d) (others z zx ∙ b.rest z (λ g. zx (some-same z x (sym g)))) ∙ add-last m C (sum_of m s (t.left z)) (own z) (sum_of m s (t.right z)) d
      ∙ (λ i. m.both (kept i) (m.both (own z) (added i)))

  abbrev Sums : ℕ → Type 0
  Sums z = s' z ≡ m.both (sum_of m s' (u.left z)) (m.both (own z) (sum_of m s' (u.right z)))

  sums-here : Sums x
  sums-here = here ∙ b.low x refl ∙ (λ i. m.both (left_is x (λ g. proper (linked.from_left x x g)) i) (m.both (own x) (right_is x (λ g. proper (linked.from_right x x g)) i)))

  sums-other : (z : ℕ) → z ≢ x → (t.parent x ≡ Some z → ⊥) → Sums z
  sums-other z f e = others z f ∙ b.rest z (λ g. f (some-same z x (sym g)))
      ∙ (λ i. m.both (left_is z (λ g. e (linked.from_left z x g)) i) (m.both (own z) (right_is z (λ g. e (linked.from_right z x g)) i)))

  pub raised-once : IsSummedBut m u own s' d (t.parent x)
  raised-once = record {
    low = λ z e. (
        let zx : z ≢ x = λ f. proper (e ∙ ap Some f) in
        elim (below x z e) as (λ _. Lacking z) [ inl f ↦ lacks-left z zx f | inr f ↦ lacks-right z zx f ]);
    rest = λ z e. elim (cases_number z x) as (λ _. Sums z) [
      | inl f ↦ subst Sums (sym f) sums-here
      | inr f ↦ sums-other z f e
    ];
  }
