-- What is written where a node joins, node by node.
use Rattle.std.proofs.Common.{◌≡◌, ℕ, zero, suc, ◌+◌, ◌<◌, ◌≤◌, ◌≢◌, inl, inr, List, [], ◌∷◌, ◌++◌, length, slice_set, Option, None, Some, refl, sym, ap, ◌∙◌, subst, arith}
use lib.ListN.{length-set, length-append}
use Rattle.node_rope.specs.declared.turn.Side.TheVariants.{Left}
use Rattle.node_rope.specs.declared.cells.Shape.{Shape}
use Rattle.node_rope.specs.declared.cells.Link.{Link}
use Rattle.node_rope.specs.Shapes.{shape_at, lone_shape, link_number, tree_of}
use Rattle.node_rope.specs.Walk.{HasCounts}
use Rattle.node_rope.specs.Grown.{with_parent, joined_beside}
use Rattle.node_rope.specs.Joined.{IsJoined}
use Rattle.node_rope.proofs.WalkLemmas.{below-left, some-same, none-some}
use Rattle.node_rope.proofs.JoinLemmas.{some-or-not}
use Rattle.node_rope.proofs.RaiseLemmas.{set_same, set_other}
use Rattle.fugue_ids.proofs.OptionLemmas.{cases_number}

pub got-more : (ss : List Shape) (h : Shape) (x : ℕ) → x ≢ length ss → shape_at (ss ++ h ∷ []) x ≡ shape_at ss x
got-more [] h zero e = absurd (e refl)
got-more [] h (suc x) e = refl
got-more (s ∷ ss) h zero e = refl
got-more (s ∷ ss) h (suc x) e = got-more ss h x (λ f. e (ap suc f))

pub got-new : (ss : List Shape) (h : Shape) → shape_at (ss ++ h ∷ []) (length ss) ≡ h
got-new [] h = refl
got-new (s ∷ ss) h = got-new ss h

pub past : (ss : List Shape) (x : ℕ) → length ss ≤ x → shape_at ss x ≡ lone_shape
past [] x h = refl
past (s ∷ ss) zero h = absurd (omega arith)
past (s ∷ ss) (suc x) h = past ss x (omega arith)

pub length-with_parent : (ss : List Shape) (o q : Option Link) → length (with_parent ss o q) ≡ length ss
length-with_parent ss None q = refl
length-with_parent ss (Some l) q = length-set ss l.number _

pub with_parent-other : (ss : List Shape) (o q : Option Link) (j : ℕ) → (link_number o ≡ Some j → ⊥) → shape_at (with_parent ss o q) j ≡ shape_at ss j
with_parent-other ss None q j h = refl
with_parent-other ss (Some l) q j h = set_other ss l.number j _ (λ e. h (ap Some (sym e)))

pub with_parent-same : (ss : List Shape) (o q : Option Link) (j : ℕ) → link_number o ≡ Some j → j < length ss
    → shape_at (with_parent ss o q) j ≡ record (shape_at ss j) { parent = q }
with_parent-same ss None q j e h = absurd (none-some j e)
with_parent-same ss (Some l) q j e h =
    let is = some-same l.number j e in
    subst (λ (k : ℕ). shape_at (slice_set ss l.number (record (shape_at ss l.number) { parent = q })) k ≡ record (shape_at ss k) { parent = q }) is
    (set_same ss l.number _ (omega (arith, is, h)))

-- each link leads to a node
pub record AreWithin (ss : List Shape) : Type 0 where
  pub lefts : (x m : ℕ) → link_number (shape_at ss x).left ≡ Some m → m < length ss
  pub rights : (x m : ℕ) → link_number (shape_at ss x).right ≡ Some m → m < length ss
  pub parents : (x m : ℕ) → link_number (shape_at ss x).parent ≡ Some m → m < length ss

module _ (ss : List Shape) (at l : Link) (h : Shape) (ct : HasCounts (tree_of ss)) (within : AreWithin ss) (in_y : at.number < length ss) (number : l.number ≡ length ss)
    (h_left : h.left ≡ (shape_at ss at.number).left) (h_right : h.right ≡ None) (h_parent : h.parent ≡ Some at) where
  abbrev y_before : ℕ
  y_before = at.number

  abbrev o-before : Option Link
  o-before = (shape_at ss at.number).left

  abbrev more-before : List Shape
  more-before = ss ++ h ∷ []

  abbrev mid-before : List Shape
  mid-before = with_parent more-before o-before (Some l)

  abbrev us-before : List Shape
  us-before = joined_beside Left ss at l h

  long-before : length mid-before ≡ length ss + 1
  long-before = length-with_parent more-before o-before (Some l) ∙ length-append ss (h ∷ [])

  pub length-joined-before : length us-before ≡ length ss + 1
  unfolding joined_beside
  length-joined-before = length-set mid-before y_before _ ∙ long-before

  pub at_y_before : shape_at us-before y_before ≡ record (shape_at ss y_before) { left = Some l }
  unfolding joined_beside
  at_y_before = set_same mid-before y_before (record (shape_at ss y_before) { left = Some l }) (omega (arith, in_y, long-before))

  away_before : (x : ℕ) → x ≢ y_before → shape_at us-before x ≡ shape_at mid-before x
  unfolding joined_beside
  away_before x e = set_other mid-before y_before x (record (shape_at ss y_before) { left = Some l }) e

  pub at_n-before : shape_at us-before l.number ≡ h
  at_n-before = away_before l.number (λ e. omega (arith, number, in_y, e))
      ∙ with_parent-other more-before o-before (Some l) l.number (λ e. let k = within.lefts y_before l.number e in omega (arith, k, number))
      ∙ ap (shape_at more-before) number ∙ got-new ss h

  pub at_m-before : (m : ℕ) → link_number o-before ≡ Some m → shape_at us-before m ≡ record (shape_at ss m) { parent = Some l }
  at_m-before m e =
      let with_l : Shape → Shape = λ s. record s { parent = Some l } in
      let small = below-left (tree_of ss) ct y_before m e in
      let k = within.lefts y_before m e in
      away_before m (λ f. omega (arith, small, ap (λ (j : ℕ). (shape_at ss j).count) f))
      ∙ with_parent-same more-before o-before (Some l) m e (omega (arith, k, length-append ss (h ∷ [])))
      ∙ ap with_l (got-more ss h m (λ f. omega (arith, k, f)))

  pub at_else-before : (x : ℕ) → x ≢ l.number → x ≢ y_before → (link_number o-before ≡ Some x → ⊥) → shape_at us-before x ≡ shape_at ss x
  at_else-before x xn xy e = away_before x xy ∙ with_parent-other more-before o-before (Some l) x e ∙ got-more ss h x (λ f. xn (f ∙ sym number))

  -- a field that neither write touches
  pub field-before : {X : Type 0} (f : Shape → X) → ((s : Shape) (q : Option Link) → f (record s { parent = q }) ≡ f s)
      → ((s : Shape) (q : Option Link) → f (record s { left = q }) ≡ f s) → (x : ℕ) → x ≢ l.number → f (shape_at us-before x) ≡ f (shape_at ss x)
  field-before f p q x xn = elim (cases_number x y_before) as (λ _. f (shape_at us-before x) ≡ f (shape_at ss x)) [
    | inl e ↦ ap (λ (j : ℕ). f (shape_at us-before j)) e ∙ ap f at_y_before ∙ q (shape_at ss y_before) (Some l) ∙ ap (λ (j : ℕ). f (shape_at ss j)) (sym e)
    | inr e ↦ elim (some-or-not (link_number o-before) x) as (λ _. f (shape_at us-before x) ≡ f (shape_at ss x)) [
      | inl g ↦ ap f (at_m-before x g) ∙ p (shape_at ss x) (Some l)
      | inr g ↦ ap f (at_else-before x xn e g)
    ]
  ]

  -- a field that only the write of the parent touches
  pub others-before : {X : Type 0} (f : Shape → X) → ((s : Shape) (q : Option Link) → f (record s { parent = q }) ≡ f s) → (x : ℕ) → x ≢ y_before → x ≢ l.number
      → f (shape_at us-before x) ≡ f (shape_at ss x)
  others-before f p x e xn = elim (some-or-not (link_number o-before) x) as (λ _. f (shape_at us-before x) ≡ f (shape_at ss x)) [
    | inl g ↦ ap f (at_m-before x g) ∙ p (shape_at ss x) (Some l)
    | inr g ↦ ap f (at_else-before x xn e g)
  ]

  pub parents-before : (x : ℕ) → x ≢ l.number → (link_number o-before ≡ Some x → ⊥) → (shape_at us-before x).parent ≡ (shape_at ss x).parent
  parents-before x xn g = elim (cases_number x y_before) as (λ _. (shape_at us-before x).parent ≡ (shape_at ss x).parent) [
    | inl e ↦ ap (λ (j : ℕ). (shape_at us-before j).parent) e ∙ ap (λ s. s.parent) at_y_before ∙ ap (λ (j : ℕ). (shape_at ss j).parent) (sym e)
    | inr e ↦ ap (λ s. s.parent) (at_else-before x xn e g)
  ]

  pub is-joined-before : IsJoined (tree_of ss) (tree_of us-before) y_before l.number
  is-joined-before = record {
    y_left = ap (λ s. link_number s.left) at_y_before;
    n_left = ap (λ s. link_number s.left) at_n-before ∙ ap link_number h_left;
    n_right = ap (λ s. link_number s.right) at_n-before ∙ ap link_number h_right;
    n_parent = ap (λ s. link_number s.parent) at_n-before ∙ ap link_number h_parent;
    moved_parent = λ m e. ap (λ s. link_number s.parent) (at_m-before m e);
    others_left = λ x xy xn. ap link_number (others-before (λ s. s.left) (λ s q. refl) x xy xn);
    others_right = λ x xn. ap link_number (field-before (λ s. s.right) (λ s q. refl) (λ s q. refl) x xn);
    others_parent = λ x xn e. ap link_number (parents-before x xn e);
    new_left = λ x e. let k = within.lefts x l.number e in omega (arith, k, number);
    new_right = λ x e. let k = within.rights x l.number e in omega (arith, k, number);
    new_parent = λ x e. let k = within.parents x l.number e in omega (arith, k, number);
    fresh = λ e. omega (arith, number, in_y, e);
  }
