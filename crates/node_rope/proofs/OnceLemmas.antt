-- Each node stands in the order once, and so each key in the list.
use Rattle.std.proofs.Common.{◌≡◌, ◌⊎◌, inl, inr, ℕ, zero, suc, ◌+◌, ◌<◌, ◌≤◌, List, [], ◌∷◌, ◌++◌, length, get_or, Option, None, Some, refl, sym, ap, ◌∙◌, subst, arith}
use Rattle.std.specs.Map.{keys_of}
use Rattle.std.proofs.lemmas.List.{length-map}
use Rattle.fugue_ids.specs.Identifiers.{Identifier}
use Rattle.block_map.specs.Contents.{value_of}
use Rattle.block_map.specs.declared.map.BlockMap.{BlockMap}
use Rattle.node_rope.specs.declared.store.Store.{Store}
use Rattle.node_rope.specs.declared.cells.Link.{Link}
use Rattle.node_rope.specs.declared.cells.Own.{Own}
use Rattle.node_rope.specs.Made.{shapes_of}
use Rattle.node_rope.specs.Shapes.{HasRightLinks, shape_at, link_number, tree_of, nodes_in_order}
use Rattle.node_rope.specs.Walk.{Tree, count_of, all_nodes}
use Rattle.node_rope.specs.Items.{IsRope, rope_items_of}
use Rattle.node_rope.specs.Places.{StandsAt}
use Rattle.node_rope.proofs.WalkLemmas.{whole-node, some-same, below-left, below-right}
use Rattle.node_rope.proofs.KeyLemmas.{Among, among-parts, among-right, over-left, over-right, all-made}
use Rattle.node_rope.proofs.SeenLemmas.{items-key, order-length}
use Rattle.std.proofs.lemmas.Option.{slice_get_within}

abbrev pub NoRepeat : List ℕ → Type 0
NoRepeat [] = Unit {0}
NoRepeat (x ∷ xs) = (Among x xs → ⊥) × NoRepeat xs

once-append : (xs ys : List ℕ) → NoRepeat xs → NoRepeat ys → ((z : ℕ) → Among z xs → Among z ys → ⊥) → NoRepeat (xs ++ ys)
once-append [] ys a b d = b
once-append (x ∷ xs) ys a b d = (λ e. elim (among-parts x xs ys e) as (λ _. ⊥) [ inl f ↦ a.0 f | inr f ↦ d x (inl refl) f ], once-append xs ys a.1 b (λ z e f. d z (inr e) f))

pub number-or-none : (o : Option ℕ) → (o ≡ None) ⊎ ((a : ℕ) × (o ≡ Some a))
number-or-none None = inl refl
number-or-none (Some a) = inr (a, refl)

module _ {T : Type 0} (s : Store T) (root : Option Link) (sound : HasRightLinks s root) where
  abbrev t : Tree
  t = tree_of (shapes_of s)

  none-below : (o : Option ℕ) (z : ℕ) → o ≡ None → Among z (all_nodes t o) → ⊥
  none-below o z e a = subst (λ (p : Option ℕ). Among z (all_nodes t p)) e a

  smaller : (k y z : ℕ) → t.count y ≤ k → Among z (all_nodes t (Some y)) → t.count z ≤ t.count y
  smaller zero y z h a = absurd (omega (arith, h, sound.counted y))
  smaller (suc k) y z h a =
      elim (among-parts z (all_nodes t (t.left y)) (y ∷ all_nodes t (t.right y)) (subst (Among z) (whole-node t sound.counted y) a)) as (λ _. t.count z ≤ t.count y) [
        | inl b ↦ elim (number-or-none (t.left y)) as (λ _. t.count z ≤ t.count y) [
          | inl e ↦ absurd (none-below (t.left y) z e b)
          | inr e ↦ (let lt = below-left t sound.counted y e.0 e.1 in let q = smaller k e.0 z (omega (arith, h, lt)) (subst (λ (p : Option ℕ). Among z (all_nodes t p)) e.1 b) in
              omega (arith, lt, q))
        ]
        | inr (inl e) ↦ omega (arith, ap t.count e)
        | inr (inr b) ↦ elim (number-or-none (t.right y)) as (λ _. t.count z ≤ t.count y) [
          | inl e ↦ absurd (none-below (t.right y) z e b)
          | inr e ↦ (let lt = below-right t sound.counted y e.0 e.1 in let q = smaller k e.0 z (omega (arith, h, lt)) (subst (λ (p : Option ℕ). Among z (all_nodes t p)) e.1 b) in
              omega (arith, lt, q))
        ]
      ]

  self-in : (y : ℕ) → Among y (all_nodes t (Some y))
  self-in y = subst (Among y) (sym (whole-node t sound.counted y)) (among-right y (all_nodes t (t.left y)) (y ∷ all_nodes t (t.right y)) (inl refl))

  abbrev Up : ℕ → ℕ → Type 0
  Up y z = (z ≡ y) ⊎ ((q : ℕ) × (t.parent z ≡ Some q) × Among q (all_nodes t (Some y)))

  -- above a node below y stands another below y, or it is y
  up : (k y z : ℕ) → t.count y ≤ k → Among z (all_nodes t (Some y)) → Up y z
  up zero y z h a = absurd (omega (arith, h, sound.counted y))
  up (suc k) y z h a = elim (among-parts z (all_nodes t (t.left y)) (y ∷ all_nodes t (t.right y)) (subst (Among z) (whole-node t sound.counted y) a)) as (λ _. Up y z) [
    | inl b ↦ elim (number-or-none (t.left y)) as (λ _. Up y z) [
      | inl e ↦ absurd (none-below (t.left y) z e b)
      | inr e ↦ elim (up k e.0 z (omega (arith, h, below-left t sound.counted y e.0 e.1)) (subst (λ (p : Option ℕ). Among z (all_nodes t p)) e.1 b)) as (λ _. Up y z) [
        | inl f ↦ inr (y, ap t.parent f ∙ sound.linked.from_left y e.0 e.1, self-in y)
        | inr f ↦ inr (f.0, f.1, over-left s root sound f.0 e.0 y e.1 f.2)
      ]
    ]
    | inr (inl e) ↦ inl (sym e)
    | inr (inr b) ↦ elim (number-or-none (t.right y)) as (λ _. Up y z) [
      | inl e ↦ absurd (none-below (t.right y) z e b)
      | inr e ↦ elim (up k e.0 z (omega (arith, h, below-right t sound.counted y e.0 e.1)) (subst (λ (p : Option ℕ). Among z (all_nodes t p)) e.1 b)) as (λ _. Up y z) [
        | inl f ↦ inr (y, ap t.parent f ∙ sound.linked.from_right y e.0 e.1, self-in y)
        | inr f ↦ inr (f.0, f.1, over-right s root sound f.0 e.0 y e.1 f.2)
      ]
    ]
  ]

  rises : (z q : ℕ) → t.parent z ≡ Some q → t.count z < t.count q
  rises z q e = elim (sound.below z q e) as (λ _. t.count z < t.count q) [ inl f ↦ below-left t sound.counted q z f | inr f ↦ below-right t sound.counted q z f ]

  apart : (k x a b z : ℕ) → t.count x ≤ t.count z + k → t.left x ≡ Some a → t.right x ≡ Some b → Among z (all_nodes t (Some a)) → Among z (all_nodes t (Some b)) → ⊥
  apart zero x a b z h l r m n = let p = smaller (t.count a) a z (omega arith) m in let q = below-left t sound.counted x a l in omega (arith, h, p, q)
  apart (suc k) x a b z h l r m n = elim (up (t.count a) a z (omega arith) m) as (λ _. ⊥) [
    | inl e ↦ elim (up (t.count b) b z (omega arith) n) as (λ _. ⊥) [
      | inl f ↦ sound.linked.apart x a l (r ∙ ap Some (sym f ∙ e))
      | inr f ↦ (
          let is : f.0 ≡ x = some-same f.0 x (sym f.1 ∙ ap t.parent e ∙ sound.linked.from_left x a l) in
          let p = smaller (t.count b) b f.0 (omega arith) f.2 in
          let q = below-right t sound.counted x b r in
          omega (arith, p, q, ap t.count is))
    ]
    | inr e ↦ elim (up (t.count b) b z (omega arith) n) as (λ _. ⊥) [
      | inl f ↦ (
          let is : e.0 ≡ x = some-same e.0 x (sym e.1 ∙ ap t.parent f ∙ sound.linked.from_right x b r) in
          let p = smaller (t.count a) a e.0 (omega arith) e.2 in
          let q = below-left t sound.counted x a l in
          omega (arith, p, q, ap t.count is))
      | inr f ↦ (
          let is : f.0 ≡ e.0 = some-same f.0 e.0 (sym f.1 ∙ e.1) in
          let g = rises z e.0 e.1 in
          apart k x a b e.0 (omega (arith, h, g)) l r e.2 (subst (λ (q : ℕ). Among q (all_nodes t (Some b))) is f.2))
    ]
  ]

  once-below : (k : ℕ) (o : Option ℕ) → count_of t o ≤ k → NoRepeat (all_nodes t o)
  once-below k None h = tt
  once-below zero (Some x) h = absurd (omega (arith, h, sound.counted x))
  once-below (suc k) (Some x) h =
      let L = all_nodes t (t.left x) in
      let R = all_nodes t (t.right x) in
      let l = once-below k (t.left x) (omega (arith, h, sound.counted x)) in
      let r = once-below k (t.right x) (omega (arith, h, sound.counted x)) in
      let x-right : Among x R → ⊥ = λ a. elim (number-or-none (t.right x)) as (λ _. ⊥) [
        | inl e ↦ none-below (t.right x) x e a
        | inr e ↦ (let p = smaller (t.count e.0) e.0 x (omega arith) (subst (λ (q : Option ℕ). Among x (all_nodes t q)) e.1 a) in let lt = below-right t sound.counted x e.0 e.1 in
            omega (arith, p, lt))
      ] in
      let both : (z : ℕ) → Among z L → Among z (x ∷ R) → ⊥ = λ z a b. elim (number-or-none (t.left x)) as (λ _. ⊥) [
        | inl e ↦ none-below (t.left x) z e a
        | inr e ↦ (
            let a' = subst (λ (q : Option ℕ). Among z (all_nodes t q)) e.1 a in
            elim b as (λ _. ⊥) [
              | inl f ↦ (let p = smaller (t.count e.0) e.0 z (omega arith) a' in let lt = below-left t sound.counted x e.0 e.1 in omega (arith, p, lt, ap t.count f))
              | inr c ↦ elim (number-or-none (t.right x)) as (λ _. ⊥) [
                | inl f ↦ none-below (t.right x) z f c
                | inr f ↦ apart (t.count x) x e.0 f.0 z (omega arith) e.1 f.1 a' (subst (λ (q : Option ℕ). Among z (all_nodes t q)) f.1 c)
              ]
            ])
      ] in
      subst NoRepeat (sym (whole-node t sound.counted x)) (once-append L (x ∷ R) l (x-right, r) both)

  pub order-once : NoRepeat (nodes_in_order s root)
  order-once = once-below (count_of t (link_number root)) (link_number root) (omega arith)

among-at : (xs : List ℕ) (i : ℕ) → i < length xs → Among (get_or xs i 0) xs
among-at [] i h = absurd (omega (arith, h))
among-at (x ∷ xs) zero h = inl refl
among-at (x ∷ xs) (suc i) h = inr (among-at xs i (omega (arith, h)))

pub once-index : (xs : List ℕ) → NoRepeat xs → (i j : ℕ) → i < length xs → j < length xs → get_or xs i 0 ≡ get_or xs j 0 → i ≡ j
once-index [] n i j h k e = absurd (omega (arith, h))
once-index (x ∷ xs) n zero zero h k e = refl
once-index (x ∷ xs) n zero (suc j) h k e = absurd (n.0 (subst (λ (y : ℕ). Among y xs) (sym e) (among-at xs j (omega (arith, k)))))
once-index (x ∷ xs) n (suc i) zero h k e = absurd (n.0 (subst (λ (y : ℕ). Among y xs) e (among-at xs i (omega (arith, h)))))
once-index (x ∷ xs) n (suc i) (suc j) h k e = ap suc (once-index xs n.1 i j (omega (arith, h)) (omega (arith, k)) e)

-- a key stands at one place
pub keys-once : {T : Type 0} (wt : T → Own) (s : Store T) (root : Option Link) (m : BlockMap Link) → IsRope wt s root m → (i j : ℕ) (k : Identifier)
    → StandsAt (rope_items_of s root) i k → StandsAt (rope_items_of s root) j k → i ≡ j
keys-once {T} wt s root m r i j k a b =
    let xs = nodes_in_order s root in
    let nodes = all-made s root r.sound in
    let long : length (keys_of (rope_items_of s root)) ≡ length xs = length-map (rope_items_of s root) (λ (e : Identifier × T). e.0) ∙ order-length wt s root m r in
    let hi = slice_get_within (keys_of (rope_items_of s root)) i k a in
    let hj = slice_get_within (keys_of (rope_items_of s root)) j k b in
    let li : i < length xs = omega (arith, hi, long) in
    let lj : j < length xs = omega (arith, hj, long) in
    let ki : Some (shape_at (shapes_of s) (get_or xs i 0)).key ≡ Some k = sym (items-key s xs nodes i li) ∙ a in
    let kj : Some (shape_at (shapes_of s) (get_or xs j 0)).key ≡ Some k = sym (items-key s xs nodes j lj) ∙ b in
    let same : (shape_at (shapes_of s) (get_or xs i 0)).key ≡ (shape_at (shapes_of s) (get_or xs j 0)).key = cc in
    let pi = r.listed (get_or xs i 0) (nodes (get_or xs i 0) (among-at xs i li)) in
    let pj = r.listed (get_or xs j 0) (nodes (get_or xs j 0) (among-at xs j lj)) in
    let links : Some pi.0 ≡ Some pj.0 = sym pi.2 ∙ ap (value_of m) same ∙ pj.2 in
    let link : pi.0 ≡ pj.0 = cc in
    once-index xs (order-once s root r.sound) i j li lj (sym pi.1 ∙ ap (λ (l : Link). l.number) link ∙ pj.1)
