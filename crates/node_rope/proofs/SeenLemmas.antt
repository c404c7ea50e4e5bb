-- What the tree tells of the list of items: keys, places and weights.
use Rattle.std.proofs.Common.{◌≡◌, inl, inr, ℕ, zero, suc, ◌+◌, ◌<◌, ◌≤◌, List, [], ◌∷◌, ◌++◌, length, take, flat_map, slice_get, get_or, Option, None, Some, refl, sym, ap, ◌∙◌}
use Rattle.std.proofs.Common.{subst, arith}
use Rattle.std.specs.Prelude.{is_some, IsSome, option_map, true, false}
use Rattle.std.specs.Map.{keys_of}
use Rattle.std.proofs.lemmas.List.Concat.{flat_map-append}
use Rattle.std.proofs.lemmas.List.Sums.{sum_by-cons}
use Rattle.fugue_ids.specs.Identifiers.{Identifier}
use Rattle.block_map.specs.Contents.{value_of}
use Rattle.block_map.specs.Floors.{IsFloorKey}
use Rattle.block_map.specs.declared.map.BlockMap.{BlockMap}
use Rattle.node_rope.specs.declared.store.Store.{Store}
use Rattle.node_rope.specs.declared.cells.Link.{Link}
use Rattle.node_rope.specs.declared.cells.Own.{Own}
use Rattle.node_rope.specs.Made.{made_count, shapes_of, values_of}
use Rattle.node_rope.specs.Shapes.{HasRightLinks, shape_at, link_number, tree_of, nodes_in_order, weigh}
use Rattle.node_rope.specs.Walk.{count_of}
use Rattle.node_rope.proofs.ItemLemmas.{length-items}
use Rattle.node_rope.specs.Items.{IsRope, item_at, rope_items_of, value_under}
use Rattle.node_rope.specs.Places.{StandsAt, weight_sum, IsUnit, IsFloor}
use Rattle.node_rope.specs.Found.{IsFound}
use Rattle.node_rope.proofs.ShapeLemmas.{made-below}
use Rattle.node_rope.proofs.EffectLemmas.{item-is}
use Rattle.node_rope.proofs.KeyLemmas.{Among, all-made, value-made, link-or-none, held, not-held, among-left, among-right}

pub among-take : (x i : ℕ) (xs : List ℕ) → Among x (take i xs) → Among x xs
among-take x zero xs a = absurd a
among-take x (suc i) [] a = absurd a
among-take x (suc i) (y ∷ xs) (inl e) = inl e
among-take x (suc i) (y ∷ xs) (inr a) = inr (among-take x i xs a)

module _ {T : Type 0} (s : Store T) where
  abbrev pub AreNodes : List ℕ → Type 0
  AreNodes xs = (x : ℕ) → Among x xs → x < made_count s

  pub one-item : (x : ℕ) → x < made_count s → (v : T) × (slice_get (values_of s) x ≡ Some v) × (item_at s x ≡ ((shape_at (shapes_of s) x).key, v) ∷ [])
  one-item x h = let w = value-made s x h in (w.0, w.1, item-is s x w.0 h w.1)

  pub items-take : (xs : List ℕ) → AreNodes xs → (i : ℕ) → take i (flat_map (item_at s) xs) ≡ flat_map (item_at s) (take i xs)
  items-take [] made zero = refl
  items-take [] made (suc i) = refl
  items-take (x ∷ xs) made zero = refl
  items-take (x ∷ xs) made (suc i) =
      let it = one-item x (made x (inl refl)) in
      let p : Identifier × T = ((shape_at (shapes_of s) x).key, it.0) in
      ap (λ (ys : List (Identifier × T)). take (suc i) (ys ++ flat_map (item_at s) xs)) it.2 ∙ ap (λ (ys : List (Identifier × T)). p ∷ ys) (items-take xs (λ y a. made y (inr a)) i)
      ∙ ap (λ (ys : List (Identifier × T)). ys ++ flat_map (item_at s) (take i xs)) (sym it.2)

  pub items-key : (xs : List ℕ) → AreNodes xs → (i : ℕ) → i < length xs → slice_get (keys_of (flat_map (item_at s) xs)) i ≡ Some (shape_at (shapes_of s) (get_or xs i 0)).key
  items-key [] made i h = absurd (omega (arith, h))
  items-key (x ∷ xs) made zero h =
      let it = one-item x (made x (inl refl)) in
      ap (λ (ys : List (Identifier × T)). slice_get (keys_of (ys ++ flat_map (item_at s) xs)) 0) it.2
  items-key (x ∷ xs) made (suc i) h =
      let it = one-item x (made x (inl refl)) in
      ap (λ (ys : List (Identifier × T)). slice_get (keys_of (ys ++ flat_map (item_at s) xs)) (suc i)) it.2 ∙ items-key xs (λ y a. made y (inr a)) i (omega (arith, h))

  pub items-item : (xs : List ℕ) → AreNodes xs → (i : ℕ) (v : T) → i < length xs → slice_get (values_of s) (get_or xs i 0) ≡ Some v
      → slice_get (flat_map (item_at s) xs) i ≡ Some ((shape_at (shapes_of s) (get_or xs i 0)).key, v)
  items-item [] made i v h is = absurd (omega (arith, h))
  items-item (x ∷ xs) made zero v h is = ap (λ (ys : List (Identifier × T)). slice_get (ys ++ flat_map (item_at s) xs) 0) (item-is s x v (made x (inl refl)) is)
  items-item (x ∷ xs) made (suc i) v h is =
      let it = one-item x (made x (inl refl)) in
      ap (λ (ys : List (Identifier × T)). slice_get (ys ++ flat_map (item_at s) xs) (suc i)) it.2 ∙ items-item xs (λ y a. made y (inr a)) i v (omega (arith, h)) is

  pub items-length : (xs : List ℕ) → AreNodes xs → length (flat_map (item_at s) xs) ≡ length xs
  items-length [] made = refl
  items-length (x ∷ xs) made =
      let it = one-item x (made x (inl refl)) in
      ap (λ (ys : List (Identifier × T)). length (ys ++ flat_map (item_at s) xs)) it.2 ∙ ap suc (items-length xs (λ y a. made y (inr a)))

  items-weigh : (wt : T → Own) → ((i : ℕ) (v : T) → slice_get (values_of s) i ≡ Some v → (shape_at (shapes_of s) i).own ≡ wt v) → (xs : List ℕ) → AreNodes xs
      → weight_sum (λ x. (wt x).weight) (flat_map (item_at s) xs) ≡ weigh (shapes_of s) xs
  items-weigh wt w [] made = refl
  items-weigh wt w (x ∷ xs) made =
      let it = one-item x (made x (inl refl)) in
      let p : Identifier × T = ((shape_at (shapes_of s) x).key, it.0) in
      let rest = items-weigh wt w xs (λ y a. made y (inr a)) in
      let here = ap (λ o. o.weight) (w x it.0 it.1) in
      let cons = sum_by-cons (λ (y : Identifier × T). (wt y.1).weight) p (flat_map (item_at s) xs) in
      ap (λ (ys : List (Identifier × T)). weight_sum (λ x. (wt x).weight) (ys ++ flat_map (item_at s) xs)) it.2 ∙ omega (arith, rest, here, cons)

pub few-nodes : {T : Type 0} (s : Store T) (root : Option Link) → HasRightLinks s root → made_count s < 4194305 → length (rope_items_of s root) < 4194306
few-nodes s root sound few = elim (link-or-none root) as (λ _. length (rope_items_of s root) < 4194306) [
  | inl e ↦ omega (arith, length-items s root sound, ap (λ (o : Option Link). count_of (tree_of (shapes_of s)) (link_number o)) e)
  | inr e ↦ omega (arith, length-items s root sound, ap (λ (o : Option Link). count_of (tree_of (shapes_of s)) (link_number o)) e.1, sound.small e.0.number, few)
]

module _ {T : Type 0} (wt : T → Own) (s : Store T) (root : Option Link) (m : BlockMap Link) (r : IsRope wt s root m) where
  nodes : (x : ℕ) → Among x (nodes_in_order s root) → x < made_count s
  nodes = all-made s root r.sound

  pub order-length : length (rope_items_of s root) ≡ length (nodes_in_order s root)
  order-length = items-length s (nodes_in_order s root) nodes

  pub stands : (k : Identifier) (l : Link) → value_of m k ≡ Some l → (i : ℕ) → i < length (nodes_in_order s root) → get_or (nodes_in_order s root) i 0 ≡ l.number
      → StandsAt (rope_items_of s root) i k
  stands k l e i h at = items-key s (nodes_in_order s root) nodes i h ∙ ap (λ (x : ℕ). Some (shape_at (shapes_of s) x).key) at ∙ ap Some (r.keyed k l e)

  pub weighs-to : (i w : ℕ) → w ≡ weigh (shapes_of s) (take i (nodes_in_order s root)) → w ≡ weight_sum (λ x. (wt x).weight) (take i (rope_items_of s root))
  weighs-to i w e = e ∙ sym (items-weigh s wt r.weighs (take i (nodes_in_order s root)) (λ x a. nodes x (among-take x i (nodes_in_order s root) a)))
      ∙ ap (weight_sum (λ x. (wt x).weight)) (sym (items-take s (nodes_in_order s root) nodes i))

  pub weighs-all : weight_sum (λ x. (wt x).weight) (rope_items_of s root) ≡ weigh (shapes_of s) (nodes_in_order s root)
  weighs-all = items-weigh s wt r.weighs (nodes_in_order s root) nodes

  pub unit : (w : ℕ) (l : Link) (u : ℕ) → IsFound (shapes_of s) (nodes_in_order s root) w l u
      → IsUnit (λ x. (wt x).weight) (rope_items_of s root) w (shape_at (shapes_of s) l.number).key u
  unit w l u f =
      let front-nodes : AreNodes s f.front = λ x a. nodes x (subst (Among x) (sym f.split) (among-left x f.front (l.number ∷ f.back) a)) in
      let here : l.number < made_count s = nodes l.number (subst (Among l.number) (sym f.split) (among-right l.number f.front (l.number ∷ f.back) (inl refl))) in
      let it = one-item s l.number here in
      record {
        front = flat_map (item_at s) f.front;
        value = it.0;
        back = flat_map (item_at s) f.back;
        split = ap (flat_map (item_at s)) f.split ∙ flat_map-append (item_at s) f.front (l.number ∷ f.back)
            ∙ ap (λ (ys : List (Identifier × T)). flat_map (item_at s) f.front ++ (ys ++ flat_map (item_at s) f.back)) it.2;
        before = f.before ∙ ap (λ n. n + u) (sym (items-weigh s wt r.weighs f.front front-nodes));
        inside = subst (λ n. u < n) (ap (λ o. o.weight) (r.weighs l.number it.0 it.1)) f.inside;
      }

  some-held : (q : Identifier) → IsSome (value_of m q) → IsSome (value_under q (rope_items_of s root))
  some-held q h = elim (link-or-none (value_of m q)) as (λ _. IsSome (value_under q (rope_items_of s root))) [
    | inl e ↦ absurd (not-some (value_of m q) e h)
    | inr e ↦ (let v = value-made s e.0.number (made-below s e.0 (r.mapped q e.0 e.1)) in ap is_some (held wt s root m r q e.0 e.1 v.0 v.1))
  ] where
    not-some : (o : Option Link) → o ≡ None → IsSome o → ⊥
    not-some None e h = cc
    not-some (Some l) e h = cc

  held-some : (q : Identifier) → IsSome (value_under q (rope_items_of s root)) → IsSome (value_of m q)
  held-some q h = elim (link-or-none (value_of m q)) as (λ _. IsSome (value_of m q)) [
    | inl e ↦ (let no : false ≡ true = ap is_some (sym (not-held wt s root m r q e)) ∙ h in absurd (cc))
    | inr e ↦ ap is_some e.1
  ]

  pub floor-seen : (key : Identifier) (o : Option Identifier) → IsFloorKey (value_of m) key o → IsFloor (rope_items_of s root) key o
  floor-seen key None f = λ q le. not-held wt s root m r q (f q le)
  floor-seen key (Some k) f = (some-held k f.0, f.1, λ q le h. f.2 q le (held-some q h))

  pub key-seen : (i : ℕ) (l : Link) → i < length (nodes_in_order s root) → get_or (nodes_in_order s root) i 0 ≡ l.number
      → slice_get (keys_of (rope_items_of s root)) i ≡ Some (shape_at (shapes_of s) l.number).key
  key-seen i l h at = items-key s (nodes_in_order s root) nodes i h ∙ ap (λ (x : ℕ). Some (shape_at (shapes_of s) x).key) at

  pub key-past : (i : ℕ) → length (nodes_in_order s root) ≤ i → slice_get (keys_of (rope_items_of s root)) i ≡ None
  key-past i h = past (rope_items_of s root) i (omega (arith, h, order-length)) where
    past : (xs : List (Identifier × T)) (i : ℕ) → length xs ≤ i → slice_get (keys_of xs) i ≡ None
    past [] i h = refl
    past (x ∷ xs) zero h = absurd (omega (arith, h))
    past (x ∷ xs) (suc i) h = past xs i (omega (arith, h))

  pub value-seen : (i : ℕ) (l : Link) (v : T) → i < length (nodes_in_order s root) → get_or (nodes_in_order s root) i 0 ≡ l.number → slice_get (values_of s) l.number ≡ Some v
      → option_map (λ x. x.1) (slice_get (rope_items_of s root) i) ≡ Some v
  value-seen i l v h at is = ap (option_map (λ (x : Identifier × T). x.1)) (items-item s (nodes_in_order s root) nodes i v h (ap (slice_get (values_of s)) at ∙ is))

  pub value-past : (i : ℕ) → length (nodes_in_order s root) ≤ i → option_map (λ x. x.1) (slice_get (rope_items_of s root) i) ≡ None
  value-past i h = past (rope_items_of s root) i (omega (arith, h, order-length)) where
    past : (xs : List (Identifier × T)) (i : ℕ) → length xs ≤ i → option_map (λ x. x.1) (slice_get xs i) ≡ None
    past [] i h = refl
    past (x ∷ xs) zero h = absurd (omega (arith, h))
    past (x ∷ xs) (suc i) h = past xs i (omega (arith, h))

  pub few-items : length (rope_items_of s root) < 4194306
  few-items = few-nodes s root r.sound r.few

pub no-more : {T : Type 0} (xs : List (Identifier × T)) (i : ℕ) → slice_get (keys_of xs) i ≡ None → length xs ≤ i
no-more [] i e = omega arith
no-more (x ∷ xs) zero e = absurd (cc)
no-more (x ∷ xs) (suc i) e = let h = no-more xs i e in omega (arith, h)
