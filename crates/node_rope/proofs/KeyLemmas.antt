-- Each node of a rope stands in its order, and the list has each node's value under its key.
use Rattle.std.proofs.Common.{◌≡◌, ◌≢◌, ◌⊎◌, inl, inr, ℕ, zero, suc, ◌+◌, ◌<◌, ◌≤◌, false, cond, List, [], ◌∷◌, ◌++◌, length, map, flat_map, slice_get, get_or, Option, None, Some}
use Rattle.std.proofs.Common.{refl, sym, ap, ◌∙◌, subst, arith}
use Rattle.std.specs.Prelude.{eqb, is_some}
use Rattle.std.proofs.lemmas.Bool.{false_from_ne_true}
use Rattle.std.proofs.lemmas.Bool.Decides.{eqb_tells}
use Rattle.std.proofs.lemmas.List.{length-map, nil_from_length}
use Rattle.fugue_ids.specs.Identifiers.{Identifier, id_eq}
use Rattle.fugue_ids.specs.Keyed.{IsReplaced}
use Rattle.fugue_ids.proofs.IdentifierLemmas.{id_eq-true, eq-id_eq}
use Rattle.block_map.specs.Contents.{HasSameValues, value_of}
use Rattle.block_map.specs.declared.map.BlockMap.{BlockMap}
use Rattle.node_rope.specs.declared.store.Store.{Store}
use Rattle.node_rope.specs.declared.cells.Shape.{Shape}
use Rattle.node_rope.specs.declared.cells.Link.{Link}
use Rattle.node_rope.specs.declared.cells.Own.{Own}
use Rattle.node_rope.specs.Shaped.{node_value}
use Rattle.node_rope.specs.Made.{IsMade, KeepsMade, made_count, shapes_of, values_of}
use Rattle.node_rope.specs.Shapes.{HasRightLinks, shape_at, link_number, tree_of, nodes_in_order}
use Rattle.node_rope.specs.Walk.{Tree, count_of, all_nodes}
use Rattle.node_rope.specs.Items.{IsRope, item_at, rope_items_of, value_under}
use Rattle.node_rope.specs.Sums.{no_rank}
use Rattle.node_rope.specs.Grown.{IsGrown}
use Rattle.node_rope.specs.Turned.{IsRearranged}
use Rattle.node_rope.proofs.WalkLemmas.{whole-node}
use Rattle.node_rope.proofs.ShapeLemmas.{length-shapes, made-below, higher}
use Rattle.node_rope.proofs.GrowthLemmas.{are-within}
use Rattle.node_rope.proofs.ItemLemmas.{root-below}
use Rattle.node_rope.proofs.EffectLemmas.{item-is, some-of, new-item}
use Rattle.node_rope.proofs.LightLemmas.{only, single-sound}
use Rattle.std.proofs.lemmas.List.{append-nil}
use Rattle.std.proofs.lemmas.Option.{slice_get_within}
use Rattle.fugue_ids.proofs.OptionLemmas.{cases_number, is_some-false}

-- x is one of the numbers
abbrev pub Among : ℕ → List ℕ → Type 0
Among x [] = ⊥
Among x (y ∷ ys) = (y ≡ x) ⊎ Among x ys

pub among-left : (x : ℕ) (xs ys : List ℕ) → Among x xs → Among x (xs ++ ys)
among-left x [] ys a = absurd a
among-left x (y ∷ xs) ys (inl e) = inl e
among-left x (y ∷ xs) ys (inr a) = inr (among-left x xs ys a)

pub among-right : (x : ℕ) (xs ys : List ℕ) → Among x ys → Among x (xs ++ ys)
among-right x [] ys a = a
among-right x (y ∷ xs) ys a = inr (among-right x xs ys a)

pub among-parts : (x : ℕ) (xs ys : List ℕ) → Among x (xs ++ ys) → Among x xs ⊎ Among x ys
among-parts x [] ys a = inr a
among-parts x (y ∷ xs) ys (inl e) = inl (inl e)
among-parts x (y ∷ xs) ys (inr a) = elim (among-parts x xs ys a) as (λ _. Among x (y ∷ xs) ⊎ Among x ys) [ inl b ↦ inl (inr b) | inr b ↦ inr b ]

pub link-or-none : (o : Option Link) → (o ≡ None) ⊎ ((l : Link) × (o ≡ Some l))
link-or-none None = inl refl
link-or-none (Some l) = inr (l, refl)

module _ {T : Type 0} (s : Store T) (root : Option Link) (sound : HasRightLinks s root) where
  abbrev t : Tree
  t = tree_of (shapes_of s)

  pub over-left : (x i p : ℕ) → t.left p ≡ Some i → Among x (all_nodes t (Some i)) → Among x (all_nodes t (Some p))
  over-left x i p e a =
      subst (Among x) (sym (whole-node t sound.counted p))
      (among-left x (all_nodes t (t.left p)) (p ∷ all_nodes t (t.right p)) (subst (λ (o : Option ℕ). Among x (all_nodes t o)) (sym e) a))

  pub over-right : (x i p : ℕ) → t.right p ≡ Some i → Among x (all_nodes t (Some i)) → Among x (all_nodes t (Some p))
  over-right x i p e a =
      subst (Among x) (sym (whole-node t sound.counted p))
      (among-right x (all_nodes t (t.left p)) (p ∷ all_nodes t (t.right p)) (inr (subst (λ (o : Option ℕ). Among x (all_nodes t o)) (sym e) a)))

  climbs : (k x i : ℕ) → suc (suc (made_count s)) ≤ t.count i + k → i < made_count s → Among x (all_nodes t (Some i)) → Among x (nodes_in_order s root)
  climbs zero x i h b a = absurd (omega (arith, h, sound.small i))
  climbs (suc k) x i h b a = elim (link-or-none (shape_at (shapes_of s) i).parent) as (λ _. Among x (nodes_in_order s root)) [
    | inl e ↦ subst (λ (o : Option ℕ). Among x (all_nodes t o)) (sym (sound.top i b e)) a
    | inr e ↦ (
        let up = ap link_number e.1 in
        let high : t.count i < t.count e.0.number = higher s root sound i e.0 e.1 in
        climbs k x e.0.number (omega (arith, h, high)) (made-below s e.0 (sound.made_parent i e.0 e.1))
        (elim (sound.below i e.0.number up) as (λ _. Among x (all_nodes t (Some e.0.number))) [ inl f ↦ over-left x i e.0.number f a | inr f ↦ over-right x i e.0.number f a ]))
  ]

  -- each node stands in the order
  pub in-order : (i : ℕ) → i < made_count s → Among i (nodes_in_order s root)
  in-order i h = climbs (suc (suc (made_count s))) i i (omega arith) h
      (subst (Among i) (sym (whole-node t sound.counted i)) (among-right i (all_nodes t (t.left i)) (i ∷ all_nodes t (t.right i)) (inl refl)))

  made-under : (k : ℕ) (o : Option ℕ) → count_of t o ≤ k → ((x : ℕ) → o ≡ Some x → x < made_count s) → (x : ℕ) → Among x (all_nodes t o) → x < made_count s
  made-under k None h b x a = absurd a
  made-under zero (Some y) h b x a = absurd (omega (arith, sound.counted y))
  made-under (suc k) (Some y) h b x a =
      elim (among-parts x (all_nodes t (t.left y)) (y ∷ all_nodes t (t.right y)) (subst (Among x) (whole-node t sound.counted y) a)) as (λ _. x < made_count s) [
        | inl c ↦ made-under k (t.left y) (omega (arith, sound.counted y)) (λ m e. let q = (are-within s root sound).lefts y m e in omega (arith, q, length-shapes s)) x c
        | inr (inl e) ↦ (let q = b y refl in omega (arith, q, e))
        | inr (inr c) ↦ made-under k (t.right y) (omega (arith, sound.counted y)) (λ m e. let q = (are-within s root sound).rights y m e in omega (arith, q, length-shapes s)) x c
      ]

  -- and no other number does
  pub all-made : (x : ℕ) → Among x (nodes_in_order s root) → x < made_count s
  all-made x a = made-under (count_of t (link_number root)) (link_number root) (omega arith) (root-below s root sound root sound.made_root) x a

pub length-values : {T : Type 0} (s : Store T) → length (values_of s) ≡ made_count s
length-values s = length-map s.pile.values node_value

pub value-made : {T : Type 0} (s : Store T) (x : ℕ) → x < made_count s → (v : T) × (slice_get (values_of s) x ≡ Some v)
value-made s x h = some-of (values_of s) x (omega (arith, h, length-values s))

-- the items of a second store, where each is made from the one of the same node
pub mapped-items : {T : Type 0} (s v : Store T) (f : Identifier × T → Identifier × T)
    → ((x : ℕ) → x < made_count s → (a : T) → slice_get (values_of s) x ≡ Some a → item_at v x ≡ f ((shape_at (shapes_of s) x).key, a) ∷ [])
    → (xs : List ℕ) → ((x : ℕ) → Among x xs → x < made_count s) → flat_map (item_at v) xs ≡ map f (flat_map (item_at s) xs)
mapped-items s v f each [] made = refl
mapped-items {T} s v f each (x ∷ xs) made =
    let h = made x (inl refl) in
    let a = value-made s x h in
    let p : Identifier × T = f ((shape_at (shapes_of s) x).key, a.0) in
    ap (λ (ys : List (Identifier × T)). ys ++ flat_map (item_at v) xs) (each x h a.0 a.1)
    ∙ ap (λ (ys : List (Identifier × T)). p ∷ ys) (mapped-items s v f each xs (λ y b. made y (inr b)))
    ∙ ap (λ (ys : List (Identifier × T)). map f (ys ++ flat_map (item_at s) xs)) (sym (item-is s x a.0 h a.1))

read-value : {X : Type 0} (xs : List X) (i : ℕ) (d v : X) → slice_get xs i ≡ Some v → get_or xs i d ≡ v
read-value [] i d v e = absurd (cc)
read-value (x ∷ xs) zero d v e = cc
read-value (x ∷ xs) (suc i) d v e = read-value xs i d v e

pub value-read : {T : Type 0} (s : Store T) (i : ℕ) (d v : T) → d ≡ get_or (values_of s) i d → slice_get (values_of s) i ≡ Some v → d ≡ v
value-read s i d v e f = e ∙ read-value (values_of s) i d v f

-- the list's value under a key that one node has
pub value-among : {T : Type 0} (s : Store T) (k : Identifier) (y : ℕ) (v : T) → ((x : ℕ) → x < made_count s → id_eq (shape_at (shapes_of s) x).key k ≡ eqb x y)
    → slice_get (values_of s) y ≡ Some v
    → (xs : List ℕ) → ((x : ℕ) → Among x xs → x < made_count s) → Among y xs → value_under k (flat_map (item_at s) xs) ≡ Some v
value-among s k y v alone is [] made a = absurd a
value-among {T} s k y v alone is (x ∷ xs) made a =
    let w = value-made s x (made x (inl refl)) in
    let rest = flat_map (item_at s) xs in
    let here = ap (λ (ys : List (Identifier × T)). value_under k (ys ++ rest)) (item-is s x w.0 (made x (inl refl)) w.1)
    ∙ ap (λ b. cond b (Some w.0) (value_under k rest)) (alone x (made x (inl refl))) in
    here ∙ elim (eqb_tells x y) as (λ _. cond (eqb x y) (Some w.0) (value_under k rest) ≡ Some v) [
      | inl e ↦ ap (λ b. cond b (Some w.0) (value_under k rest)) e.0 ∙ sym w.1 ∙ ap (slice_get (values_of s)) e.1 ∙ is
      | inr e ↦ ap (λ b. cond b (Some w.0) (value_under k rest)) e.0
          ∙ value-among s k y v alone is xs (λ z b. made z (inr b)) (elim a as (λ _. Among y xs) [ inl f ↦ absurd (e.1 f) | inr b ↦ b ])
    ]

-- and under one that no node has
pub value-none : {T : Type 0} (s : Store T) (k : Identifier) → ((x : ℕ) → x < made_count s → id_eq (shape_at (shapes_of s) x).key k ≡ false) → (xs : List ℕ)
    → ((x : ℕ) → Among x xs → x < made_count s) → value_under k (flat_map (item_at s) xs) ≡ None
value-none s k other [] made = refl
value-none {T} s k other (x ∷ xs) made =
    let w = value-made s x (made x (inl refl)) in
    let rest = flat_map (item_at s) xs in
    ap (λ (ys : List (Identifier × T)). value_under k (ys ++ rest)) (item-is s x w.0 (made x (inl refl)) w.1)
    ∙ ap (λ b. cond b (Some w.0) (value_under k rest)) (other x (made x (inl refl))) ∙ value-none s k other xs (λ z b. made z (inr b))

module _ {T : Type 0} (wt : T → Own) (s : Store T) (root : Option Link) (m : BlockMap Link) (r : IsRope wt s root m) where
  -- a key of the map is that of its node alone
  pub alone : (k : Identifier) (l : Link) → value_of m k ≡ Some l → (x : ℕ) → x < made_count s → id_eq (shape_at (shapes_of s) x).key k ≡ eqb x l.number
  alone k l e x h = elim (eqb_tells x l.number) as (λ _. id_eq (shape_at (shapes_of s) x).key k ≡ eqb x l.number) [
    | inl f ↦ eq-id_eq (shape_at (shapes_of s) x).key k (ap (λ (i : ℕ). (shape_at (shapes_of s) i).key) f.1 ∙ r.keyed k l e) ∙ sym f.0
    | inr f ↦ false_from_ne_true _ (λ g. (
        let is : (shape_at (shapes_of s) x).key ≡ k = id_eq-true (shape_at (shapes_of s) x).key k g in
        let at = r.listed x h in
        let same : Some at.0 ≡ Some l = sym at.2 ∙ ap (value_of m) is ∙ e in
        let link : at.0 ≡ l = cc in
        f.1 (sym at.1 ∙ ap (λ (q : Link). q.number) link))) ∙ sym f.0
  ]

  pub held : (k : Identifier) (l : Link) → value_of m k ≡ Some l → (v : T) → slice_get (values_of s) l.number ≡ Some v → value_under k (rope_items_of s root) ≡ Some v
  held k l e v is = value-among s k l.number v (alone k l e) is (nodes_in_order s root) (all-made s root r.sound)
      (in-order s root r.sound l.number (made-below s l (r.mapped k l e)))

  -- the value of a node stands under its key
  pub node-holds : (l : Link) → IsMade s l → (d : T) → d ≡ get_or (values_of s) l.number d → value_under (shape_at (shapes_of s) l.number).key (rope_items_of s root) ≡ Some d
  node-holds l made d read =
      let below = made-below s l made in
      let v = value-made s l.number below in
      let at = r.listed l.number below in
      held (shape_at (shapes_of s) l.number).key at.0 at.2 v.0 (ap (slice_get (values_of s)) at.1 ∙ v.1) ∙ ap Some (sym (value-read s l.number d v.0 read v.1))

  pub not-held : (k : Identifier) → value_of m k ≡ None → value_under k (rope_items_of s root) ≡ None
  not-held k e = value-none s k (λ x h. false_from_ne_true _ (λ g. (
      let is : (shape_at (shapes_of s) x).key ≡ k = id_eq-true (shape_at (shapes_of s) x).key k g in
      let at = r.listed x h in
      let same : Some at.0 ≡ None = sym at.2 ∙ ap (value_of m) is ∙ e in
      cc))) (nodes_in_order s root) (all-made s root r.sound)

  pub free : (k : Identifier) → value_under k (rope_items_of s root) ≡ None → value_of m k ≡ None
  free k e = elim (link-or-none (value_of m k)) as (λ _. value_of m k ≡ None) [
    | inl f ↦ f
    | inr f ↦ (
        let v = value-made s f.0.number (made-below s f.0 (r.mapped k f.0 f.1)) in
        let some = held k f.0 f.1 v.0 v.1 in
        let no : Some v.0 ≡ None = sym some ∙ e in
        cc)
  ]

  pub fresh : (k : Identifier) (xs : List (Identifier × T)) → rope_items_of s root ≡ xs → is_some (value_under k xs) ≡ false → value_of m k ≡ None
  fresh k xs e f = free k (is_some-false (value_under k (rope_items_of s root)) (ap (λ (ys : List (Identifier × T)). is_some (value_under k ys)) e ∙ f))

  pub same-roped : (n : BlockMap Link) → HasSameValues m n → IsRope wt s root n
  same-roped n h = record {
    sound = r.sound;
    few = r.few;
    light = r.light;
    fits = r.fits;
    weighs = r.weighs;
    mapped = λ k l e. r.mapped k l (sym (h k) ∙ e);
    keyed = λ k l e. r.keyed k l (sym (h k) ∙ e);
    listed = λ i b. let at = r.listed i b in (at.0, at.1, h (shape_at (shapes_of s) i).key ∙ at.2);
  }

-- the grown store, whose nodes moved in the tree
pub regrown : {T : Type 0} (s u v : Store T) (root top : Option Link) (key : Identifier) (w : Own) (value : T) (l : Link) → IsGrown s u root key w value l
    → IsRearranged u v root top → IsGrown s v top key w value l
regrown s u v root top key w value l g e = record {
  sound = e.sound;
  number = g.number;
  made = e.kept l g.made;
  count = e.count ∙ g.count;
  values = e.values ∙ g.values;
  key_here = (e.items l.number).0 ∙ g.key_here;
  own_here = (e.items l.number).1 ∙ g.own_here;
  keys = λ i ne. (e.items i).0 ∙ g.keys i ne;
  owns = λ i ne. (e.items i).1 ∙ g.owns i ne;
}

got-end : {X : Type 0} (xs : List X) (y : X) (i : ℕ) (x : X) → slice_get (xs ++ y ∷ []) i ≡ Some x → (slice_get xs i ≡ Some x) ⊎ ((i ≡ length xs) × (y ≡ x))
got-end [] y zero x e = inr (refl, cc)
got-end [] y (suc i) x e = absurd (cc)
got-end (z ∷ xs) y zero x e = inl e
got-end (z ∷ xs) y (suc i) x e =
    elim (got-end xs y i x e) as (λ _. (slice_get xs i ≡ Some x) ⊎ ((suc i ≡ suc (length xs)) × (y ≡ x))) [ inl h ↦ inl h | inr h ↦ inr (ap suc h.0, h.1) ]

-- one more node, and its key
pub grown-roped : {T : Type 0} (wt : T → Own) (s v : Store T) (root top : Option Link) (m p : BlockMap Link) (key : Identifier) (w : Own) (value : T) (l : Link)
    → IsRope wt s root m → IsGrown s v top key w value l → KeepsMade s v
    → made_count s < 4194304 → w.weight < 4194305 → w.rank ≤ no_rank → w ≡ wt value → value_of m key ≡ None → IsReplaced (value_of m) (value_of p) key (Some l) → IsRope wt v top p
grown-roped wt s v root top m p key w value l r g kept few small fits is none set = record {
  sound = g.sound;
  few = omega (arith, few, g.count);
  light = λ i. elim (cases_number i l.number) as (λ _. (shape_at (shapes_of v) i).own.weight < 4194305) [
    | inl e ↦ (let here = ap (λ o. o.weight) g.own_here in let y = ap (λ (k : ℕ). (shape_at (shapes_of v) k).own.weight) e in omega (arith, small, here, y))
    | inr e ↦ (let old = r.light i in let y = ap (λ o. o.weight) (g.owns i e) in omega (arith, old, y))
  ];
  fits = λ i. elim (cases_number i l.number) as (λ _. (shape_at (shapes_of v) i).own.rank ≤ no_rank) [
    | inl e ↦ (let here = ap (λ o. o.rank) g.own_here in let y = ap (λ (k : ℕ). (shape_at (shapes_of v) k).own.rank) e in omega (arith, fits, here, y))
    | inr e ↦ (let old = r.fits i in let y = ap (λ o. o.rank) (g.owns i e) in omega (arith, old, y))
  ];
  weighs = λ i x e. elim (got-end (values_of s) value i x (ap (λ xs. slice_get xs i) (sym g.values) ∙ e)) as (λ _. (shape_at (shapes_of v) i).own ≡ wt x) [
    | inl f ↦ (let h = slice_get_within (values_of s) i x f in g.owns i (λ q. omega (arith, h, length-values s, q, g.number)) ∙ r.weighs i x f)
    | inr f ↦ (let here : i ≡ l.number = omega (arith, f.0, length-values s, g.number) in ap (λ (k : ℕ). (shape_at (shapes_of v) k).own) here ∙ g.own_here ∙ is ∙ ap wt f.1)
  ];
  mapped = λ k x e. elim (Rattle.fugue_ids.proofs.IdentifierLemmas.cases_id k key) as (λ _. IsMade v x) [
    | inl f ↦ subst (λ (y : Link). IsMade v y) (here k x f e) g.made
    | inr f ↦ kept x (r.mapped k x (sym (set.others k f) ∙ e))
  ];
  keyed = λ k x e. elim (Rattle.fugue_ids.proofs.IdentifierLemmas.cases_id k key) as (λ _. (shape_at (shapes_of v) x.number).key ≡ k) [
    | inl f ↦ ap (λ (y : Link). (shape_at (shapes_of v) y.number).key) (sym (here k x f e)) ∙ g.key_here ∙ sym f
    | inr f ↦ (
        let was = sym (set.others k f) ∙ e in
        let h = made-below s x (r.mapped k x was) in
        g.keys x.number (λ q. omega (arith, h, q, g.number)) ∙ r.keyed k x was)
  ];
  listed = λ i b. elim (cases_number i l.number) as (λ _. (y : Link) × (y.number ≡ i) × (value_of p (shape_at (shapes_of v) i).key ≡ Some y)) [
    | inl e ↦ (l, sym e, ap (λ (k : ℕ). value_of p (shape_at (shapes_of v) k).key) e ∙ ap (value_of p) g.key_here ∙ set.here)
    | inr e ↦ (
        let at = r.listed i (omega (arith, b, e, g.count, g.number)) in
        let same = g.keys i e in
        (at.0, at.1, ap (value_of p) same ∙ set.others (shape_at (shapes_of s) i).key (λ f. differs at.0 (sym at.2 ∙ ap (value_of m) f ∙ none)) ∙ at.2))
  ];
} where
  here : (k : Identifier) (x : Link) → k ≡ key → value_of p k ≡ Some x → l ≡ x
  here k x f e = let same : Some l ≡ Some x = sym set.here ∙ ap (value_of p) (sym f) ∙ e in cc

  differs : (x : Link) → Some x ≡ None → ⊥
  differs x e = cc

module _ {T : Type 0} (s v : Store T) (root : Option Link) (key : Identifier) (w : Own) (value : T) (l : Link) (none : made_count s ≡ 0)
    (shapes : shapes_of v ≡ shapes_of s ++ only key w ∷ []) (values : values_of v ≡ values_of s ++ value ∷ []) (number : l.number ≡ made_count s)
    (made : IsMade v l) (count : made_count v ≡ made_count s + 1) (fits : w.rank ≤ no_rank) where
  none-there : shapes_of s ≡ []
  none-there = nil_from_length (shapes_of s) (length-shapes s ∙ none)

  one-there : shapes_of v ≡ only key w ∷ []
  one-there = shapes ∙ ap (λ (xs : List Shape). xs ++ only key w ∷ []) none-there

  zero-there : l.number ≡ 0
  zero-there = number ∙ none

  lone-there : (i : ℕ) → i ≢ 0 → (shape_at (only key w ∷ []) i) ≡ shape_at [] i
  lone-there zero ne = absurd (ne refl)
  lone-there (suc i) ne = refl

  same-there : (i : ℕ) → i ≢ l.number → shape_at (shapes_of v) i ≡ shape_at (shapes_of s) i
  same-there i ne = ap (λ (xs : List Shape). shape_at xs i) one-there ∙ lone-there i (λ e. ne (e ∙ sym zero-there)) ∙ ap (λ (xs : List Shape). shape_at xs i) (sym none-there)

  here-there : shape_at (shapes_of v) l.number ≡ only key w
  here-there = ap (λ (xs : List Shape). shape_at xs l.number) one-there ∙ ap (shape_at (only key w ∷ [])) zero-there

  pub first-grown : IsGrown s v (Some l) key w value l
  first-grown = record {
    sound = single-sound key w v l one-there (omega (arith, count, none)) zero-there made fits;
    number = number;
    made = made;
    count = count;
    values = values;
    key_here = ap (λ (h : Shape). h.key) here-there;
    own_here = ap (λ (h : Shape). h.own) here-there;
    keys = λ i ne. ap (λ (h : Shape). h.key) (same-there i ne);
    owns = λ i ne. ap (λ (h : Shape). h.own) (same-there i ne);
  }

  pub first-list : HasRightLinks s root → rope_items_of v (Some l) ≡ (key, value) ∷ []
  first-list sound =
      let t = tree_of (shapes_of v) in
      let none-left = ap (λ (h : Shape). all_nodes t (link_number h.left)) here-there in
      let none-right = ap (λ (h : Shape). all_nodes t (link_number h.right)) here-there in
      let walk = whole-node t first-grown.sound.counted l.number ∙ ap (λ xs. xs ++ l.number ∷ all_nodes t (t.right l.number)) none-left ∙ ap (λ xs. l.number ∷ xs) none-right in
      ap (flat_map (item_at v)) walk ∙ append-nil (item_at v l.number) ∙ new-item s v root (Some l) sound key w value l first-grown
