-- Another key in a node, and a new item in the place of another.
use Rattle.std.proofs.Common.{◌≡◌, ◌≢◌, ◌⊎◌, inl, inr, ℕ, ◌<◌, Bool, true, false, cond, List, [], ◌∷◌, length, flat_map, slice_get, slice_set, Option, None, Some, refl, sym, ap}
use Rattle.std.proofs.Common.{◌∙◌, subst, arith}
use Rattle.std.specs.Prelude.{is_some}
use Rattle.std.proofs.lemmas.Bool.{cases_Bool, false_from_ne_true}
use Rattle.std.proofs.lemmas.Bool.Decides.{eqb_tells}
use Rattle.fugue_ids.specs.Identifiers.{Identifier, id_eq}
use Rattle.fugue_ids.proofs.IdentifierLemmas.{cases_id, id_eq-refl}
use Rattle.block_map.specs.Contents.{value_of}
use Rattle.block_map.specs.Renames.{IsRenamed}
use Rattle.block_map.specs.declared.map.BlockMap.{BlockMap}
use Rattle.node_rope.specs.declared.store.Store.{Store}
use Rattle.node_rope.specs.declared.cells.Shape.{Shape}
use Rattle.node_rope.specs.declared.cells.Link.{Link}
use Rattle.node_rope.specs.declared.cells.Own.{Own}
use Rattle.node_rope.specs.Made.{IsMade, KeepsMade, made_count, shapes_of, values_of}
use Rattle.node_rope.specs.Shapes.{HasRightLinks, shape_at, link_number, tree_of, nodes_in_order, weights, owns, leasts, ranks}
use Rattle.node_rope.specs.Sums.{sum_measure, lesser}
use Rattle.node_rope.specs.Items.{IsRope, item_at, rope_items_of, value_under}
use Rattle.node_rope.specs.Beside.{put_under, items_renamed, items_rekeyed}
use Rattle.node_rope.specs.Reweighed.{AreReweighed}
use Rattle.node_rope.proofs.ShapeLemmas.{length-shapes, made-below}
use Rattle.node_rope.proofs.RaiseLemmas.{set_same, set_other}
use Rattle.node_rope.proofs.SumLemmas.{summed-along}
use Rattle.node_rope.proofs.EffectLemmas.{item-is}
use Rattle.node_rope.proofs.KeyLemmas.{all-made, mapped-items, alone}
use Rattle.node_rope.proofs.ReweighLemmas.{tree-along, order-still}
use Rattle.fugue_ids.proofs.OptionLemmas.{cases_number}

-- s with another key in the node l
module _ {T : Type 0} (s v : Store T) (root : Option Link) (l : Link) (other : Identifier) (sound : HasRightLinks s root) (made : IsMade s l)
    (is : shapes_of v ≡ slice_set (shapes_of s) l.number (record (shape_at (shapes_of s) l.number) { key = other }))
    (count : made_count v ≡ made_count s) (kept : KeepsMade s v) where
  abbrev ss : List Shape
  ss = shapes_of s

  abbrev us : List Shape
  us = shapes_of v

  inside : l.number < length ss
  inside = let h = made-below s l made in omega (arith, h, length-shapes s)

  here : shape_at us l.number ≡ record (shape_at ss l.number) { key = other }
  here = ap (λ xs. shape_at xs l.number) is ∙ set_same ss l.number (record (shape_at ss l.number) { key = other }) inside

  elsewhere : (i : ℕ) → i ≢ l.number → shape_at us i ≡ shape_at ss i
  elsewhere i h = ap (λ xs. shape_at xs i) is ∙ set_other ss l.number i (record (shape_at ss l.number) { key = other }) h

  -- all but the keys is the same
  pub field : {X : Type 0} (f : Shape → X) → ((h : Shape) (k : Identifier) → f (record h { key = k }) ≡ f h) → (i : ℕ) → f (shape_at us i) ≡ f (shape_at ss i)
  field {X} f h i = elim (cases_number i l.number) as (λ _. f (shape_at us i) ≡ f (shape_at ss i)) [
    | inl e ↦ ap (λ (j : ℕ). f (shape_at us j)) e ∙ ap f here ∙ h (shape_at ss l.number) other ∙ ap (λ (j : ℕ). f (shape_at ss j)) (sym e)
    | inr e ↦ ap f (elsewhere i e)
  ]

  pub key-here : (shape_at us l.number).key ≡ other
  key-here = ap (λ (h : Shape). h.key) here

  pub key-elsewhere : (i : ℕ) → i ≢ l.number → (shape_at us i).key ≡ (shape_at ss i).key
  key-elsewhere i h = ap (λ (h : Shape). h.key) (elsewhere i h)

  pub renamed-placed : AreReweighed ss us
  renamed-placed i = record {
    left = field (λ h. h.left) (λ h k. refl) i;
    right = field (λ h. h.right) (λ h k. refl) i;
    parent = field (λ h. h.parent) (λ h k. refl) i;
    count = field (λ h. h.count) (λ h k. refl) i;
  }

  pub renamed-sound : HasRightLinks v root
  renamed-sound =
      let p = renamed-placed in
      let lefts = λ (i : ℕ). ap link_number (p i).left in
      let rights = λ (i : ℕ). ap link_number (p i).right in
      tree-along s v root p count kept sound
      (summed-along sum_measure (tree_of ss) (tree_of us) (owns ss) (owns us) (weights ss) (weights us) lefts rights (field (λ h. h.own.weight) (λ h k. refl))
      (field (λ h. h.weight) (λ h k. refl)) sound.weighed)
      (summed-along lesser (tree_of ss) (tree_of us) (ranks ss) (ranks us) (leasts ss) (leasts us) lefts rights (field (λ h. h.own.rank) (λ h k. refl))
      (field (λ h. h.least) (λ h k. refl)) sound.ranked)

-- and in the map
module _ {T : Type 0} (wt : T → Own) (s v : Store T) (root : Option Link) (m p : BlockMap Link) (key other : Identifier) (l : Link) (r : IsRope wt s root m)
    (at : value_of m key ≡ Some l) (none : value_of m other ≡ None)
    (is : shapes_of v ≡ slice_set (shapes_of s) l.number (record (shape_at (shapes_of s) l.number) { key = other })) (values : values_of v ≡ values_of s)
    (count : made_count v ≡ made_count s) (kept : KeepsMade s v)
    (renaming : IsRenamed (value_of m) (value_of p) key other) where
  abbrev there : IsMade s l
  there = r.mapped key l at

  -- the new key has the node, the old one none, and each other key what it had
  pub new-key : value_of p other ≡ Some l
  new-key = renaming.here ∙ at

  other-keys : (k : Identifier) → k ≢ other → k ≢ key → value_of p k ≡ value_of m k
  other-keys k f g = renaming.others k g f

  was : (k : Identifier) (x : Link) → value_of p k ≡ Some x → ((k ≡ other) × (l ≡ x)) ⊎ ((k ≢ key) × (value_of m k ≡ Some x))
  was k x e = elim (cases_id k other) as (λ _. ((k ≡ other) × (l ≡ x)) ⊎ ((k ≢ key) × (value_of m k ≡ Some x))) [
    | inl f ↦ (let same : Some l ≡ Some x = sym new-key ∙ ap (value_of p) (sym f) ∙ e in inl (f, cc))
    | inr f ↦ elim (cases_id k key) as (λ _. ((k ≡ other) × (l ≡ x)) ⊎ ((k ≢ key) × (value_of m k ≡ Some x))) [
      | inl g ↦ (let no : None ≡ Some x = sym renaming.gone ∙ ap (value_of p) (sym g) ∙ e in absurd (cc))
      | inr g ↦ inr (g, sym (other-keys k f g) ∙ e)
    ]
  ]

  pub renamed-roped : IsRope wt v root p
  renamed-roped = record {
    sound = renamed-sound s v root l other r.sound there is count kept;
    few = omega (arith, r.few, count);
    light = λ i. omega (arith, r.light i, field s v root l other r.sound there is count kept (λ h. h.own.weight) (λ h k. refl) i);
    fits = λ i. omega (arith, r.fits i, field s v root l other r.sound there is count kept (λ h. h.own.rank) (λ h k. refl) i);
    weighs = λ i x e. field s v root l other r.sound there is count kept (λ h. h.own) (λ h k. refl) i ∙ r.weighs i x (ap (λ xs. slice_get xs i) (sym values) ∙ e);
    mapped = λ k x e. elim (was k x e) as (λ _. IsMade v x) [
      | inl f ↦ subst (λ (y : Link). IsMade v y) f.1 (kept l there)
      | inr f ↦ kept x (r.mapped k x f.1)
    ];
    keyed = λ k x e. elim (was k x e) as (λ _. (shape_at (shapes_of v) x.number).key ≡ k) [
      | inl f ↦ ap (λ (y : Link). (shape_at (shapes_of v) y.number).key) (sym f.1) ∙ key-here s v root l other r.sound there is count kept ∙ sym f.0
      | inr f ↦ key-elsewhere s v root l other r.sound there is count kept x.number
          (λ g. f.0 (sym (r.keyed k x f.1) ∙ ap (λ (j : ℕ). (shape_at (shapes_of s) j).key) g ∙ r.keyed key l at)) ∙ r.keyed k x f.1
    ];
    listed = λ i b. elim (cases_number i l.number) as (λ _. (y : Link) × (y.number ≡ i) × (value_of p (shape_at (shapes_of v) i).key ≡ Some y)) [
      | inl e ↦ (l, sym e, ap (λ (j : ℕ). value_of p (shape_at (shapes_of v) j).key) e ∙ ap (value_of p) (key-here s v root l other r.sound there is count kept) ∙ new-key)
      | inr e ↦ (
          let q = r.listed i (omega (arith, b, count)) in
          let k = (shape_at (shapes_of s) i).key in
          let old = other-keys k (λ f. differs q.0 (sym q.2 ∙ ap (value_of m) f ∙ none))
          (λ f. e (sym q.1 ∙ ap (λ (y : Link). y.number) (same-link q.0 (sym q.2 ∙ ap (value_of m) f ∙ at)))) in
          (q.0, q.1, ap (value_of p) (key-elsewhere s v root l other r.sound there is count kept i e) ∙ old ∙ q.2))
    ];
  } where
    differs : (x : Link) → Some x ≡ None → ⊥
    differs x e = cc

    same-link : (x : Link) → Some x ≡ Some l → x ≡ l
    same-link x e = cc

  key-is : (x : ℕ) → x < made_count s → (shape_at (shapes_of v) x).key ≡ cond (id_eq (shape_at (shapes_of s) x).key key) other (shape_at (shapes_of s) x).key
  key-is x h = elim (eqb_tells x l.number) as (λ _. (shape_at (shapes_of v) x).key ≡ cond (id_eq (shape_at (shapes_of s) x).key key) other (shape_at (shapes_of s) x).key) [
    | inl f ↦ ap (λ (j : ℕ). (shape_at (shapes_of v) j).key) f.1 ∙ key-here s v root l other r.sound there is count kept
        ∙ ap (λ (b : Bool). cond b other (shape_at (shapes_of s) x).key) (sym (alone wt s root m r key l at x h ∙ f.0))
    | inr f ↦ key-elsewhere s v root l other r.sound there is count kept x f.1
        ∙ ap (λ (b : Bool). cond b other (shape_at (shapes_of s) x).key) (sym (alone wt s root m r key l at x h ∙ f.0))
  ]

  pub renamed-list : rope_items_of v root ≡ items_renamed key other (rope_items_of s root)
  renamed-list =
      ap (flat_map (item_at v)) (order-still s v root (renamed-placed s v root l other r.sound there is count kept))
      ∙ mapped-items s v (λ x. (cond (id_eq x.0 key) other x.0, x.1))
      (λ x h a e. item-is v x a (omega (arith, h, count)) (ap (λ xs. slice_get xs x) values ∙ e) ∙ ap (λ (k : Identifier). (k, a) ∷ []) (key-is x h)) (nodes_in_order s root)
      (all-made s root r.sound)

-- ---- the list
module _ {T : Type 0} (key other : Identifier) where
  abbrev IsFree : List (Identifier × T) → Type 0
  IsFree xs = is_some (value_under other xs) ≡ false

  not-first : (x : Identifier × T) (xs : List (Identifier × T)) → IsFree (x ∷ xs) → id_eq x.0 other ≡ false
  not-first x xs h = false_from_ne_true _ (λ e. (let no : true ≡ false = sym (ap (λ b. is_some (cond b (Some x.1) (value_under other xs))) e) ∙ h in cc))

  not-later : (x : Identifier × T) (xs : List (Identifier × T)) → IsFree (x ∷ xs) → IsFree xs
  not-later x xs h = sym (ap (λ b. is_some (cond b (Some x.1) (value_under other xs))) (not-first x xs h)) ∙ h

  -- the value goes with its item
  pub value-renamed : (xs : List (Identifier × T)) → IsFree xs → value_under other (items_renamed key other xs) ≡ value_under key xs
  value-renamed [] h = refl
  value-renamed (x ∷ xs) h = elim (cases_Bool (id_eq x.0 key)) as (λ _. value_under other (items_renamed key other (x ∷ xs)) ≡ value_under key (x ∷ xs)) [
    | inl f ↦ rw (f, id_eq-refl other) refl
    | inr f ↦ rw (f, not-first x xs h) (value-renamed xs (not-later x xs h))
  ]

  -- a new item is the old one renamed, with another value
  put-item : (value : T) (x : Identifier × T) → id_eq x.0 other ≡ false
      → (cond (id_eq x.0 key) other x.0, cond (id_eq (cond (id_eq x.0 key) other x.0) other) value x.1) ≡ cond (id_eq x.0 key) (other, value) x
  put-item value x e = elim (cases_Bool (id_eq x.0 key)) as
      (λ _. (cond (id_eq x.0 key) other x.0, cond (id_eq (cond (id_eq x.0 key) other x.0) other) value x.1) ≡ cond (id_eq x.0 key) (other, value) x) [
        | inl f ↦ rw (f, id_eq-refl other) refl
        | inr f ↦ rw (f, e) refl
      ]

  pub put-renamed : (value : T) (xs : List (Identifier × T)) → IsFree xs → put_under other value (items_renamed key other xs) ≡ items_rekeyed key (other, value) xs
  put-renamed value [] h = refl
  put-renamed value (x ∷ xs) h =
      ap (λ y. y ∷ put_under other value (items_renamed key other xs)) (put-item value x (not-first x xs h))
      ∙ ap (λ ys. cond (id_eq x.0 key) (other, value) x ∷ ys) (put-renamed value xs (not-later x xs h))
