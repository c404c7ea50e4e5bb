-- What an insert does to the list of items: a new one beside those of one node.
use Rattle.std.proofs.Common.{◌≡◌, ◌≢◌, inl, inr, ℕ, zero, suc, ◌<◌, ◌≤◌, cond, List, [], ◌∷◌, ◌++◌, length, map, flat_map, slice_get, option_map, Option, None, Some, refl, sym}
use Rattle.std.proofs.Common.{ap, ◌∙◌, arith}
use Rattle.std.specs.Prelude.{option_to_list}
use Rattle.std.proofs.lemmas.Bool.Decides.{eqb_tells}
use Rattle.std.proofs.lemmas.List.{append-nil}
use Rattle.std.proofs.lemmas.List.Concat.{flat_map-append}
use Rattle.std.specs.Prelude.{eqb}
use Rattle.fugue_ids.specs.Identifiers.{Identifier, id_eq}
use Rattle.node_rope.specs.Beside.{new_then, then_new, placed_before, placed_after, placed_beside}
use Rattle.node_rope.specs.declared.turn.Side.{Side}
use Rattle.node_rope.specs.declared.turn.Side.TheVariants.{Left, Right}
use Rattle.node_rope.specs.Sides.{beside}
use Rattle.node_rope.specs.declared.store.Store.{Store}
use Rattle.node_rope.specs.declared.cells.Shape.{Shape}
use Rattle.node_rope.specs.declared.cells.Link.{Link}
use Rattle.node_rope.specs.declared.cells.Own.{Own}
use Rattle.node_rope.specs.declared.cells.Node.{Node}
use Rattle.node_rope.specs.Shaped.{shape_of, node_value}
use Rattle.node_rope.specs.Made.{made_count, shapes_of, values_of}
use Rattle.node_rope.specs.Shapes.{HasRightLinks, shape_at, link_number, tree_of, nodes_in_order}
use Rattle.node_rope.specs.Walk.{count_of, all_nodes, with_node_before, after}
use Rattle.node_rope.specs.Items.{item_at, rope_items_of}
use Rattle.node_rope.specs.Grown.{IsGrown}
use Rattle.node_rope.proofs.WalkLemmas.{whole-node}
use Rattle.node_rope.proofs.ShapeLemmas.{length-shapes}
use Rattle.node_rope.proofs.GrowthLemmas.{are-within}
use Rattle.node_rope.proofs.ItemLemmas.{root-below}
use Rattle.fugue_ids.proofs.ListLemmas.{slice_get-append}

pub got-of : {X Y : Type 0} (f : X → Y) (xs : List X) (i : ℕ) → slice_get (map f xs) i ≡ option_map f (slice_get xs i)
got-of f [] i = refl
got-of f (x ∷ xs) zero = refl
got-of f (x ∷ xs) (suc i) = got-of f xs i

pub some-of : {X : Type 0} (xs : List X) (i : ℕ) → i < length xs → (x : X) × (slice_get xs i ≡ Some x)
some-of [] i h = absurd (omega arith)
some-of (x ∷ xs) zero h = (x, refl)
some-of (x ∷ xs) (suc i) h = some-of xs i (omega arith)

pub end-of : {X : Type 0} (xs : List X) (y : X) (i : ℕ) → i ≡ length xs → slice_get (xs ++ y ∷ []) i ≡ Some y
end-of [] y zero e = refl
end-of [] y (suc i) e = absurd (omega arith)
end-of (x ∷ xs) y zero e = absurd (omega arith)
end-of (x ∷ xs) y (suc i) e = end-of xs y i (omega arith)

read-of : (ss : List Shape) (i : ℕ) (h : Shape) → slice_get ss i ≡ Some h → h ≡ shape_at ss i
read-of [] i h e = absurd (cc)
read-of (s ∷ ss) zero h e = cc
read-of (s ∷ ss) (suc i) h e = read-of ss i h e

-- an item is the key and the value of its node
pub item-is : {T : Type 0} (s : Store T) (i : ℕ) (v : T) → i < made_count s → slice_get (values_of s) i ≡ Some v → item_at s i ≡ ((shape_at (shapes_of s) i).key, v) ∷ []
item-is {T} s i v h e =
    let n = some-of s.pile.values i h in
    let key : slice_get (shapes_of s) i ≡ Some n.0.shape = got-of shape_of s.pile.values i ∙ ap (option_map shape_of) n.1 in
    let value : Some n.0.value ≡ Some v = sym (got-of node_value s.pile.values i ∙ ap (option_map node_value) n.1) ∙ e in
    let is : n.0.value ≡ v = cc in
    let k : n.0.shape ≡ shape_at (shapes_of s) i = read-of (shapes_of s) i n.0.shape key in
    let pair : Node T → Identifier × T = λ m. (m.shape.key, m.value) in
    ap (λ o. option_to_list (option_map pair o)) n.1 ∙ ap (λ (q : Shape). (q.key, n.0.value) ∷ []) k ∙ ap (λ (w : T). ((shape_at (shapes_of s) i).key, w) ∷ []) is

-- ---- a list function of the nodes, through one of single nodes
module _ {T A B : Type 0} (s : Store T) (root : Option Link) (sound : HasRightLinks s root) (I : A → List B) (f : ℕ → List A) (G : ℕ → List B)
    (each : (x : ℕ) → x < made_count s → flat_map I (f x) ≡ G x) where
  through-below : (k : ℕ) (o : Option ℕ) → count_of (tree_of (shapes_of s)) o ≤ k → ((x : ℕ) → o ≡ Some x → x < made_count s)
      → flat_map I (flat_map f (all_nodes (tree_of (shapes_of s)) o)) ≡ flat_map G (all_nodes (tree_of (shapes_of s)) o)
  through-below k None h b = refl
  through-below zero (Some x) h b = absurd (omega (arith, sound.counted x))
  through-below (suc k) (Some x) h b =
      let t = tree_of (shapes_of s) in
      let L = all_nodes t (t.left x) in
      let R = all_nodes t (t.right x) in
      let l' = through-below k (t.left x) (omega (arith, sound.counted x)) (λ m e. let q = (are-within s root sound).lefts x m e in omega (arith, q, length-shapes s)) in
      let r' = through-below k (t.right x) (omega (arith, sound.counted x)) (λ m e. let q = (are-within s root sound).rights x m e in omega (arith, q, length-shapes s)) in
      ap (λ xs. flat_map I (flat_map f xs)) (whole-node t sound.counted x) ∙ ap (flat_map I) (flat_map-append f L (x ∷ R)) ∙ flat_map-append I (flat_map f L) (f x ++ flat_map f R)
      ∙ ap (λ ys. flat_map I (flat_map f L) ++ ys) (flat_map-append I (f x) (flat_map f R))
      ∙ ap (λ ys. ys ++ (flat_map I (f x) ++ flat_map I (flat_map f R))) l' ∙ ap (λ ys. flat_map G L ++ (ys ++ flat_map I (flat_map f R))) (each x (b x refl))
      ∙ ap (λ ys. flat_map G L ++ (G x ++ ys)) r'
      ∙ sym (flat_map-append G L (x ∷ R)) ∙ ap (flat_map G) (sym (whole-node t sound.counted x))

  through : flat_map I (flat_map f (nodes_in_order s root)) ≡ flat_map G (nodes_in_order s root)
  through = through-below (count_of (tree_of (shapes_of s)) (link_number root)) (link_number root) (omega arith) (root-below s root sound root sound.made_root)

module _ {T : Type 0} (s u : Store T) (root top : Option Link) (sound : HasRightLinks s root) (key : Identifier) (w : Own) (value : T) (l : Link)
    (g : IsGrown s u top key w value l) where
  length-values : length (values_of s) ≡ made_count s
  length-values = Rattle.std.proofs.lemmas.List.length-map s.pile.values node_value

  pub new-item : item_at u l.number ≡ (key, value) ∷ []
  new-item =
      let at = end-of (values_of s) value l.number (g.number ∙ sym length-values) in
      item-is u l.number value (let c = g.count in let n = g.number in omega arith) (ap (λ xs. slice_get xs l.number) g.values ∙ at) ∙ ap (λ k. (k, value) ∷ []) g.key_here

  pub old-item : (i : ℕ) → i < made_count s → item_at u i ≡ item_at s i
  old-item i h =
      let v = some-of (values_of s) i (omega (arith, h, length-values)) in
      let ne : i ≢ l.number = λ e. (let n = g.number in omega (arith, e, n, h)) in
      item-is u i v.0 (let c = g.count in omega (arith, c, h))
      (ap (λ xs. slice_get xs i) g.values ∙ slice_get-append (values_of s) (value ∷ []) i (omega (arith, h, length-values)) ∙ v.1)
      ∙ ap (λ k. (k, v.0) ∷ []) (g.keys i ne) ∙ sym (item-is s i v.0 h v.1)

  abbrev pub beside_before : ℕ → ℕ → List (Identifier × T)
  beside_before y x = cond (eqb x y) ((key, value) ∷ item_at s x) (item_at s x)

  each-before : (y x : ℕ) → x < made_count s → flat_map (item_at u) (with_node_before y l.number x) ≡ beside_before y x
  each-before y x h = elim (eqb_tells x y) as (λ _. flat_map (item_at u) (with_node_before y l.number x) ≡ beside_before y x) [
    | inl e ↦ ap (λ b. flat_map (item_at u) (cond b (l.number ∷ y ∷ []) (x ∷ []))) e.0 ∙ ap (λ ys. item_at u l.number ++ ys) (append-nil (item_at u y) ∙ ap (item_at u) (sym e.1))
        ∙ ap (λ ys. ys ++ item_at u x) new-item ∙ ap (λ ys. (key, value) ∷ ys) (old-item x h)
        ∙ ap (λ b. cond b ((key, value) ∷ item_at s x) (item_at s x)) (sym e.0)
    | inr e ↦ ap (λ b. flat_map (item_at u) (cond b (l.number ∷ y ∷ []) (x ∷ []))) e.0 ∙ append-nil (item_at u x) ∙ old-item x h
        ∙ ap (λ b. cond b ((key, value) ∷ item_at s x) (item_at s x)) (sym e.0)
  ]

  -- the list of an insert before the node y
  pub items-before : (y : ℕ) → nodes_in_order u top ≡ flat_map (with_node_before y l.number) (nodes_in_order s root)
      → rope_items_of u top ≡ flat_map (beside_before y) (nodes_in_order s root)
  items-before y e = ap (flat_map (item_at u)) e ∙ through s root sound (item_at u) (with_node_before y l.number) (beside_before y) (each-before y)

  abbrev pub beside_after : ℕ → ℕ → List (Identifier × T)
  beside_after y x = cond (eqb x y) (item_at s x ++ (key, value) ∷ []) (item_at s x)

  each-after : (y x : ℕ) → x < made_count s → flat_map (item_at u) (after y l.number x) ≡ beside_after y x
  each-after y x h = elim (eqb_tells x y) as (λ _. flat_map (item_at u) (after y l.number x) ≡ beside_after y x) [
    | inl e ↦ ap (λ b. flat_map (item_at u) (cond b (x ∷ l.number ∷ []) (x ∷ []))) e.0 ∙ ap (λ ys. item_at u x ++ ys) (append-nil (item_at u l.number))
        ∙ ap (λ ys. item_at u x ++ ys) new-item ∙ ap (λ ys. ys ++ (key, value) ∷ []) (old-item x h)
        ∙ ap (λ b. cond b (item_at s x ++ (key, value) ∷ []) (item_at s x)) (sym e.0)
    | inr e ↦ ap (λ b. flat_map (item_at u) (cond b (x ∷ l.number ∷ []) (x ∷ []))) e.0 ∙ append-nil (item_at u x) ∙ old-item x h
        ∙ ap (λ b. cond b (item_at s x ++ (key, value) ∷ []) (item_at s x)) (sym e.0)
  ]

  -- the list of an insert after the node y
  pub items-after : (y : ℕ) → nodes_in_order u top ≡ flat_map (after y l.number) (nodes_in_order s root) → rope_items_of u top ≡ flat_map (beside_after y) (nodes_in_order s root)
  items-after y e = ap (flat_map (item_at u)) e ∙ through s root sound (item_at u) (after y l.number) (beside_after y) (each-after y)

  -- the same by keys, where the key `at` is that of the node y alone
  module _ (at : Identifier) (y : ℕ) (alone : (x : ℕ) → x < made_count s → id_eq (shape_at (shapes_of s) x).key at ≡ eqb x y) where
    keyed-before : (x : ℕ) → x < made_count s → flat_map (new_then at (key, value)) (item_at s x) ≡ beside_before y x
    keyed-before x h =
        let v = some-of (values_of s) x (omega (arith, h, length-values)) in
        let is = item-is s x v.0 h v.1 in
        let it : Identifier × T = ((shape_at (shapes_of s) x).key, v.0) in
        ap (flat_map (new_then at (key, value))) is ∙ append-nil (new_then at (key, value) it) ∙ ap (λ b. cond b ((key, value) ∷ it ∷ []) (it ∷ [])) (alone x h)
        ∙ ap (λ (ys : List (Identifier × T)). cond (eqb x y) ((key, value) ∷ ys) ys) (sym is)

    list-before : nodes_in_order u top ≡ flat_map (with_node_before y l.number) (nodes_in_order s root) → rope_items_of u top ≡ placed_before at (key, value) (rope_items_of s root)
    list-before e = items-before y e ∙ sym (through s root sound (new_then at (key, value)) (item_at s) (beside_before y) keyed-before)

    keyed-after : (x : ℕ) → x < made_count s → flat_map (then_new at (key, value)) (item_at s x) ≡ beside_after y x
    keyed-after x h =
        let v = some-of (values_of s) x (omega (arith, h, length-values)) in
        let is = item-is s x v.0 h v.1 in
        let it : Identifier × T = ((shape_at (shapes_of s) x).key, v.0) in
        ap (flat_map (then_new at (key, value))) is ∙ append-nil (then_new at (key, value) it) ∙ ap (λ b. cond b (it ∷ (key, value) ∷ []) (it ∷ [])) (alone x h)
        ∙ ap (λ (ys : List (Identifier × T)). cond (eqb x y) (ys ++ (key, value) ∷ []) ys) (sym is)

    list-after : nodes_in_order u top ≡ flat_map (after y l.number) (nodes_in_order s root) → rope_items_of u top ≡ placed_after at (key, value) (rope_items_of s root)
    list-after e = items-after y e ∙ sym (through s root sound (then_new at (key, value)) (item_at s) (beside_after y) keyed-after)

    pub list-beside : (d : Side) → nodes_in_order u top ≡ flat_map (beside d y l.number) (nodes_in_order s root)
        → rope_items_of u top ≡ placed_beside d at (key, value) (rope_items_of s root)
    list-beside Left e = list-before e
    list-beside Right e = list-after e
