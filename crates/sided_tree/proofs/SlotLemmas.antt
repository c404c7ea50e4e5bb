-- The slot of a new node: its element, its key, and the gap by the siblings there.
use Rattle.std.proofs.Common.{Bool, List, [], ap, arith, false, refl, subst, sym, true, ◌≤◌, ◌^◌, ◌∙◌, ◌∷◌, ◌≡◌, ◌≢◌, ◌⊎◌}
use Rattle.std.specs.List.{All, Contains}
use Rattle.std.specs.Prelude.{None, Option, Some, filter, if◌then◌else◌}
use Rattle.std.proofs.lemmas.Bool.Decides.{nat_tests}
use Rattle.std.proofs.lemmas.List.Elements.{All-cons, All-head, All-nil, All-tail}
use Rattle.fugue_ids.specs.Identifiers.{Identifier, id_eq}
use Rattle.fugue_ids.specs.Keys.{IsFit, Keyed, between, front_of, ids, is_low, key_lt, low_ids, rest_of}
use Rattle.fugue_ids.specs.Listed.{HoldsOrigin, last_before}
use Rattle.fugue_ids.specs.Passing.{Falls, last_passing}
use Rattle.fugue_ids.specs.declared.key.Key.{Key}
use Rattle.fugue_ids.proofs.ListLemmas.{contains_filter_from, contains_here, contains_there}
use Rattle.origin_model.specs.sides.KeyLaws.{HoldsElement}
use Rattle.origin_model.specs.sides.KeyedGap.{child_key, gap_after, gap_by_keys, part_from, part_to, siblings, slot_key, slot_part}
use Rattle.origin_model.specs.sides.Keys.{keyed_order}
use Rattle.origin_model.specs.sides.Node.{AreNodes, as_ops, node_order}
use Rattle.origin_model.specs.sides.Slot.{slot_by}
use Rattle.origin_model.specs.declared.operations.node.Node.{Node}
use Rattle.origin_model.specs.declared.sides.Slot.{Slot}
use Rattle.origin_model.specs.declared.sides.Slot.TheVariants.{LeftOf, RightOf}
use Rattle.origin_model.proofs.SharedLemmas.{key_found, keyed_ids, part_bounds, part_least, siblings_fall, slot_held}
use Rattle.sided_tree.specs.EarlierSiblings.{is_earlier_sibling}
use Rattle.sided_tree.specs.SlotKeys.{IsSlotKey}
use Rattle.fugue_ids.proofs.LowLemmas.{front_held, low_in}
use Rattle.fugue_ids.proofs.PartedLemmas.{to_held}
use Rattle.origin_model.proofs.edits.SplitLemmas.{end_in}

-- what holds of all holds of those after an element, and of those before one
all_rest : (P : Keyed → Type 0) (x : Option Identifier) (es : List Keyed) → All P es → All P (rest_of x es)
all_rest P None es a = a
all_rest P (Some x) [] a = a
all_rest P (Some x) (e ∷ es) a =
    elim (id_eq e.id x) as (λ b. All P (if b then es else rest_of (Some x) es)) [
      | true ↦ All-tail P e es a
      | false ↦ all_rest P (Some x) es (All-tail P e es a)
    ]

all_front : (P : Keyed → Type 0) (x : Option Identifier) (es : List Keyed) → All P es → All P (front_of x es)
all_front P None es a = a
all_front P (Some x) [] a = a
all_front P (Some x) (e ∷ es) a =
    elim (id_eq e.id x) as (λ b. All P (if b then [] else e ∷ front_of (Some x) es)) [
      | true ↦ All-nil P
      | false ↦ All-cons P e (front_of (Some x) es) (All-head P e es a) (all_front P (Some x) es (All-tail P e es a))
    ]

-- a key that fits no numbers
abbrev pub IsGreat : Key → Type 0
IsGreat k = (2 ^ 32 ≤ k.depth) ⊎ (2 ^ 32 ≤ k.forest)

-- an element that fits them, and has no lesser key, has a greater one
none_low : (k : Key) (e : Keyed) → IsGreat k → IsFit e → key_lt e.key k ≡ false → is_low k e ≡ false
none_low k e g f l = grind (arith, nat_tests, g, f, l)

-- so a search for that key finds none
no_low : (k : Key) (es : List Keyed) → IsGreat k → All IsFit es → All (λ e. key_lt e.key k ≡ false) es → filter (is_low k) es ≡ []
no_low k [] g f l = refl
no_low k (e ∷ es) g f l =
    ap (λ b. if b then e ∷ filter (is_low k) es else filter (is_low k) es) (none_low k e g (All-head IsFit e es f) (All-head (λ e. key_lt e.key k ≡ false) e es l))
    ∙ no_low k es g (All-tail IsFit e es f) (All-tail (λ e. key_lt e.key k ≡ false) e es l)

-- the last that passes is a member
passing_in : (G : Identifier → Bool) (xs : List Identifier) (e : Identifier) → last_passing G xs ≡ Some e → Contains xs e
passing_in G xs e is = (contains_filter_from G xs e (end_in (filter G xs) e is)).0

-- the last that passes in the part of a slot
pub same_siblings : (G : Identifier → Bool) (es : List Keyed) (s : Slot) (k : Key) (from to : Option Identifier) (key : Key) → from ≡ part_from es s k → to ≡ part_to es s k
    → key ≡ child_key s k
    → last_passing G (low_ids key (between from to es)) ≡ last_passing G (siblings es s k)
same_siblings G es s k from to key f t e = λ i. last_passing G (low_ids (e i) (between (f i) (t i) es))

-- the slot of the new node n, in an order of the nodes
module _ (n : Node) (ns : List Node) (es : List Keyed) (new : AreNodes (n ∷ ns)) (list : es ≡ keyed_order ns) (s : Slot) (is : s ≡ slot_by (as_ops ns) n.left n.right) where
  -- the slot, its key and the test of its siblings, by the nodes
  abbrev own : Slot
  own = slot_by (as_ops ns) n.left n.right

  abbrev first : Identifier → Bool
  first = is_earlier_sibling ns n

  -- its element is listed
  pub element_held : HoldsElement (ids es) s
  element_held = subst (λ l. HoldsElement l s) (sym (ap ids list ∙ keyed_ids ns)) (subst (HoldsElement (node_order ns)) (sym is) (slot_held n ns new))

  -- with its key
  module _ (k : Key) (key : IsSlotKey es s k) where
    key_is : k ≡ slot_key (as_ops ns) own
    key_is = by_slot s (subst (λ l. IsSlotKey l s k) list key) ∙ ap (slot_key (as_ops ns)) is
      where
        by_slot : (z : Slot) → IsSlotKey (keyed_order ns) z k → k ≡ slot_key (as_ops ns) z
        by_slot (RightOf None) h = h
        by_slot (RightOf (Some l)) h = key_found ns l k h
        by_slot (LeftOf q) h = key_found ns q k h

    -- what holds of the order, the slot and the key by the nodes
    moved : (P : List Keyed → Slot → Key → Type 0) → P (keyed_order ns) own (slot_key (as_ops ns) own) → P es s k
    moved P p = subst (λ T. T) (λ i. P (sym list i) (sym is i) (sym key_is i)) p

    -- the part of the siblings is bounded by low elements
    pub bounds : (s ≢ RightOf None → All IsFit es)
        → HoldsOrigin (low_ids (child_key s k) es) (part_from es s k) × HoldsOrigin (low_ids (child_key s k) (rest_of (part_from es s k) es)) (part_to es s k)
    bounds fit =
        by_slot s fit (λ f. moved (λ es s k. HoldsOrigin (low_ids (child_key s k) es) (part_from es s k)
        × HoldsOrigin (low_ids (child_key s k) (rest_of (part_from es s k) es)) (part_to es s k))
        (part_bounds n ns new (subst (All IsFit) list f)))
      where
        by_slot : (z : Slot) → (z ≢ RightOf None → All IsFit es)
            → (All IsFit es → HoldsOrigin (low_ids (child_key z k) es) (part_from es z k) × HoldsOrigin (low_ids (child_key z k) (rest_of (part_from es z k) es)) (part_to es z k))
            → HoldsOrigin (low_ids (child_key z k) es) (part_from es z k) × HoldsOrigin (low_ids (child_key z k) (rest_of (part_from es z k) es)) (part_to es z k)
        by_slot (RightOf None) fit f = (tt, tt)
        by_slot (RightOf (Some l)) fit f = f (fit (λ e. cc))
        by_slot (LeftOf q) fit f = f (fit (λ e. cc))

    -- those that go before the node stand first
    pub fall : All IsFit es → Falls first (siblings es s k)
    fall fit = moved (λ es s k. Falls first (siblings es s k)) (siblings_fall n ns new (subst (All IsFit) list fit))

    -- where the key of children would be too great there is none
    pub no_sibling : (s ≢ RightOf None → All IsFit es) → IsGreat (child_key s k) → All IsFit es × (None ≡ last_passing first (siblings es s k))
    no_sibling fit great =
        let f : All IsFit es = by_slot s key fit great in
        let least : All (λ e. key_lt e.key (child_key s k) ≡ false) (slot_part es s k) =
        moved (λ es s k. All (λ e. key_lt e.key (child_key s k) ≡ false) (slot_part es s k)) (part_least n ns new (subst (All IsFit) list f)) in (
          f,
          ap (λ l. last_passing first (ids l))
              (sym (no_low (child_key s k) (slot_part es s k) great
              (all_front IsFit (part_to es s k) (rest_of (part_from es s k) es) (all_rest IsFit (part_from es s k) es f)) least)),
        )
      where
        by_slot : (z : Slot) → IsSlotKey es z k → (z ≢ RightOf None → All IsFit es) → IsGreat (child_key z k) → All IsFit es
        by_slot (RightOf None) h fit g = absurd (grind (arith, h, g))
        by_slot (RightOf (Some l)) h fit g = fit (λ e. cc)
        by_slot (LeftOf q) h fit g = fit (λ e. cc)

    -- the gap by the last that goes before
    pub by_earlier : (o : Option Identifier) → o ≡ last_passing first (siblings es s k) → gap_after es s k o ≡ gap_by_keys es own (slot_key (as_ops ns) own) first
    by_earlier o e = ap (gap_after es s k) e ∙ (λ i. gap_by_keys es (is i) (key_is i) first)

    -- an earlier sibling is listed
    pub earlier_held : (e : Identifier) → last_passing first (siblings es s k) ≡ Some e → Contains (ids es) e
    earlier_held e found =
        let c : Contains (ids (slot_part es s k)) e = low_in (child_key s k) (slot_part es s k) e (passing_in first (siblings es s k) e found) in
        to_held es (part_from es s k) (Some e) (front_held (rest_of (part_from es s k) es) (part_to es s k) (Some e) c)
