-- The order of nodes with their keys: look-ups in it, one more node, and its gap.
use Rattle.origin_model.proofs.Words.{All, AllPairs, Bool, Contains, Identifier, Lawful, List, None, Op, Option, Some, [], all_pairs_head, all_pairs_tail, All-contains, ap}
use Rattle.origin_model.proofs.Words.{append_assoc, arith, before_in, catalogue, cases_id, cases_origin, contains_cases, contains_here, contains_middle, contains_none, count_by}
use Rattle.origin_model.proofs.Words.{eq-id_eq, false, id_eq, if◌then◌else◌, inl, inr, insert, length, ne-id_eq, refl, subst, suc, sym, true, true≢false, zero, ℕ, ◌++◌, ◌<◌, ◌^◌}
use Rattle.origin_model.proofs.Words.{◌∙◌, ◌∷◌, ◌≡◌, ◌≢◌, ◌≤◌, ◌⊎◌}
use Rattle.std.specs.Prelude.{IfSome}
use Rattle.std.proofs.lemmas.List.Sums.{count_by-le-length}
use Rattle.fugue_ids.specs.Keys.{HasKey, IsFit, first_id, ids, key_lt, low_ids, rest_of}
use Rattle.fugue_ids.specs.Listed.{HoldsOrigin, index_of}
use Rattle.fugue_ids.specs.Passing.{Falls}
use Rattle.fugue_ids.specs.declared.key.Gap.{Gap}
use Rattle.fugue_ids.specs.declared.key.Gap.TheVariants.{After, Alone, Before}
use Rattle.fugue_ids.specs.declared.key.Key.{Key}
use Rattle.fugue_ids.proofs.IdentifierLemmas.{contains-below, index_of-here, index_of-insert, index_of-there, index_of-within}
use Rattle.origin_model.specs.declared.operations.node.Node.{Node}
use Rattle.origin_model.specs.declared.sides.Slot.{Slot}
use Rattle.origin_model.specs.declared.sides.Slot.TheVariants.{LeftOf, RightOf}
use Rattle.origin_model.specs.edits.Landing.{StandsAfter, following, first_after}
use Rattle.origin_model.specs.sides.KeyLaws.{HoldsSlot, StandsAt}
use Rattle.origin_model.specs.sides.KeyedGap.{before_all, child_key, gap_between, gap_by_keys, gap_index, part_from, part_to, siblings, slot_key, slot_part}
use Rattle.origin_model.specs.sides.Keys.{search_key_of, with_keys, keyed_as, keyed_order, new_key, new_keyed}
use Rattle.origin_model.specs.sides.Node.{AreNodes, as_op, as_ops, has_node, has_origin, node_order}
use Rattle.origin_model.specs.sides.Slot.{IsBeside, IsPlace, at_gap, goes_before, inserted_before, inserted_after, slot_by}
use Rattle.origin_model.proofs.edits.LandsBehindLemmas.{lands_behind_origin}
use Rattle.origin_model.proofs.edits.SplitLemmas.{end_none, end_split}
use Rattle.origin_model.proofs.order.{order-has, order-member, order-some, order_total}
use Rattle.origin_model.proofs.order.OrderLemmas.{IsIn-held}
use Rattle.origin_model.proofs.sides.KeyedGapLemmas.{fall, gap_by_keys_is_place, slot_stands}
use Rattle.origin_model.proofs.sides.KeyedListLemmas.{all_keyed, ids-keyed}
use Rattle.origin_model.proofs.sides.KeyedPartLemmas.{IsPart, part_of}
use Rattle.origin_model.proofs.sides.NewKeyLemmas.{key_bound, key_of_child, keys_stay, newest_key}
use Rattle.origin_model.proofs.sides.NodeHistoryLemmas.{nodes-lawful}
use Rattle.origin_model.proofs.sides.NodeOrderLemmas.{nodes_listed}

-- the identifiers of the nodes in order
pub keyed_ids : (ns : List Node) → ids (keyed_order ns) ≡ node_order ns
keyed_ids ns = ids-keyed (as_ops ns) (node_order ns)

-- no node stands twice in the order
pub order_once : (ns : List Node) → AreNodes ns → AllPairs (λ x y. x ≢ y) (node_order ns)
order_once ns a = (order_total catalogue (as_ops ns) (nodes-lawful ns a)).once

-- the key of a member
key_in : (h : List Op) (xs : List Identifier) (x : Identifier) → Contains xs x → HasKey (with_keys h xs) x (search_key_of h x)
key_in h [] x m = absurd (contains_none x m)
key_in h (e ∷ es) x m =
    let Has : Bool → Type 0 = λ b. elim b [ true ↦ search_key_of h e ≡ search_key_of h x | false ↦ HasKey (with_keys h es) x (search_key_of h x) ] in
    elim (cases_id e x) [
      | inl d ↦ subst Has (sym (eq-id_eq e x d)) (ap (search_key_of h) d)
      | inr n ↦ subst Has (sym (ne-id_eq e x n)) (key_in h es x (elim (contains_cases e es x m) [ inl d ↦ absurd (n d) | inr j ↦ j ]))
    ]

-- it has no other
key_of_member : (h : List Op) (xs : List Identifier) (x : Identifier) (k : Key) → HasKey (with_keys h xs) x k → k ≡ search_key_of h x
key_of_member h [] x k m = absurd m
key_of_member h (e ∷ es) x k m =
    let Has : Bool → Type 0 = λ b. elim b [ true ↦ search_key_of h e ≡ k | false ↦ HasKey (with_keys h es) x k ] in
    elim (cases_id e x) [
      | inl d ↦ sym (subst Has (eq-id_eq e x d) m) ∙ ap (search_key_of h) d
      | inr n ↦ key_of_member h es x k (subst Has (ne-id_eq e x n) m)
    ]

-- a node's key stands in the order
pub key_held : (ns : List Node) (x : Identifier) → AreNodes ns → has_node ns x ≡ true → HasKey (keyed_order ns) x (search_key_of (as_ops ns) x)
key_held ns x a k = key_in (as_ops ns) (node_order ns) x ((nodes_listed ns a x).0 k)

-- and what stands there is its key
pub key_found : (ns : List Node) (x : Identifier) (k : Key) → HasKey (keyed_order ns) x k → k ≡ search_key_of (as_ops ns) x
key_found ns x k m = key_of_member (as_ops ns) (node_order ns) x k m

-- as many operations as nodes
ops-length : (ns : List Node) → length {A = Op} (as_ops ns) ≡ length {A = Node} ns
ops-length [] = refl
ops-length (n ∷ ns) = ap suc (ops-length ns)

-- the keys fit as long as there are no more nodes than numbers
pub keys_fit : (ns : List Node) → AreNodes ns → length ns < 2 ^ 32 → All IsFit (keyed_order ns)
keys_fit ns a below =
    let h : List Op = as_ops ns in
    all_keyed h IsFit (node_order ns) (λ x m.
    let b = key_bound h x (IsIn-held catalogue h x (order-member catalogue h x (nodes-lawful ns a) m)) in
    let c = ops-length ns in
    (omega (arith, b.0, c, below), omega (arith, b.1, c, below)))

-- what goes in before a member goes in at its index
insert_before : (x y : Identifier) (xs : List Identifier) → Contains xs y → inserted_before y x xs ≡ insert xs (index_of xs y) x
insert_before x y [] m = absurd (contains_none y m)
insert_before x y (e ∷ es) m =
    elim (cases_id e y) [
      | inl d ↦ ap (λ b. if b then x ∷ e ∷ es else e ∷ inserted_before y x es) (eq-id_eq e y d) ∙ sym (ap (λ i. insert (e ∷ es) i x) (index_of-here e es y (sym d)))
      | inr n ↦
          ap (λ b. if b then x ∷ e ∷ es else e ∷ inserted_before y x es) (ne-id_eq e y n)
          ∙ ap (λ t. e ∷ t) (insert_before x y es (elim (contains_cases e es y m) [ inl d ↦ absurd (n d) | inr j ↦ j ]))
          ∙ sym (ap (λ i. insert (e ∷ es) i x) (index_of-there e es y (λ d. n (sym d))))
    ]

-- and what goes in after it one further
insert_behind : (x y : Identifier) (xs : List Identifier) → Contains xs y → inserted_after y x xs ≡ insert xs (suc (index_of xs y)) x
insert_behind x y [] m = absurd (contains_none y m)
insert_behind x y (e ∷ es) m =
    elim (cases_id e y) [
      | inl d ↦ ap (λ b. if b then e ∷ x ∷ es else e ∷ inserted_after y x es) (eq-id_eq e y d) ∙ sym (ap (λ i. insert (e ∷ es) (suc i) x) (index_of-here e es y (sym d)))
      | inr n ↦
          ap (λ b. if b then e ∷ x ∷ es else e ∷ inserted_after y x es) (ne-id_eq e y n)
          ∙ ap (λ t. e ∷ t) (insert_behind x y es (elim (contains_cases e es y m) [ inl d ↦ absurd (n d) | inr j ↦ j ]))
          ∙ sym (ap (λ i. insert (e ∷ es) (suc i) x) (index_of-there e es y (λ d. n (sym d))))
    ]

-- what goes into a gap goes in after as many as stand before the gap
pub gap_at : (gap : Gap) (x : Identifier) (xs : List Identifier) → IsBeside gap xs → at_gap gap x xs ≡ insert xs (gap_index gap xs) x
gap_at Alone x xs b = refl
gap_at (Before y) x xs b = insert_before x y xs b
gap_at (After y) x xs b = insert_behind x y xs b

-- no more than there are
pub gap_within : (gap : Gap) (xs : List Identifier) → IsBeside gap xs → gap_index gap xs ≤ length xs
gap_within Alone xs b = omega arith
gap_within (Before y) xs b = index_of-within xs y
gap_within (After y) xs b = let k = contains-below xs y b in omega (arith, k)

-- a list with one more, with keys
keyed-insert : (h : List Op) (xs : List Identifier) (i : ℕ) (x : Identifier) → with_keys h (insert xs i x) ≡ insert (with_keys h xs) i (keyed_as h x)
keyed-insert h [] i x = cases_empty i
  where
    cases_empty : (i : ℕ) → with_keys h (insert [] i x) ≡ insert (with_keys h []) i (keyed_as h x)
    cases_empty zero = refl
    cases_empty (suc i) = refl
keyed-insert h (e ∷ es) zero x = refl
keyed-insert h (e ∷ es) (suc i) x = ap (λ t. keyed_as h e ∷ t) (keyed-insert h es i x)

-- a new node
module _ (n : Node) (ns : List Node) (a : AreNodes (n ∷ ns)) where
  -- the nodes as histories
  abbrev h : List Op
  h = as_ops ns

  w : Lawful (as_op n ∷ h)
  w = nodes-lawful (n ∷ ns) a

  -- its place is one after as many as stand before it
  abbrev count : ℕ
  count = count_by (λ e. before_in (node_order ns) (as_op n ∷ h) e n.id) (node_order ns)

  placed_at : node_order (n ∷ ns) ≡ insert (node_order ns) count n.id
  placed_at = order-some catalogue (as_op n) h n.id refl

  -- it does not stand there before
  fresh : Contains (node_order ns) n.id → ⊥
  fresh m = true≢false (sym ((nodes_listed ns a.1 n.id).1 m) ∙ a.0.fresh)

  -- its key
  own_key : keyed_as (as_op n ∷ h) n.id ≡ new_keyed ns n
  own_key = ap (λ k. record { id = n.id; key = k }) (newest_key (as_op n) h n.id (eq-id_eq n.id n.id refl))

  -- the order with keys has it where the order has it
  joins_at : (i : ℕ) → node_order (n ∷ ns) ≡ insert (node_order ns) i n.id → keyed_order (n ∷ ns) ≡ insert (keyed_order ns) i (new_keyed ns n)
  joins_at i e =
      ap (with_keys (as_op n ∷ h)) e
      ∙ keyed-insert (as_op n ∷ h) (node_order ns) i n.id
      ∙ (λ j. insert (keys_stay catalogue (as_op n) h w j) i (own_key j))

  pub keyed_joins : keyed_order (n ∷ ns) ≡ insert (keyed_order ns) (index_of (node_order (n ∷ ns)) n.id) (new_keyed ns n)
  keyed_joins =
      let at : index_of (node_order (n ∷ ns)) n.id ≡ count =
      ap (λ t. index_of t n.id) placed_at ∙ index_of-insert (node_order ns) count n.id
      (count_by-le-length (λ e. before_in (node_order ns) (as_op n ∷ h) e n.id) (node_order ns)) fresh in
      joins_at count placed_at ∙ ap (λ i. insert (keyed_order ns) i (new_keyed ns n)) (sym at)

  -- and the gap tells where
  pub keyed_at_gap : (gap : Gap) → IsPlace gap n.id (node_order ns) (node_order (n ∷ ns))
      → keyed_order (n ∷ ns) ≡ insert (keyed_order ns) (gap_index gap (node_order ns)) (new_keyed ns n)
  keyed_at_gap gap k = joins_at (gap_index gap (node_order ns)) (k.place ∙ gap_at gap n.id (node_order ns) k.beside)

  -- its key is that of the children of its slot
  pub new_key_slot : new_key h n.left n.right ≡ child_key (slot_by h n.left n.right) (slot_key h (slot_by h n.left n.right))
  new_key_slot = key_of_child h n.left n.right w.1

  -- the slot's element is a node
  pub slot_held : HoldsSlot ns (slot_by h n.left n.right)
  slot_held = by (slot_by h n.left n.right) (slot_stands catalogue (as_op n) h n.id w refl)
    where
      by : (s : Slot) → StandsAt catalogue h s → HoldsSlot ns s
      by (RightOf None) m = tt
      by (RightOf (Some l)) m = order-has catalogue h l m
      by (LeftOf q) m = order-has catalogue h q m

  -- where the keys fit
  module _ (fit : All IsFit (keyed_order ns)) where
    abbrev s : Slot
    s = slot_by h n.left n.right

    -- the gap found by keys is the place
    pub gap_found : IsPlace (gap_by_keys (keyed_order ns) s (slot_key h s) (goes_before (node_order ns) h (as_op n) n.id)) n.id (node_order ns) (node_order (n ∷ ns))
    gap_found = gap_by_keys_is_place catalogue (as_op n) h n.id w refl fit

    -- the siblings that go before the node stand first
    pub siblings_fall : Falls (goes_before (node_order ns) h (as_op n) n.id) (siblings (keyed_order ns) s (slot_key h s))
    siblings_fall = fall catalogue (as_op n) h n.id w refl fit

    -- the slot's part of the order
    part : (xs : List Identifier) × IsPart catalogue h w.1 fit s xs
    part = part_of catalogue h w.1 fit s (slot_stands catalogue (as_op n) h n.id w refl)

    -- no key of the part is less than that of its children
    pub part_least : All (λ e. key_lt e.key (child_key s (slot_key h s)) ≡ false) (slot_part (keyed_order ns) s (slot_key h s))
    part_least =
        subst (All (λ e. key_lt e.key (child_key s (slot_key h s)) ≡ false)) (sym part.1.is_part)
        (all_keyed h (λ e. key_lt e.key (child_key s (slot_key h s)) ≡ false) part.0 part.1.least)

    -- the bounds of the part are the beginning or the end, or elements with keys no greater than that
    pub part_bounds :
        HoldsOrigin (low_ids (child_key s (slot_key h s)) (keyed_order ns)) (part_from (keyed_order ns) s (slot_key h s))
        × HoldsOrigin (low_ids (child_key s (slot_key h s)) (rest_of (part_from (keyed_order ns) s (slot_key h s)) (keyed_order ns))) (part_to (keyed_order ns) s (slot_key h s))
    part_bounds = (part.1.from, part.1.to)

  -- what follows an origin is the first after it
  follows : (xs : List Identifier) (o : Option Identifier) → first_id (rest_of o (with_keys h xs)) ≡ following xs o
  follows [] None = refl
  follows (e ∷ es) None = refl
  follows [] (Some l) = refl
  follows (e ∷ es) (Some l) =
      elim (id_eq e l) as (λ b. first_id (if b then with_keys h es else rest_of (Some l) (with_keys h es)) ≡ (if b then first_after es else following es (Some l))) [
        | true ↦ follows es None
        | false ↦ follows es (Some l)
      ]

  -- one more after a member that stands in the list once
  after_once : (l x : Identifier) (front back : List Identifier) → AllPairs (λ x y. x ≢ y) (front ++ l ∷ back) → inserted_after l x (front ++ l ∷ back) ≡ front ++ l ∷ x ∷ back
  after_once l x [] back d = ap (λ b. if b then l ∷ x ∷ back else l ∷ inserted_after l x back) (eq-id_eq l l refl)
  after_once l x (e ∷ front) back d =
      let n : e ≢ l = All-contains (λ y. e ≢ y) (front ++ l ∷ back) l (all_pairs_head (λ x y. x ≢ y) e (front ++ l ∷ back) d) (contains_middle front l back) in
      ap (λ b. if b then e ∷ x ∷ front ++ l ∷ back else e ∷ inserted_after l x (front ++ l ∷ back)) (ne-id_eq e l n)
      ∙ ap (λ t. e ∷ t) (after_once l x front back (all_pairs_tail (λ x y. x ≢ y) e (front ++ l ∷ back) d))

  -- before all
  head_place : (x : Identifier) (xs longer : List Identifier) → longer ≡ x ∷ xs → IsPlace (before_all (first_after xs)) x xs longer
  head_place x [] longer e = record { place = e; beside = tt; alone = ((λ d. refl), (λ d. refl)) }
  head_place x (y ∷ ys) longer e = record {
    place = e ∙ ap (λ b. if b then x ∷ y ∷ ys else y ∷ inserted_before y x ys) (sym (eq-id_eq y y refl));
    beside = contains_here y ys;
    alone = ((λ d. cc), (λ d. cc));
  }

  -- after a member
  after_place : (x l : Identifier) (front back xs longer : List Identifier) → AllPairs (λ x y. x ≢ y) xs → xs ≡ front ++ l ∷ back → longer ≡ front ++ l ∷ x ∷ back
      → IsPlace (After l) x xs longer
  after_place x l front back xs longer d e f =
      let m : Contains xs l = subst (λ t. Contains t l) (sym e) (contains_middle front l back) in
      record {
        place = f ∙ sym (after_once l x front back (subst (AllPairs (λ x y. x ≢ y)) e d)) ∙ ap (inserted_after l x) (sym e);
        beside = m;
        alone = ((λ g. cc), (λ g. absurd (contains_none l (subst (λ t. Contains t l) g m))));
      }

  -- an origin is a member
  origin_member : (o : Option Identifier) → has_origin ns o ≡ true → IfSome o (λ l. Contains (node_order ns) l)
  origin_member None k = tt
  origin_member (Some l) k = (nodes_listed ns a.1 l).0 k

  -- where the right origin directly follows the left one, the gap is between them
  pub adjacent : first_id (rest_of n.left (keyed_order ns)) ≡ n.right → IsPlace (gap_between n.left n.right) n.id (node_order ns) (node_order (n ∷ ns))
  adjacent e =
      let o : List Identifier = node_order ns in
      let right : n.right ≡ following o n.left = sym e ∙ follows o n.left in
      let r = lands_behind_origin catalogue (as_op n) h n.id w refl (origin_member n.left a.0.left) right in
      by r (cases_origin n.left) right
    where
      by : (r : StandsAfter n.left (n.id ∷ []) (node_order ns) (node_order (n ∷ ns))) → (n.left ≡ None) ⊎ ((l : Identifier) × (n.left ≡ Some l))
          → n.right ≡ following (node_order ns) n.left
          → IsPlace (gap_between n.left n.right) n.id (node_order ns) (node_order (n ∷ ns))
      by r (inl d) right =
          let none : r.front ≡ [] = end_none r.front (r.origin ∙ d) in
          let was : node_order ns ≡ r.back = r.was ∙ ap (λ t. t ++ r.back) none in
          let is : node_order (n ∷ ns) ≡ n.id ∷ node_order ns = r.is ∙ ap (λ t. (t ++ n.id ∷ []) ++ r.back) none ∙ ap (λ t. n.id ∷ t) (sym was) in
          let head : first_after (node_order ns) ≡ n.right = sym (right ∙ ap (following (node_order ns)) d) in
          subst (λ l. IsPlace (gap_between l n.right) n.id (node_order ns) (node_order (n ∷ ns))) (sym d)
          (subst (λ q. IsPlace (before_all q) n.id (node_order ns) (node_order (n ∷ ns))) head (head_place n.id (node_order ns) (node_order (n ∷ ns)) is))
      by r (inr d) right =
          let s = end_split r.front d.0 (r.origin ∙ d.1) in
          let was : node_order ns ≡ s.0 ++ d.0 ∷ r.back = r.was ∙ ap (λ t. t ++ r.back) s.1 ∙ append_assoc s.0 (d.0 ∷ []) r.back in
          let is : node_order (n ∷ ns) ≡ s.0 ++ d.0 ∷ n.id ∷ r.back =
          r.is ∙ append_assoc r.front (n.id ∷ []) r.back ∙ ap (λ t. t ++ n.id ∷ r.back) s.1 ∙ append_assoc s.0 (d.0 ∷ []) (n.id ∷ r.back) in
          subst (λ l. IsPlace (gap_between l n.right) n.id (node_order ns) (node_order (n ∷ ns))) (sym d.1)
          (after_place n.id d.0 s.0 r.back (node_order ns) (node_order (n ∷ ns)) (order_once ns a.1) was is)
