-- The identifiers that waiting operations have or name are those of the keys that have a list.
use Rattle.std.proofs.Common.{◌≡◌, ℕ, ◌≤◌, ◌<◌, List, [], ◌∷◌, true, refl, sym, ap, subst, ◌∙◌, inl, inr, nat_eq, arith, length}
use Rattle.std.specs.Prelude.{◌⊎◌, Option, Some, None, IfSome, IsSome, is_some, slice_get, option_to_list, All, Contains, filter, flat_map, map}
use Rattle.std.specs.List.{list_any}
use Rattle.std.specs.BTreeMap.{BTreeMap, get}
use Rattle.std.proofs.lemmas.Bool.{false≢true, eq-eqb, eqb-true, or_cases, or_left, or_right}
use Rattle.std.proofs.lemmas.List.Folds.{Any-from_list_any, list_any-from_Any}
use Rattle.std.proofs.lemmas.List.Elements.{Contains-append_left, Contains-append_right, Contains-append_cases}
use Rattle.fugue_ids.specs.Identifiers.{Identifier, id_eq, origin_eq}
use Rattle.causal_inbox.specs.Keyed.{HasNoEmpty, waiting_items_of}
use Rattle.fugue_ids.specs.Ops.{id_of}
use Rattle.fugue_ids.specs.declared.op.Op.{Op}
use Rattle.fugue_ids.specs.declared.op.Op.TheVariants.{Delete}
use Rattle.fugue_ids.proofs.IdentifierLemmas.{eq-id_eq, id_eq-refl, id_eq-true, origin_eq-true}
use Rattle.fugue_ids.proofs.ListLemmas.{all_from_contains, contains_cases, contains_filter, contains_filter_from, contains_here, contains_map, contains_map_from, contains_none}
use Rattle.origin_model.specs.operations.Counters.{counters, mentioned_ids, IsGreatest}
use Rattle.origin_model.specs.operations.Verdict.{names}
use Rattle.origin_model.specs.declared.operations.Role.{Role}
use Rattle.causal_inbox.specs.Index.{IsAgeIndex}
use Rattle.causal_inbox.specs.Greatest.{IsGreatestUnder}
use Rattle.causal_inbox.specs.Key.{has_key, has_kind, key_of_naming, own_key_of}
use Rattle.causal_inbox.specs.Lists.{ages_under, key_cmp}
use Rattle.causal_inbox.specs.declared.key.Key.{Key}
use Rattle.causal_inbox.proofs.FindingLemmas.{some_age}
use Rattle.causal_inbox.specs.declared.key.Kind.{Kind}
use Rattle.causal_inbox.specs.declared.key.Kind.TheVariants.{Own, Target, Named}

-- a name that passes is one of the names
any_named : (i : Identifier) (ns : List (Identifier × Role)) → list_any (λ n. id_eq n.0 i) ns ≡ true → Contains (map (λ n. n.0) ns) i
any_named i ns e =
    let found = Any-from_list_any (λ n. id_eq n.0 i) ns e in
    subst (Contains (map (λ n. n.0) ns)) (id_eq-true found.1.0 i found.4) (contains_map (λ n. n.0) ns found.1 (found.0, found.2, found.3))

named_any : (i : Identifier) (ns : List (Identifier × Role)) → Contains (map (λ n. n.0) ns) i → list_any (λ n. id_eq n.0 i) ns ≡ true
named_any i ns c =
    let found = contains_map_from (λ n. n.0) ns i c in
    list_any-from_Any (λ n. id_eq n.0 i) ns (found.1.0, found.0, found.1.1, found.1.2, eq-id_eq found.0.0 i found.2)

-- an operation that is found by a key has or names its identifier
kind_mentioned : (kind : Kind) (i : Identifier) (op : Op) → has_kind kind i op ≡ true → Contains (mentioned_ids op) i
kind_mentioned Own i op e =
    Contains-append_left (option_to_list (id_of op)) (map (λ n. n.0) (names op)) i
    (subst (λ o. Contains (option_to_list o) i) (sym (origin_eq-true (id_of op) (Some i) e)) (contains_here i []))
kind_mentioned Named i op e = Contains-append_right (option_to_list (id_of op)) (map (λ n. n.0) (names op)) i (any_named i (names op) e)
kind_mentioned Target i (Delete t) e = subst (Contains (t ∷ [])) (id_eq-true t i e) (contains_here t [])
kind_mentioned Target i _ e = absurd (false≢true e)

-- and what it has or names is the identifier of one of its keys
mentioned_key : (i : Identifier) (op : Op) → Contains (mentioned_ids op) i → (has_key (own_key_of i) op ≡ true) ⊎ (has_key (key_of_naming i) op ≡ true)
mentioned_key i op c =
    elim (Contains-append_cases (option_to_list (id_of op)) (map (λ n. n.0) (names op)) i c) [
      | inl has ↦ inl (ap (λ o. origin_eq o (Some i)) (the_own (id_of op) has) ∙ id_eq-refl i)
      | inr rests ↦ inr (named_any i (names op) rests)
    ]
  where
    the_own : (o : Option Identifier) → Contains (option_to_list o) i → o ≡ Some i
    the_own None c = absurd (contains_none i c)
    the_own (Some j) c = elim (contains_cases j [] i c) [ inl same ↦ ap (λ k. Some k) same | inr none ↦ absurd (contains_none i none) ]

pub keys_mentioned : (key : Key) (ops : List Op) → list_any (has_key key) ops ≡ true → Contains (flat_map mentioned_ids ops) key.id
keys_mentioned key [] e = cc
keys_mentioned key (op ∷ ops) e = elim (or_cases (has_key key op) (list_any (has_key key) ops) e) [
  | inl has ↦ Contains-append_left (mentioned_ids op) (flat_map mentioned_ids ops) key.id (kind_mentioned key.kind key.id op has)
  | inr other ↦ Contains-append_right (mentioned_ids op) (flat_map mentioned_ids ops) key.id (keys_mentioned key ops other)
]

pub mentioned_keys : (i : Identifier) (ops : List Op) → Contains (flat_map mentioned_ids ops) i
    → (list_any (has_key (own_key_of i)) ops ≡ true) ⊎ (list_any (has_key (key_of_naming i)) ops ≡ true)
mentioned_keys i [] c = absurd (contains_none i c)
mentioned_keys i (op ∷ ops) c = elim (Contains-append_cases (mentioned_ids op) (flat_map mentioned_ids ops) i c) [
  | inl here ↦ elim (mentioned_key i op here) [ inl e ↦ inl (or_left _ _ e) | inr e ↦ inr (or_left _ _ e) ]
  | inr behind ↦ elim (mentioned_keys i ops behind) [ inl e ↦ inl (or_right _ _ e) | inr e ↦ inr (or_right _ _ e) ]
]

-- a key has an entry where an operation has it
pub entry_where : (m : BTreeMap Key (List ℕ)) (ops : List Op) (ages : List ℕ) (key : Key) → HasNoEmpty key_cmp m → IsAgeIndex ops ages (ages_under m)
    → is_some (get key_cmp m key) ≡ list_any (has_key key) ops
entry_where m ops ages key none index =
    by_entry (get key_cmp m key) (none key) ∙ ap (λ l. is_some (slice_get l 0)) (index.listed key) ∙ some_age key ops ages index.one_each
  where
    filled : (l : List ℕ) → 0 < length l → true ≡ is_some (slice_get l 0)
    filled [] within = absurd (omega (arith, within))
    filled (a ∷ l) within = refl

    by_entry : (o : Option (List ℕ)) → IfSome o (λ v. 0 < length v) → is_some o ≡ is_some (slice_get (waiting_items_of o) 0)
    by_entry None f = refl
    by_entry (Some v) f = filled v f

pub no_member : (ns : List ℕ) → ((n : ℕ) → Contains ns n → ⊥) → ns ≡ []
no_member [] none = refl
no_member (n ∷ ns) none = absurd (none n (contains_here n ns))

pub greatest_of : (ns : List ℕ) (n : ℕ) → Contains ns n → All (λ m. m ≤ n) ns → IsGreatest ns (Some n)
greatest_of [] n c b = absurd (contains_none n c)
greatest_of (m ∷ ns) n c b = record { none = (λ e. cc, λ e. cc); member = c; bound = b }

-- a key of the replica with the counter
record KeyOf (m : BTreeMap Key (List ℕ)) (r n : ℕ) : Type 0 where
  key : Key
  of_replica : key.id.replica ≡ r
  of_counter : key.id.counter ≡ n
  there : IsSome (get key_cmp m key)

-- the greatest counter under keys is the greatest that the operations have or name
pub greatest_mentioned : (m : BTreeMap Key (List ℕ)) (r : ℕ) (ops : List Op) (ages : List ℕ) (greatest : Option ℕ) → HasNoEmpty key_cmp m → IsGreatestUnder m r greatest
    → IsAgeIndex ops ages (ages_under m) → IsGreatest (counters r ops) greatest
greatest_mentioned m r ops ages greatest none g index = by_greatest greatest g
  where
    entry : (key : Key) → is_some (get key_cmp m key) ≡ list_any (has_key key) ops
    entry key = entry_where m ops ages key none index

    member : (n : ℕ) (k : KeyOf m r n) → Contains (counters r ops) n
    member n k =
        subst (Contains (counters r ops)) k.of_counter
        (contains_map (λ id. id.counter) (filter (λ id. nat_eq id.replica r) (flat_map mentioned_ids ops)) k.key.id
        (contains_filter (λ id. nat_eq id.replica r) (flat_map mentioned_ids ops) k.key.id
        (keys_mentioned k.key ops (sym (entry k.key) ∙ k.there)) (eq-eqb k.key.id.replica r k.of_replica)))

    key_of : (n : ℕ) → Contains (counters r ops) n → KeyOf m r n
    key_of n c =
        let found = contains_map_from (λ id. id.counter) (filter (λ id. nat_eq id.replica r) (flat_map mentioned_ids ops)) n c in
        let kept = contains_filter_from (λ id. nat_eq id.replica r) (flat_map mentioned_ids ops) found.0 found.1 in
        elim (mentioned_keys found.0 ops kept.0) [
          | inl e ↦ record { key = own_key_of found.0; of_replica = eqb-true found.0.replica r kept.1; of_counter = found.2; there = entry (own_key_of found.0) ∙ e }
          | inr e ↦ record { key = key_of_naming found.0; of_replica = eqb-true found.0.replica r kept.1; of_counter = found.2; there = entry (key_of_naming found.0) ∙ e }
        ]

    none_there : (o : Option (List ℕ)) → o ≡ None → IsSome o → ⊥
    none_there None e s = cc
    none_there (Some v) e s = cc

    by_greatest : (o : Option ℕ) → IsGreatestUnder m r o → IsGreatest (counters r ops) o
    by_greatest None g =
        let empty : counters r ops ≡ [] = no_member (counters r ops) (λ n c. let k = key_of n c in none_there (get key_cmp m k.key) (g.none refl k.key k.of_replica) k.there) in
        record { none = (λ e. empty, λ e. refl); member = tt; bound = tt }
    by_greatest (Some n) g =
        let k = g.member in
        greatest_of (counters r ops) n (member n (record { key = k.0; of_replica = k.1; of_counter = k.2; there = k.3 }))
        (all_from_contains (λ i. i ≤ n) (counters r ops) (λ i c. let k = key_of i c in subst (λ j. j ≤ n) k.of_counter (g.bound k.key k.of_replica k.there)))
