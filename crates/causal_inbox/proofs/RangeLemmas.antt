-- The keys between that of one identifier and those of another, and what operations have or name of those between.
use Rattle.std.proofs.Common.{◌≡◌, ◌≤◌, ◌<◌, ◌+◌, ◌-◌, ◌∙◌, ap, sym, refl, arith, inl, inr, subst, List, ℕ}
use Rattle.std.proofs.lemmas.Grind.{common_steps}
use Rattle.std.specs.Prelude.{◌↔◌, Contains, IsSome, IsTrue, Bool, None, flat_map, is_some}
use Rattle.std.proofs.lemmas.Bool.{true≢false}
use Rattle.std.specs.List.{list_any}
use Rattle.std.specs.BTreeMap.{BTreeMap, get}
use Rattle.std.specs.BTreeMap.Range.{IsLeBy}
use Rattle.fugue_ids.specs.Identifiers.{Identifier}
use Rattle.fugue_ids.specs.Runs.{id_after}
use Rattle.fugue_ids.specs.declared.op.Op.{Op}
use Rattle.origin_model.specs.operations.Counters.{mentioned_ids}
use Rattle.causal_inbox.specs.Index.{IsAgeIndex}
use Rattle.causal_inbox.specs.Key.{has_key, key_of_naming, own_key_of}
use Rattle.causal_inbox.specs.Keyed.{HasNoEmpty}
use Rattle.causal_inbox.specs.Lists.{ages_under, key_cmp}
use Rattle.causal_inbox.specs.Naming.{AreConcerned}
use Rattle.causal_inbox.specs.Ranges.{HasListFrom}
use Rattle.causal_inbox.specs.declared.key.Key.{Key}
use Rattle.causal_inbox.proofs.GreatestLemmas.{entry_where, keys_mentioned, mentioned_keys}

-- a key between those of two identifiers of one replica is of that replica, with a counter between theirs
pub between_replica : (k : Key) (r m n : ℕ) → IsLeBy key_cmp (own_key_of (record { replica = r; counter = m })) k
    → IsLeBy key_cmp k (key_of_naming (record { replica = r; counter = n })) → k.id.replica ≡ r
between_replica k r m n a b = grind (arith, common_steps)

pub between_from : (k : Key) (r m n : ℕ) → IsLeBy key_cmp (own_key_of (record { replica = r; counter = m })) k
    → IsLeBy key_cmp k (key_of_naming (record { replica = r; counter = n })) → m ≤ k.id.counter
between_from k r m n a b = grind (arith, common_steps)

pub between_to : (k : Key) (r m n : ℕ) → IsLeBy key_cmp (own_key_of (record { replica = r; counter = m })) k
    → IsLeBy key_cmp k (key_of_naming (record { replica = r; counter = n })) → k.id.counter ≤ n
between_to k r m n a b = grind (arith, common_steps)

-- and the keys of the identifiers between stand so
pub stands_from : (k : Key) (r m : ℕ) → k.id.replica ≡ r → m ≤ k.id.counter → IsLeBy key_cmp (own_key_of (record { replica = r; counter = m })) k
stands_from k r m a b = grind (arith, common_steps)

pub stands_to : (k : Key) (r n : ℕ) → k.id.replica ≡ r → k.id.counter ≤ n → IsLeBy key_cmp k (key_of_naming (record { replica = r; counter = n }))
stands_to k r n a b = grind (arith, common_steps)

-- an entry between the first key and the last one
pub from_entry : (m : BTreeMap Key (List ℕ)) (first : Identifier) (n : ℕ) (lo hi key : Key) → 0 < n → lo ≡ own_key_of first
    → hi ≡ key_of_naming (record { replica = first.replica; counter = first.counter + (n - 1) })
    → IsLeBy key_cmp lo key → IsLeBy key_cmp key hi → IsSome (get key_cmp m key) → HasListFrom m first n
from_entry m first n lo hi key some low high a b there =
    let from : IsLeBy key_cmp (own_key_of first) key = subst (λ x. IsLeBy key_cmp x key) low a in
    let to : IsLeBy key_cmp key (key_of_naming (record { replica = first.replica; counter = first.counter + (n - 1) })) = subst (IsLeBy key_cmp key) high b in
    let replica : key.id.replica ≡ first.replica = between_replica key first.replica first.counter (first.counter + (n - 1)) from to in
    let least : first.counter ≤ key.id.counter = between_from key first.replica first.counter (first.counter + (n - 1)) from to in
    let most : key.id.counter ≤ first.counter + (n - 1) = between_to key first.replica first.counter (first.counter + (n - 1)) from to in
    let counter : key.id.counter ≡ first.counter + (key.id.counter - first.counter) = omega (arith, least) in
    record {
      key = key;
      k = key.id.counter - first.counter;
      within = omega (arith, some, least, most);
      of_one = λ i. record { replica = replica i; counter = counter i };
      there = there;
    }

-- no entry between them
pub no_entry_from : (m : BTreeMap Key (List ℕ)) (first : Identifier) (n : ℕ) (lo hi : Key) → 0 < n → lo ≡ own_key_of first
    → hi ≡ key_of_naming (record { replica = first.replica; counter = first.counter + (n - 1) })
    → ((q : Key) → IsLeBy key_cmp lo q × IsLeBy key_cmp q hi → get key_cmp m q ≡ None) → HasListFrom m first n → ⊥
no_entry_from m first n lo hi some low high none l =
    let replica : l.key.id.replica ≡ first.replica = ap (λ (i : Identifier). i.replica) l.of_one in
    let counter : l.key.id.counter ≡ first.counter + l.k = ap (λ (i : Identifier). i.counter) l.of_one in
    let from : IsLeBy key_cmp lo l.key = subst (λ x. IsLeBy key_cmp x l.key) (sym low) (stands_from l.key first.replica first.counter replica (omega (arith, counter))) in
    let to : IsLeBy key_cmp l.key hi =
    subst (IsLeBy key_cmp l.key) (sym high) (stands_to l.key first.replica (first.counter + (n - 1)) replica (omega (arith, some, counter, l.within))) in
    true≢false (sym l.there ∙ ap is_some (none l.key (from, to)))

-- the identifiers of keys that have a list are those that the operations have or name
pub concerned : (m : BTreeMap Key (List ℕ)) (ops : List Op) (ages : List ℕ) (first : Identifier) (n : ℕ) (answer : Bool) → HasNoEmpty key_cmp m → IsAgeIndex ops ages (ages_under m)
    → IsTrue answer ↔ HasListFrom m first n → IsTrue answer ↔ AreConcerned ops first n
concerned m ops ages first n answer none index is = (λ yes. to (is.0 yes), λ c. is.1 (from c))
  where
    entry : (key : Key) → is_some (get key_cmp m key) ≡ list_any (has_key key) ops
    entry key = entry_where m ops ages key none index

    to : HasListFrom m first n → AreConcerned ops first n
    to l = record { k = l.k; within = l.within; found = subst (Contains (flat_map mentioned_ids ops)) l.of_one (keys_mentioned l.key ops (sym (entry l.key) ∙ l.there)) }

    from : AreConcerned ops first n → HasListFrom m first n
    from c = elim (mentioned_keys (id_after first c.k) ops c.found) [
      | inl e ↦ record { key = own_key_of (id_after first c.k); k = c.k; within = c.within; of_one = refl; there = entry (own_key_of (id_after first c.k)) ∙ e }
      | inr e ↦ record { key = key_of_naming (id_after first c.k); k = c.k; within = c.within; of_one = refl; there = entry (key_of_naming (id_after first c.k)) ∙ e }
    ]
