-- An index stays one as operations come and go.
use Rattle.std.proofs.Common.{ap, arith, false, inl, inr, refl, subst, sym, true, take, drop, length, ℕ, suc, List, [], ◌∷◌, ◌++◌, Bool, nat_eq, ◌+◌, ◌<◌, ◌∙◌, ◌≡◌, length-append}
use Rattle.std.proofs.Common.{get_or}
use Rattle.std.specs.Prelude.{Some, if◌then◌else◌, slice_get, All, AllPairs, map, not}
use Rattle.std.specs.List.{position_or_len, remove}
use Rattle.std.specs.Option.{option_map}
use Rattle.std.proofs.lemmas.Bool.{cases_Bool, cond_both, or_parts}
use Rattle.std.proofs.lemmas.Option.{slice_get-map, slice_get_within, get_or_from_slice_get}
use Rattle.std.proofs.lemmas.List.{append-nil, length-take-le, take-append-drop}
use Rattle.std.proofs.lemmas.List.Edits.{length-remove}
use Rattle.std.proofs.lemmas.List.Elements.{All-cons, All-head, All-nil, All-tail, All-weaker, filter-append}
use Rattle.std.proofs.lemmas.List.Folds.{list_any-append}
use Rattle.std.proofs.lemmas.List.Kept.{AllPairs-cons}
use Rattle.std.proofs.lemmas.List.Quantifiers.{all_pairs_remove}
use Rattle.std.proofs.Math.Seq.{drop-cons}
use Rattle.fugue_ids.proofs.ListLemmas.{all_pairs_across, all_pairs_after, all_pairs_head, all_pairs_nil, all_pairs_tail}
use Rattle.fugue_ids.specs.declared.op.Op.{Op}
use Rattle.causal_inbox.specs.Index.{IsAgeIndex, with_age, ages_with, without_age, positions_with}
use Rattle.causal_inbox.proofs.KeyLemmas.{AreKeys}
use Rattle.causal_inbox.specs.Key.{has_key, is_among, key_eq}
use Rattle.causal_inbox.specs.Lists.{AllRise, Changed, FrontAdded}
use Rattle.causal_inbox.specs.Positions.{positions_from}
use Rattle.causal_inbox.specs.declared.key.Key.{Key}
use Rattle.causal_inbox.proofs.AgeLemmas.{added_above, added_dropped, dropped_above, dropped_below, dropped_own, position_found, rises_push}

-- what holds of all ages holds of those under a key
ages_all : (P : ℕ → Type 0) (key : Key) (ops : List Op) (ages : List ℕ) → All P ages → All P (ages_with key ops ages)
ages_all P key [] ages all = All-nil P
ages_all P key (o ∷ ops) [] all = All-nil P
ages_all P key (o ∷ ops) (a ∷ ages) all =
    let rest = ages_all P key ops ages (All-tail P a ages all) in
    elim (cases_Bool (has_key key o)) [ inl e ↦ rw e (All-cons P a (ages_with key ops ages) (All-head P a ages all) rest) | inr e ↦ rw e rest ]

-- the ages under a key rise
rises_under : (key : Key) (ops : List Op) (ages : List ℕ) → AllPairs ◌<◌ ages → AllPairs ◌<◌ (ages_with key ops ages)
rises_under key [] ages r = all_pairs_nil ◌<◌
rises_under key (o ∷ ops) [] r = all_pairs_nil ◌<◌
rises_under key (o ∷ ops) (a ∷ ages) r =
    let rest = rises_under key ops ages (all_pairs_tail ◌<◌ a ages r) in
    elim (cases_Bool (has_key key o)) [
      | inl e ↦ rw e (AllPairs-cons ◌<◌ a (ages_with key ops ages) (ages_all (λ b. a < b) key ops ages (all_pairs_head ◌<◌ a ages r)) rest)
      | inr e ↦ rw e rest
    ]

pub index_rises : (ops : List Op) (ages : List ℕ) (at : Key → List ℕ) → IsAgeIndex ops ages at → AllRise at
index_rises ops ages at index key = subst (AllPairs ◌<◌) (sym (index.listed key)) (rises_under key ops ages index.rise)

-- the ages under a key, of operations one list after the other
ages-append : (key : Key) (ops others : List Op) (ages more : List ℕ) → length ages ≡ length ops
    → ages_with key (ops ++ others) (ages ++ more) ≡ ages_with key ops ages ++ ages_with key others more
ages-append key [] others [] more same = refl
ages-append key [] others (b ∷ ages) more same = absurd (omega (arith, same))
ages-append key (o ∷ ops) others [] more same = absurd (omega (arith, same))
ages-append key (o ∷ ops) others (b ∷ ages) more same =
    let rest = ages-append key ops others ages more (omega (arith, same)) in
    elim (cases_Bool (has_key key o)) [ inl e ↦ rw e (ap (λ l. b ∷ l) rest) | inr e ↦ rw e rest ]

-- a list with or without a last age
pushed_if : (b : Bool) (l : List ℕ) (a : ℕ) → (if b then l ++ a ∷ [] else l) ≡ l ++ (if b then a ∷ [] else [])
pushed_if true l a = refl
pushed_if false l a = sym (append-nil l)

-- an index with one operation more
pub index_added : (ops : List Op) (op : Op) (ages : List ℕ) (a : ℕ) (keys : List Key) (old new : Key → List ℕ) → All (λ b. b < a) ages → AreKeys keys op
    → Changed (is_among keys) (λ l. with_age l a) old new → IsAgeIndex ops ages old → IsAgeIndex (ops ++ op ∷ []) (ages ++ a ∷ []) new
index_added ops op ages a keys old new above are changed index = record {
  one_each = omega (arith, length-append ages (a ∷ []), length-append ops (op ∷ []), index.one_each);
  rise = rises_push ages a index.rise above;
  listed = λ (key : Key).
      let all : All (λ b. b < a) (ages_with key ops ages) = ages_all (λ b. b < a) key ops ages above in
      changed key
      ∙ (λ i. if are key i then with_age (index.listed key i) a else index.listed key i)
      ∙ ap (λ l. if has_key key op then l else ages_with key ops ages) (added_above a (ages_with key ops ages) all)
      ∙ pushed_if (has_key key op) (ages_with key ops ages) a
      ∙ sym (ages-append key ops (op ∷ []) ages (a ∷ []) index.one_each);
}

-- what is not among the keys is not among the first of them
front_among : (key : Key) (n : ℕ) (keys : List Key) → is_among keys key ≡ false → is_among (take n keys) key ≡ false
front_among key n keys none =
    let test : Key → Bool = λ other. key_eq other key in
    (or_parts _ _ (sym (list_any-append test (take n keys) (drop n keys)) ∙ ap (λ l. is_among l key) (take-append-drop n keys) ∙ none)).0

-- the ages under each key rise while an age is added
pub front_rises : (ops : List Op) (ages : List ℕ) (a : ℕ) (keys : List Key) (old mid : Key → List ℕ) → All (λ b. b < a) ages → FrontAdded keys a old mid → IsAgeIndex ops ages old
    → AllRise mid
front_rises ops ages a keys old mid above front index key =
    let all : All (λ b. b < a) (old key) = subst (All (λ b. b < a)) (sym (index.listed key)) (ages_all (λ b. b < a) key ops ages above) in
    let rises = index_rises ops ages old index key in
    subst (AllPairs ◌<◌) (sym (front.front key))
    (cond_both (is_among (take front.count keys) key) (with_age (old key) a) (old key) (AllPairs ◌<◌)
    (λ _. subst (AllPairs ◌<◌) (sym (added_above a (old key) all)) (rises_push (old key) a rises all)) (λ _. rises))

-- an index is as before where what was added is dropped again
pub index_undone : (ops : List Op) (ages : List ℕ) (a : ℕ) (keys : List Key) (old mid new : Key → List ℕ) → All (λ b. b < a) ages
    → FrontAdded keys a old mid → Changed (is_among keys) (λ l. without_age l a) mid new → IsAgeIndex ops ages old → IsAgeIndex ops ages new
index_undone ops ages a keys old mid new above front changed index = record {
  one_each = index.one_each;
  rise = index.rise;
  listed = λ (key : Key).
      let all : All (λ b. b < a) (old key) = subst (All (λ b. b < a)) (sym (index.listed key)) (ages_all (λ b. b < a) key ops ages above) in
      elim (cases_Bool (is_among keys key)) [
        | inl e ↦
            changed key ∙ ap (λ b. if b then without_age (mid key) a else mid key) e ∙ ap (λ l. without_age l a) (front.front key)
            ∙ cond_both (is_among (take front.count keys) key) (with_age (old key) a) (old key) (λ l. without_age l a ≡ old key)
            (λ _. added_dropped a (old key) all) (λ _. dropped_above a (old key) all)
            ∙ index.listed key
        | inr e ↦
            changed key ∙ ap (λ b. if b then without_age (mid key) a else mid key) e
            ∙ front.front key ∙ ap (λ b. if b then with_age (old key) a else old key) (front_among key front.count keys e) ∙ index.listed key
      ];
}

-- where a list has x, it is parted there
parted_at : {X : Type 0} (xs : List X) (i : ℕ) (x : X) → slice_get xs i ≡ Some x → xs ≡ take i xs ++ x ∷ drop (suc i) xs
parted_at xs i x is =
    sym (take-append-drop i xs)
    ∙ ap (λ l. take i xs ++ l) (drop-cons xs i x (slice_get_within xs i x is) ∙ ap (λ y. y ∷ drop (suc i) xs) (get_or_from_slice_get xs i x x is))

-- the ages under a key with one operation less
ages_removed : (key : Key) (op : Op) (a : ℕ) (ops : List Op) (ages : List ℕ) (p : ℕ) → length ages ≡ length ops → AllPairs ◌<◌ ages → slice_get ops p ≡ Some op
    → slice_get ages p ≡ Some a
    → (if has_key key op then without_age (ages_with key ops ages) a else ages_with key ops ages) ≡ ages_with key (remove ops p) (remove ages p)
ages_removed key op a ops ages p same r is at =
    let long : length (take p ages) ≡ length (take p ops) =
    length-take-le p ages (omega (arith, slice_get_within ages p a at)) ∙ sym (length-take-le p ops (omega (arith, slice_get_within ops p op is))) in
    let before : List ℕ = ages_with key (take p ops) (take p ages) in
    let behind : List ℕ = ages_with key (drop (suc p) ops) (drop (suc p) ages) in
    let rises : AllPairs ◌<◌ (take p ages ++ a ∷ drop (suc p) ages) = subst (AllPairs ◌<◌) (parted_at ages p a at) r in
    let lower : All (λ b. b < a) before = ages_all (λ b. b < a) key (take p ops) (take p ages)
    (All-weaker (λ b. All (λ c. b < c) (a ∷ drop (suc p) ages)) (λ b. b < a) (λ b all. All-head (λ c. b < c) a (drop (suc p) ages) all) (take p ages)
    (all_pairs_across ◌<◌ (take p ages) (a ∷ drop (suc p) ages) rises)) in
    let higher : All (λ b. a < b) behind = ages_all (λ b. a < b) key (drop (suc p) ops) (drop (suc p) ages)
    (all_pairs_head ◌<◌ a (drop (suc p) ages) (all_pairs_after ◌<◌ (take p ages) (a ∷ drop (suc p) ages) rises)) in
    let parts : ages_with key ops ages ≡ before ++ ages_with key (op ∷ drop (suc p) ops) (a ∷ drop (suc p) ages) =
    (λ i. ages_with key (parted_at ops p op is i) (parted_at ages p a at i)) ∙ ages-append key (take p ops) (op ∷ drop (suc p) ops) (take p ages) (a ∷ drop (suc p) ages) long in
    let gone : without_age (before ++ a ∷ behind) a ≡ before ++ behind =
    filter-append (λ b. not (nat_eq b a)) before (a ∷ behind) ∙ (λ i. dropped_above a before lower i ++ filter-append (λ b. not (nat_eq b a)) (a ∷ []) behind i)
    ∙ (λ i. before ++ (dropped_own a i ++ dropped_below a behind higher i)) in
    elim (cases_Bool (has_key key op)) [
      | inl e ↦ rw e (ap (λ l. without_age l a) (rw e at parts) ∙ gone ∙ sym (ages-append key (take p ops) (drop (suc p) ops) (take p ages) (drop (suc p) ages) long))
      | inr e ↦ rw e ((rw e at parts) ∙ sym (ages-append key (take p ops) (drop (suc p) ops) (take p ages) (drop (suc p) ages) long))
    ]

-- an index with one operation less
pub index_removed : (ops : List Op) (op : Op) (ages : List ℕ) (p a : ℕ) (keys : List Key) (old new : Key → List ℕ) → slice_get ops p ≡ Some op → slice_get ages p ≡ Some a
    → AreKeys keys op
    → Changed (is_among keys) (λ l. without_age l a) old new → IsAgeIndex ops ages old → IsAgeIndex (remove ops p) (remove ages p) new
index_removed ops op ages p a keys old new is at are changed index = record {
  one_each = omega (arith, length-remove ages p (slice_get_within ages p a at), length-remove ops p (slice_get_within ops p op is), index.one_each);
  rise = all_pairs_remove ◌<◌ ages p (slice_get_within ages p a at) index.rise;
  listed = λ (key : Key).
      changed key
      ∙ (λ i. if are key i then without_age (index.listed key i) a else index.listed key i)
      ∙ ages_removed key op a ops ages p index.one_each index.rise is at;
}

-- a list is as before where what was put at its end is taken back
pub put_back : {X : Type 0} (xs : List X) (x : X) → remove (xs ++ x ∷ []) (length xs) ≡ xs
put_back [] x = refl
put_back (y ∷ xs) x = ap (λ l. y ∷ l) (put_back xs x)

-- an index is as before where the last operation is taken back
pub index_back : (ops : List Op) (op : Op) (ages : List ℕ) (at : Key → List ℕ) → IsAgeIndex (remove (ops ++ op ∷ []) (length ops)) ages at → IsAgeIndex ops ages at
index_back ops op ages at index = subst (λ l. IsAgeIndex l ages at) (put_back ops op) index

-- the operations that have a key stand where a function takes the ages under it
positions_are : (f : ℕ → ℕ) (at : ℕ) (key : Key) (ops : List Op) (ages : List ℕ) → length ages ≡ length ops → ((i : ℕ) → i < length ages → f (get_or ages i 0) ≡ at + i)
    → positions_from at (has_key key) ops ≡ map f (ages_with key ops ages)
positions_are f at key [] ages same each = refl
positions_are f at key (o ∷ ops) [] same each = absurd (omega (arith, same))
positions_are f at key (o ∷ ops) (b ∷ ages) same each =
    let rest = positions_are f (suc at) key ops ages (omega (arith, same)) (λ i within. let e = each (suc i) (omega (arith, within)) in omega (arith, e)) in
    let first : at ≡ f b = let e = each 0 (omega arith) in omega (arith, e) in
    elim (cases_Bool (has_key key o)) [ inl e ↦ rw e (λ i. first i ∷ rest i) | inr e ↦ rw e rest ]

-- a look-up by a key
pub index_nth : (ops : List Op) (ages : List ℕ) (at : Key → List ℕ) (key : Key) (k : ℕ) → IsAgeIndex ops ages at
    → slice_get (positions_with key ops) k ≡ option_map (λ a. position_or_len (λ b. nat_eq b a) ages) (slice_get (at key) k)
index_nth ops ages at key k index =
    let f : ℕ → ℕ = λ a. position_or_len (λ b. nat_eq b a) ages in
    ap (λ l. slice_get l k) (positions_are f 0 key ops ages index.one_each (λ i within. omega (arith, position_found ages i (get_or ages i 0) index.rise within refl)))
    ∙ slice_get-map f (ages_with key ops ages) k ∙ ap (λ l. option_map f (slice_get l k)) (sym (index.listed key))
