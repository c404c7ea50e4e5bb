-- The identifiers that an edit makes are new: no accepted or waiting operation has or names one of them.
use Rattle.origin_model.proofs.Words.{All, All-cons, All-head, All-nil, All-weaker, Bool, Delete, Identifier, List, Op, Some, [], all_before, all_after, all_from_contains}
use Rattle.origin_model.proofs.Words.{all_from_map, ap, arith, eq-eqb, false, false_from_ne_true, filter, flat_map, holds, id_eq, id_eq-true, id_held, id_of, is_own, map, names}
use Rattle.origin_model.proofs.Words.{nat_eq, option_to_list, origin_eq, refl, subst, sym, true, ℕ, ◌++◌, ◌<◌, ◌∙◌, ◌∷◌, ◌≡◌, ◌≤◌}
use Rattle.std.proofs.lemmas.Grind.{flat_map-append}
use Rattle.fugue_ids.proofs.ListLemmas.{all_from_filter}
use Rattle.origin_model.specs.edits.Edits.{above_all, id_at, next_counter}
use Rattle.origin_model.specs.operations.Counters.{counters, mentioned_ids}
use Rattle.origin_model.proofs.operations.LookupLemmas.{holds-other, own_id}
use Rattle.std.proofs.Common.{cond, inl, inr}
use Rattle.std.proofs.lemmas.Bool.{cases_lt, eqb-true, true≢false}
use Rattle.std.proofs.lemmas.List.Elements.{All-tail}

-- an identifier of the replica has a counter below c
abbrev pub IsBelow : (r c : ℕ) → Identifier → Type 0
IsBelow r c i = nat_eq i.replica r ≡ true → i.counter < c

-- each that operations have or name is so
abbrev pub BelowAll : (r c : ℕ) → List Op → Type 0
BelowAll r c ops = All (IsBelow r c) (flat_map mentioned_ids ops)

-- what is above all numbers is above each
members_below : (ns : List ℕ) → All (λ n. n < above_all ns) ns
members_below [] = All-nil (λ n. n < above_all [])
members_below (n ∷ ns) =
    All-cons (λ m. m < above_all (n ∷ ns)) n ns (omega arith) (All-weaker (λ m. m < above_all ns) (λ m. m < above_all (n ∷ ns)) (λ m l. omega arith) ns (members_below ns))

-- the next counter is above all that operations have or name
next_below : (r : ℕ) (h w : List Op) → BelowAll r (next_counter r h w) (h ++ w)
next_below r h w =
    let ids : List Identifier = flat_map mentioned_ids (h ++ w) in
    let own : Identifier → Bool = λ i. nat_eq i.replica r in
    all_from_filter own (λ i. i.counter < next_counter r h w) ids
    (all_from_map (λ i. i.counter) (λ n. n < next_counter r h w) (filter own ids) (members_below (counters r (h ++ w))))

-- all that accepted operations have or name
pub history_below : (r : ℕ) (h w : List Op) → BelowAll r (next_counter r h w) h
history_below r h w =
    let P : Identifier → Type 0 = IsBelow r (next_counter r h w) in
    all_before P (flat_map mentioned_ids h) (flat_map mentioned_ids w) (subst (All P) (flat_map-append mentioned_ids h w) (next_below r h w))

-- and all that waiting ones have or name
pub waiting_below : (r : ℕ) (h w : List Op) → BelowAll r (next_counter r h w) w
waiting_below r h w =
    let P : Identifier → Type 0 = IsBelow r (next_counter r h w) in
    all_after P (flat_map mentioned_ids h) (flat_map mentioned_ids w) (subst (All P) (flat_map-append mentioned_ids h w) (next_below r h w))

-- an identifier from c on is none of them
not_mine : (r c n : ℕ) (i : Identifier) → IsBelow r c i → c ≤ n → id_eq (id_at r n) i ≡ false
not_mine r c n i b k =
    false_from_ne_true _ (λ t.
    let e : id_at r n ≡ i = id_eq-true (id_at r n) i t in
    let l : i.counter < c = b (eq-eqb i.replica r (ap (λ z. z.replica) (sym e))) in
    let m : n ≡ i.counter = ap (λ z. z.counter) e in
    omega (arith, l, m, k))

-- the history holds no identifier of the replica from c on
abbrev pub NoneFrom : (r c : ℕ) → List Op → Type 0
NoneFrom r c h = (n : ℕ) → c ≤ n → holds h (id_at r n) ≡ false

-- an identifier from c on is not the operation's own
own_below : (r c n : ℕ) (op : Op) → All (IsBelow r c) (mentioned_ids op) → c ≤ n → is_own (id_at r n) op ≡ false
own_below r c n op b k =
    false_from_ne_true _ (λ t.
    let named : List Identifier = map (λ named. named.0) (names op) in
    let d = All-head (IsBelow r c) (id_at r n) named (subst (λ o. All (IsBelow r c) (option_to_list o ++ named)) (own_id op (id_at r n) t) b) in
    let l : n < c = d (eq-eqb r r refl) in
    omega (arith, l, k))

-- a history whose counters are below c holds none from c on
pub none_from : (r c : ℕ) (h : List Op) → BelowAll r c h → NoneFrom r c h
none_from r c [] b n k = refl
none_from r c (op ∷ h) b n k =
    holds-other op h (id_at r n) (own_below r c n op (all_before (IsBelow r c) (mentioned_ids op) (flat_map mentioned_ids h) b) k)
    ∙ none_from r c h (all_after (IsBelow r c) (mentioned_ids op) (flat_map mentioned_ids h) b) n k

-- no operation that waits has or names the operation's own identifier
abbrev pub IsUnknown : List Op → Op → Type 0
IsUnknown w op = (id_held w (id_of op) ≡ false) × All (λ i. is_own i op ≡ false) (flat_map mentioned_ids w)

-- a new operation is unknown
pub new_unknown : (r c n : ℕ) (w : List Op) (op : Op) → id_of op ≡ Some (id_at r n) → BelowAll r c w → c ≤ n → IsUnknown w op
new_unknown r c n w op e b k = (
  ap (id_held w) e ∙ none_from r c w b n k,
  All-weaker (IsBelow r c) (λ i. is_own i op ≡ false) (λ i l. ap (λ o. origin_eq o (Some i)) e ∙ not_mine r c n i l k) (flat_map mentioned_ids w) b,
)

-- a Delete has no identifier
pub delete_unknown : (w : List Op) (x : Identifier) → IsUnknown w (Delete x)
delete_unknown w x = (refl, all_from_contains (λ i. is_own i (Delete x) ≡ false) (flat_map mentioned_ids w) (λ i m. refl))

-- where each counter is below a number, so is what is next
pub above_below : (ns : List ℕ) (c : ℕ) → All (λ m. m < c) ns → above_all ns ≤ c
above_below [] c a = omega arith
above_below (n ∷ ns) c a = omega (arith, All-head (λ m. m < c) n ns a, above_below ns c (All-tail (λ m. m < c) n ns a))

pub counters_below : (r c : ℕ) (ids : List Identifier) → All (IsBelow r c) ids → All (λ m. m < c) (map (λ i. i.counter) (filter (λ i. nat_eq i.replica r) ids))
counters_below r c [] a = All-nil (λ m. m < c)
counters_below r c (i ∷ ids) a = by_test (nat_eq i.replica r) (All-head (IsBelow r c) i ids a) (counters_below r c ids (All-tail (IsBelow r c) i ids a))
  where
    rest : List Identifier
    rest = filter (λ i. nat_eq i.replica r) ids

    by_test : (b : Bool) → (b ≡ true → i.counter < c) → All (λ m. m < c) (map (λ i. i.counter) rest) → All (λ m. m < c) (map (λ i. i.counter) (cond b (i ∷ rest) rest))
    by_test true f a = All-cons (λ m. m < c) i.counter (map (λ i. i.counter) rest) (f refl) a
    by_test false f a = a

-- what is held has a counter below
pub held_below : (r c : ℕ) (h : List Op) (x : Identifier) → BelowAll r c h → holds h x ≡ true → IsBelow r c x
held_below r c h x a k own =
    elim (cases_lt x.counter c) [
      | inl l ↦ l
      | inr l ↦
          let is : id_at r x.counter ≡ x = ap (λ n. id_at n x.counter) (sym (eqb-true x.replica r own)) in
          absurd (true≢false (sym k ∙ ap (holds h) (sym is) ∙ none_from r c h a x.counter l))
    ]
