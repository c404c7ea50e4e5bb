-- What another counter in the place of one makes of the values.
use Rattle.std.proofs.Common.{◌≡◌, ◌≢◌, ℕ, zero, suc, ◌<◌, ◌/◌, Bool, true, false, List, [], ◌∷◌, length, get_or, set, if◌then◌else◌, Option, Some, None, IsSome, refl, inl, inr}
use Rattle.std.proofs.Common.{sym, ap, subst, arith, ◌∙◌}
use Rattle.std.specs.Prelude.{◌==◌, IsFalse, IsTrue, not}
use Rattle.std.specs.BTreeMap.{BTreeMap, get}
use Rattle.std.proofs.lemmas.Bool.{cases_Bool, cases_eq, false≢true}
use Rattle.std.proofs.lemmas.Bool.Decides.{nat_tests}
use Rattle.fugue_ids.specs.Identifiers.{Identifier, id_cmp, id_eq}
use Rattle.fugue_ids.specs.Keyed.{IsReplaced}
use Rattle.fugue_ids.proofs.IdentifierLemmas.{cases_id, id_eq-true}
use Rattle.block_map.specs.Blocks.{IsBlockAt, block_of, value_at, block_value, value_within}
use Rattle.block_map.specs.Columns.{IsAscending, IsPlaceOf, value_beside}
use Rattle.block_map.specs.Renames.{IsRenamed}
use Rattle.block_map.specs.declared.block.Block.{Block}
use Rattle.block_map.proofs.ChangeLemmas.{block_kept, near, no_value, others_far}
use Rattle.block_map.proofs.ColumnLemmas.{none_beside}

module _ {V : Type 0} where
  -- another counter at a place, where those before are less than both
  pub value_renamed : (cs : List ℕ) (vs : List V) → IsAscending cs → length vs ≡ length cs → (c i : ℕ) → IsPlaceOf cs c i → (d : ℕ) → ((j : ℕ) → j < i → get_or cs j 0 < d)
      → (q : ℕ)
      → value_beside (set cs i d) vs q ≡ (if d == q then value_beside cs vs c else (if c == q then None else value_beside cs vs q))
  value_renamed [] vs up same c i at d before q = absurd (omega (arith, at.inside))
  value_renamed (e ∷ es) [] up same c i at d before q = absurd (omega (arith, same))
  value_renamed (e ∷ es) (w ∷ ws) up same c zero at d before q =
      let none : value_beside es ws e ≡ None =
      none_beside es ws e (λ i within f. (let less : e < get_or es i 0 = up 0 (suc i) (omega arith) (omega (arith, within)) in omega (arith, less, f))) in
      elim (cases_eq e q) as (λ _. value_beside (d ∷ es)
      (w ∷ ws) q ≡ (if d == q then value_beside (e ∷ es) (w ∷ ws) c else (if c == q then None else value_beside (e ∷ es) (w ∷ ws) q))) [
        | inl f ↦ (let there : value_beside es ws q ≡ None = subst (λ (k : ℕ). value_beside es ws k ≡ None) f none in grind (arith, nat_tests, at.here, there, f))
        | inr n ↦ grind (arith, nat_tests, at.here, n)
      ]
  value_renamed (e ∷ es) (w ∷ ws) up same c (suc i) at d before q =
      let less : e < get_or es i 0 = up 0 (suc i) (omega arith) at.inside in
      let rest = value_renamed es ws (λ k j lt within. up (suc k) (suc j) (omega (arith, lt)) (omega (arith, within))) (omega (arith, same)) c i
      (record { inside = omega (arith, at.inside); here = at.here }) d (λ j lt. before (suc j) (omega (arith, lt))) q in
      grind (arith, nat_tests, less, at.here, before 0 (omega arith), rest)

  -- a counter that stands at a place has a value
  taken : (cs : List ℕ) (vs : List V) → length vs ≡ length cs → (c i : ℕ) → IsPlaceOf cs c i → value_beside cs vs c ≡ None → ⊥
  taken [] vs same c i at none = omega (arith, at.inside)
  taken (e ∷ es) [] same c i at none = omega (arith, same)
  taken (e ∷ es) (w ∷ ws) same c zero at none = grind (arith, nat_tests, at.here, none)
  taken (e ∷ es) (w ∷ ws) same c (suc i) at none =
      let rest = taken es ws (omega (arith, same)) c i (record { inside = omega (arith, at.inside); here = at.here }) in
      grind (arith, nat_tests, none, rest)

  -- so a counter that has no value is a different one
  pub differ : (cs : List ℕ) (vs : List V) → length vs ≡ length cs → (c i : ℕ) → IsPlaceOf cs c i → (d : ℕ) → value_beside cs vs d ≡ None → d ≢ c
  differ cs vs same c i at d none e = taken cs vs same c i at (subst (λ (k : ℕ). value_beside cs vs k ≡ None) e none)

-- one equation for every counter gives the three facts
pub renamed_by : {V : Type 0} (f g : ℕ → Option V) (c d : ℕ) → d ≢ c → ((q : ℕ) → g q ≡ (if d == q then f c else (if c == q then None else f q))) → IsRenamed f g c d
renamed_by f g c d differ each = record {
  here = grind (arith, nat_tests, each d);
  gone = grind (arith, nat_tests, each c, differ);
  others = λ q n m. grind (arith, nat_tests, each q, n, m);
}

-- what enters and then goes is renamed
pub renamed_in_two : {K V : Type 0} (f g h p : K → Option V) (from to : K) (v : V) → ((k : K) → g k ≡ f k) → IsReplaced g h to (Some v) → IsReplaced h p from None
    → f from ≡ Some v → f to ≡ None → IsRenamed f p from to
renamed_in_two f g h p from to v same came went held free = record {
  here = went.others to (λ e. (let no : None ≡ Some v = sym free ∙ ap f e ∙ held in absurd (cc))) ∙ came.here ∙ sym held;
  gone = went.here;
  others = λ k n m. went.others k n ∙ came.others k m ∙ same k;
}

-- a block with another counter for a value belongs where it did
pub block_renamed : {V : Type 0} (key : Identifier) (d b : Block V) → IsBlockAt key b → length d.counters.items ≡ length b.counters.items → (c e : ℕ) → e / 64 ≡ key.counter
    → IsRenamed (value_at b) (value_at d) c e → IsBlockAt key d
block_renamed key d b at long c e belongs r = record {
  some = omega (arith, at.some, long);
  belongs = λ k h. elim (cases_eq k e) as (λ _. k / 64 ≡ key.counter) [
    | inl same ↦ ap (λ (x : ℕ). x / 64) same ∙ belongs
    | inr other ↦ elim (cases_eq k c) as (λ _. k / 64 ≡ key.counter) [
      | inl old ↦ absurd (no_value (value_at d k) (ap (value_at d) old ∙ r.gone) h)
      | inr apart ↦ at.belongs k (subst IsSome (r.others k apart other) h)
    ]
  ];
}

-- so does one that a renaming may have left as it was
pub block_either : {V : Type 0} (key : Identifier) (d b : Block V) → IsBlockAt key b → length d.counters.items ≡ length b.counters.items → (c e : ℕ) → e / 64 ≡ key.counter
    → (r : Bool) → (IsTrue r → IsRenamed (value_at b) (value_at d) c e)
    → (IsFalse r → (k : ℕ) → value_at d k ≡ value_at b k) → IsBlockAt key d
block_either key d b at long c e belongs true done kept = block_renamed key d b at long c e belongs (done refl)
block_either key d b at long c e belongs false done kept = block_kept key d b at (kept refl) long

-- another counter in a block is another identifier in the map
pub renamed_in_block : {V : Type 0} (m n : BTreeMap Identifier (Block V)) (key : Identifier) (o : Option (Block V)) → IsReplaced (get id_cmp m) (get id_cmp n) key o
    → (from to : Identifier) → block_of from ≡ key → block_of to ≡ key
    → (c e : ℕ) → c ≡ from.counter → e ≡ to.counter → IsRenamed (value_within (get id_cmp m key)) (value_within o) c e → IsRenamed (block_value m) (block_value n) from to
renamed_in_block {V} m n key o change from to is also c e old_counter new_counter within = record {
  here = at_key n to also ∙ new to.counter ∙ r.here ∙ sym (at_key m from is);
  gone = at_key n from is ∙ new from.counter ∙ r.gone;
  others = λ q apart other. elim (cases_id (block_of q) key) as (λ _. block_value n q ≡ block_value m q) [
    | inl own ↦ near m n key o change q own (r.others q.counter (λ e. apart (same_in_block q from own is e)) (λ e. other (same_in_block q to own also e)))
    | inr far ↦ others_far m n key o change q far
  ];
} where
  AreRenamed : ℕ → ℕ → Type 0
  AreRenamed x y = IsRenamed (value_within (get id_cmp m key)) (value_within o) x y

  r : AreRenamed from.counter to.counter
  r = subst (λ (x : ℕ). AreRenamed x to.counter) old_counter (subst (λ (y : ℕ). AreRenamed c y) new_counter within)

  at_key : (x : BTreeMap Identifier (Block V)) (q : Identifier) → block_of q ≡ key → block_value x q ≡ value_within (get id_cmp x key) q.counter
  at_key x q at = ap (λ (k : Identifier). value_within (get id_cmp x k) q.counter) at

  new : (c : ℕ) → value_within (get id_cmp n key) c ≡ value_within o c
  new c = ap (λ (b : Option (Block V)). value_within b c) change.here

  same_in_block : (p q : Identifier) → block_of p ≡ key → block_of q ≡ key → p.counter ≡ q.counter → p ≡ q
  same_in_block p q own at e = let replica : p.replica ≡ q.replica = ap (λ (x : Identifier). x.replica) (own ∙ sym at) in λ i. record { replica = replica i; counter = e i }

-- keys of which `!=` is false are equal
pub same_key : (a b : Identifier) (r : Bool) → r ≡ not (id_eq a b) → r ≡ false → a ≡ b
same_key a b r e f = id_eq-true a b (elim (cases_Bool (id_eq a b)) as (λ _. id_eq a b ≡ true) [ inl h ↦ h | inr h ↦ absurd (false≢true (sym f ∙ e ∙ ap not h)) ])
