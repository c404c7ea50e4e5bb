-- The greatest counter of a replica, by the last of its stretches.
use Rattle.std.proofs.Common.{List, [], ap, arith, inl, inr, refl, subst, sym, false, ℕ, ◌+◌, ◌++◌, ◌<◌, ◌^◌, ◌∙◌, ◌∷◌, ◌≡◌, ◌≤◌}
use Rattle.std.specs.Prelude.{IfNone, IfSome, None, Option, Some, is_some, option_map}
use Rattle.std.specs.BTreeMap.{BTreeMap}
use Rattle.std.specs.BTreeMap.Range.{IsInRange, IsRangeOf}
use Rattle.std.specs.Option.{MatchOption}
use Rattle.std.specs.Ordering.{is_gt, is_lt, nat_cmp, ordering_then}
use Rattle.std.specs.declared.cmp.Ordering.TheVariants.{Less}
use Rattle.std.specs.declared.ops.Bound.{Bound}
use Rattle.std.specs.declared.ops.Bound.TheVariants.{Excluded, Included, Unbounded}
use Rattle.std.proofs.lemmas.Bool.{true≢false}
use Rattle.std.proofs.lemmas.Bool.Decides.{nat_tests}
use Rattle.fugue_ids.specs.Identifiers.{Identifier, id_cmp}
use Rattle.stretch_map.specs.Contents.{StretchEntry, Latest, Layout, value_in}
use Rattle.stretch_map.specs.Rules.{IsGreatestIn}
use Rattle.stretch_map.specs.Stretches.{AreStretches, Has, IsGreatestOf, IsLastOf, KeepsEntry, latest_at}
use Rattle.stretch_map.specs.declared.stretches.Stretch.{Stretch}
use Rattle.stretch_map.proofs.FoundLemmas.{cases_le, covered, found, same_kept, same_latest}

-- the identifier of the replica with a counter
abbrev id_at : ℕ → ℕ → Identifier
id_at r n = record { replica = r; counter = n }

-- identifiers of one replica are ordered by their counters
counter_le : (a r c n : ℕ) → a ≡ r → is_lt (ordering_then (nat_cmp a r) (nat_cmp c n)) ≡ false → n ≤ c
counter_le a r c n same below = grind (arith, nat_tests)

-- the identifiers of a replica lie from its first one on and before the first one of the next
in_replica : (r n : ℕ) → IsInRange id_cmp (Included (id_at r 0)) (Excluded (id_at (r + 1) 0)) (id_at r n)
in_replica r n = (not_above r n, below r n)
  where
    not_above : (r n : ℕ) → is_gt (ordering_then (nat_cmp r r) (nat_cmp 0 n)) ≡ false
    not_above r n = grind (arith, nat_tests)

    below : (r n : ℕ) → ordering_then (nat_cmp r (r + 1)) (nat_cmp n 0) ≡ Less
    below r n = grind (arith, nat_tests)

at_least : (r a c : ℕ) → is_gt (ordering_then (nat_cmp r a) (nat_cmp 0 c)) ≡ false → r ≤ a
at_least r a c from = grind (arith, nat_tests)

at_most : (r a c : ℕ) → ordering_then (nat_cmp a (r + 1)) (nat_cmp c 0) ≡ Less → a ≤ r
at_most r a c before = grind (arith, nat_tests)

module _ {V : Type 0} {A : Type 0} (entry : A → StretchEntry V) (r : ℕ) (m : BTreeMap Identifier (Stretch V)) (es rest : List (StretchEntry V)) where
  -- the last one of a part of the map, if there is one
  abbrev IsLast : Option A → Type 0
  IsLast last = MatchOption last ((es ≡ []) × (rest ≡ [])) (λ a. es ≡ rest ++ entry a ∷ [])

  -- the last of a part that has all stretches of the replica is its last one, or it has none
  abbrev IsLastIn : Option (StretchEntry V) → Type 0
  IsLastIn o = IfNone o ((e : StretchEntry V) → KeepsEntry m.entries e → e.0.replica ≡ r → ⊥) × IfSome o (IsLastOf (KeepsEntry m.entries) r)

  last_in : (lo hi : Bound Identifier) (last : Option A) → IsRangeOf id_cmp lo hi m es → IsLast last → ((n : ℕ) → IsInRange id_cmp lo hi (id_at r n))
      → IfSome last (λ a. IsInRange id_cmp lo hi (entry a).0 → (entry a).0.replica ≡ r) → IsLastIn (option_map entry last)
  last_in lo hi None part steps inside own = (
    (λ e kept mine.
        let here : e.0 ≡ id_at r e.0.counter = λ i. record { replica = mine i; counter = e.0.counter } in
        let none = part.5 steps.0 (id_at r e.0.counter) (inside e.0.counter) in
        let there : KeepsEntry m.entries (id_at r e.0.counter, e.1) = subst (λ (x : Identifier). KeepsEntry m.entries (x, e.1)) here kept in
        let both : None ≡ Some e.1 = sym none ∙ there in
        cc),
    tt,
  )
  last_in lo hi (Some a) part steps inside own =
      let here = part.3 (entry a) rest steps in
      let mine : (entry a).0.replica ≡ r = own here.0 in (
        tt,
        record {
          one = here.1;
          own = mine;
          last = λ f kept same.
              let at : f.0 ≡ id_at r f.0.counter = λ i. record { replica = same i; counter = f.0.counter } in
              let there : KeepsEntry m.entries (id_at r f.0.counter, f.1) = subst (λ (x : Identifier). KeepsEntry m.entries (x, f.1)) at kept in
              counter_le (entry a).0.replica r (entry a).0.counter f.0.counter mine (part.4 (entry a) rest steps (id_at r f.0.counter) (inside f.0.counter) (ap is_some there));
        },
      )

  -- the part from the replica's first identifier on and before that of the next replica
  pub last_before : (next : ℕ) (last : Option A) → next ≡ r + 1 → IsRangeOf id_cmp (Included (id_at r 0)) (Excluded (id_at next 0)) m es → IsLast last
      → IsLastIn (option_map entry last)
  last_before next last is part steps =
      last_in (Included (id_at r 0)) (Excluded (id_at (r + 1) 0)) last (subst (λ (n : ℕ). IsRangeOf id_cmp (Included (id_at r 0)) (Excluded (id_at n 0)) m es) is part) steps
      (in_replica r) (own last)
    where
      own : (o : Option A) → IfSome o (λ a. IsInRange id_cmp (Included (id_at r 0)) (Excluded (id_at (r + 1) 0)) (entry a).0 → (entry a).0.replica ≡ r)
      own None = tt
      own (Some a) = λ inside. omega (arith, at_least r (entry a).0.replica (entry a).0.counter inside.0, at_most r (entry a).0.replica (entry a).0.counter inside.1)

  -- the part from the first identifier of the last replica on
  pub last_from : (last : Option A) → (r + 1 < 2 ^ 32 → ⊥) → IsRangeOf id_cmp (Included (id_at r 0)) Unbounded m es → IsLast last
      → IfSome last (λ a. (entry a).0.replica < 2 ^ 32) → IsLastIn (option_map entry last)
  last_from last no_next part steps fits = last_in (Included (id_at r 0)) Unbounded last part steps (λ n. ((in_replica r n).0, tt)) (own last fits)
    where
      own : (o : Option A) → IfSome o (λ a. (entry a).0.replica < 2 ^ 32) → IfSome o (λ a. IsInRange id_cmp (Included (id_at r 0)) Unbounded (entry a).0 → (entry a).0.replica ≡ r)
      own None fits = tt
      own (Some a) fits = λ inside. omega (arith, at_least r (entry a).0.replica (entry a).0.counter inside.0, fits, no_next)

module _ {V : Type 0} (nth : Identifier → V → ℕ → V) (reaches : Identifier → V → ℕ → Type 0) (l : Layout V) (are : AreStretches reaches l) (r : ℕ) where
  -- the last kept stretch of the replica has the greatest counter of them
  pub greatest_by_last : (e : StretchEntry V) → IsLastOf (KeepsEntry l.1) r e → IsGreatestOf (KeepsEntry l.1) r (Some e.1.last)
  greatest_by_last e is =
      record {
        none = tt;
        some = (
          (e, is.one, is.own, refl),
          λ f kept mine.
              elim (cases_le e.0.counter f.0.counter) [
                | inl same ↦
                    let below : f.0.counter ≤ e.0.counter = is.last f kept mine in
                    let c : f.0.counter ≡ e.0.counter = omega (arith, same, below) in
                    let here : f.0 ≡ e.0 = λ i. record { replica = (mine ∙ sym is.own) i; counter = c i } in
                    let value : f.1 ≡ e.1 = same_kept l.1 f e kept is.one here in
                    let last : f.1.last ≡ e.1.last = ap (λ s. s.last) value in
                    omega (arith, last)
                | inr less ↦
                    let far : f.1.last < e.0.counter = are.apart f e (inr kept) (inr is.one) (mine ∙ sym is.own) less in
                    let begun : e.0.counter ≤ e.1.last = are.begun e (inr is.one) in
                    omega (arith, far, begun)
              ],
        );
      }

  -- the greatest counter in all stretches is that of the identifiers with a value
  in_all : (o : Option ℕ) → IsGreatestOf (Has l) r o → IsGreatestIn (value_in nth l) r o
  in_all None is = record {
    none = λ e n. elim (found nth reaches l are (id_at r n)) [ inl w ↦ w.0 | inr w ↦ absurd (is.none w.0 w.1 w.2.replica) ];
    held = tt;
    bound = tt;
  }
  in_all (Some n) is =
      let e : StretchEntry V = is.some.0.0 in
      let last : e.1.last ≡ n = is.some.0.3 in
      let begun : e.0.counter ≤ e.1.last = are.begun e is.some.0.1 in
      record {
        none = λ e. absurd (true≢false e);
        held = ap is_some (covered nth reaches l are (id_at r n) e is.some.0.1 (record { replica = is.some.0.2; from = omega (arith, last, begun); to = omega (arith, last) }));
        bound = λ m some. elim (found nth reaches l are (id_at r m)) [
          | inl w ↦ absurd (true≢false (sym some ∙ ap is_some w.0))
          | inr w ↦ let to : m ≤ w.0.1.last = w.2.to in let top : w.0.1.last ≤ n = is.some.1 w.0 w.1 w.2.replica in omega (arith, to, top)
        ];
      }

  -- the last kept stretch of the replica, if there is one
  pub greatest_by : (o : Option (StretchEntry V)) → IfNone o ((e : StretchEntry V) → KeepsEntry l.1 e → e.0.replica ≡ r → ⊥) → IfSome o (IsLastOf (KeepsEntry l.1) r)
      → IsGreatestOf (KeepsEntry l.1) r (option_map (λ (e : StretchEntry V). e.1.last) o)
  greatest_by None none some = record { none = none; some = tt }
  greatest_by (Some e) none some = greatest_by_last e some

  -- the last stretch of the replica has the greatest counter
  pub greatest_by_latest : (x : Latest V) → latest_at l.0 r ≡ Some x → IsGreatestIn (value_in nth l) r (Some x.1.last)
  greatest_by_latest x at =
      let e : StretchEntry V = (id_at r x.0, x.1) in
      in_all (Some x.1.last) (record {
        none = tt;
        some = (
          (e, inl at, refl, refl),
          λ f h mine. elim h [
            | inl a ↦ let last : f.1.last ≡ x.1.last = ap (λ (z : StretchEntry V). z.1.last) (same_latest l.0 f e a at mine) in omega (arith, last)
            | inr k ↦
                let less : f.0.counter < x.0 = are.laid.before e f at k mine in
                let far : f.1.last < x.0 = are.apart f e (inr k) (inl at) mine less in
                let begun : x.0 ≤ x.1.last = are.begun e (inl at) in
                omega (arith, far, begun)
          ],
        );
      })

  -- without one, that of the kept stretches is the greatest
  pub greatest_by_kept : latest_at l.0 r ≡ None → (o : Option ℕ) → IsGreatestOf (KeepsEntry l.1) r o → IsGreatestIn (value_in nth l) r o
  greatest_by_kept none o is = in_all o (in_kept o is)
    where
      kept : (f : StretchEntry V) → Has l f → f.0.replica ≡ r → KeepsEntry l.1 f
      kept f h mine = elim h [
        | inl a ↦ let own : Latest V = (f.0.counter, f.1) in let both : None ≡ Some own = sym none ∙ ap (latest_at l.0) (sym mine) ∙ a in absurd cc
        | inr k ↦ k
      ]

      in_kept : (o : Option ℕ) → IsGreatestOf (KeepsEntry l.1) r o → IsGreatestOf (Has l) r o
      in_kept None is = record { none = λ f h mine. is.none f (kept f h mine) mine; some = tt }
      in_kept (Some n) is = record { none = tt; some = ((is.some.0.0, inr is.some.0.1, is.some.0.2, is.some.0.3), λ f h mine. is.some.1 f (kept f h mine) mine) }

-- the same of another look-up of the same values
pub greatest_as : {V : Type 0} (f g : Identifier → Option V) (r : ℕ) (o : Option ℕ) → ((q : Identifier) → f q ≡ g q) → IsGreatestIn f r o → IsGreatestIn g r o
greatest_as f g r None same is = record { none = λ e n. sym (same (id_at r n)) ∙ is.none e n; held = tt; bound = tt }
greatest_as f g r (Some n) same is =
    record {
      none = λ e m. sym (same (id_at r m)) ∙ is.none e m;
      held = sym (ap is_some (same (id_at r n))) ∙ is.held;
      bound = λ m some. is.bound m (ap is_some (same (id_at r m)) ∙ some);
    }
