-- What becomes of stretches as a new one is put.
use Rattle.std.proofs.Common.{ap, arith, inl, inr, refl, subst, sym, List, ℕ, ◌+◌, ◌-◌, ◌<◌, ◌∙◌, ◌≡◌, ◌≤◌}
use Rattle.std.specs.Prelude.{None, Some}
use Rattle.std.specs.BTreeMap.{BTreeMap, IsOrdered, UpdatesBy}
use Rattle.fugue_ids.specs.Identifiers.{Identifier, id_cmp}
use Rattle.fugue_ids.specs.Runs.{id_after}
use Rattle.stretch_map.specs.Contents.{StretchEntry, Latest, Layout, value_in}
use Rattle.stretch_map.specs.Rules.{FollowsByRule}
use Rattle.stretch_map.specs.Stretches.{Adds, AreStretches, CanCome, GoesOn, Grows, Has, IsAfterAll, IsFloor, IsLatest, IsLatestUpTo, KeepsEntry, KeptBecomes, LatestBecomes}
use Rattle.stretch_map.specs.Stretches.{NoLatestUpTo, latest_at, up_to}
use Rattle.stretch_map.specs.declared.stretches.Stretch.{Stretch}
use Rattle.stretch_map.proofs.FoundLemmas.{cases_le, found, same_latest}
use Rattle.stretch_map.proofs.GrownLemmas.{added, first_not_in, joined}
use Rattle.stretch_map.proofs.KeptLemmas.{kept_becomes, sets_after, sets_kept, sets_latest}

module _ {V : Type 0} (nth : Identifier → V → ℕ → V) (reaches : Identifier → V → ℕ → Type 0) (l : Layout V) (are : AreStretches reaches l) (run : StretchEntry V)
    (comes : CanCome nth reaches l run) where
  abbrev key : Identifier
  key = run.0

  abbrev value : V
  value = run.1.value

  module _ (joins : (first : Identifier) (v : V) (j : ℕ) → reaches first v j → reaches (id_after first j) (nth first v j) 1 → reaches first v (j + 1))
      (adds : (first : Identifier) (v : V) (j k : ℕ) → nth (id_after first j) (nth first v j) k ≡ nth first v (j + k))
      (goes_on : (first : Identifier) (v : V) (j k : ℕ) → reaches first v (j + k) → reaches (id_after first j) (nth first v j) k) where
    -- the last stretch of the replica goes on
    pub latest_grew : (e : StretchEntry V) → IsLatest l.0 e → GoesOn nth reaches e key value → (s : Stretch V) → s ≡ (up_to e run.1.last).1 → (ls : List (ℕ × Latest V))
        → LatestBecomes l.0 ls e.0.replica (Some (e.0.counter, s)) → Adds nth reaches l (ls, l.1) run
    latest_grew e old goes s is ls becomes =
        joined nth reaches l are run comes (ls, l.1) joins adds goes_on e (inl old) goes
        (sets_latest l (ls, l.1) are.laid (up_to e run.1.last) (λ x a r. ap (λ (z : StretchEntry V). z.0) (same_latest l.0 x e a old r)) (λ x h r. are.laid.before e x old h r)
        (subst (λ t. LatestBecomes l.0 ls e.0.replica (Some (e.0.counter, t))) is becomes) refl)

    -- a kept stretch goes on
    pub kept_grew : (es : List (StretchEntry V)) → Grows nth reaches l.1 es run → Adds nth reaches l (l.0, es) run
    kept_grew es grows =
        joined nth reaches l are run comes (l.0, es) joins adds goes_on grows.stretch (inr grows.kept) grows.goes_on
        (sets_kept l (l.0, es) are.laid (up_to grows.stretch run.1.last) (λ x a r. are.laid.before x grows.stretch a grows.kept r) grows.becomes refl)

  -- the last stretch of the replica does not begin with a key without a value
  begins_before : (e : StretchEntry V) → IsLatestUpTo l.0 key e → e.0.counter < key.counter
  begins_before e is =
      elim (cases_le key.counter e.0.counter) [
        | inl i ↦
            let from : e.0.counter ≤ key.counter = is.from in
            let begun : e.0.counter ≤ e.1.last = are.begun e (inl is.latest) in
            absurd (first_not_in nth reaches l are run comes e (inl is.latest) is.replica from (omega arith))
        | inr i ↦ i
      ]

  -- the new stretch is the only last one of its replica
  pub begun_first : IsAfterAll l key → (ls : List (ℕ × Latest V)) → LatestBecomes l.0 ls key.replica (Some (key.counter, run.1)) → Adds nth reaches l (ls, l.1) run
  begun_first behind ls becomes =
      added nth reaches l are run comes (ls, l.1)
      (sets_latest l (ls, l.1) are.laid run
      (λ x a r. let own : Latest V = (x.0.counter, x.1) in let both : None ≡ Some own = sym behind.none ∙ ap (latest_at l.0) (sym r) ∙ a in absurd cc) behind.before becomes refl)

  -- before the last one of its replica
  pub begun_kept : NoLatestUpTo l.0 key → (es : List (StretchEntry V)) → KeptBecomes l.1 es key (Some run.1) → Adds nth reaches l (l.0, es) run
  begun_kept none es becomes = added nth reaches l are run comes (l.0, es) (sets_kept l (l.0, es) are.laid run (λ x a r. none x a (sym r)) becomes refl)

  -- and after it
  pub begun_after : (e : StretchEntry V) → IsLatestUpTo l.0 key e → (ls : List (ℕ × Latest V)) (es : List (StretchEntry V))
      → LatestBecomes l.0 ls key.replica (Some (key.counter, run.1))
      → KeptBecomes l.1 es e.0 (Some e.1) → Adds nth reaches l (ls, es) run
  begun_after e is ls es becomes keeps =
      added nth reaches l are run comes (ls, es) (sets_after l (ls, es) are.laid e run is.latest is.replica (begins_before e is) becomes keeps)

  -- the stretch of the identifier before is one that goes on
  goes_from : (joins : (first : Identifier) (v : V) (j : ℕ) → reaches first v j → reaches (id_after first j) (nth first v j) 1 → reaches first v (j + 1))
      → (adds : (first : Identifier) (v : V) (j k : ℕ) → nth (id_after first j) (nth first v j) k ≡ nth first v (j + k))
      → FollowsByRule nth reaches (value_in nth l) key value → (e : StretchEntry V) × Has l e × GoesOn nth reaches e key value
  goes_from joins adds next =
      elim (found nth reaches l are next.before) [
        | inl w ↦ let both : None ≡ Some next.value_before = sym w.0 ∙ next.held in cc
        | inr w ↦
            let e : StretchEntry V = w.0 in
            let from : e.0.counter ≤ next.before.counter = w.2.from in
            let to : next.before.counter ≤ e.1.last = w.2.to in
            let rep : e.0.replica ≡ key.replica = w.2.replica ∙ ap (λ (x : Identifier). x.replica) next.at_key in
            let after : next.before.counter + 1 ≡ key.counter = ap (λ (x : Identifier). x.counter) next.at_key in
            let end : e.1.last + 1 ≡ key.counter = elim (cases_le key.counter e.1.last) [
              | inl i ↦ absurd (first_not_in nth reaches l are run comes e w.1 rep (omega arith) i)
              | inr i ↦ omega arith
            ] in
            let steps : ℕ = next.before.counter - e.0.counter in
            let far : steps + 1 ≡ key.counter - e.0.counter = omega arith in
            let there : id_after e.0 steps ≡ next.before = let c : e.0.counter + steps ≡ next.before.counter =
            omega arith in λ i. record { replica = w.2.replica i; counter = c i } in
            let value_there : nth e.0 e.1.value steps ≡ next.value_before = let both : Some (nth e.0 e.1.value steps) ≡ Some next.value_before = sym w.3 ∙ next.held in cc in (
              e,
              w.1,
              record {
                replica = rep;
                next = end;
                reached =
                    subst (reaches e.0 e.1.value) far
                    (joins e.0 e.1.value steps (are.reached e w.1 steps (omega arith))
                    (subst (λ x. reaches x (nth e.0 e.1.value steps) 1) (sym there) (subst (λ v. reaches next.before v 1) (sym value_there) next.reached)));
                follows = ap (nth e.0 e.1.value) (sym far) ∙ sym (adds e.0 e.1.value steps 1) ∙ (λ i. nth (there i) (value_there i) 1) ∙ next.follows;
              },
            )
      ]

  -- a kept stretch that goes on with the key is the floor of the key
  floor_goes : (e : StretchEntry V) → KeepsEntry l.1 e → GoesOn nth reaches e key value → IsFloor l.1 key e
  floor_goes e kept goes =
      let begun : e.0.counter ≤ e.1.last = are.begun e (inr kept) in
      let next : e.1.last + 1 ≡ key.counter = goes.next in
      let rep : e.0.replica ≡ key.replica = goes.replica in
      record {
        kept = kept;
        up_to = inr (rep, omega arith);
        last = λ f h m.
            elim m [
              | inl i ↦ inl (omega (arith, i, rep))
              | inr i ↦
                  let r : f.0.replica ≡ e.0.replica = i.0 ∙ sym rep in
                  let low : f.0.counter ≤ key.counter = i.1 in
                  elim (cases_le f.0.counter e.0.counter) [
                    | inl j ↦ inr (r, j)
                    | inr j ↦
                        let far : e.1.last < f.0.counter = are.apart e f (inr kept) (inr h) (sym r) j in
                        let end : f.0.counter ≤ f.1.last = are.begun f (inr h) in
                        absurd (first_not_in nth reaches l are run comes f (inr h) i.0 low (omega arith))
                  ]
            ];
      }

  module _ (joins : (first : Identifier) (v : V) (j : ℕ) → reaches first v j → reaches (id_after first j) (nth first v j) 1 → reaches first v (j + 1))
      (adds : (first : Identifier) (v : V) (j k : ℕ) → nth (id_after first j) (nth first v j) k ≡ nth first v (j + k)) where
    -- where no kept stretch goes on, nor a last one can, the value does not follow
    pub not_next_before : NoLatestUpTo l.0 key → ((e : StretchEntry V) → IsFloor l.1 key e → GoesOn nth reaches e key value → ⊥)
        → FollowsByRule nth reaches (value_in nth l) key value → ⊥
    not_next_before none kept next =
        let e = goes_from joins adds next in
        elim e.1 [
          | inl a ↦
              let over : key.counter < e.0.0.counter = none e.0 a e.2.replica in
              let begun : e.0.0.counter ≤ e.0.1.last = are.begun e.0 (inl a) in
              let end : e.0.1.last + 1 ≡ key.counter = e.2.next in
              absurd (omega arith)
          | inr a ↦ kept e.0 (floor_goes e.0 a e.2) e.2
        ]

    -- where the last one does not go on, nor a kept one can, it does not follow
    pub not_next_after : (e : StretchEntry V) → IsLatestUpTo l.0 key e → (GoesOn nth reaches e key value → ⊥) → FollowsByRule nth reaches (value_in nth l) key value → ⊥
    not_next_after e is not next =
        let x = goes_from joins adds next in
        let r : x.0.0.replica ≡ e.0.replica = x.2.replica ∙ sym is.replica in
        elim x.1 [
          | inl a ↦ not (subst (λ (z : StretchEntry V). GoesOn nth reaches z key value) (same_latest l.0 x.0 e a is.latest r) x.2)
          | inr a ↦
              let less : x.0.0.counter < e.0.counter = are.laid.before e x.0 is.latest a r in
              let far : x.0.1.last < e.0.counter = are.apart x.0 e (inr a) (inl is.latest) r less in
              let end : x.0.1.last + 1 ≡ key.counter = x.2.next in
              let from : e.0.counter < key.counter = begins_before e is in
              absurd (omega arith)
        ]

-- the map as the longer stretch is written
pub map_grew : {V : Type 0} (nth : Identifier → V → ℕ → V) (reaches : Identifier → V → ℕ → Type 0) (m n : BTreeMap Identifier (Stretch V)) (run e : StretchEntry V)
    → KeepsEntry m.entries e
    → GoesOn nth reaches e run.0 run.1.value → (s : Stretch V) → s ≡ (up_to e run.1.last).1 → UpdatesBy id_cmp (id_cmp e.0) m n (Some s) → IsOrdered id_cmp n
    → Grows nth reaches m.entries n.entries run
map_grew nth reaches m n run e kept goes s is u ordered =
    record {
      stretch = e;
      kept = kept;
      goes_on = goes;
      becomes = kept_becomes m n e.0 (Some (up_to e run.1.last).1) (subst (λ t. UpdatesBy id_cmp (id_cmp e.0) m n (Some t)) is u) ordered;
    }
