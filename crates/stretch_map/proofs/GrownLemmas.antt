-- Stretches with a new one.
use Rattle.std.proofs.Common.{ap, arith, inl, inr, refl, subst, suc, sym, zero, ℕ, ◌+◌, ◌-◌, ◌<◌, ◌∙◌, ◌≡◌, ◌≤◌}
use Rattle.std.specs.Prelude.{Some}
use Rattle.fugue_ids.specs.Identifiers.{Identifier}
use Rattle.fugue_ids.specs.Runs.{id_after}
use Rattle.fugue_ids.proofs.IdentifierLemmas.{cases_id}
use Rattle.stretch_map.specs.Contents.{StretchEntry, Layout, value_in}
use Rattle.stretch_map.specs.Stretches.{Adds, AreStretches, CanCome, Covers, EndsAt, GoesOn, Has, last_identifier, up_to}
use Rattle.stretch_map.proofs.FoundLemmas.{cases_le, covered, not_covered}
use Rattle.stretch_map.proofs.SetLemmas.{Fits, Sets, set_are, value_stays, value_within}

module _ {V : Type 0} (nth : Identifier → V → ℕ → V) (reaches : Identifier → V → ℕ → Type 0) (l : Layout V) (are : AreStretches reaches l) (run : StretchEntry V)
    (comes : CanCome nth reaches l run) where
  -- no stretch has an identifier of the new one
  pub not_in_new : (q : Identifier) → Covers run q → (e : StretchEntry V) → Has l e → Covers e q → ⊥
  not_in_new q c e h d = not_covered nth reaches l are q (comes.free q c) e h d

  -- so none has its first one
  pub first_not_in : (e : StretchEntry V) → Has l e → e.0.replica ≡ run.0.replica → e.0.counter ≤ run.0.counter → run.0.counter ≤ e.1.last → ⊥
  first_not_in e h r from to =
      let begun : run.0.counter ≤ run.1.last = comes.begun in
      not_in_new run.0 (record { replica = refl; from = omega arith; to = begun }) e h (record { replica = r; from = from; to = to })

  -- and none begins in it
  pub none_begins_in : (e : StretchEntry V) → Has l e → run.0.replica ≡ e.0.replica → run.0.counter ≤ e.0.counter → e.0.counter ≤ run.1.last → ⊥
  none_begins_in e h r from to =
      let begun : e.0.counter ≤ e.1.last = are.begun e h in
      not_in_new e.0 (record { replica = r; from = from; to = to }) e h (record { replica = refl; from = omega arith; to = begun })

  module _ (k : Layout V) where
    -- a stretch that ends with the new one is the only one that has its end
    set_ends : (e : StretchEntry V) → e.1.last ≡ run.1.last → Sets l k e → EndsAt k (last_identifier run)
    set_ends e last sets = λ x h c.
        elim (sets.cases x h) [
          | inl d ↦ let same : x.1.last ≡ e.1.last = ap (λ (z : StretchEntry V). z.1.last) d in omega (arith, same, last)
          | inr d ↦
              let begun : run.0.counter ≤ run.1.last = comes.begun in
              absurd (not_in_new (last_identifier run) (record { replica = refl; from = begun; to = omega arith }) x d.1 c)
        ]

    module _ (joins : (first : Identifier) (v : V) (j : ℕ) → reaches first v j → reaches (id_after first j) (nth first v j) 1 → reaches first v (j + 1))
        (adds : (first : Identifier) (v : V) (j k : ℕ) → nth (id_after first j) (nth first v j) k ≡ nth first v (j + k))
        (goes_on : (first : Identifier) (v : V) (j k : ℕ) → reaches first v (j + k) → reaches (id_after first j) (nth first v j) k)
        (e : StretchEntry V) (old : Has l e) (goes : GoesOn nth reaches e run.0 run.1.value) (sets : Sets l k (up_to e run.1.last)) where
      -- how many steps the new one is after the first identifier of the one that goes on
      abbrev steps : ℕ
      steps = run.0.counter - e.0.counter

      begun_old : e.0.counter ≤ e.1.last
      begun_old = are.begun e old

      begun_new : run.0.counter ≤ run.1.last
      begun_new = comes.begun

      next_is : e.1.last + 1 ≡ run.0.counter
      next_is = goes.next

      there : (j : ℕ) → id_after run.0 j ≡ id_after e.0 (steps + j)
      there j =
          let begun = begun_old in
          let next = next_is in
          let c : run.0.counter + j ≡ e.0.counter + (run.0.counter - e.0.counter + j) = omega (arith, begun, next) in
          λ i. record { replica = sym goes.replica i; counter = c i }

      here : run.0 ≡ id_after e.0 steps
      here =
          let begun = begun_old in
          let next = next_is in
          let c : run.0.counter ≡ e.0.counter + (run.0.counter - e.0.counter) = omega (arith, begun, next) in
          λ i. record { replica = sym goes.replica i; counter = c i }

      -- the values of the new one are those of the one that goes on
      value_there : (j : ℕ) → nth run.0 run.1.value j ≡ nth e.0 e.1.value (steps + j)
      value_there j = (λ i. nth (here i) (sym goes.follows i) j) ∙ adds e.0 e.1.value steps j

      -- and the rule reaches to them
      reached_there : (j : ℕ) → run.0.counter + j ≤ run.1.last → reaches e.0 e.1.value (steps + j)
      reached_there zero less = let same : run.0.counter - e.0.counter ≡ run.0.counter - e.0.counter + 0 = omega arith in subst (reaches e.0 e.1.value) same goes.reached
      reached_there (suc j) less =
          let plus : j + 1 ≡ suc j = omega arith in
          let same : run.0.counter - e.0.counter + j + 1 ≡ run.0.counter - e.0.counter + suc j = omega arith in
          let one : reaches (id_after run.0 j) (nth run.0 run.1.value j) 1 =
          goes_on run.0 run.1.value j 1 (subst (reaches run.0 run.1.value) (sym plus) (comes.reached (suc j) less)) in
          subst (reaches e.0 e.1.value) same
          (joins e.0 e.1.value (steps + j) (reached_there j (omega (arith, less)))
          (subst (λ v. reaches (id_after e.0 (steps + j)) v 1) (value_there j) (subst (λ x. reaches x (nth run.0 run.1.value j) 1) (there j) one)))

      grown_fits : Fits reaches l (up_to e run.1.last)
      grown_fits =
          let begun = begun_old in
          let more = begun_new in
          let next = next_is in
          record {
            begun = omega (arith, begun, more, next);
            before = λ x h r less. are.apart x e h old r less;
            behind = λ x h r less.
                let over : e.1.last < x.0.counter = are.apart e x old h r less in
                elim (cases_le x.0.counter run.1.last) [
                  | inr i ↦ i
                  | inl i ↦ absurd (none_begins_in x h (sym goes.replica ∙ r) (omega (arith, over, next)) i)
                ];
            reached = λ n less.
                elim (cases_le (e.0.counter + n) e.1.last) [
                  | inl j ↦ are.reached e old n j
                  | inr j ↦
                      let far : run.0.counter - e.0.counter + (e.0.counter + n - run.0.counter) ≡ n = omega (arith, j, next, begun) in
                      subst (reaches e.0 e.1.value) far (reached_there (e.0.counter + n - run.0.counter) (omega (arith, j, next, less)))
                ];
          }

      joined_are : AreStretches reaches k
      joined_are = set_are reaches l k are (up_to e run.1.last) grown_fits sets

      -- a stretch that goes on with the new one
      pub joined : Adds nth reaches l k run
      joined =
          let begun = begun_old in
          let more = begun_new in
          let next = next_is in
          record {
            are = joined_are;
            inside = λ q c.
                let from : run.0.counter ≤ q.counter = c.from in
                let far : run.0.counter - e.0.counter + (q.counter - run.0.counter) ≡ q.counter - e.0.counter = omega (arith, from, next, begun) in
                covered nth reaches k joined_are q (up_to e run.1.last) sets.here
                (record { replica = goes.replica ∙ c.replica; from = omega (arith, from, next, begun); to = c.to })
                ∙ sym (ap (λ n. Some (nth e.0 e.1.value n)) far) ∙ sym (ap Some (value_there (q.counter - run.0.counter)));
            outside = λ q d.
                value_within nth reaches l k are joined_are q e old run.1.last sets
                (λ c.
                let to : q.counter ≤ run.1.last = c.to in
                elim (cases_le q.counter e.1.last) [
                  | inl i ↦ i
                  | inr i ↦ absurd (d (record { replica = sym goes.replica ∙ c.replica; from = omega (arith, i, next); to = to }))
                ])
                (λ c. let high : q.counter ≤ e.1.last = c.to in omega (arith, high, next, more));
            ends = set_ends (up_to e run.1.last) refl sets;
          }

    module _ (sets : Sets l k run) where
      new_fits : Fits reaches l run
      new_fits =
          record {
            begun = comes.begun;
            before = λ x h r less.
                elim (cases_le run.0.counter x.1.last) [
                  | inl i ↦ absurd (first_not_in x h r (omega (arith, less)) i)
                  | inr i ↦ i
                ];
            behind = λ x h r less.
                elim (cases_le x.0.counter run.1.last) [
                  | inl i ↦ absurd (none_begins_in x h r (omega (arith, less)) i)
                  | inr i ↦ i
                ];
            reached = comes.reached;
          }

      added_are : AreStretches reaches k
      added_are = set_are reaches l k are run new_fits sets

      -- the new stretch as one of its own
      pub added : Adds nth reaches l k run
      added =
          record {
            are = added_are;
            inside = λ q c. covered nth reaches k added_are q run sets.here c;
            outside = λ q d.
                value_stays nth reaches l k are added_are q
                (λ x h c. elim (sets.cases x h) [ inl i ↦ absurd (d (subst (λ (z : StretchEntry V). Covers z q) i c)) | inr i ↦ (x, i.1, c) ])
                (λ x h c.
                elim (cases_id x.0 run.0) [
                  | inl i ↦
                      let first : x.0.counter ≡ run.0.counter = ap (λ (z : Identifier). z.counter) i in
                      let begun : x.0.counter ≤ x.1.last = are.begun x h in
                      absurd (first_not_in x h (ap (λ (z : Identifier). z.replica) i) (omega arith) (omega arith))
                  | inr i ↦ (x, sets.stays x i h, c, refl)
                ]);
            ends = set_ends run refl sets;
          }
