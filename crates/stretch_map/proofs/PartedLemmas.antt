-- A stretch cut in two: the values are the same.
use Rattle.std.proofs.Common.{ap, arith, inl, inr, refl, subst, sym, ℕ, ◌+◌, ◌-◌, ◌<◌, ◌∙◌, ◌≡◌, ◌≢◌, ◌≤◌}
use Rattle.fugue_ids.specs.Identifiers.{Identifier}
use Rattle.fugue_ids.proofs.IdentifierLemmas.{cases_id}
use Rattle.fugue_ids.specs.Runs.{id_after}
use Rattle.stretch_map.specs.Contents.{StretchEntry, Layout, value_in}
use Rattle.stretch_map.specs.Stretches.{AreStretches, Covers, Has, IsReachedByRule, tail_from, up_to}
use Rattle.stretch_map.proofs.FoundLemmas.{cases_le, same_has}
use Rattle.stretch_map.proofs.LessenedLemmas.{Splits}
use Rattle.stretch_map.proofs.SetLemmas.{value_stays}
use Rattle.fugue_ids.proofs.OptionLemmas.{cases_number}

module _ {V : Type 0} (nth : Identifier → V → ℕ → V) (reaches : Identifier → V → ℕ → Type 0)
    (adds : (first : Identifier) (value : V) (j k : ℕ) → nth (id_after first j) (nth first value j) k ≡ nth first value (j + k))
    (goes_on : (first : Identifier) (value : V) (j k : ℕ) → reaches first value (j + k) → reaches (id_after first j) (nth first value j) k)
    (l k : Layout V) (are : AreStretches reaches l) (e : StretchEntry V) (old : Has l e) (j : ℕ) (some : 0 < j) (within : e.0.counter + j ≤ e.1.last)
    (splits : Splits l k (up_to e (e.0.counter + j - 1)) (tail_from nth e j)) where
  parted_apart : (a b : StretchEntry V) → Has k a → Has k b → a.0.replica ≡ b.0.replica → a.0.counter < b.0.counter → a.1.last < b.0.counter
  parted_apart a b ka kb r less =
      elim (splits.cases a ka) [
        | inl d ↦
            let ac : a.0.counter ≡ e.0.counter = ap (λ (x : StretchEntry V). x.0.counter) d in
            let al : a.1.last ≡ e.0.counter + j - 1 = ap (λ (x : StretchEntry V). x.1.last) d in
            elim (splits.cases b kb) [
              | inl h ↦ let bc : b.0.counter ≡ e.0.counter = ap (λ (x : StretchEntry V). x.0.counter) h in absurd (omega arith)
              | inr h ↦
                  elim h [
                    | inl i ↦ let bc : b.0.counter ≡ e.0.counter + j = ap (λ (x : StretchEntry V). x.0.counter) i in omega (arith, some)
                    | inr i ↦
                        let rr : e.0.replica ≡ b.0.replica = sym (ap (λ (x : StretchEntry V). x.0.replica) d) ∙ r in
                        let far : e.1.last < b.0.counter = are.apart e b old i.2 rr (omega arith) in
                        omega (arith, within)
                  ]
            ]
        | inr d ↦
            elim d [
              | inl i ↦
                  let ac : a.0.counter ≡ e.0.counter + j = ap (λ (x : StretchEntry V). x.0.counter) i in
                  let al : a.1.last ≡ e.1.last = ap (λ (x : StretchEntry V). x.1.last) i in
                  elim (splits.cases b kb) [
                    | inl h ↦ let bc : b.0.counter ≡ e.0.counter = ap (λ (x : StretchEntry V). x.0.counter) h in absurd (omega arith)
                    | inr h ↦
                        elim h [
                          | inl o ↦ let bc : b.0.counter ≡ e.0.counter + j = ap (λ (x : StretchEntry V). x.0.counter) o in absurd (omega arith)
                          | inr o ↦
                              let rr : e.0.replica ≡ b.0.replica = sym (ap (λ (x : StretchEntry V). x.0.replica) i) ∙ r in
                              let far : e.1.last < b.0.counter = are.apart e b old o.2 rr (omega arith) in
                              omega arith
                        ]
                  ]
              | inr i ↦
                  elim (splits.cases b kb) [
                    | inl h ↦
                        let bc : b.0.counter ≡ e.0.counter = ap (λ (x : StretchEntry V). x.0.counter) h in
                        let rr : a.0.replica ≡ e.0.replica = r ∙ ap (λ (x : StretchEntry V). x.0.replica) h in
                        let near : a.1.last < e.0.counter = are.apart a e i.2 old rr (omega arith) in
                        omega arith
                    | inr h ↦
                        elim h [
                          | inl o ↦ before_rest a i.0 i.2 (r ∙ ap (λ (x : StretchEntry V). x.0.replica) o) b (ap (λ (x : StretchEntry V). x.0.counter) o) less
                          | inr o ↦ are.apart a b i.2 o.2 r less
                        ]
                  ]
            ]
      ]
    where
      before_rest : (x : StretchEntry V) → x.0 ≢ e.0 → Has l x → x.0.replica ≡ e.0.replica → (y : StretchEntry V) → y.0.counter ≡ e.0.counter + j → x.0.counter < y.0.counter
          → x.1.last < y.0.counter
      before_rest x other h rr y yc below =
          elim (cases_le e.0.counter x.0.counter) [
            | inl up ↦
                elim (cases_number e.0.counter x.0.counter) [
                  | inl same ↦ absurd (other (λ p. record { replica = rr p; counter = sym same p }))
                  | inr apart ↦ let far : e.1.last < x.0.counter = are.apart e x old h (sym rr) (omega (arith, apart, up)) in absurd (omega (arith, within))
                ]
            | inr above ↦ let near : x.1.last < e.0.counter = are.apart x e h old rr above in omega arith
          ]

  -- both parts are stretches
  pub parted_are : AreStretches reaches k
  parted_are =
      record {
        begun = λ x h.
            elim (splits.cases x h) [
              | inl d ↦ subst (λ (z : StretchEntry V). z.0.counter ≤ z.1.last) (sym d) (omega (arith, some))
              | inr d ↦
                  elim d [
                    | inl i ↦ subst (λ (z : StretchEntry V). z.0.counter ≤ z.1.last) (sym i) within
                    | inr i ↦ are.begun x i.2
                  ]
            ];
        apart = parted_apart;
        reached = λ x h.
            elim (splits.cases x h) [
              | inl d ↦ subst (IsReachedByRule reaches) (sym d) (λ n below. are.reached e old n (omega (arith, below, within, some)))
              | inr d ↦
                  elim d [
                    | inl i ↦ subst (IsReachedByRule reaches) (sym i) (λ n below. goes_on e.0 e.1.value j n (are.reached e old (j + n) (omega (arith, below))))
                    | inr i ↦ are.reached x i.2
                  ]
            ];
        laid = splits.laid;
      }

  parted_own : (q : Identifier) → Covers e q → (y : StretchEntry V) × Has k y × Covers y q
      × (nth y.0 y.1.value (q.counter - y.0.counter) ≡ nth e.0 e.1.value (q.counter - e.0.counter))
  parted_own q cover =
      let low : e.0.counter ≤ q.counter = cover.from in
      let high : q.counter ≤ e.1.last = cover.to in
      elim (cases_le (e.0.counter + j) q.counter) [
        | inl behind ↦
            let steps : j + (q.counter - (e.0.counter + j)) ≡ q.counter - e.0.counter = omega arith in (
              tail_from nth e j,
              splits.tail,
              record { replica = cover.replica; from = behind; to = high },
              adds e.0 e.1.value j (q.counter - (e.0.counter + j)) ∙ ap (nth e.0 e.1.value) steps,
            )
        | inr before ↦ (up_to e (e.0.counter + j - 1), splits.head, record { replica = cover.replica; from = low; to = omega arith }, refl)
      ]

  -- they have its values
  pub parted_found : (q : Identifier) → value_in nth k q ≡ value_in nth l q
  parted_found q =
      value_stays nth reaches l k are parted_are q
      (λ x h c.
      elim (splits.cases x h) [
        | inl d ↦
            let cover : Covers (up_to e (e.0.counter + j - 1)) q = subst (λ (z : StretchEntry V). Covers z q) d c in
            let low : e.0.counter ≤ q.counter = cover.from in
            let high : q.counter ≤ e.0.counter + j - 1 = cover.to in
            (e, old, record { replica = cover.replica; from = low; to = omega (arith, within) })
        | inr d ↦
            elim d [
              | inl i ↦
                  let cover : Covers (tail_from nth e j) q = subst (λ (z : StretchEntry V). Covers z q) i c in
                  let low : e.0.counter + j ≤ q.counter = cover.from in
                  (e, old, record { replica = cover.replica; from = omega arith; to = cover.to })
              | inr i ↦ (x, i.2, c)
            ]
      ])
      (λ x h c.
      elim (cases_id x.0 e.0) [
        | inl d ↦
            let value : x.1 ≡ e.1 = same_has reaches l are x e h old d in
            let there = parted_own q (subst (λ (z : StretchEntry V). Covers z q) (λ i. (d i, value i)) c) in
            (there.0, there.1, there.2, there.3 ∙ (λ i. nth (sym d i) (sym value i).value (q.counter - (sym d i).counter)))
        | inr d ↦
            let not_rest : x.0 ≢ id_after e.0 j = λ i.
            let there : x.0.counter ≡ e.0.counter + j = ap (λ (z : Identifier). z.counter) i in
            let rep : e.0.replica ≡ x.0.replica = sym (ap (λ (z : Identifier). z.replica) i) in
            let far : e.1.last < x.0.counter = are.apart e x old h rep (omega (arith, some, there)) in
            absurd (omega (arith, within))
            in
            (x, splits.stays x d not_rest h, c, refl)
      ])
