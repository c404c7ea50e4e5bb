-- Whether identifiers are free.
use Rattle.std.proofs.Common.{arith, inl, inr, refl, subst, ℕ, ◌<◌, ◌∙◌, ◌≡◌, ◌≤◌, sym, ap}
use Rattle.fugue_ids.specs.Identifiers.{Identifier, IsAtMost}
use Rattle.stretch_map.specs.Contents.{StretchEntry, Layout}
use Rattle.stretch_map.specs.Stretches.{AreFreeTo, AreStretches, Has, IsFloor, IsLatest, IsLatestUpTo, KeepsEntry, NoLatestUpTo, NoneUpTo}
use Rattle.stretch_map.proofs.FoundLemmas.{cases_le, not_covered, same_kept, same_latest, uncovered}

module _ {V : Type 0} (nth : Identifier → V → ℕ → V) (reaches : Identifier → V → ℕ → Type 0) (l : Layout V) (are : AreStretches reaches l) (first : Identifier) (last : ℕ)
    (some : first.counter ≤ last) where
  -- the last of the identifiers
  abbrev end : Identifier
  end = record { replica = first.replica; counter = last }

  -- each stretch that begins up to the last of them ends before the first
  abbrev EndBefore : Type 0
  EndBefore = (e : StretchEntry V) → Has l e → e.0.replica ≡ first.replica → e.0.counter ≤ last → e.1.last < first.counter

  free_from : EndBefore → AreFreeTo nth l first last
  free_from before q c =
      uncovered nth reaches l are q
      (λ e h d.
      let from : e.0.counter ≤ q.counter = d.from in
      let to : q.counter ≤ e.1.last = d.to in
      let low : first.counter ≤ q.counter = c.from in
      let high : q.counter ≤ last = c.to in
      let less : e.1.last < first.counter = before e h (d.replica ∙ sym c.replica) (omega (arith, from, high)) in
      absurd (omega (arith, less, low, to)))

  -- one that does not has one of them
  pub not_free : (e : StretchEntry V) → Has l e → e.0.replica ≡ first.replica → e.0.counter ≤ last → first.counter ≤ e.1.last → AreFreeTo nth l first last → ⊥
  not_free e h r from to free =
      let begun : e.0.counter ≤ e.1.last = are.begun e h in
      elim (cases_le e.0.counter first.counter) [
        | inl i ↦ not_covered nth reaches l are first (free first (record { replica = refl; from = omega arith; to = some })) e h (record { replica = r; from = i; to = to })
        | inr i ↦ not_covered nth reaches l are e.0 (free e.0 (record { replica = sym r; from = omega (arith, i); to = from })) e h
            (record { replica = refl; from = omega arith; to = begun })
      ]

  -- where the last stretch of the replica begins up to there, it decides
  pub free_by_latest : (x : Identifier) → x ≡ end → (e : StretchEntry V) → IsLatestUpTo l.0 x e → (e.0.replica ≡ first.replica → e.1.last < first.counter)
      → AreFreeTo nth l first last
  free_by_latest x at_end e up ends =
      let is : IsLatestUpTo l.0 end e = subst (λ y. IsLatestUpTo l.0 y e) at_end up in
      let less : e.1.last < first.counter = ends is.replica in
      free_from
      (λ f h r from.
      let rr : f.0.replica ≡ e.0.replica = r ∙ sym is.replica in
      let begun : e.0.counter ≤ e.1.last = are.begun e (inl is.latest) in
      elim h [
        | inl a ↦ let same : f.1.last ≡ e.1.last = ap (λ (z : StretchEntry V). z.1.last) (same_latest l.0 f e a is.latest rr) in omega (arith, same, less)
        | inr a ↦
            let low : f.0.counter < e.0.counter = are.laid.before e f is.latest a rr in
            let over : f.1.last < e.0.counter = are.apart f e (inr a) (inl is.latest) rr low in
            omega (arith, over, begun, less)
      ])

  pub latest_not_free : (x : Identifier) → x ≡ end → (e : StretchEntry V) → IsLatestUpTo l.0 x e → first.counter ≤ e.1.last → AreFreeTo nth l first last → ⊥
  latest_not_free x at_end e up to = let is : IsLatestUpTo l.0 end e = subst (λ y. IsLatestUpTo l.0 y e) at_end up in not_free e (inl is.latest) is.replica is.from to

  -- otherwise the floor of the last of them among the kept ones does
  module _ (x : Identifier) (at_end : x ≡ end) (before : NoLatestUpTo l.0 x) where
    none : NoLatestUpTo l.0 end
    none = subst (NoLatestUpTo l.0) at_end before

    no_latest : (e : StretchEntry V) → IsLatest l.0 e → e.0.replica ≡ first.replica → e.0.counter ≤ last → ⊥
    no_latest e a r from = let over : last < e.0.counter = none e a r in absurd (omega (arith, over, from))

    pub free_by_floor : (e : StretchEntry V) → IsFloor l.1 x e → (e.0.replica ≡ first.replica → e.1.last < first.counter) → AreFreeTo nth l first last
    free_by_floor e under ends =
        let floor : IsFloor l.1 end e = subst (λ y. IsFloor l.1 y e) at_end under in
        free_from
        (λ f h r from.
        elim h [
          | inl a ↦ absurd (no_latest f a r from)
          | inr a ↦
              let up : IsAtMost e.0 end = floor.up_to in
              elim (floor.last f a (inr (r, from))) [
                | inl i ↦ elim up [ inl j ↦ absurd (omega (arith, i, j, r)) | inr j ↦ let same : e.0.replica ≡ first.replica = j.0 in absurd (omega (arith, i, same, r)) ]
                | inr i ↦
                    let same : e.0.replica ≡ first.replica = sym i.0 ∙ r in
                    let less : e.1.last < first.counter = ends same in
                    let begun : e.0.counter ≤ e.1.last = are.begun e (inr floor.kept) in
                    elim (cases_le e.0.counter f.0.counter) [
                      | inl j ↦
                          let low : f.0.counter ≤ e.0.counter = i.1 in
                          elim (cases_le f.1.last e.1.last) [
                            | inl k ↦ omega (arith, k, less)
                            | inr k ↦ absurd (not_covered_twice e f floor.kept a (sym i.0) (omega (arith, j, low)) k)
                          ]
                      | inr j ↦ let over : f.1.last < e.0.counter = are.apart f e (inr a) (inr floor.kept) i.0 j in omega (arith, over, begun, less)
                    ]
              ]
        ])
      where
        -- one stretch is kept under an identifier
        not_covered_twice : (e f : StretchEntry V) → KeepsEntry l.1 e → KeepsEntry l.1 f → e.0.replica ≡ f.0.replica → f.0.counter ≡ e.0.counter → e.1.last < f.1.last → ⊥
        not_covered_twice e f kept also r c less =
            let id : e.0 ≡ f.0 = λ i. record { replica = r i; counter = sym c i } in
            let same : e.1.last ≡ f.1.last = ap (λ s. s.last) (same_kept l.1 e f kept also id) in
            absurd (omega (arith, same, less))

    pub floor_not_free : (e : StretchEntry V) → IsFloor l.1 x e → e.0.replica ≡ first.replica → first.counter ≤ e.1.last → AreFreeTo nth l first last → ⊥
    floor_not_free e under r to =
        let floor : IsFloor l.1 end e = subst (λ y. IsFloor l.1 y e) at_end under in
        let from : e.0.counter ≤ last = elim floor.up_to [ inl i ↦ absurd (omega (arith, i, r)) | inr i ↦ i.1 ] in
        not_free e (inr floor.kept) r from to

    pub free_by_none : NoneUpTo l.1 x → AreFreeTo nth l first last
    free_by_none under =
        let nothing : NoneUpTo l.1 end = subst (NoneUpTo l.1) at_end under in
        free_from (λ f h r from. elim h [ inl a ↦ absurd (no_latest f a r from) | inr a ↦ absurd (nothing f a (inr (r, from))) ])
