-- Stretches of which one is set, and values that stay.
use Rattle.std.proofs.Common.{ap, inl, inr, refl, subst, sym, ℕ, ◌-◌, ◌<◌, ◌∙◌, ◌≡◌, ◌≢◌, ◌≤◌, ◌⊎◌, arith, cond}
use Rattle.std.specs.Prelude.{Option, Some}
use Rattle.std.specs.Ordering.{is_eq}
use Rattle.fugue_ids.specs.Identifiers.{Identifier, id_cmp}
use Rattle.fugue_ids.proofs.IdentifierLemmas.{cases_id, id_at-other, id_at-same}
use Rattle.stretch_map.specs.Contents.{StretchEntry, Layout, value_in}
use Rattle.stretch_map.specs.Stretches.{AreStretches, Covers, Has, IsLaid, IsReachedByRule, up_to}
use Rattle.stretch_map.proofs.FoundLemmas.{covered, found, same_has, uncovered}

-- e is a stretch of k, and the others are those of l
pub record Sets {V : Type 0} (l k : Layout V) (e : StretchEntry V) : Type 0 where
  pub here : Has k e
  pub cases : (x : StretchEntry V) → Has k x → (x ≡ e) ⊎ ((x.0 ≢ e.0) × Has l x)
  pub stays : (x : StretchEntry V) → x.0 ≢ e.0 → Has l x → Has k x
  pub laid : IsLaid k

-- e can be a stretch beside those of l
pub record Fits {V : Type 0} (reaches : Identifier → V → ℕ → Type 0) (l : Layout V) (e : StretchEntry V) : Type 0 where
  pub begun : e.0.counter ≤ e.1.last
  pub before : (x : StretchEntry V) → Has l x → x.0.replica ≡ e.0.replica → x.0.counter < e.0.counter → x.1.last < e.0.counter
  pub behind : (x : StretchEntry V) → Has l x → e.0.replica ≡ x.0.replica → e.0.counter < x.0.counter → e.1.last < x.0.counter
  pub reached : IsReachedByRule reaches e

-- what is there at a key, and elsewhere, by the test whether it is the key
pub by_key : {V : Type 0} (q key : Identifier) (x there elsewhere : Option V) → (q ≡ key → x ≡ there) → (q ≢ key → x ≡ elsewhere) → x ≡ cond (is_eq (id_cmp q key)) there elsewhere
by_key q key x there elsewhere on off =
    elim (cases_id q key) [
      | inl e ↦ on e ∙ sym (ap (λ b. cond b there elsewhere) (ap (λ z. is_eq (id_cmp z key)) e ∙ id_at-same key))
      | inr n ↦ off n ∙ sym (ap (λ b. cond b there elsewhere) (id_at-other q key (λ e. n (sym e))))
    ]

-- a stretch that is set where it can be
pub set_are : {V : Type 0} (reaches : Identifier → V → ℕ → Type 0) (l k : Layout V) → AreStretches reaches l → (e : StretchEntry V) → Fits reaches l e → Sets l k e
    → AreStretches reaches k
set_are {V} reaches l k are e fits sets =
    record {
      begun = λ x h. elim (sets.cases x h) [ inl d ↦ subst (λ (z : StretchEntry V). z.0.counter ≤ z.1.last) (sym d) fits.begun | inr d ↦ are.begun x d.1 ];
      apart = λ x y hx hy r less.
          elim (sets.cases x hx) [
            | inl d ↦
                elim (sets.cases y hy) [
                  | inl h ↦ let both : x.0.counter ≡ y.0.counter = ap (λ (z : StretchEntry V). z.0.counter) (d ∙ sym h) in absurd (omega arith)
                  | inr h ↦
                      let rr : e.0.replica ≡ y.0.replica = sym (ap (λ (z : StretchEntry V). z.0.replica) d) ∙ r in
                      subst (λ (z : StretchEntry V). z.1.last < y.0.counter) (sym d) (fits.behind y h.1 rr (subst (λ (z : StretchEntry V). z.0.counter < y.0.counter) d less))
                ]
            | inr d ↦
                elim (sets.cases y hy) [
                  | inl h ↦
                      let rr : x.0.replica ≡ e.0.replica = r ∙ ap (λ (z : StretchEntry V). z.0.replica) h in
                      subst (λ (z : StretchEntry V). x.1.last < z.0.counter) (sym h) (fits.before x d.1 rr (subst (λ (z : StretchEntry V). x.0.counter < z.0.counter) h less))
                  | inr h ↦ are.apart x y d.1 h.1 r less
                ]
          ];
      reached = λ x h. elim (sets.cases x h) [ inl d ↦ subst (IsReachedByRule reaches) (sym d) fits.reached | inr d ↦ are.reached x d.1 ];
      laid = sets.laid;
    }

module _ {V : Type 0} (nth : Identifier → V → ℕ → V) (reaches : Identifier → V → ℕ → Type 0) (l k : Layout V) (are : AreStretches reaches l) (still : AreStretches reaches k)
    (q : Identifier) where
  -- where an identifier is in a stretch of k exactly where it is in one of l, with the same value, it has the same value
  pub value_stays : ((x : StretchEntry V) → Has k x → Covers x q → (y : StretchEntry V) × Has l y × Covers y q)
      → ((x : StretchEntry V) → Has l x → Covers x q
      → (y : StretchEntry V) × Has k y × Covers y q × (nth y.0 y.1.value (q.counter - y.0.counter) ≡ nth x.0 x.1.value (q.counter - x.0.counter)))
      → value_in nth k q ≡ value_in nth l q
  value_stays from to =
      elim (found nth reaches l are q) [
        | inl w ↦ uncovered nth reaches k still q (λ x h c. let y = from x h c in w.1 y.0 y.1 y.2) ∙ sym w.0
        | inr w ↦ let y = to w.0 w.1 w.2 in covered nth reaches k still q y.0 y.1 y.2 ∙ ap Some y.3 ∙ sym w.3
      ]

  -- so where one stretch ends elsewhere, with the same identifiers up to there
  pub value_within : (e : StretchEntry V) → Has l e → (last : ℕ) → Sets l k (up_to e last) → (Covers (up_to e last) q → q.counter ≤ e.1.last) → (Covers e q → q.counter ≤ last)
      → value_in nth k q ≡ value_in nth l q
  value_within e old last sets within reaching =
      value_stays
      (λ x h c.
      elim (sets.cases x h) [
        | inl d ↦ let cover : Covers (up_to e last) q =
            subst (λ (z : StretchEntry V). Covers z q) d c in (e, old, record { replica = cover.replica; from = cover.from; to = within cover })
        | inr d ↦ (x, d.1, c)
      ])
      (λ x h c.
      elim (cases_id x.0 e.0) [
        | inl d ↦
            let value : x.1 ≡ e.1 = same_has reaches l are x e h old d in
            let cover : Covers e q = subst (λ (z : StretchEntry V). Covers z q) (λ i. (d i, value i)) c in (
              up_to e last,
              sets.here,
              record { replica = cover.replica; from = cover.from; to = reaching cover },
              λ i. nth (sym d i) (sym value i).value (q.counter - (sym d i).counter),
            )
        | inr d ↦ (x, sets.stays x d h, c, refl)
      ])
