-- What is read at a key, in the last stretch of its replica and in the kept ones.
use Rattle.std.proofs.Common.{arith, inl, inr, subst, sym, ℕ, ◌-◌, ◌<◌, ◌∙◌, ◌≡◌, ◌≤◌, List}
use Rattle.std.specs.Prelude.{IfNone, IfSome, None, Option, Some}
use Rattle.fugue_ids.specs.Identifiers.{Identifier, IsAtMost}
use Rattle.stretch_map.specs.Contents.{StretchEntry, Layout, value_in}
use Rattle.stretch_map.specs.Stretches.{AreStretches, Covers, Has, IsFloor, IsLatest, IsLatestUpTo, IsReadIn, KeepsEntry, NoLatestUpTo, NoneUpTo}
use Rattle.stretch_map.proofs.FoundLemmas.{cases_le, read, same_kept, same_latest}

-- what a stretch has at the key
abbrev pub IsValueIn : {V : Type 0} → (Identifier → V → ℕ → V) → StretchEntry V → Identifier → Option V → Type 0
IsValueIn nth e key r = IfNone r (Covers e key → ⊥) × IfSome r (λ v. Covers e key × (v ≡ nth e.0 e.1.value (key.counter - e.0.counter)))

-- only the floor of a key may have it
pub floor_covers : {V : Type 0} (reaches : Identifier → V → ℕ → Type 0) (l : Layout V) → AreStretches reaches l → (key : Identifier) (e : StretchEntry V) → IsFloor l.1 key e
    → (f : StretchEntry V)
    → KeepsEntry l.1 f → Covers f key → Covers e key
floor_covers {V} reaches l are key e floor f k c =
    let r : f.0.replica ≡ key.replica = c.replica in
    let a : f.0.counter ≤ key.counter = c.from in
    let b : key.counter ≤ f.1.last = c.to in
    let up : IsAtMost e.0 key = floor.up_to in
    elim (floor.last f k (inr (r, a))) [
      | inl h ↦ elim up [ inl i ↦ absurd (omega arith) | inr i ↦ let i0 : e.0.replica ≡ key.replica = i.0 in absurd (omega arith) ]
      | inr h ↦
          let h0 : f.0.replica ≡ e.0.replica = h.0 in
          let h1 : f.0.counter ≤ e.0.counter = h.1 in
          elim (cases_le e.0.counter f.0.counter) [
            | inl i ↦
                let same : f.0.counter ≡ e.0.counter = omega arith in
                let id : f.0 ≡ e.0 = λ j. record { replica = h0 j; counter = same j } in
                let value : f.1 ≡ e.1 = same_kept l.1 f e k floor.kept id in
                subst (λ (x : StretchEntry V). Covers x key) (λ j. (id j, value j)) c
            | inr i ↦
                let over : f.1.last < e.0.counter = are.apart f e (inr k) (inr floor.kept) h0 i in
                elim up [ inl g ↦ absurd (omega arith) | inr g ↦ let g1 : e.0.counter ≤ key.counter = g.1 in absurd (omega arith) ]
          ]
    ]

-- where none begins at the key or before, none has it
pub none_kept : {V : Type 0} (nth : Identifier → V → ℕ → V) (es : List (StretchEntry V)) (key : Identifier) → NoneUpTo es key → IsReadIn nth (KeepsEntry es) key None
none_kept nth es key none = record { none = λ e k c. none e k (inr (c.replica, c.from)); some = tt }

-- what the floor has
pub read_kept : {V : Type 0} (nth : Identifier → V → ℕ → V) (reaches : Identifier → V → ℕ → Type 0) (l : Layout V) → AreStretches reaches l
    → (key : Identifier) (e : StretchEntry V) → IsFloor l.1 key e
    → (r : Option V) → IsValueIn nth e key r → IsReadIn nth (KeepsEntry l.1) key r
read_kept nth reaches l are key e floor None v = record { none = λ f k c. v.0 (floor_covers reaches l are key e floor f k c); some = tt }
read_kept nth reaches l are key e floor (Some a) v = record { none = tt; some = (e, floor.kept, v.1.0, v.1.1) }

module _ {V : Type 0} (nth : Identifier → V → ℕ → V) (reaches : Identifier → V → ℕ → Type 0) (l : Layout V) (are : AreStretches reaches l) (key : Identifier) where
  -- where the last stretch of the replica begins at the key or before, no other one has the key
  latest_covers : (e : StretchEntry V) → IsLatestUpTo l.0 key e → (f : StretchEntry V) → Has l f → Covers f key → f ≡ e
  latest_covers e is f h c =
      let rr : f.0.replica ≡ e.0.replica = c.replica ∙ sym is.replica in
      elim h [
        | inl a ↦ same_latest l.0 f e a is.latest rr
        | inr a ↦
            let less : f.0.counter < e.0.counter = are.laid.before e f is.latest a rr in
            let far : f.1.last < e.0.counter = are.apart f e (inr a) (inl is.latest) rr less in
            let from : e.0.counter ≤ key.counter = is.from in
            let to : key.counter ≤ f.1.last = c.to in
            absurd (omega arith)
      ]

  -- what that one has is the value
  pub value_latest : (e : StretchEntry V) → IsLatestUpTo l.0 key e → (r : Option V) → IsValueIn nth e key r → r ≡ value_in nth l key
  value_latest e is None v =
      read nth reaches l are key None (record { none = λ f h c. v.0 (subst (λ (z : StretchEntry V). Covers z key) (latest_covers e is f h c) c); some = tt })
  value_latest e is (Some a) v = read nth reaches l are key (Some a) (record { none = tt; some = (e, inl is.latest, v.1.0, v.1.1) })

  -- a last stretch that begins after the key does not have it
  pub latest_after : NoLatestUpTo l.0 key → (e : StretchEntry V) → IsLatest l.0 e → Covers e key → ⊥
  latest_after none e a c = let from : e.0.counter ≤ key.counter = c.from in let over : key.counter < e.0.counter = none e a c.replica in absurd (omega arith)

  -- where no last stretch has the key, the value is that of a kept one
  pub value_kept : (r : Option V) → ((e : StretchEntry V) → IsLatest l.0 e → Covers e key → ⊥) → IsReadIn nth (KeepsEntry l.1) key r → r ≡ value_in nth l key
  value_kept None none is = read nth reaches l are key None (record { none = λ e h c. elim h [ inl a ↦ none e a c | inr a ↦ is.none e a c ]; some = tt })
  value_kept (Some v) none is = read nth reaches l are key (Some v) (record { none = tt; some = (is.some.0, inr is.some.1, is.some.2, is.some.3) })
