-- Stretches with one cut in two, and with one value less.
use Rattle.std.proofs.Common.{ap, arith, inl, inr, refl, subst, sym, ℕ, ◌-◌, ◌<◌, ◌∙◌, ◌≡◌, ◌≢◌, ◌≤◌, ◌⊎◌}
use Rattle.std.specs.Prelude.{None}
use Rattle.fugue_ids.specs.Identifiers.{Identifier}
use Rattle.fugue_ids.proofs.IdentifierLemmas.{cases_id}
use Rattle.stretch_map.specs.Contents.{StretchEntry, Layout, value_in}
use Rattle.stretch_map.specs.Stretches.{AreStretches, Covers, Has, IsLaid, Loses, up_to}
use Rattle.stretch_map.proofs.FoundLemmas.{one_covers, same_has, uncovered}
use Rattle.stretch_map.proofs.SetLemmas.{Sets, by_key, set_are, value_stays, value_within}

-- the stretch under an identifier is gone, and the others are those of l
pub record Drops {V : Type 0} (l k : Layout V) (first : Identifier) : Type 0 where
  pub cases : (x : StretchEntry V) → Has k x → (x.0 ≢ first) × Has l x
  pub stays : (x : StretchEntry V) → x.0 ≢ first → Has l x → Has k x
  pub laid : IsLaid k

-- h and t are stretches of k, and the others are those of l
pub record Splits {V : Type 0} (l k : Layout V) (h t : StretchEntry V) : Type 0 where
  pub head : Has k h
  pub tail : Has k t
  pub cases : (x : StretchEntry V) → Has k x → (x ≡ h) ⊎ ((x ≡ t) ⊎ ((x.0 ≢ h.0) × (x.0 ≢ t.0) × Has l x))
  pub stays : (x : StretchEntry V) → x.0 ≢ h.0 → x.0 ≢ t.0 → Has l x → Has k x
  pub laid : IsLaid k

module _ {V : Type 0} (nth : Identifier → V → ℕ → V) (reaches : Identifier → V → ℕ → Type 0) (l k : Layout V) (are : AreStretches reaches l) where
  module _ (key : Identifier) (e : StretchEntry V) (old : Has l e) (own : Covers e key) (ends : e.1.last ≡ key.counter) where
    module _ (longer : e.0.counter < e.1.last) (sets : Sets l k (up_to e (e.1.last - 1))) where
      shortened_are : AreStretches reaches k
      shortened_are =
          set_are reaches l k are (up_to e (e.1.last - 1))
          (record {
            begun = omega (arith, longer);
            before = λ x h r less. are.apart x e h old r less;
            behind = λ x h r less. let far : e.1.last < x.0.counter = are.apart e x old h r less in omega arith;
            reached = λ n less. are.reached e old n (omega (arith, less));
          }) sets

      -- a stretch that ends at the key loses its last value
      pub shortened : Loses nth reaches l k key
      shortened =
          record {
            are = shortened_are;
            found = λ q.
                by_key q key _ _ _
                (λ d.
                uncovered nth reaches k shortened_are q
                (λ x h c.
                elim (sets.cases x h) [
                  | inl i ↦
                      let cover : Covers (up_to e (e.1.last - 1)) q = subst (λ (z : StretchEntry V). Covers z q) i c in
                      let high : q.counter ≤ e.1.last - 1 = cover.to in
                      let qc : q.counter ≡ key.counter = ap (λ x. x.counter) d in
                      absurd (omega (arith, ends, longer))
                  | inr i ↦ i.0 (one_covers nth reaches l are key x e i.1 old (subst (λ z. Covers x z) d c) own)
                ]))
                (λ d.
                value_within nth reaches l k are shortened_are q e old (e.1.last - 1) sets (λ c. let high : q.counter ≤ e.1.last - 1 = c.to in omega arith)
                (λ c.
                let rep : q.replica ≡ key.replica = sym c.replica ∙ own.replica in
                let high : q.counter ≤ e.1.last = c.to in
                let other : q.counter ≢ key.counter = λ i. d (λ j. record { replica = rep j; counter = i j }) in
                omega (arith, other, ends)));
          }

    module _ (alone : e.0.counter ≡ e.1.last) (drops : Drops l k e.0) where
      dropped_are : AreStretches reaches k
      dropped_are =
          record {
            begun = λ x h. are.begun x (drops.cases x h).1;
            apart = λ x y hx hy. are.apart x y (drops.cases x hx).1 (drops.cases y hy).1;
            reached = λ x h. are.reached x (drops.cases x h).1;
            laid = drops.laid;
          }

      -- a stretch of the key alone goes
      pub dropped : Loses nth reaches l k key
      dropped =
          record {
            are = dropped_are;
            found = λ q.
                by_key q key _ _ _
                (λ d.
                uncovered nth reaches k dropped_are q
                (λ x h c. (drops.cases x h).0 (one_covers nth reaches l are key x e (drops.cases x h).1 old (subst (λ z. Covers x z) d c) own)))
                (λ d.
                value_stays nth reaches l k are dropped_are q (λ x h c. (x, (drops.cases x h).1, c))
                (λ x h c.
                elim (cases_id x.0 e.0) [
                  | inl i ↦
                      let value : x.1 ≡ e.1 = same_has reaches l are x e h old i in
                      let cover : Covers e q = subst (λ (z : StretchEntry V). Covers z q) (λ j. (i j, value j)) c in
                      let low : e.0.counter ≤ q.counter = cover.from in
                      let high : q.counter ≤ e.1.last = cover.to in
                      let rep : q.replica ≡ key.replica = sym cover.replica ∙ own.replica in
                      let same : q.counter ≡ key.counter = omega (arith, ends, alone) in
                      absurd (d (λ j. record { replica = rep j; counter = same j }))
                  | inr i ↦ (x, drops.stays x i h, c, refl)
                ]));
          }

  -- a key that has no value loses none
  pub loses_none : (key : Identifier) → value_in nth l key ≡ None → Loses nth reaches l l key
  loses_none key none = record { are = are; found = λ q. by_key q key _ _ _ (λ e. ap (value_in nth l) e ∙ none) (λ _. refl) }
