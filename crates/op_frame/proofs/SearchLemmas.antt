-- Sets whose values can be searched through: a property that is decided for each value is decided for some value.
use Rattle.std.proofs.Common.{◌≡◌, ℕ, zero, suc, ◌<◌, ◌≤◌, List, [], ◌∷◌, length, sym, subst, arith, inl, inr}
use Rattle.std.specs.List.{AllByRecursion}
use Rattle.std.proofs.lemmas.Bool.{cases_order}
use Rattle.fugue_ids.proofs.DecideLemmas.{both_decided, Decided, decided_by}

-- a value of the set has the property
pub record Found {T : Type 0} (set property : T → Type 0) : Type 0 where
  pub value : T
  pub member : set value
  pub holds : property value

abbrev pub IsSearched : {T : Type 0} → (T → Type 0) → Type 1
IsSearched {T} set = (property : T → Type 0) → ((value : T) → Decided (property value)) → Decided (Found set property)

-- the numbers below n
pub below : (n : ℕ) → IsSearched (λ k. k < n)
below zero property test = inr (λ f. omega (arith, f.member))
below (suc n) property test = by_last (test n) (below n property test)
  where
    by_last : Decided (property n) → Decided (Found (λ k. k < n) property) → Decided (Found (λ k. k < suc n) property)
    by_last (inl p) before = inl (record { value = n; member = omega arith; holds = p })
    by_last (inr other) (inl f) = inl (record { value = f.value; member = omega (arith, f.member); holds = f.holds })
    by_last (inr other) (inr none) = inr (λ f. elim (cases_order f.value n) [
      | inl same ↦ other (subst property same f.holds)
      | inr (inl less) ↦ none (record { value = f.value; member = less; holds = f.holds })
      | inr (inr more) ↦ omega (arith, more, f.member)
    ])

module _ {T : Type 0} (set : T → Type 0) (searched : IsSearched set) where
  -- those with one more property
  pub narrowed : (extra : T → Type 0) → ((value : T) → Decided (extra value)) → IsSearched (λ value. set value × extra value)
  narrowed extra decide property test =
      decided_by (searched (λ v. extra v × property v) (λ v. both_decided (decide v) (test v)))
      (λ f. record { value = f.value; member = (f.member, f.holds.0); holds = f.holds.1 })
      (λ f. record { value = f.value; member = f.member.0; holds = (f.member.1, f.holds) })

  -- what a function makes of them
  pub mapped : {U : Type 0} (to : T → U) (from : U → T) (image : U → Type 0) → ((value : T) → set value → image (to value)) → ((u : U) → image u → set (from u) × (to (from u) ≡ u))
      → IsSearched image
  mapped to from image into back property test =
      decided_by (searched (λ v. property (to v)) (λ v. test (to v)))
      (λ f. record { value = to f.value; member = into f.value f.member; holds = f.holds })
      (λ f. let before = back f.value f.member in record { value = from f.value; member = before.0; holds = subst property (sym before.1) f.holds })

  -- pairs with those of another set
  pub paired : {U : Type 0} (other : U → Type 0) → IsSearched other → IsSearched (λ (pair : T × U). set pair.0 × other pair.1)
  paired other seen property test =
      decided_by (searched (λ v. Found other (λ u. property (v, u))) (λ v. seen (λ u. property (v, u)) (λ u. test (v, u))))
      (λ f. record { value = (f.value, f.holds.value); member = (f.member, f.holds.member); holds = f.holds.holds })
      (λ f. record { value = f.value.0; member = f.member.0; holds = record { value = f.value.1; member = f.member.1; holds = f.holds } })

  abbrev Shorter : ℕ → List T → Type 0
  Shorter n list = (length list ≤ n) × AllByRecursion set list

  -- lists of at most n of them
  pub listed : (n : ℕ) → IsSearched (λ list. (length list ≤ n) × AllByRecursion set list)
  listed zero property test = by_empty (test [])
    where
      none_longer : (property [] → ⊥) → (list : List T) → length list ≤ 0 → property list → ⊥
      none_longer none [] fits p = none p
      none_longer none (x ∷ list) fits p = omega (arith, fits)

      by_empty : Decided (property []) → Decided (Found (Shorter 0) property)
      by_empty (inl p) = inl (record { value = []; member = (omega arith, tt); holds = p })
      by_empty (inr none) = inr (λ f. none_longer none f.value f.member.0 f.holds)
  listed (suc n) property test =
      by_empty (test []) (searched (λ x. Found (Shorter n) (λ list. property (x ∷ list))) (λ x. listed n (λ list. property (x ∷ list)) (λ list. test (x ∷ list))))
    where
      none_there : (property [] → ⊥) → (Found set (λ x. Found (Shorter n) (λ list. property (x ∷ list))) → ⊥) → (list : List T) → Shorter (suc n) list → property list → ⊥
      none_there none more [] member p = none p
      none_there none more (x ∷ list) member p =
          more (record { value = x; member = member.1.0; holds = record { value = list; member = (omega (arith, member.0), member.1.1); holds = p } })

      by_empty : Decided (property []) → Decided (Found set (λ x. Found (Shorter n) (λ list. property (x ∷ list)))) → Decided (Found (Shorter (suc n)) property)
      by_empty (inl p) more = inl (record { value = []; member = (omega arith, tt); holds = p })
      by_empty (inr none) (inl f) =
          inl (record { value = f.value ∷ f.holds.value; member = (omega (arith, f.holds.member.0), (f.member, f.holds.member.1)); holds = f.holds.holds })
      by_empty (inr none) (inr more) = inr (λ f. none_there none more f.value f.member f.holds)
