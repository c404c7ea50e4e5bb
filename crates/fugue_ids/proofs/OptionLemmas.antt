-- What std's lemmas do not say of values that may be there, of answers, and of numbers that are tested.
use Rattle.std.proofs.Common.{◌≡◌, ◌≢◌, ◌⊎◌, ◌<◌, ◌∙◌, Bool, Some, ap, arith, false, inl, inr, refl, sym, suc, true, zero, ℕ}
use Rattle.std.specs.Prelude.{Err, IsNone, IsSome, None, Ok, Option, Result, is_some, nat_eq}
use Rattle.std.proofs.lemmas.Bool.{cases_Bool, eq-eqb, eqb-false, eqb-true, true≢false}

-- a value that is not there
pub none_unless : {V : Type 0} (o : Option V) → (IsSome o → ⊥) → o ≡ None
none_unless None not = refl
none_unless (Some v) not = absurd (not refl)

pub is_some-false : {V : Type 0} (o : Option V) → is_some o ≡ false → o ≡ None
is_some-false None e = refl
is_some-false (Some v) e = absurd (true≢false e)

pub some_is_none : {V : Type 0} (v : V) → IsNone (Some v) → ⊥
some_is_none v e = cc

-- two numbers are equal, or they are not
pub cases_number : (a b : ℕ) → (a ≡ b) ⊎ (a ≢ b)
cases_number a b = elim (cases_Bool (nat_eq a b)) [ inl e ↦ inl (eqb-true a b e) | inr e ↦ inr (λ d. true≢false (sym (eq-eqb a b d) ∙ e)) ]

-- a number that is not 0
pub some_if : (n : ℕ) → nat_eq n 0 ≡ false → 0 < n
some_if zero is = absurd (eqb-false 0 0 is refl)
some_if (suc n) is = omega arith

-- an answer that is a fault
abbrev pub failed : {E : Type 0} → E → Result ℕ E
failed e = Err e

abbrev fault_in : {E : Type 0} → E → Result ℕ E → E
fault_in other (Ok n) = other
fault_in other (Err e) = e

-- the fault of an answer is one
pub err_inj : {E : Type 0} → (a b : E) → failed a ≡ failed b → a ≡ b
err_inj a b e = ap (fault_in a) e
