-- Statements of which it can be said whether they hold.
use Rattle.std.proofs.Common.{◌≡◌, ◌⊎◌, ◌<◌, ℕ, Bool, true, false, List, length, refl, arith, inl, inr}
use Rattle.std.proofs.lemmas.Bool.{cases_order}
use Rattle.fugue_ids.specs.Titles.{IsTitleText, has_line_end}

-- the statement or its denial
abbrev pub Decided : Type 0 → Type 0
Decided P = P ⊎ (P → ⊥)

pub decided_by : {P Q : Type 0} → Decided P → (P → Q) → (Q → P) → Decided Q
decided_by (inl p) to from = inl (to p)
decided_by (inr none) to from = inr (λ q. none (from q))

pub both_decided : {P Q : Type 0} → Decided P → Decided Q → Decided (P × Q)
both_decided (inl p) (inl q) = inl (p, q)
both_decided (inl p) (inr none) = inr (λ both. none both.1)
both_decided (inr none) d = inr (λ both. none both.0)

pub is_true_decided : (b : Bool) → Decided (b ≡ true)
is_true_decided true = inl refl
is_true_decided false = inr (λ is. cc is)

pub is_false_decided : (b : Bool) → Decided (b ≡ false)
is_false_decided true = inr (λ is. cc is)
is_false_decided false = inl refl

pub equal_decided : (a b : ℕ) → Decided (a ≡ b)
equal_decided a b = elim (cases_order a b) [
  | inl same ↦ inl same
  | inr (inl less) ↦ inr (λ is. omega (arith, is, less))
  | inr (inr more) ↦ inr (λ is. omega (arith, is, more))
]

pub less_decided : (a b : ℕ) → Decided (a < b)
less_decided a b = elim (cases_order a b) [
  | inl same ↦ inr (λ is. omega (arith, is, same))
  | inr (inl less) ↦ inl less
  | inr (inr more) ↦ inr (λ is. omega (arith, is, more))
]

-- whether some bytes may be a title
pub title_decided : (bytes : List ℕ) → Decided (IsTitleText bytes)
title_decided bytes =
    decided_by (both_decided (less_decided 0 (length bytes)) (both_decided (less_decided (length bytes) 481) (is_false_decided (has_line_end bytes))))
    (λ p. record { some = p.0; short = omega (arith, p.1.0); one_line = p.1.1 }) (λ p. (p.some, (omega (arith, p.short), p.one_line)))
