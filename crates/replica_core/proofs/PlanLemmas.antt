-- What is refused, and what an edit makes, by what is looked up.
use Rattle.std.proofs.Common.{◌≡◌, refl, sym, ◌∙◌, ap, ℕ, ◌+◌, ◌-◌, ◌^◌, ◌&&◌, ◌<◌, ◌≤◌, true, false, nat_lt, arith}
use Rattle.std.specs.Prelude.{Bool, Option, Some, None, if◌then◌else◌, unwrap_or}
use Rattle.std.proofs.lemmas.Bool.{lt-ltb, le-ltb}
use Rattle.origin_model.specs.operations.Counters.{counters, IsGreatest}
use Rattle.origin_model.specs.edits.Edits.{next_above}
use Rattle.origin_model.proofs.edits.NextCounterLemmas.{next_by_greatest}
use Rattle.origin_model.specs.edits.Refusal.{next_of_own, refused_elements, refused_ops}
use Rattle.origin_model.specs.edits.State.{State, all_ops}
use Rattle.origin_model.specs.declared.edit_fault.EditFault.TheVariants.{IdsSpent}

-- the next counter is after the greatest one
pub next_is : (s : State) (greatest : Option ℕ) (next : ℕ) → IsGreatest (counters s.number (all_ops s.held)) greatest → next ≡ next_above greatest → next ≡ next_of_own s
next_is s greatest next is value = value ∙ sym (next_by_greatest s.number s.held.history s.held.waiting greatest is)

-- the counter before the next one is the greatest
before_next : (greatest : Option ℕ) → next_above greatest - 1 ≡ unwrap_or greatest 0
before_next None = refl
before_next (Some n) = omega arith

-- more elements than counters are left
pub ids_spent : (s : State) (greatest : Option ℕ) (next n carried : ℕ) → IsGreatest (counters s.number (all_ops s.held)) greatest → next ≡ next_above greatest
    → next ≤ 2 ^ 32 → 2 ^ 32 - next < n → carried ≡ unwrap_or greatest 0 → refused_elements s n ≡ Some (IdsSpent carried)
ids_spent s greatest next n carried is value few more last =
    let own : next ≡ next_of_own s = next_is s greatest next is value in
    let some : nat_lt 0 n ≡ true = lt-ltb 0 n (omega (arith, more)) in
    let past : nat_lt (2 ^ 32) (next_of_own s + n) ≡ true = lt-ltb (2 ^ 32) (next_of_own s + n) (omega (arith, own, few, more)) in
    let before : next_of_own s - 1 ≡ carried = ap (λ m. m - 1) (sym own ∙ value) ∙ before_next greatest ∙ sym last in
    (λ i. if some i && past i then Some (IdsSpent (before i)) else refused_ops s n)

-- as many as are left, or fewer
pub ids_left : (s : State) (greatest : Option ℕ) (next n : ℕ) → IsGreatest (counters s.number (all_ops s.held)) greatest → next ≡ next_above greatest
    → n ≤ 2 ^ 32 - next → next ≤ 2 ^ 32 → refused_elements s n ≡ refused_ops s n
ids_left s greatest next n is value left few =
    let own : next ≡ next_of_own s = next_is s greatest next is value in
    let fits : nat_lt (2 ^ 32) (next_of_own s + n) ≡ false = le-ltb (2 ^ 32) (next_of_own s + n) (omega (arith, own, left, few)) in
    (λ i. if nat_lt 0 n && fits i then Some (IdsSpent (next_of_own s - 1)) else refused_ops s n) ∙ no_past (nat_lt 0 n)
  where
    no_past : (b : Bool) → (if b && false then Some (IdsSpent (next_of_own s - 1)) else refused_ops s n) ≡ refused_ops s n
    no_past true = refl
    no_past false = refl
