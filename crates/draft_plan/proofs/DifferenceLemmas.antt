-- What is common to two lists up to a place.
use Rattle.std.proofs.Common.{List, ap, arith, cond, drop, false, get_or, inl, inr, length, length-drop, nat_eq, sym, true, ℕ, ◌+◌, ◌<◌, ◌≤◌, ◌∙◌, ◌≡◌, ◌⊎◌, ◌&&◌}
use Rattle.std.specs.Prelude.{None, Some}
use Rattle.std.specs.List.{common_prefix_len}
use Rattle.std.proofs.lemmas.Bool.{and_from, and_left, and_right, eq-eqb, ne_eqb}
use Rattle.std.proofs.lemmas.List.Sums.{common_prefix_len-drop_no, common_prefix_len-drop_yes, common_prefix_len-le}
use Rattle.draft_plan.specs.Differences.{first_difference, unless_whole}

-- the lists have their first bytes in common, up to a place
pub record IsCommonTo (a b : List ℕ) (at : ℕ) : Type 0 where
  pub first_within : at ≤ length a
  pub second_within : at ≤ length b
  pub common : common_prefix_len nat_eq a b ≡ at + common_prefix_len nat_eq (drop at a) (drop at b)

pub common_none : (a b : List ℕ) → IsCommonTo a b 0
common_none a b = record { first_within = omega arith; second_within = omega arith; common = omega arith }

pub common_more : (a b : List ℕ) (at : ℕ) → at < length a → at < length b → nat_eq (get_or a at 0) (get_or b at 0) ≡ true → IsCommonTo a b at → IsCommonTo a b (at + 1)
common_more a b at l m e i = record {
  first_within = omega (arith, l);
  second_within = omega (arith, m);
  common = omega (arith, i.common, common_prefix_len-drop_yes nat_eq a b at 0 0 l m e);
}

-- they differ there
pub differs_here : (a b : List ℕ) (at : ℕ) → at < length a → at < length b → nat_eq (get_or a at 0) (get_or b at 0) ≡ false → IsCommonTo a b at → Some at ≡ first_difference a b
differs_here a b at l m e i =
    let n : common_prefix_len nat_eq a b ≡ at = omega (arith, i.common, common_prefix_len-drop_no nat_eq a b at 0 0 l m e) in
    let other : nat_eq at (length a) ≡ false = ne_eqb at (length a) (λ d. absurd (omega (arith, l, d))) in
    sym (ap (λ k. unless_whole k a b) n ∙ ap (λ t. cond t None (Some at)) (and_left (nat_eq at (length a)) (nat_eq at (length b)) other))

-- one of them ends there
pub ends_here : (a b : List ℕ) (at : ℕ) → (length a ≤ at) ⊎ (length b ≤ at) → IsCommonTo a b at → common_prefix_len nat_eq a b ≡ at
ends_here a b at (inl e) i = omega (arith, i.common, (common_prefix_len-le nat_eq (drop at a) (drop at b)).0, length-drop at a, e)
ends_here a b at (inr e) i = omega (arith, i.common, (common_prefix_len-le nat_eq (drop at a) (drop at b)).1, length-drop at b, e)

end_is : (a b : List ℕ) (at : ℕ) → (length a ≤ at) ⊎ (length b ≤ at) → length a ≡ length b → IsCommonTo a b at → at ≡ length a
end_is a b at (inl e) same i = omega (arith, e, i.first_within)
end_is a b at (inr e) same i = omega (arith, e, same, i.first_within)

one_longer : (a b : List ℕ) (at : ℕ) → (length a ≤ at) ⊎ (length b ≤ at) → (length a ≡ length b → ⊥) → IsCommonTo a b at → (nat_eq at (length a) && nat_eq at (length b)) ≡ false
one_longer a b at (inl e) apart i =
    and_right (nat_eq at (length a)) (nat_eq at (length b)) (ne_eqb at (length b) (λ d. apart (omega (arith, d, e, i.first_within))))
one_longer a b at (inr e) apart i =
    and_left (nat_eq at (length a)) (nat_eq at (length b)) (ne_eqb at (length a) (λ d. apart (omega (arith, d, e, i.second_within))))

pub same_here : (a b : List ℕ) (at : ℕ) → (length a ≤ at) ⊎ (length b ≤ at) → length a ≡ length b → IsCommonTo a b at → None ≡ first_difference a b
same_here a b at e same i =
    let n = ends_here a b at e i in
    let first : nat_eq at (length a) ≡ true = eq-eqb at (length a) (end_is a b at e same i) in
    let second : nat_eq at (length b) ≡ true = eq-eqb at (length b) (end_is a b at e same i ∙ same) in
    sym (ap (λ k. unless_whole k a b) n ∙ ap (λ t. cond t None (Some at)) (and_from (nat_eq at (length a)) (nat_eq at (length b)) first second))

pub shorter_here : (a b : List ℕ) (at : ℕ) → (length a ≤ at) ⊎ (length b ≤ at) → (length a ≡ length b → ⊥) → IsCommonTo a b at → Some at ≡ first_difference a b
shorter_here a b at e apart i = sym (ap (λ k. unless_whole k a b) (ends_here a b at e i) ∙ ap (λ t. cond t None (Some at)) (one_longer a b at e apart i))
