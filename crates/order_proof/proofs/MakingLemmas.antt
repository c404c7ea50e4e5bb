-- Where the common beginning of two chains ends.
use Rattle.std.proofs.Common.{[], drop, length, refl, ℕ, ◌∙◌, ◌∷◌, ◌≡◌, ◌≤◌}
use Rattle.std.proofs.lemmas.List.{drop_all}
use Rattle.order_proof.specs.Certificates.{Chain}
use Rattle.order_proof.specs.Making.{common_count}

common-none : (xs : Chain) → common_count xs [] ≡ 0
common-none [] = refl
common-none (x ∷ xs) = refl

pub common-first : (xs ys : Chain) (i : ℕ) → length xs ≤ i → common_count (drop i xs) (drop i ys) ≡ 0
common-first xs ys i k = λ j. common_count (drop_all i xs k j) (drop i ys)

pub common-second : (xs ys : Chain) (i : ℕ) → length ys ≤ i → common_count (drop i xs) (drop i ys) ≡ 0
common-second xs ys i k = (λ j. common_count (drop i xs) (drop_all i ys k j)) ∙ common-none (drop i xs)

pub ruleset common_ends = (common-first, common-second)
