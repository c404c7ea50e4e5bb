-- The comparison of chains by where they part.
use Rattle.origin_model.proofs.Words.{Bool, Identifier, List, [], chain_before, drop, drop_more, false, id_eq, if◌then◌else◌, length, refl, true, ℕ, ◌<◌, ◌∷◌, ◌≡◌, ◌≤◌}
use Rattle.std.proofs.lemmas.List.{drop_all}
use Rattle.origin_model.specs.order.Fork.{fork_of, by_fork}
use Rattle.origin_model.specs.declared.order.comparison.Fork.TheVariants.{FirstEnds, SecondEnds, At}

abbrev none : Identifier
none = record { replica = 0; counter = 0 }

pub fork-second : (xs ys : List Identifier) (i : ℕ) → i < length xs → length ys ≤ i → fork_of (drop i xs) (drop i ys) ≡ SecondEnds
fork-second xs ys i h k = λ j. fork_of (drop_more xs i none h j) (drop_all i ys k j)

pub fork-first : (xs ys : List Identifier) (i : ℕ) → length xs ≤ i → i < length ys → fork_of (drop i xs) (drop i ys) ≡ FirstEnds
fork-first xs ys i h k = λ j. fork_of (drop_all i xs h j) (drop_more ys i none k j)

pub chain_before-fork_of : (f : Bool) (R : Identifier → Identifier → Bool) (xs ys : List Identifier) → by_fork f R (fork_of xs ys) ≡ chain_before f R xs ys
chain_before-fork_of f R [] [] = refl
chain_before-fork_of f R [] (b ∷ ys) = refl
chain_before-fork_of f R (a ∷ xs) [] = refl
chain_before-fork_of f R (a ∷ xs) (b ∷ ys) =
    elim (id_eq a b) as (λ t. by_fork f R (if t then fork_of xs ys else At a b) ≡ (if t then chain_before f R xs ys else R a b)) [
      | true ↦ chain_before-fork_of f R xs ys
      | false ↦ refl
    ]

pub ruleset fork_ends = (fork-second, fork-first)

pub ruleset chain_before_by_fork = (chain_before-fork_of)
