-- The laws of the rules of values, which an impl of `Follows` cites.
use Rattle.std.specs.Prelude.{◌≡◌, ℕ, zero, suc, ◌+◌, ◌<◌, ◌^◌, Some, refl}
use Rattle.std.proofs.Common.{ap, arith, sym, ◌∙◌}
use Rattle.fugue_ids.specs.Identifiers.{Identifier}
use Rattle.fugue_ids.specs.Runs.{id_after}
use Rattle.stretch_map.specs.Rules.{CanBeLater, later, typed_after}
use Rattle.stretch_map.specs.declared.follows.Position.{Position}
use Rattle.stretch_map.specs.declared.follows.Typed.{Typed}

-- a position is there without a step
pub at_once : (p : Position) → CanBeLater p 0
at_once p = λ h. absurd (omega (arith, h))

-- no step changes nothing
pub later-start : (p : Position) → later p 0 ≡ p
later-start p = let e : p.at + 0 ≡ p.at = omega arith in λ i. record { at = e i }

-- steps add up
pub later-adds : (p : Position) (j k : ℕ) → later (later p j) k ≡ later p (j + k)
later-adds p j k = let e : p.at + j + k ≡ p.at + (j + k) = omega arith in λ i. record { at = e i }

-- and what is reached is reached from there
pub later-goes_on : (p : Position) (j k : ℕ) → CanBeLater p (j + k) → CanBeLater (later p j) k
later-goes_on p j k h some = let all : p.at + (j + k) < 2 ^ 64 = h (omega (arith, some)) in omega (arith, all)

-- what is reached from what is reached is reached
pub later-joins : (p : Position) (j : ℕ) → CanBeLater p j → CanBeLater (later p j) 1 → CanBeLater p (j + 1)
later-joins p j near far some = let one : p.at + j + 1 < 2 ^ 64 = far (omega arith) in omega (arith, one)

-- no step changes nothing
pub typed-start : (first : Identifier) (t : Typed) → typed_after first t 0 ≡ t
typed-start first t = refl

-- the origins after at least one step
behind-suc : (first : Identifier) (t : Typed) (n m : ℕ) → n ≡ suc m
    → typed_after first t n ≡ record { left = Some (id_after first m); right = t.right }
behind-suc first t n m e = ap (typed_after first t) e

-- steps of identifiers add up
behind-behind : (first : Identifier) (j k : ℕ) → id_after (id_after first j) k ≡ id_after first (j + k)
behind-behind first j k = let e : first.counter + j + k ≡ first.counter + (j + k) =
    omega arith in λ i. record { replica = first.replica; counter = e i }

-- steps add up
pub typed-adds : (first : Identifier) (t : Typed) (j k : ℕ)
    → typed_after (id_after first j) (typed_after first t j) k ≡ typed_after first t (j + k)
typed-adds first t j zero = let e : j ≡ j + 0 = omega arith in ap (typed_after first t) e
typed-adds first t j (suc k) =
    let step : j + suc k ≡ suc (j + k) = omega arith in
    (λ i. record { left = Some (behind-behind first j k i); right = t.right }) ∙ sym (behind-suc first t (j + suc k) (j + k) step)
