-- The last of a list that passes a test.
use Rattle.std.specs.Prelude.{◌≡◌, Bool, true, List, Option, filter}
use Rattle.std.specs.List.{AllPairs}
use Rattle.fugue_ids.specs.Identifiers.{Identifier}
use Rattle.fugue_ids.specs.Listed.{last_before}

-- the last one that passes
abbrev pub last_passing : (Identifier → Bool) → List Identifier → Option Identifier
last_passing g xs = last_before (filter g xs)

-- of any two, the first passes where the second does
abbrev pub Falls : (Identifier → Bool) → List Identifier → Type 0
Falls g xs = AllPairs (λ a b. g b ≡ true → g a ≡ true) xs

-- each call of a closure answers what the test does
abbrev pub IsTest : (Identifier → Bool → Type 0) → (Identifier → Bool) → Type 0
IsTest post g = (x : Identifier) (b : Bool) → post x b → b ≡ g x
