-- A list with gaps in it.
use Rattle.std.specs.Prelude.{ℕ, zero, suc, ◌+◌, ◌-◌, ◌<◌, ◌≤◌, List, [], ◌∷◌, ◌++◌, drop, take, length, nat_lt, if◌then◌else◌}

-- the items before a gap of the size, which begins at `at`, and those after it
abbrev pub items_around_gap : {T : Type 0} → List T → (at size : ℕ) → List T
items_around_gap items at size = take at items ++ drop (at + size) items

-- the items from the place on, without those in the gaps, each of which is one place
abbrev pub between_gaps : {T : Type 0} → List T → (from : ℕ) → (gaps : List ℕ) → List T
between_gaps items from [] = drop from items
between_gaps items from (gap ∷ gaps) = take (gap - from) (drop from items) ++ between_gaps items (gap + 1) gaps

-- the gaps stand in order, from the one place on, below the other
abbrev pub AreGaps : (from : ℕ) (gaps : List ℕ) (end : ℕ) → Type 0
AreGaps from [] end = from ≤ end
AreGaps from (gap ∷ gaps) end = (from ≤ gap) × AreGaps (gap + 1) gaps end

-- they stand in order somewhere
pub record AreGapsOfSome (gaps : List ℕ) : Type 0 where
  pub from : ℕ
  pub end : ℕ
  pub in_order : AreGaps from gaps end

-- how many gaps an item passes that stands at this place where it passes none
abbrev pub gaps_before : List ℕ → ℕ → ℕ
gaps_before [] place = zero
gaps_before (gap ∷ gaps) place = if nat_lt place gap then zero else suc (gaps_before gaps (suc place))

-- a list, and how many gaps are among its items
pub record Spaced (T : Type 0) : Type 0 where
  pub items : List T
  pub gaps : ℕ

-- the gaps stand in order, and there is room for one more where there is an item
pub record IsSpaced {T : Type 0} (items : List T) (gone : ℕ) (gaps : List ℕ) (most : ℕ) : Type 0 where
  pub in_order : AreGaps gone gaps (length items)
  pub room : 0 < length items → length gaps < most
