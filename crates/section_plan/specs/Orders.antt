-- The order in which the sections of a draft's parts stand: a list of the parts' numbers.
use Rattle.std.specs.Prelude.{◌≡◌, ◌≢◌, ◌⊎◌, ℕ, ◌+◌, ◌-◌, ◌<◌, Bool, true, false, Option, Some, None, List, insert, length, remove}
use Rattle.std.specs.Prelude.{slice_index, slice_index_or}
use Rattle.section_plan.specs.declared.orders.Step.{Step}

-- each number below the length stands in the list once
pub record IsOrder (order : List ℕ) : Type 0 where
  pub within : (a : ℕ) → a < length order → slice_index order a < length order
  pub once : (a b : ℕ) → a < length order → b < length order → slice_index order a ≡ slice_index order b → a ≡ b
  pub all : (part : ℕ) → part < length order → (a : ℕ) × (a < length order) × (slice_index order a ≡ part)

-- the part is in front of one, or its section is one of those that stay
abbrev pub IsPartPlaced : List Bool → (next part : ℕ) → Type 0
IsPartPlaced stays next part = (part < next) ⊎ (slice_index_or stays part false ≡ true)

-- the sections of such parts stand in the order of the parts
abbrev pub ArePlaced : List ℕ → List Bool → (next : ℕ) → Type 0
ArePlaced order stays next = (a b : ℕ) → a < b → b < length order → IsPartPlaced stays next (slice_index order a)
    → IsPartPlaced stays next (slice_index order b)
    → slice_index order a < slice_index order b

-- a member goes to another place
abbrev pub order_after_move : List ℕ → (from to part : ℕ) → List ℕ
order_after_move order from to part = insert (remove order from) to part

-- where a part stands, and where it would stand after the part before it, or in front of all
pub record IsStepOf (order : List ℕ) (part from to : ℕ) : Type 0 where
  pub from_within : from < length order
  pub to_within : to < length order
  pub stands : slice_index order from ≡ part
  pub first : part ≡ 0 → to ≡ 0
  pub behind : (before : ℕ) → part ≡ before + 1 → (0 < to) × (slice_index (remove order from) (to - 1) ≡ before)

-- the section of a part was placed: by a step, which it wants since it does not stay and stands elsewhere, or by none
abbrev pub Places : (old new : List ℕ) → List Bool → (part : ℕ) → Option Step → Type 0
Places old new stays part None = new ≡ old
Places old new stays part (Some step) =
    (new ≡ order_after_move old step.from step.to part) × IsStepOf old part step.from step.to × (slice_index_or stays part false ≡ false)
    × (step.from ≢ step.to)
