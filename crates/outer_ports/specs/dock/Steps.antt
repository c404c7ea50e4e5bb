-- The steps of a dock: what a call gave, and what is left of the steps to come.
use Rattle.std.specs.Prelude.{◌≡◌, ℕ, ◌+◌, ◌-◌, ◌^◌, ◌<◌, ◌≤◌, min, Bool, true, false, List, [], ◌∷◌, ◌++◌, length, take, drop, nat_eq}
use Rattle.std.specs.Prelude.{nat_lt, if◌then◌else◌, Option, Some, None, ⊤}
use Rattle.std.specs.List.{list_any, sum_by}
use Rattle.outer_ports.specs.declared.dock.DockStep.{DockStep}
use Rattle.outer_ports.specs.declared.dock.DockStep.TheVariants as given
use Rattle.outer_ports.specs.declared.dock.MemStep.{MemStep}
use Rattle.outer_ports.specs.declared.dock.MemStep.TheVariants.{Opened, Bytes, Gone}

-- bytes come, at most as many as the buffer has room for
abbrev pub Fits : DockStep → ℕ → Type 0
Fits (given.Opened session) room = ⊤
Fits (given.Bytes session count) room = (1 ≤ count) × (count ≤ room)
Fits (given.Gone session) room = ⊤

-- whether a session is open and was ended, and its number, or that of the next one
pub record Turn : Type 0 where
  pub is_open : Bool
  pub is_ended : Bool
  pub session : ℕ

-- sessions come one after another, each with the next number
abbrev pub InTurn : DockStep → Turn → Turn → Type 0
InTurn (given.Opened session) old new =
    (old ≡ record old { is_open = false; session = session }) × (new ≡ record { is_open = true; is_ended = false; session = session })
InTurn (given.Bytes session count) old new = (old ≡ record old { is_open = true; session = session }) × (new ≡ old)
InTurn (given.Gone session) old new =
    (old ≡ record old { is_open = true; session = session })
    × (new ≡ record old { is_open = false; session = min (session + 1) (2 ^ 32 - 1) })

-- a step that was given, with its bytes
abbrev pub with_bytes : DockStep → List ℕ → MemStep
with_bytes (given.Opened session) buf = Opened session
with_bytes (given.Bytes session count) buf = Bytes session (take count buf)
with_bytes (given.Gone session) buf = Gone session

-- how many calls a step serves at most
abbrev pub calls_for : MemStep → ℕ
calls_for (Opened session) = 1
calls_for (Bytes session bytes) = length bytes
calls_for (Gone session) = 1

-- how many calls steps serve at most
abbrev pub calls_for_all : List MemStep → ℕ
calls_for_all steps = sum_by calls_for steps

-- whether a step opens the session
abbrev pub is_opening : ℕ → MemStep → Bool
is_opening session (Opened other) = nat_eq other session
is_opening session (Bytes other bytes) = false
is_opening session (Gone other) = false

-- whether one of the steps does
abbrev pub opens_session : List MemStep → ℕ → Bool
opens_session steps session = list_any (is_opening session) steps

-- a step that brings bytes has some
abbrev pub BringsSome : MemStep → Type 0
BringsSome step = 0 < calls_for step

-- what is given of a step where at most so many bytes fit
abbrev pub given_part : ℕ → MemStep → MemStep
given_part most (Opened session) = Opened session
given_part most (Bytes session bytes) = Bytes session (take most bytes)
given_part most (Gone session) = Gone session

-- what is left of it then
abbrev pub rest_after : ℕ → MemStep → List MemStep
rest_after most (Opened session) = []
rest_after most (Bytes session bytes) = if nat_lt most (length bytes) then Bytes session (drop most bytes) ∷ [] else []
rest_after most (Gone session) = []

-- the first step to come was given, or so many of its bytes, and the rest stands as the first to come
pub record Gives (most : ℕ) (old new : List MemStep) (step : MemStep) : Type 0 where
  pub first : MemStep
  pub others : List MemStep
  pub came : old ≡ first ∷ others
  pub given : step ≡ given_part most first
  pub left : new ≡ rest_after most first ++ others

-- the same with some number, where the steps are specified
abbrev pub GivesSome : Option (List MemStep) → Option (List MemStep) → MemStep → Type 0
GivesSome None None step = ⊤
GivesSome None (Some new) step = ⊥
GivesSome (Some old) None step = ⊥
GivesSome (Some old) (Some new) step = (most : ℕ) × (1 ≤ most) × Gives most old new step
