-- The steps of a dock in memory, by what was taken of them.
use Rattle.std.specs.Prelude.{ℕ, List, [], ◌∷◌, drop, map, slice_index_or}
use Rattle.outer_ports.specs.dock.Steps.{given_part}
use Rattle.memory_ports.specs.declared.dock.arrivals.Part.{Part}
use Rattle.outer_ports.specs.declared.dock.MemStep.{MemStep}
use Rattle.outer_ports.specs.declared.dock.MemStep.TheVariants.{Opened, Bytes, Gone}

-- the steps that come from elsewhere
pub record ArrivalsView : Type 0 where
  pub taken : List MemStep
  pub coming : List MemStep
  -- for how many further calls memory is there
  pub ready : ℕ
  -- how many further calls need no further memory
  pub spare : ℕ

-- a step without its first bytes
abbrev pub from : ℕ → MemStep → MemStep
from offset (Opened session) = Opened session
from offset (Bytes session bytes) = Bytes session (drop offset bytes)
from offset (Gone session) = Gone session

-- the step with a number
abbrev pub step_at : List MemStep → ℕ → MemStep
step_at steps number = slice_index_or steps number (Gone 0)

-- the steps without the first bytes of the first
abbrev pub from_first : ℕ → List MemStep → List MemStep
from_first offset [] = []
from_first offset (step ∷ steps) = from offset step ∷ steps

-- the steps to come, where so many were taken, and so many bytes of the next
abbrev pub coming_of : List MemStep → ℕ → ℕ → List MemStep
coming_of steps at offset = from_first offset (drop at steps)

-- the steps taken, in parts
abbrev pub taken_of : List MemStep → List Part → List MemStep
taken_of steps parts = map (λ part. given_part part.most (from part.offset (step_at steps part.step))) parts
