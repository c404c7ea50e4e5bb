-- Operations that stand next to each other in a list, and those that a slice has.
use Rattle.std.specs.Prelude.{◌≡◌, ℕ, ◌+◌, ◌<◌, ◌≤◌, ◌^◌, All, List, [], ◌∷◌, ◌++◌, length, drop}
use Rattle.fugue_ids.specs.Runs.{run_from}
use Rattle.fugue_ids.specs.declared.op.Op.{Op}
use Rattle.op_runs.specs.Deletions.{CountersFit, deletes_by}
use Rattle.op_runs.specs.Parts.{IsSoundPart, ops_of, part_len}
use Rattle.op_runs.specs.declared.part.Part.{Part}
use Rattle.op_runs.specs.declared.slice.Stretch.{Stretch}
use Rattle.op_runs.specs.declared.slice.Stretch.TheVariants.{Deleted, Single, Typed}

-- the operations of a stretch
abbrev pub stretch_ops : Stretch → List Op
stretch_ops (Typed start text) = run_from start text.now
stretch_ops (Deleted deletes) = deletes_by deletes.down deletes.target deletes.count
stretch_ops (Single op) = op.now ∷ []

-- the counters of its operations fit
abbrev pub HasCounters : Stretch → Type 0
HasCounters (Typed start text) = start.id.counter + length text.now ≤ 2 ^ 32
HasCounters (Deleted deletes) = (0 < deletes.count) × CountersFit deletes.down deletes.target deletes.count
HasCounters (Single op) = Unit {0}

-- so many operations of the first part are left out
abbrev pub IsInFirst : ℕ → List Part → Type 0
IsInFirst skip [] = skip ≡ 0
IsInFirst skip (p ∷ ps) = skip < part_len p

-- what is so of every slice
pub record AreSliced (letters : List ℕ) (others : List Op) (parts : List Part) (skip : ℕ) (plain : List Op) (count : ℕ) : Type 0 where
  pub sound : All (IsSoundPart (length letters) (length others)) parts
  pub in_first : IsInFirst skip parts
  pub counted : count ≡ length (drop skip (ops_of letters others parts) ++ plain)
