-- A store as contracts see it.
use Rattle.std.specs.Prelude.{◌≡◌, ◌↔◌, ◌≤◌, ◌+◌, ℕ, List, []}
use Rattle.fugue_ids.specs.declared.key.Gap.{Gap}
use Rattle.fugue_ids.specs.declared.key.Gap.TheVariants.{Alone}
use Rattle.run_store.specs.declared.cell.Cell.{Cell}

-- what contracts see of a store
pub record Stored : Type 0 where
  -- the cells, in order
  pub cells : List Cell
  -- how many runs keep them
  pub runs : ℕ

-- Alone is given exactly for the empty list
abbrev pub IsAloneWhereEmpty : Gap → List Cell → Type 0
IsAloneWhereEmpty gap cells = (gap ≡ Alone) ↔ (cells ≡ [])

-- the number of runs is as before, or at most `most` more
pub record IsRaisedBy (most before now : ℕ) : Type 0 where
  pub kept : before ≤ now
  pub bound : now ≤ before + most
