-- A run that a walk along the visible cells has in hand.
use Rattle.std.specs.Prelude.{◌≡◌, ◌<◌, ◌≤◌, ◌^◌, ℕ, ◌+◌, List, Some, slice_get}
use Rattle.fugue_ids.specs.Identifiers.{Identifier}
use Rattle.run_store.specs.Heads.{head_after}
use Rattle.run_store.specs.Runs.{first_of}
use Rattle.run_store.specs.declared.run.Run.{Run}

-- from the place `passed` on the visible cells are those of the run from its place `offset` on, as far as it goes
pub record IsInHand (shown : List Identifier) (passed : ℕ) (run : Run) (offset : ℕ) : Type 0 where
  pub inside : offset < run.len
  pub counters : run.id.counter + run.len ≤ 2 ^ 32
  pub depths : run.key.depth + run.len < 2 ^ 32
  pub cells : (k : ℕ) → offset + k < run.len → slice_get shown (passed + k) ≡ Some (head_after (offset + k) (first_of run)).id
