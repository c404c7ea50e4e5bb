-- What a call makes of the cells.
use Rattle.std.specs.Prelude.{◌≡◌, ◌<◌, ◌≤◌, ◌+◌, ◌*◌, ℕ, List, Result, IfOk, OnErr, OnOk, length}
use Rattle.fugue_ids.specs.Identifiers.{Identifier}
use Rattle.run_store.specs.Cells.{cells_hiding}
use Rattle.run_store.specs.Runs.{RunsView, cells_in}
use Rattle.run_store.specs.Stored.{IsRaisedBy}
use Rattle.run_store.specs.declared.cell.Cell.{Cell}

-- the cells come to be these, or stay as they are for lack of memory; either way a run may have been parted
pub record MakesCells {T E : Type 0} (result : Result T E) (old new : RunsView) (cells : List Cell) : Type 0 where
  pub ok : OnOk result (cells_in new ≡ cells)
  pub err : OnErr result (cells_in new ≡ cells_in old)
  pub raised : OnOk result (IsRaisedBy 2 (length old.rope) (length new.rope))
  pub refused : OnErr result (IsRaisedBy 1 (length old.rope) (length new.rope))

-- the cells of n identifiers from x on come to be hidden, for which a run may have been parted, or nothing is changed for lack of memory
pub record HidesPart {T E : Type 0} (result : Result T E) (old new : RunsView) (x : Identifier) (n : ℕ) : Type 0 where
  pub ok : OnOk result (cells_in new ≡ cells_hiding x n (cells_in old))
  pub raised : IsRaisedBy 1 (length old.rope) (length new.rope)
  pub err : OnErr result (new ≡ old)

-- the cells of as many identifiers from x on as the answer says come to be hidden, or they stay as they are for lack of memory
pub record HidesSome {E : Type 0} (result : Result ℕ E) (old new : RunsView) (x : Identifier) (most : ℕ) : Type 0 where
  pub some : IfOk result (λ n. 0 < n)
  pub bound : IfOk result (λ n. n ≤ most)
  pub ok : IfOk result (λ n. cells_in new ≡ cells_hiding x n (cells_in old))
  pub err : OnErr result (cells_in new ≡ cells_in old)
  pub raised : OnOk result (IsRaisedBy 2 (length old.rope) (length new.rope))
  pub refused : OnErr result (IsRaisedBy 1 (length old.rope) (length new.rope))

-- the cells of the first n identifiers from x on have come to be hidden, for each of which a run may have been parted twice
pub record IsHiddenTo (old : RunsView) (x : Identifier) (n more : ℕ) (new : RunsView) : Type 0 where
  pub cells : cells_in new ≡ cells_hiding x n (cells_in old)
  pub raised : IsRaisedBy (2 * n + more) (length old.rope) (length new.rope)
