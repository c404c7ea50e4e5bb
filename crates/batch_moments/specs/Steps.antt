-- Counting operation by operation: what the counts are after each step.
use Rattle.std.specs.Prelude.{◌≡◌, ℕ, ◌+◌, ◌<◌, ◌≤◌, ◌^◌, nat_eq, Option, Some, None, if◌then◌else◌, List}
use Rattle.std.specs.Ordering.{nat_cmp}
use Rattle.std.specs.BTreeMap.{get}
use Rattle.std.specs.Map.{count_at}
use Rattle.fugue_ids.specs.Keyed.{IsReplaced}
use Rattle.fugue_ids.specs.declared.op.Op.{Op}
use Rattle.batch_moments.specs.Counts.{count, is_delete, is_note, is_section_operation, is_letter_by}
use Rattle.batch_moments.specs.declared.counting.Counts.{Counts}

-- a count that is kept only where there are some
abbrev pub some_of : ℕ → Option ℕ
some_of n = if nat_eq n 0 then None else Some n

-- the counts are those of the operations
pub record AreOf (ops : List Op) (counts : Counts) : Type 0 where
  pub texts : (replica : ℕ) → get nat_cmp counts.texts replica ≡ some_of (count (is_letter_by replica) ops)
  pub beyond : (replica : ℕ) → 2 ^ 32 ≤ replica → get nat_cmp counts.texts replica ≡ None
  pub deletes : counts.deletes ≡ count is_delete ops
  pub sections : counts.sections ≡ count is_section_operation ops
  pub notes : counts.notes ≡ count is_note ops

-- each can be one more
pub record HaveRoom (counts : Counts) : Type 0 where
  pub texts : (replica : ℕ) → count_at (get nat_cmp counts.texts) replica + 1 < 2 ^ 64
  pub deletes : counts.deletes + 1 < 2 ^ 64
  pub sections : counts.sections + 1 < 2 ^ 64
  pub notes : counts.notes + 1 < 2 ^ 64

-- one Text of the replica more
pub record HasTextMore (replica : ℕ) (old new : Counts) : Type 0 where
  pub small : replica < 2 ^ 32
  pub texts : IsReplaced (get nat_cmp old.texts) (get nat_cmp new.texts) replica (Some (count_at (get nat_cmp old.texts) replica + 1))
  pub deletes : new.deletes ≡ old.deletes
  pub sections : new.sections ≡ old.sections
  pub notes : new.notes ≡ old.notes
