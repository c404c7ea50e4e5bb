-- What gives bytes, as contracts see it, and what a read does to it.
use Rattle.std.specs.Prelude.{◌≡◌, ℕ, ◌<◌, ◌≤◌, List, [], length, take, Option, Bool, true, Result, IsErr, IsSome, IfSome, IfOk, OnErr}
use Rattle.std.specs.Io.KnownBytes.{prepend_known}
use Rattle.fugue_ids.specs.Causes.{Faulted}

-- what contracts see of a source
pub record SourceView : Type 0 where
  -- the bytes that are left, where the object tells them
  pub left : Option (List ℕ)
  -- how often a call failed
  pub faults : ℕ
  -- no call fails
  pub sure : Bool

-- it tells what is left
abbrev pub SourceIsSpecified : SourceView → Type 0
SourceIsSpecified source = IsSome source.left

-- What a call did to a source's count of faults: it never falls, a failure raised it, and a sure source counts none. Where
-- the source tells, nothing but a failure raised it.
pub record KeepsCount (old new : SourceView) (failed : Type 0) : Type 0 where
  pub later : old.faults ≤ new.faults
  pub faulted : failed → Faulted old.faults new.faults
  pub sure : new.sure ≡ old.sure
  pub succeeds : old.sure ≡ true → failed → ⊥
  pub counts_no_fault : old.sure ≡ true → new.faults ≡ old.faults
  pub tells : SourceIsSpecified old → SourceIsSpecified new
  pub specified_no_fault : SourceIsSpecified old → (failed → ⊥) → new.faults ≡ old.faults

-- one call: the next bytes that are left come, none only at the end or for an empty buffer; nothing at an error
pub record ReadsSome {E : Type 0} (old new : SourceView) (result : Result ℕ E) (buf : List ℕ) : Type 0 where
  pub bound : IfOk result (λ n. n ≤ length buf)
  pub gave : IfOk result (λ n. old.left ≡ prepend_known (take n buf) new.left)
  pub ends : IfOk result (λ n. n ≡ 0 → 0 < length buf → IfSome old.left (λ left. left ≡ []))
  pub kept : OnErr result (new.left ≡ old.left)
  pub count : KeepsCount old new (IsErr result)
