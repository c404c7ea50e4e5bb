-- A buffer of bytes that are still to be given, and what filling it does.
use Rattle.std.specs.Prelude.{◌≡◌, ℕ, ◌+◌, ◌-◌, ◌≤◌, List, [], ◌++◌, length, take, drop, Result, IsErr, IfSome, IfOk, OnErr}
use Rattle.std.specs.Io.KnownBytes.{prepend_known}
use Rattle.outer_ports.specs.Sources.{SourceView, ReadsSome, KeepsCount}

-- a buffer from the first byte still to be given on
pub record Window : Type 0 where
  -- the bytes still to be given
  pub bytes : List ℕ
  -- how many more the buffer takes before they are moved
  pub free : ℕ

-- a call that takes bytes from a source: what moved, and how it may fail
pub record Filled {E : Type 0} (old new : List ℕ) (before after : SourceView) (most : ℕ) (result : Result ℕ E) : Type 0 where
  pub split : prepend_known old before.left ≡ prepend_known new after.left
  pub grew : IfOk result (λ n. (length new ≡ length old + n) × (n ≤ most))
  pub ends : IfOk result (λ n. n ≡ 0 → IfSome before.left (λ left. left ≡ []))
  pub stays : IfOk result (λ n. n ≡ 0 → new ≡ old)
  pub kept : OnErr result ((new ≡ old) × (after.left ≡ before.left))
  pub count : KeepsCount before after (IsErr result)

-- a read whose buffer is a part of this one
pub record ReadsIntoPart {E : Type 0} (old new : List ℕ) (from to : ℕ) (before after : SourceView) (result : Result ℕ E) : Type 0 where
  pub part : List ℕ
  pub long : length part ≡ to - from
  pub items : new ≡ take from old ++ (part ++ drop to old)
  pub read : ReadsSome before after result part
