-- Reading a script whole.
use Rattle.std.specs.Prelude.{◌≡◌, ℕ, ◌+◌, ◌-◌, ◌<◌, ◌≤◌, List, [], ◌++◌, length, take, Result, IsErr, IfSome, IfOk}
use Rattle.std.specs.Io.KnownBytes.{prepend_known}
use Rattle.outer_ports.specs.Sources.{SourceView, ReadsSome, KeepsCount}
use Rattle.edit_script.specs.declared.run.ScriptFault.{ScriptFault}
use Rattle.edit_script.specs.declared.run.ScriptFault.TheVariants.{BadLine, NoSection, OutOfRange, IdsSpent, TooMany, ReadFault, TooLong}
use Rattle.edit_script.specs.declared.run.ScriptFault.TheVariants.{NoMemory}
use Rattle.edit_script.specs.declared.script.TheConstants.{LONGEST_SCRIPT}

-- a read whose buffer is the part of this one after `from`
pub record Placed {E : Type 0} (old new : List ℕ) (from : ℕ) (before after : SourceView) (result : Result ℕ E) : Type 0 where
  pub part : List ℕ
  pub long : length part ≡ length old - from
  pub items : new ≡ take from old ++ part
  pub read : ReadsSome before after result part

-- the first n bytes of the buffer came from the source, which has no more where they do not fill it
pub record FilledFromSource {E : Type 0} (size : ℕ) (buffer : List ℕ) (before after : SourceView) (result : Result ℕ E) : Type 0 where
  pub len : length buffer ≡ size
  pub bound : IfOk result (λ n. n ≤ size)
  pub split : IfOk result (λ n. before.left ≡ prepend_known (take n buffer) after.left)
  pub ends : IfOk result (λ n. n < size → IfSome after.left (λ left. left ≡ []))
  pub count : KeepsCount before after (IsErr result)

-- the script is all that the source had left
pub record IsScript (before after : SourceView) (script : List ℕ) : Type 0 where
  pub split : before.left ≡ prepend_known script after.left
  pub ended : IfSome after.left (λ left. left ≡ [])
  pub short : length script ≤ LONGEST_SCRIPT

-- the source had more than a script may have: one byte past the limit was taken
pub record IsLonger (before after : SourceView) : Type 0 where
  pub front : List ℕ
  pub split : before.left ≡ prepend_known front after.left
  pub long : length front ≡ LONGEST_SCRIPT + 1

-- why no script was read
abbrev pub LacksScript : SourceView → SourceView → ScriptFault → Type 0
LacksScript before after ReadFault = Unit {0}
LacksScript before after TooLong = IsLonger before after
LacksScript before after NoMemory = after ≡ before
LacksScript before after (BadLine _) = ⊥
LacksScript before after (NoSection _) = ⊥
LacksScript before after (OutOfRange _) = ⊥
LacksScript before after (IdsSpent _) = ⊥
LacksScript before after (TooMany _) = ⊥
