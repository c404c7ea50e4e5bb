-- What taking more bytes of a source does.
use Rattle.std.specs.Prelude.{◌≡◌, ℕ, ◌+◌, ◌<◌, ◌≤◌, List, [], ◌∷◌, length, Option, Bool, true, false, Result, IfSome, IfOk, IfErr, OnOk}
use Rattle.std.specs.Prelude.{OnErr, IsErrOf, ◌⊎◌}
use Rattle.std.specs.Io.KnownBytes.{prepend_known}
use Rattle.outer_ports.specs.Sources.{SourceView, KeepsCount}
use Rattle.op_frame.specs.declared.fault.FrameFault.{FrameFault}
use Rattle.op_frame.specs.declared.fault.FrameFault.TheVariants.{ReadFault, TooLong}

-- the source had one byte more, which was taken and dropped
pub record Drops (before after : Option (List ℕ)) : Type 0 where
  pub byte : ℕ
  pub dropped : before ≡ prepend_known (byte ∷ []) after

-- how a call at the limit ends: it answers false at the source's end
pub record PastLimit (before after : SourceView) (result : Result Bool FrameFault) : Type 0 where
  pub ends : IfOk result (λ more. (more ≡ false) × (after.left ≡ before.left) × IfSome before.left (λ left. left ≡ []))
  pub faults : IfErr result (λ e. (e ≡ ReadFault) × (after.left ≡ before.left) ⊎ (e ≡ TooLong) × Drops before.left after.left)
  pub count : KeepsCount before after (IsErrOf result ReadFault)

-- more bytes came, at most so many, or none
abbrev pub Grew : Bool → List ℕ → List ℕ → ℕ → Type 0
Grew true old new room = (length old < length new) × (length new ≤ length old + room)
Grew false old new room = new ≡ old

-- how a call that takes more bytes ends: it answers false at the source's end
pub record Refills (old new : List ℕ) (before after : SourceView) (room : ℕ) (result : Result Bool FrameFault) : Type 0 where
  pub grew : IfOk result (λ more. Grew more old new room)
  pub split : OnOk result (prepend_known old before.left ≡ prepend_known new after.left)
  pub ends : IfOk result (λ more. more ≡ false → IfSome before.left (λ left. left ≡ []) × IfSome after.left (λ left. left ≡ []))
  pub faults : IfErr result (λ e. (e ≡ ReadFault) × (after.left ≡ before.left) ⊎ (e ≡ TooLong) × (room ≡ 0) × Drops before.left after.left)
  pub kept : OnErr result (new ≡ old)
  pub count : KeepsCount before after (IsErrOf result ReadFault)
