-- What taking the first frame off a source and the bytes before it does.
use Rattle.std.specs.Prelude.{◌≡◌, ℕ, ◌+◌, ◌≤◌, List, ◌∷◌, length, take, drop, Option, Some, None, Result, Ok, Err, IfSome, IfOk, IsErrOf}
use Rattle.std.specs.Io.KnownBytes.{prepend_known}
use Rattle.fugue_ids.specs.declared.op.Op.{Op}
use Rattle.outer_ports.specs.Sources.{SourceView, KeepsCount}
use Rattle.origin_model.specs.declared.grammar.Grammar.{Grammar}
use Rattle.origin_model.specs.declared.grammar.Grammar.TheVariants.{Version2}
use Rattle.origin_model.specs.frames.Frames.{Framed, IsFrame}
use Rattle.op_frame.specs.FrameFronts.{AsksMemory}
use Rattle.op_frame.specs.Headers.{IsHeld, after_held, held_ops}
use Rattle.op_frame.specs.Readers.{AnswersBy, CarriesOffset, Moves}
use Rattle.op_frame.specs.declared.fault.FrameFault.{FrameFault}
use Rattle.op_frame.specs.declared.fault.FrameFault.TheVariants.{TooLong, ReadFault, NoMemory}
use Rattle.op_frame.specs.declared.header.RunHeader.{RunHeader}
use Rattle.op_frame.specs.declared.step.Taken.{Taken}

-- the answer as its caller sees it
abbrev pub only_op : Result (Option Taken) FrameFault → Result (Option Op) FrameFault
only_op (Ok None) = Ok None
only_op (Ok (Some taken)) = Ok (Some taken.op)
only_op (Err e) = Err e

-- what is held back of the frame, and its length
abbrev pub taken_held : Result (Option Taken) FrameFault → Option RunHeader
taken_held (Ok (Some taken)) = taken.held
taken_held result = None

-- how many bytes the frame took that was read
abbrev pub taken_length : Result (Option Taken) FrameFault → ℕ
taken_length (Ok (Some taken)) = taken.len
taken_length result = 0

-- the frame of n bytes at the front was taken off, but for the scalars of the operations that are held back
pub record TakesOff (taken : Taken) (old new : List ℕ) (n : ℕ) : Type 0 where
  pub is_frame : IsFrame Version2 (record { bytes = take n old; ops = taken.op ∷ held_ops taken.held new })
  pub rest : drop n old ≡ after_held taken.held new
  pub held : IfSome taken.held (IsHeld new)
  pub len : taken.len ≡ n

-- the same, or memory ran out for a title or a body
abbrev pub TakesFrame : (old new : List ℕ) → ℕ → Result (Option Taken) FrameFault → Type 0
TakesFrame old new n (Ok (Some taken)) = TakesOff taken old new n
TakesFrame old new n (Err NoMemory) = (new ≡ old) × AsksMemory old
TakesFrame old new n result = ⊥

-- the first frame of the bytes to read was taken off
pub record TakesFirst (grammar : Grammar) (taken : Taken) (old new : List ℕ) (before after : Option (List ℕ)) : Type 0 where
  pub framed : Framed
  pub is_frame : IsFrame grammar framed
  pub ops_are : framed.ops ≡ taken.op ∷ held_ops taken.held new
  pub len : taken.len ≡ length framed.bytes
  pub split : prepend_known old before ≡ prepend_known framed.bytes (prepend_known (after_held taken.held new) after)
  pub held : IfSome taken.held (IsHeld new)

-- how a call ends that takes the first frame off the bytes to read
pub record TakesFrontFrame (grammar : Grammar) (old new : List ℕ) (before after : SourceView) (offset room : ℕ)
    (result : Result (Option Taken) FrameFault) : Type 0 where
  pub answer : IfSome (prepend_known old before.left) (AnswersBy grammar (only_op result) offset room)
  pub at : CarriesOffset (only_op result) offset
  pub first : IfOk result (λ given. IfSome given (λ taken. TakesFirst grammar taken old new before.left after.left))
  pub moves : Moves (only_op result) old new before.left after.left
  pub within : length (after_held (taken_held result) new) + taken_length result ≤ room
  pub full : IsErrOf result TooLong → length new ≡ room
  pub count : KeepsCount before after (IsErrOf result ReadFault)
