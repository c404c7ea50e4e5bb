-- The frames of a piece of a file.
use Rattle.std.specs.Prelude.{◌≡◌, ℕ, List, ◌++◌, length, Option, Some, None, Bool, true, Result, Ok, Err}
use Rattle.fugue_ids.specs.declared.op.Op.{Op}
use Rattle.outer_ports.specs.Sources.{SourceView}
use Rattle.origin_model.specs.declared.grammar.Grammar.{Grammar}
use Rattle.origin_model.specs.frames.Frames.{IsBad, Starts}
use Rattle.op_frame.specs.Readers.{Gave, FrameReading}
use Rattle.origin_model.specs.edits.State.{State}
use Rattle.replica_file.specs.Loading.{Feeds, IsSameButHeld}
use Rattle.replica_file.specs.Wanting.{AreWholeFrames, IsWanting}
use Rattle.replica_file.specs.declared.stop.Stop.{Stop}
use Rattle.replica_file.specs.declared.stop.Stop.TheVariants.{Bad, Disk, NoMemory}

-- the reader gave these operations of a piece that is in memory, and no fault yet
pub record IsReading (bytes : List ℕ) (ops : List Op) (reader : FrameReading) (source : SourceView) : Type 0 where
  pub gave : Gave (Some bytes) ops reader source.left
  pub no_fault : reader.fault ≡ None
  pub fits : length bytes ≡ reader.limit
  pub sure : source.sure ≡ true

-- after some frames stands none, and nothing that begins one
pub record AreBad (grammar : Grammar) (bytes : List ℕ) : Type 0 where
  pub ops : List Op
  pub rest : List ℕ
  pub starts : Starts grammar bytes ops rest
  pub bad : IsBad grammar rest

-- more operations were taken in after these, and memory ran out for what stands after them
pub record LacksAfter (grammar : Grammar) (bytes : List ℕ) (ops : List Op) (was : Bool) (old : State) : Type 0 where
  pub more : List Op
  pub now : Bool
  pub new : State
  pub feeds : Feeds was old now new more
  pub same : IsSameButHeld old new
  pub wants : IsWanting grammar (λ rest. rest ≡ bytes) bytes (ops ++ more) new.hold new.most new.held (now ≡ true)

-- one step over a piece: some operations more were taken in, or the whole frames are over, or what follows is bad, or memory ran out
abbrev pub PieceSteps : Grammar → List ℕ → List Op → (was : Bool) (old : State) (now : Bool) (new : State) → FrameReading → SourceView
    → Result (Option ℕ) Stop → Type 0
PieceSteps grammar bytes ops was old now new reader source (Ok None) =
    (more : List Op) × IsReading bytes (ops ++ more) reader source × Feeds was old now new more
PieceSteps grammar bytes ops was old now new reader source (Ok (Some len)) =
    AreWholeFrames grammar bytes len ops × (now ≡ was) × (new ≡ old)
PieceSteps grammar bytes ops was old now new reader source (Err Bad) = AreBad grammar bytes
PieceSteps grammar bytes ops was old now new reader source (Err Disk) = ⊥
PieceSteps grammar bytes ops was old now new reader source (Err NoMemory) = LacksAfter grammar bytes ops was old

-- the whole frames at the front of a piece were taken in
pub record TakesInPiece (grammar : Grammar) (bytes : List ℕ) (len : ℕ) (was : Bool) (old : State) (now : Bool) (new : State) : Type 0 where
  pub ops : List Op
  pub whole : AreWholeFrames grammar bytes len ops
  pub feeds : Feeds was old now new ops

-- The operations at the front of the bytes were taken in, and memory ran out for what stands after them: to read on,
-- or for the next operation.
pub record Lacks (grammar : Grammar) (Begins : List ℕ → Type 0) (bytes : List ℕ) (was : Bool) (old : State) : Type 0 where
  pub ops : List Op
  pub now : Bool
  pub new : State
  pub feeds : Feeds was old now new ops
  pub same : IsSameButHeld old new
  pub wants : IsWanting grammar Begins bytes ops new.hold new.most new.held (now ≡ true)
