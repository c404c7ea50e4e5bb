-- The wires in memory, as contracts see them, and what a call does to each.
use Rattle.std.specs.Prelude.{◌≡◌, ◌↔◌, ℕ, List, length, Some, Result, IsErr, OnOk, OnErr}
use Rattle.outer_ports.specs.Calls.{CallsView, FailsNext, call_passed, call_failed}
use Rattle.outer_ports.specs.Latest.{once_more}
use Rattle.outer_ports.specs.declared.latest.Latest.{Latest}
use Rattle.outer_ports.specs.declared.wire.Dial.{Dial}
use Rattle.outer_ports.specs.Forms.{MemSinkView, SureSourceView, MemWrites, SureReads}
use Rattle.memory_ports.specs.Forms.{MemSourceView, SureSinkView, MemReads, SureWrites}

-- what contracts see of a wire in memory
pub record MemWireView : Type 0 where
  pub dials : Latest Dial
  pub left : List ℕ
  pub said : List ℕ
  -- the most bytes that a call gives or takes
  pub piece : ℕ
  -- how many bytes it takes with no further memory
  pub spare : ℕ
  pub calls : CallsView

-- what contracts see of a wire in memory that fails only for want of room
pub record SureWireView : Type 0 where
  pub dials : Latest Dial
  pub left : List ℕ
  pub said : List ℕ
  -- the most bytes that a call gives or takes
  pub piece : ℕ
  -- how many bytes all later calls together take
  pub room : ℕ
  pub faults : ℕ

-- the side of a wire that is read
abbrev pub mem_source_of : MemWireView → MemSourceView
mem_source_of wire = record { left = wire.left; piece = wire.piece; calls = wire.calls }

-- the side of a wire that is written
abbrev pub mem_sink_of : MemWireView → MemSinkView
mem_sink_of wire = record { written = wire.said; piece = wire.piece; spare = wire.spare; calls = wire.calls }

-- the side of a sure wire that is read
abbrev pub sure_source_of : SureWireView → SureSourceView
sure_source_of wire = record { left = wire.left; piece = wire.piece }

-- the side of a sure wire that is written
abbrev pub sure_sink_of : SureWireView → SureSinkView
sure_sink_of wire = record { written = wire.said; piece = wire.piece; room = wire.room; faults = wire.faults }

-- the port is dialled after what was written, with this left to read
abbrev pub dial_at : (port : ℕ) → (said left : List ℕ) → Dial
dial_at port said left = record { port = port; said = Some (length said); left = Some (length left) }

-- dialling fails exactly where it is to fail
pub record MemDials {E T : Type 0} (old new : MemWireView) (result : Result T E) (port : ℕ) : Type 0 where
  pub fails : IsErr result ↔ FailsNext old.calls
  pub refused : OnErr result (new ≡ record old { calls = call_failed old.calls })
  pub dialled : OnOk result
      (new ≡ record old { dials = once_more (dial_at port old.said old.left) old.dials; calls = call_passed old.calls })

-- a read, as of a source in memory
pub record MemWireReads {E : Type 0} (old new : MemWireView) (result : Result ℕ E) (buf : List ℕ) : Type 0 where
  pub reads : MemReads (mem_source_of old) (mem_source_of new) result buf
  pub others : new ≡ record old { left = new.left; calls = new.calls }

-- a write, as to a sink in memory
pub record MemWireWrites {E : Type 0} (old new : MemWireView) (result : Result ℕ E) (piece : List ℕ) : Type 0 where
  pub writes : MemWrites (mem_sink_of old) (mem_sink_of new) result piece
  pub others : new ≡ record old { said = new.said; spare = new.spare; calls = new.calls }

-- a read, as of a sure source
pub record SureWireReads {E : Type 0} (old new : SureWireView) (result : Result ℕ E) (buf : List ℕ) : Type 0 where
  pub reads : SureReads (sure_source_of old) (sure_source_of new) result buf
  pub others : new ≡ record old { left = new.left }

-- a write, as to a sure sink
pub record SureWireWrites {E : Type 0} (old new : SureWireView) (result : Result ℕ E) (piece : List ℕ) : Type 0 where
  pub writes : SureWrites (sure_sink_of old) (sure_sink_of new) result piece
  pub others : new ≡ record old { said = new.said; room = new.room; faults = new.faults }
