-- A source whose calls fail where they are set to and a sink with fixed room, as contracts see them, and what a call does to each.
use Rattle.std.specs.Prelude.{◌≡◌, ◌↔◌, ℕ, ◌-◌, ◌<◌, min, List, ◌++◌, length, take, drop, Result, IsErr, IfOk, OnErr}
use Rattle.outer_ports.specs.Calls.{CallsView, FailsNext, call_passed, call_failed, risen}

-- what contracts see of a source in memory
pub record MemSourceView : Type 0 where
  pub left : List ℕ
  -- the most bytes that a call gives
  pub piece : ℕ
  pub calls : CallsView

-- what contracts see of a sink in memory that fails only for want of room
pub record SureSinkView : Type 0 where
  pub written : List ℕ
  -- the most bytes that a call takes
  pub piece : ℕ
  -- how many bytes all later calls together take
  pub room : ℕ
  pub faults : ℕ

-- a read fails exactly where it is to fail; otherwise it gives all that the piece, the buffer and what is left allow
pub record MemReads {E : Type 0} (old new : MemSourceView) (result : Result ℕ E) (buf : List ℕ) : Type 0 where
  pub fails : IsErr result ↔ FailsNext old.calls
  pub failed : OnErr result (new ≡ record old { calls = call_failed old.calls })
  pub gives : IfOk result (λ n. n ≡ min (min old.piece (length buf)) (length old.left))
  pub gave : IfOk result (λ n. new ≡ record old { left = drop n old.left; calls = call_passed old.calls })

-- a write fails exactly where no room is left for it; otherwise it takes all that the piece and the room allow
pub record SureWrites {E : Type 0} (old new : SureSinkView) (result : Result ℕ E) (bytes : List ℕ) : Type 0 where
  pub fails : IsErr result ↔ ((0 < length bytes) × (old.room ≡ 0))
  pub failed : OnErr result (new ≡ record old { faults = risen old.faults })
  pub takes : IfOk result (λ n. n ≡ min (min old.piece (length bytes)) old.room)
  pub took : IfOk result (λ n. new ≡ record old { written = old.written ++ take n bytes; room = old.room - n })
