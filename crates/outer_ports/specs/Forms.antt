-- A source and a sink in memory, as contracts see them, and what a call does to each.
use Rattle.std.specs.Prelude.{◌≡◌, ◌⊎◌, ℕ, ◌<◌, min, List, ◌++◌, length, take, drop, Result, Ok, IsErr, IfOk, OnErr}
use Rattle.outer_ports.specs.Calls.{CallsView, FailsNext, call_passed, call_failed}

-- what contracts see of a source in memory that never fails
pub record SureSourceView : Type 0 where
  pub left : List ℕ
  -- the most bytes that a call gives
  pub piece : ℕ

-- what contracts see of a sink in memory
pub record MemSinkView : Type 0 where
  pub written : List ℕ
  -- the most bytes that a call takes
  pub piece : ℕ
  -- how many bytes it takes with no further memory
  pub spare : ℕ
  pub calls : CallsView

-- a read gives all that the piece, the buffer and what is left allow
pub record SureReads {E : Type 0} (old new : SureSourceView) (result : Result ℕ E) (buf : List ℕ) : Type 0 where
  pub gives : result ≡ Ok (min (min old.piece (length buf)) (length old.left))
  pub gave : IfOk result (λ n. new ≡ record old { left = drop n old.left })

-- a write fails where it is to fail, and else only where what it takes needs further memory; otherwise it takes all that the piece allows
pub record MemWrites {E : Type 0} (old new : MemSinkView) (result : Result ℕ E) (bytes : List ℕ) : Type 0 where
  pub fails : FailsNext old.calls → IsErr result
  pub wanting : OnErr result (FailsNext old.calls ⊎ (old.spare < min old.piece (length bytes)))
  pub failed : OnErr result (new ≡ record old { spare = new.spare; calls = call_failed old.calls })
  pub takes : IfOk result (λ n. n ≡ min old.piece (length bytes))
  pub took : IfOk result (λ n. new ≡ record old { written = old.written ++ take n bytes; spare = new.spare; calls = call_passed old.calls })
