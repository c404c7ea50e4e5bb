-- The docks in memory, as contracts see them, and what a call does to each.
use Rattle.std.specs.Prelude.{◌≡◌, ◌⊎◌, ◌↔◌, ℕ, ◌-◌, ◌<◌, min, if◌then◌else◌, List, [], ◌∷◌, ◌++◌, length, take, Some, Result, IsErr, IfOk}
use Rattle.std.specs.Prelude.{OnOk, OnErr}
use Rattle.outer_ports.specs.Calls.{CallsView, FailsNext, call_passed, call_failed, risen}
use Rattle.outer_ports.specs.Latest.{once_more}
use Rattle.outer_ports.specs.dock.Steps.{Gives, with_bytes, opens_session}
use Rattle.memory_ports.specs.dock.Transcripts.{TranscriptView, sent_by, room_by}
use Rattle.outer_ports.specs.declared.dock.DockStep.{DockStep}
use Rattle.outer_ports.specs.declared.dock.Listening.{Listening}
use Rattle.outer_ports.specs.declared.latest.Latest.{Latest}
use Rattle.outer_ports.specs.declared.dock.MemStep.{MemStep}

-- what contracts see of a dock in memory
pub record MemDockView : Type 0 where
  pub listens : Latest Listening
  pub taken : List MemStep
  pub coming : List MemStep
  -- how many further steps it gives with no further memory
  pub spare_steps : ℕ
  pub transcripts : List TranscriptView
  pub ended : List ℕ
  -- how many bytes each of them had been sent as it was ended
  pub ended_at : List ℕ
  -- how many further sessions it ends with no further memory
  pub spare_ends : ℕ
  -- the most bytes that a call gives or takes
  pub piece : ℕ
  pub calls : CallsView

-- what contracts see of a dock in memory that never fails
pub record SureDockView : Type 0 where
  pub listens : Latest Listening
  pub taken : List MemStep
  pub coming : List MemStep
  pub faults : ℕ
  pub transcripts : List TranscriptView
  -- how many further sessions can be ended
  pub ends : ℕ
  pub ended : List ℕ
  -- how many bytes each of them had been sent as it was ended
  pub ended_at : List ℕ
  -- the most bytes that a call gives or takes
  pub piece : ℕ

-- nothing was sent, and each session that one of the steps opens has this room
pub record HasRooms (steps : List MemStep) (room : ℕ) (transcripts : List TranscriptView) : Type 0 where
  pub sent : (session : ℕ) → sent_by transcripts session ≡ []
  pub fits : (session : ℕ) → room_by transcripts session ≡ if opens_session steps session then room else 0

-- a dock listens on the port after the steps that were taken
abbrev pub listening_at : (port : ℕ) → (taken : List MemStep) → Listening
listening_at port taken = record { port = port; taken = Some (length taken) }

-- listening fails exactly where it is to fail
pub record MemListens {E T : Type 0} (old new : MemDockView) (result : Result T E) (port : ℕ) : Type 0 where
  pub fails : IsErr result ↔ FailsNext old.calls
  pub refused : OnErr result (new ≡ record old { calls = call_failed old.calls })
  pub listened : OnOk result
      (new ≡ record old { listens = once_more (listening_at port old.taken) old.listens; calls = call_passed old.calls })

-- A call fails where it is to fail and where no step is left, and else only where the step needs further memory. Otherwise
-- it gives all of the next step that the piece and the buffer allow.
pub record MemTakes {E : Type 0} (old new : MemDockView) (result : Result DockStep E) (buf : List ℕ) : Type 0 where
  pub fails : FailsNext old.calls ⊎ (old.coming ≡ []) → IsErr result
  pub wanting : OnErr result (FailsNext old.calls ⊎ (old.coming ≡ []) ⊎ (old.spare_steps ≡ 0))
  pub refused : OnErr result (new ≡ record old { spare_steps = new.spare_steps; calls = call_failed old.calls })
  pub gives : IfOk result (λ step. Gives (min old.piece (length buf)) old.coming new.coming (with_bytes step buf))
  pub taken : IfOk result
      (λ step. new ≡ record old {
        taken = old.taken ++ with_bytes step buf ∷ [];
        coming = new.coming;
        spare_steps = new.spare_steps;
        calls = call_passed old.calls;
      })

-- A call fails where it is to fail, and else only where what it takes has no room. Otherwise it takes all that the piece
-- allows.
pub record MemSends {E : Type 0} (old new : MemDockView) (result : Result ℕ E) (session : ℕ) (bytes : List ℕ) : Type 0 where
  pub fails : FailsNext old.calls → IsErr result
  pub wanting : OnErr result (FailsNext old.calls ⊎ (room_by old.transcripts session < min old.piece (length bytes)))
  pub refused : OnErr result (new ≡ record old { calls = call_failed old.calls })
  pub takes : IfOk result (λ n. n ≡ min old.piece (length bytes))
  pub sent : IfOk result (λ n. sent_by new.transcripts session ≡ sent_by old.transcripts session ++ take n bytes)
  pub others : OnOk result (new ≡ record old { transcripts = new.transcripts; calls = call_passed old.calls })

-- a call fails where it is to fail, and else only where it needs further memory
pub record MemEnds {E T : Type 0} (old new : MemDockView) (result : Result T E) (session : ℕ) : Type 0 where
  pub fails : FailsNext old.calls → IsErr result
  pub wanting : OnErr result (FailsNext old.calls ⊎ (old.spare_ends ≡ 0))
  pub refused : OnErr result (new ≡ record old { spare_ends = new.spare_ends; calls = call_failed old.calls })
  pub ended : OnOk result
      (new ≡ record old {
        ended = old.ended ++ session ∷ [];
        ended_at = old.ended_at ++ length (sent_by old.transcripts session) ∷ [];
        spare_ends = new.spare_ends;
        calls = call_passed old.calls;
      })

-- A call fails exactly where no step is left. Otherwise it gives all of the next step that the piece and the buffer allow.
pub record SureTakes {E : Type 0} (old new : SureDockView) (result : Result DockStep E) (buf : List ℕ) : Type 0 where
  pub fails : IsErr result ↔ (old.coming ≡ [])
  pub refused : OnErr result (new ≡ record old { faults = risen old.faults })
  pub gives : IfOk result (λ step. Gives (min old.piece (length buf)) old.coming new.coming (with_bytes step buf))
  pub taken : IfOk result (λ step. new ≡ record old { taken = old.taken ++ with_bytes step buf ∷ []; coming = new.coming })

-- A call fails exactly where the session has no room left for it. Otherwise it takes all that the piece and the room allow.
pub record SureSends {E : Type 0} (old new : SureDockView) (result : Result ℕ E) (session : ℕ) (bytes : List ℕ) : Type 0 where
  pub fails : IsErr result ↔ ((0 < length bytes) × (room_by old.transcripts session ≡ 0))
  pub refused : OnErr result (new ≡ record old { faults = risen old.faults })
  pub takes : IfOk result (λ n. n ≡ min (min old.piece (length bytes)) (room_by old.transcripts session))
  pub sent : IfOk result (λ n. sent_by new.transcripts session ≡ sent_by old.transcripts session ++ take n bytes)
  pub room : IfOk result (λ n. room_by new.transcripts session ≡ room_by old.transcripts session - n)
  pub others : OnOk result (new ≡ record old { transcripts = new.transcripts })

-- a call fails exactly where no further session can be ended
pub record SureEnds {E T : Type 0} (old new : SureDockView) (result : Result T E) (session : ℕ) : Type 0 where
  pub fails : IsErr result ↔ (old.ends ≡ 0)
  pub refused : OnErr result (new ≡ record old { faults = risen old.faults })
  pub ended : OnOk result
      (new ≡ record old {
        ended = old.ended ++ session ∷ [];
        ended_at = old.ended_at ++ length (sent_by old.transcripts session) ∷ [];
        ends = old.ends - 1;
      })
