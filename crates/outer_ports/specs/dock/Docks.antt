-- A dock, as contracts see it, and what each call does to it.
use Rattle.std.specs.Prelude.{◌≡◌, ◌≢◌, ℕ, ◌-◌, ◌<◌, List, [], ◌∷◌, ◌++◌, length, Option, Some, None, Result, IfSome, IfOk, IsSome, OnOk}
use Rattle.std.specs.Prelude.{OnErr, option_map}
use Rattle.std.specs.Io.KnownBytes.{append_known}
use Rattle.fugue_ids.specs.Outs.{OutView, WritesSome}
use Rattle.outer_ports.specs.Counts.{FailsOnlyFor}
use Rattle.outer_ports.specs.Latest.{once_more}
use Rattle.outer_ports.specs.dock.Steps.{Fits, with_bytes, GivesSome}
use Rattle.outer_ports.specs.declared.dock.DockStep.{DockStep}
use Rattle.outer_ports.specs.declared.dock.Listening.{Listening}
use Rattle.outer_ports.specs.declared.latest.Latest.{Latest}
use Rattle.outer_ports.specs.declared.dock.MemStep.{MemStep}

-- each given only by an object that specifies it
pub record DockView : Type 0 where
  -- how often it listened, and the last time
  pub listens : Option (Latest Listening)
  -- the steps that were taken, in order
  pub taken : Option (List MemStep)
  -- the steps to come, in order
  pub coming : Option (List MemStep)
  -- the bytes sent to each session
  pub sent : ℕ → Option (List ℕ)
  -- the sessions that were ended, in order
  pub ended : Option (List ℕ)
  -- how many bytes each of them had been sent as it was ended, in the same order
  pub ended_at : Option (List ℕ)
  -- how often a call failed
  pub faults : ℕ
  -- how many bytes still fit for each session, where calls are sure
  pub room : ℕ → Option ℕ
  -- how many further sessions can be ended, where calls are sure
  pub ends : Option ℕ

-- it tells when it listened, the steps, what was sent to each session, and which were ended, and when
pub record DockIsSpecified (dock : DockView) : Type 0 where
  pub listens : IsSome dock.listens
  pub taken : IsSome dock.taken
  pub coming : IsSome dock.coming
  pub sent : (session : ℕ) → IsSome (dock.sent session)
  pub ended : IsSome dock.ended
  pub ended_at : IsSome dock.ended_at

-- a dock as what takes a session's bytes
abbrev pub out_to : ℕ → DockView → OutView
out_to session dock = record { written = dock.sent session; faults = dock.faults; room = dock.room session }

-- a session more was ended, which had been sent these bytes
abbrev pub ended_after : Option (List ℕ) → Option (List ℕ) → Option (List ℕ)
ended_after None sent = None
ended_after (Some counts) None = None
ended_after (Some counts) (Some sent) = Some (counts ++ length sent ∷ [])

-- nothing was sent
pub record SendsNothing (old new : DockView) : Type 0 where
  pub sent : (session : ℕ) → new.sent session ≡ old.sent session
  pub room : (session : ℕ) → new.room session ≡ old.room session

-- no step was taken
pub record TakesNothing (old new : DockView) : Type 0 where
  pub taken : new.taken ≡ old.taken
  pub coming : new.coming ≡ old.coming

-- the dock listens on the port where it stands
abbrev pub listening_of : (port : ℕ) → DockView → Listening
listening_of port dock = record { port = port; taken = option_map length dock.taken }

-- it listened on the port once, after the steps that were taken at first and before all others
abbrev pub ListensOnce : (old new : DockView) → (port : ℕ) → Type 0
ListensOnce old new port = new.listens ≡ option_map (once_more (listening_of port old)) old.listens

-- It listens on the port once; nothing at an error. Here and below, where the dock tells, the count rises only with an
-- error.
pub record Listens {E T : Type 0} (old new : DockView) (result : Result T E) (port : ℕ) : Type 0 where
  pub listened : OnOk result (ListensOnce old new port)
  pub kept : OnErr result (new.listens ≡ old.listens)
  pub nothing_sent : SendsNothing old new
  pub nothing_taken : TakesNothing old new
  pub ended : new.ended ≡ old.ended
  pub ended_at : new.ended_at ≡ old.ended_at
  pub ends : new.ends ≡ old.ends
  pub count : FailsOnlyFor old.ends (λ ends. ⊥) old.faults new.faults result
  pub specified_no_fault : DockIsSpecified old → OnOk result (new.faults ≡ old.faults)

-- a step is taken; nothing at an error, which a sure dock gives only where no step is left
pub record Takes {E : Type 0} (old new : DockView) (result : Result DockStep E) (buf : List ℕ) : Type 0 where
  pub fits : IfOk result (λ step. Fits step (length buf))
  pub taken : IfOk result (λ step. new.taken ≡ option_map (λ taken. taken ++ with_bytes step buf ∷ []) old.taken)
  pub came : IfOk result (λ step. GivesSome old.coming new.coming (with_bytes step buf))
  pub kept : OnErr result (TakesNothing old new)
  pub nothing_sent : SendsNothing old new
  pub listens : new.listens ≡ old.listens
  pub ended : new.ended ≡ old.ended
  pub ended_at : new.ended_at ≡ old.ended_at
  pub ends : new.ends ≡ old.ends
  pub count : FailsOnlyFor old.ends (λ ends. IfSome old.coming (λ coming. coming ≡ [])) old.faults new.faults result
  pub specified_no_fault : DockIsSpecified old → OnOk result (new.faults ≡ old.faults)

-- a session's bytes go out, as to a sink
pub record Sends {E : Type 0} (old new : DockView) (result : Result ℕ E) (session : ℕ) (piece : List ℕ) : Type 0 where
  pub writes : WritesSome (out_to session old) (out_to session new) result piece
  pub others : (other : ℕ) → other ≢ session → (new.sent other ≡ old.sent other) × (new.room other ≡ old.room other)
  pub nothing_taken : TakesNothing old new
  pub listens : new.listens ≡ old.listens
  pub ended : new.ended ≡ old.ended
  pub ended_at : new.ended_at ≡ old.ended_at
  pub ends : new.ends ≡ old.ends

-- The session joins those that were ended, with what it had been sent so far; nothing at an error. So what is sent once it
-- was ended can't pass for what was sent before.
pub record EndsSession {E T : Type 0} (old new : DockView) (result : Result T E) (session : ℕ) : Type 0 where
  pub ended : OnOk result (new.ended ≡ append_known old.ended (session ∷ []))
  pub kept : OnErr result (new.ended ≡ old.ended)
  pub ended_at : OnOk result (new.ended_at ≡ ended_after old.ended_at (old.sent session))
  pub kept_at : OnErr result (new.ended_at ≡ old.ended_at)
  pub ends : OnOk result (new.ends ≡ option_map (λ ends. ends - 1) old.ends)
  pub same_ends : OnErr result (new.ends ≡ old.ends)
  pub nothing_sent : SendsNothing old new
  pub nothing_taken : TakesNothing old new
  pub listens : new.listens ≡ old.listens
  pub count : FailsOnlyFor old.ends (λ ends. ends ≡ 0) old.faults new.faults result
  pub specified_no_fault : DockIsSpecified old → OnOk result (new.faults ≡ old.faults)
  pub within : IfSome old.ends (λ ends. OnOk result (0 < ends))
