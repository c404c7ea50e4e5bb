-- What one step of serving does to a dock: a step is taken, and a reply is sent.
use Rattle.std.specs.Prelude.{◌≡◌, ◌≢◌, ℕ, ◌≤◌, List, Result, Ok, Err, Option, option_map, ◌++◌}
use Rattle.fugue_ids.specs.Outs.{Took, TookFront, WritesBytes}
use Rattle.origin_model.specs.declared.relay.Reply.{Reply}
use Rattle.outer_ports.specs.dock.Docks.{DockIsSpecified, DockView, SendsNothing, TakesNothing, out_to}
use Rattle.outer_ports.specs.declared.dock.MemStep.{MemStep}
use Rattle.relay_sync.specs.Serving.{EndedFront, GaveSteps, HasRoomFor, bytes_to, closed_by, ended_with, ends_after}
use Rattle.relay_sync.specs.declared.serving.ServeFault.{ServeFault}
use Rattle.relay_sync.specs.declared.serving.ServeFault.TheVariants.{DockFault}

-- the dock gave these steps, and nothing else happened to it
pub record GivesSteps (old new : DockView) (steps : List MemStep) : Type 0 where
  pub gave : GaveSteps old new steps
  pub nothing_sent : SendsNothing old new
  pub ended : new.ended ≡ old.ended
  pub ended_at : new.ended_at ≡ old.ended_at
  pub ends : new.ends ≡ old.ends
  pub listens : new.listens ≡ old.listens
  pub later : old.faults ≤ new.faults

-- a text goes out to one session, whole or up to a fault
pub record SendsText {E T : Type 0} (old new : DockView) (result : Result T E) (session : ℕ) (text : List ℕ) : Type 0 where
  pub writes : WritesBytes (out_to session old) (out_to session new) result text
  pub others : (other : ℕ) → other ≢ session → (new.sent other ≡ old.sent other) × (new.room other ≡ old.room other)
  pub listens : new.listens ≡ old.listens
  pub nothing_taken : TakesNothing old new
  pub ends : new.ends ≡ old.ends
  pub ended : new.ended ≡ old.ended
  pub ended_at : new.ended_at ≡ old.ended_at

-- the dock lasts for a reply
abbrev pub LastsFor : DockView → Option Reply → Type 0
LastsFor dock reply = HasRoomFor dock (λ session. bytes_to session reply) (closed_by reply)

-- the reply was sent whole, to its session alone, which is ended after all of it where the reply closes it
pub record Replied (old new : DockView) (reply : Option Reply) : Type 0 where
  pub sent : (session : ℕ) → Took (out_to session old) (out_to session new) (bytes_to session reply)
  pub ended : new.ended ≡ option_map (λ ended. ended ++ closed_by reply) old.ended
  pub ended_at : new.ended_at ≡ ended_with new.sent reply old.ended_at
  pub ends : new.ends ≡ ends_after (closed_by reply) old.ends
  pub nothing_taken : TakesNothing old new
  pub listens : new.listens ≡ old.listens
  pub later : old.faults ≤ new.faults
  pub counts_no_fault : LastsFor old reply → new.faults ≡ old.faults

-- the same up to a fault
pub record RepliedPartly (fault : ServeFault) (old new : DockView) (reply : Option Reply) : Type 0 where
  pub sent : (session : ℕ) → TookFront (out_to session old) (out_to session new) (bytes_to session reply)
  pub ended : EndedFront old new (closed_by reply)
  pub nothing_taken : TakesNothing old new
  pub listens : new.listens ≡ old.listens
  pub later : old.faults ≤ new.faults
  -- a dock that lasts for the reply is not what failed
  pub sure : LastsFor old reply → fault ≢ DockFault
  pub counts_no_fault : LastsFor old reply → new.faults ≡ old.faults

-- On a dock that is specified, the count of faults rises only where the dock is blamed: no call that failed is passed over,
-- and none is reported as another fault.
pub record DockRisesFor (blamed : Type 0) (old new : DockView) : Type 0 where
  pub tells : DockIsSpecified old → DockIsSpecified new
  pub specified_no_fault : DockIsSpecified old → (blamed → ⊥) → new.faults ≡ old.faults

-- the answer blames the dock
abbrev pub IsDockFault : {T : Type 0} → Result T ServeFault → Type 0
IsDockFault (Ok x) = ⊥
IsDockFault (Err fault) = fault ≡ DockFault
