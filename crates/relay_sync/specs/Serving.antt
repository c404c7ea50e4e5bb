-- What serving does: the steps that a dock gives are given to a relay, and its replies are sent.
use Rattle.std.specs.Prelude.{◌≡◌, ◌≢◌, Result, Err, ℕ, ◌+◌, ◌<◌, ◌≤◌, List, [], ◌∷◌, ◌++◌, length, take, flat_map, map, nat_eq}
use Rattle.std.specs.Prelude.{if◌then◌else◌, Option, Some, None, IfSome, option_map, ◌-◌}
use Rattle.std.specs.Io.KnownBytes.{append_known}
use Rattle.fugue_ids.specs.Outs.{Took, TookFront}
use Rattle.origin_model.specs.declared.relay.Event.{Event}
use Rattle.origin_model.specs.declared.relay.Event.TheVariants as event
use Rattle.origin_model.specs.declared.relay.Reply.{Reply}
use Rattle.origin_model.specs.relay.Relay.{Relay, RelayRuns}
use Rattle.outer_ports.specs.dock.Docks.{DockView, ended_after, out_to}
use Rattle.outer_ports.specs.dock.Steps.{GivesSome}
use Rattle.outer_ports.specs.declared.dock.MemStep.{MemStep}
use Rattle.outer_ports.specs.declared.dock.MemStep.TheVariants.{Opened, Bytes, Gone}
use Rattle.relay_sync.specs.Over.{over_once}
use Rattle.relay_sync.specs.declared.serving.ServeFault.{ServeFault}
use Rattle.relay_sync.specs.declared.serving.ServeFault.TheVariants.{DockFault, TooLong}

-- a step, as an event of the relay
abbrev pub event_of : MemStep → Event
event_of (Opened session) = event.Opened session
event_of (Bytes session bytes) = event.Piece session bytes
event_of (Gone session) = event.Gone session

-- a step, and the relay's reply to it
pub record ServedStep : Type 0 where
  pub step : MemStep
  pub reply : Option Reply

-- the steps alone
abbrev pub steps_of : List ServedStep → List MemStep
steps_of turns = map (λ turn. turn.step) turns

-- the replies alone
abbrev pub replies_of : List ServedStep → List (Option Reply)
replies_of turns = map (λ turn. turn.reply) turns

-- what a reply brings to a session
abbrev pub bytes_to : ℕ → Option Reply → List ℕ
bytes_to session None = []
bytes_to session (Some reply) = if nat_eq session reply.session then reply.bytes else []

-- the replies to a session, one after the other
abbrev pub sent_to : ℕ → List ServedStep → List ℕ
sent_to session turns = flat_map (λ turn. bytes_to session turn.reply) turns

-- the session that a reply closes
abbrev pub closed_by : Option Reply → List ℕ
closed_by None = []
closed_by (Some reply) = if reply.closes then reply.session ∷ [] else []

-- the sessions that replies closed
abbrev pub closed_in : List ServedStep → List ℕ
closed_in turns = flat_map (λ turn. closed_by turn.reply) turns

-- the sessions that are over, with those that the reply closes
abbrev pub with_closed : List ℕ → Option Reply → List ℕ
with_closed over None = over
with_closed over (Some reply) = if reply.closes then over_once over reply.session else over

-- and with the one that is gone
abbrev pub with_gone : List ℕ → MemStep → List ℕ
with_gone over (Opened session) = over
with_gone over (Bytes session bytes) = over
with_gone over (Gone session) = over_once over session

-- the same by the number that is gone
abbrev pub with_number : List ℕ → Option ℕ → List ℕ
with_number over None = over
with_number over (Some session) = over_once over session

-- the sessions that are over after the steps
abbrev pub over_after : List ℕ → List ServedStep → List ℕ
over_after over [] = over
over_after over (turn ∷ turns) = over_after (with_gone (with_closed over turn.reply) turn.step) turns

-- how many sessions are closed or gone
abbrev pub count_over : List ServedStep → ℕ
count_over turns = length (over_after [] turns)

-- the steps came one after another, each whole or in part
abbrev pub HaveCome : Option (List MemStep) → List MemStep → Option (List MemStep) → Type 0
HaveCome old [] new = new ≡ old
HaveCome old (step ∷ steps) new = (middle : Option (List MemStep)) × GivesSome old middle step × HaveCome middle steps new

-- the dock gave these steps
pub record GaveSteps (old new : DockView) (steps : List MemStep) : Type 0 where
  pub taken : new.taken ≡ option_map (λ taken. taken ++ steps) old.taken
  pub comes : HaveCome old.coming steps new.coming

-- calls are sure, these bytes fit for each session, and so many sessions can be ended
pub record HasRoomFor (dock : DockView) (sent : ℕ → List ℕ) (closed : List ℕ) : Type 0 where
  pub room : (session : ℕ) → (room : ℕ) × (dock.room session ≡ Some room) × (length (sent session) ≤ room)
  pub ends : (ends : ℕ) × (dock.ends ≡ Some ends) × (length closed ≤ ends)

-- the dock lasts for the replies to these turns
abbrev pub Lasts : DockView → List ServedStep → Type 0
Lasts dock turns = HasRoomFor dock (λ session. sent_to session turns) (closed_in turns)

-- so many further sessions can be ended where these were
abbrev pub ends_after : List ℕ → Option ℕ → Option ℕ
ends_after closed ends = option_map (λ ends. ends - length closed) ends

-- the session that a reply closes is ended with all that it was sent until then: how many bytes
abbrev pub ended_with : (sent : ℕ → Option (List ℕ)) → Option Reply → Option (List ℕ) → Option (List ℕ)
ended_with sent None counts = counts
ended_with sent (Some reply) counts = if reply.closes then ended_after counts (sent reply.session) else counts

-- the same turn by turn, from what each session was sent before
abbrev pub ended_in : (sent : ℕ → Option (List ℕ)) → Option (List ℕ) → List ServedStep → Option (List ℕ)
ended_in sent counts [] = counts
ended_in sent counts (turn ∷ turns) =
    let now : ℕ → Option (List ℕ) = λ session. append_known (sent session) (bytes_to session turn.reply) in
    ended_in now (ended_with now turn.reply counts) turns

-- with a fault of the dock the relay was given each step, and none was left; with another the count of faults stays
abbrev pub Spends : ServeFault → (more : List MemStep) → (old new : DockView) → Type 0
Spends DockFault more old new = (more ≡ []) × IfSome new.coming (λ coming. coming ≡ [])
Spends fault more old new = new.faults ≡ old.faults

-- each step was given to the relay, and each reply was sent whole, to its session alone; those that close theirs ended it
pub record Serves (old_relay new_relay : Relay) (old new : DockView) (turns : List ServedStep) : Type 0 where
  pub runs : RelayRuns old_relay (map event_of (steps_of turns)) new_relay (replies_of turns)
  pub gave : GaveSteps old new (steps_of turns)
  pub sent : (session : ℕ) → Took (out_to session old) (out_to session new) (sent_to session turns)
  pub ended : new.ended ≡ option_map (λ ended. ended ++ closed_in turns) old.ended
  -- nothing is sent to a session once its closing reply was sent and it was ended, and it is not ended before
  pub ended_at : new.ended_at ≡ ended_in old.sent old.ended_at turns
  pub ends : new.ends ≡ ends_after (closed_in turns) old.ends
  pub listens : new.listens ≡ old.listens
  pub later : old.faults ≤ new.faults
  -- no call fails on a dock that lasts
  pub counts_no_fault : Lasts old turns → new.faults ≡ old.faults

-- a front of the sessions was ended
pub record EndedFront (old new : DockView) (sessions : List ℕ) : Type 0 where
  pub count : ℕ
  pub ended : new.ended ≡ option_map (λ ended. ended ++ take count sessions) old.ended

-- the same up to a fault: the relay stands after a front of the events, and each session was sent a front of its bytes
pub record ServesPartly (fault : ServeFault) (old_relay new_relay : Relay) (old new : DockView) (turns : List ServedStep) : Type 0 where
  -- the step that the relay was not given, where there is one
  pub more : List MemStep
  pub few : length more ≤ 1
  pub runs : RelayRuns old_relay (map event_of (steps_of turns)) new_relay (replies_of turns)
  pub gave : GaveSteps old new (steps_of turns ++ more)
  pub sent : (session : ℕ) → TookFront (out_to session old) (out_to session new) (sent_to session turns)
  pub ended : EndedFront old new (closed_in turns)
  pub listens : new.listens ≡ old.listens
  pub later : old.faults ≤ new.faults
  -- a dock that lasts for the replies fails only where no step is left
  pub counts_no_fault : Lasts old turns → Spends fault more old new

-- no step was asked for once so many sessions were over
abbrev pub NoneAfter : ℕ → List ServedStep → Type 0
NoneAfter sessions turns = (count : ℕ) → count < length turns → count_over (take count turns) < sessions

-- one turn or none, up to a fault; a dock that lasts fails only as a step is asked for
pub record TurnStops (fault : ServeFault) (old_relay new_relay : Relay) (old new : DockView) : Type 0 where
  pub turns : List ServedStep
  pub partly : ServesPartly fault old_relay new_relay old new turns
  pub few : length turns + length partly.more ≤ 1
  pub none_begun : Lasts old turns → fault ≡ DockFault → turns ≡ []

-- each turn but the last was served whole: no step is asked for before the reply to the one before it was sent
pub record StopsInTurn (fault : ServeFault) (old_relay new_relay : Relay) (old new : DockView) (turns : List ServedStep) : Type 0 where
  pub served : List ServedStep
  pub between : Relay
  pub middle : DockView
  pub serves : Serves old_relay between old middle served
  pub stops : TurnStops fault between new_relay middle new
  pub turns_are : turns ≡ served ++ stops.turns

-- serving stopped at a fault, with at most so many steps taken; a dock that lasts fails only before so many sessions are over
pub record ServingStops (sessions steps : ℕ) (fault : ServeFault) (old_relay new_relay : Relay) (old new : DockView) : Type 0 where
  pub turns : List ServedStep
  pub partly : ServesPartly fault old_relay new_relay old new turns
  pub few : length turns + length partly.more ≤ steps
  pub in_turn : StopsInTurn fault old_relay new_relay old new turns
  -- another fault than TooLong comes before all steps that are allowed were taken and served; the last of them may be the one
  -- at which memory runs out
  pub allowed : fault ≢ TooLong → length in_turn.served < steps
  pub none_after : NoneAfter sessions turns
  -- nor was the step asked for that the relay was not given
  pub asked : 0 < length partly.more → count_over turns < sessions
  pub not_over : Lasts old turns → fault ≡ DockFault → count_over turns < sessions

-- The first of the steps to come bring so many sessions to their end, and the dock lasts for the replies to them. The steps
-- are those that stand there, in whatever parts the dock gives them.
pub record DockSuffices (sessions : ℕ) (relay : Relay) (dock : DockView) : Type 0 where
  pub turns : List ServedStep
  pub behind : List MemStep
  pub coming : dock.coming ≡ Some (steps_of turns ++ behind)
  pub last : Relay
  pub runs : RelayRuns relay (map event_of (steps_of turns)) last (replies_of turns)
  pub over : sessions ≤ count_over turns
  pub lasts : Lasts dock turns

-- a dock that suffices counts no fault, and none is reported
pub record BlamesDock {T : Type 0} (sessions : ℕ) (relay : Relay) (old new : DockView) (result : Result T ServeFault) : Type 0 where
  pub counts_no_fault : DockSuffices sessions relay old → new.faults ≡ old.faults
  pub sure : DockSuffices sessions relay old → result ≢ Err DockFault

-- turns that send the same to each session, and bring the same sessions to their end
pub record SameTurns (a b : List ServedStep) : Type 0 where
  pub sent : (session : ℕ) → sent_to session a ≡ sent_to session b
  pub closed : closed_in a ≡ closed_in b
  pub over : over_after [] a ≡ over_after [] b

-- The parts in which a dock gives its steps, to the last, count as joined. Where a last piece was given in part, the steps are
-- those up to there, with that part for the piece.
pub record PartsCountAsJoined : Type 0 where
  pub same : (start one other : Relay) (whole parts : List ServedStep) → HaveCome (Some (steps_of whole)) (steps_of parts) (Some [])
      → RelayRuns start (map event_of (steps_of whole)) one (replies_of whole)
      → RelayRuns start (map event_of (steps_of parts)) other (replies_of parts)
      → (one ≡ other) × SameTurns whole parts
