-- A relay, and what each event does to it.
use Rattle.std.specs.Prelude.{◌≡◌, ℕ, true, Option, Some, None, List, [], ◌∷◌, if◌then◌else◌}
use Rattle.std.specs.FinMap as finite
use Rattle.std.specs.Ordering.{nat_cmp}
use Rattle.origin_model.specs.declared.relay.Event.{Event}
use Rattle.origin_model.specs.declared.relay.Event.TheVariants.{Gone, Opened, Piece}
use Rattle.origin_model.specs.declared.relay.Reply.{Reply}
use Rattle.origin_model.specs.relay.Session.{Closes, Goes, Next, SessionReading, Taken, TakesAll, unread}

-- the open sessions by their numbers, each with how far its text was read
abbrev pub Sessions : Type 0
Sessions = finite.FinMap nat_cmp SessionReading

-- how many operations the log takes, the log, and the open sessions
pub record Relay : Type 0 where
  pub limit : ℕ
  pub log : List (List ℕ)
  pub sessions : Sessions

-- before any event
abbrev pub new_relay : ℕ → Relay
new_relay limit = record { limit = limit; log = []; sessions = finite.empty }

-- an open session stays as it is; any other begins an empty text
abbrev pub session_opened : ℕ → Sessions → Sessions
session_opened n sessions = if finite.contains_key sessions n then sessions else finite.insert sessions n unread

-- the sessions after a piece
abbrev pub sessions_after : ℕ → Sessions → Next → Sessions
sessions_after n sessions (Goes reading) = finite.insert sessions n reading
sessions_after n sessions (Closes bytes) = finite.remove sessions n

-- the reply to a piece
abbrev pub reply_of : ℕ → Next → Option Reply
reply_of n (Goes reading) = None
reply_of n (Closes bytes) = Some (record { session = n; bytes = bytes; closes = true })

-- a piece of an open session
pub record TakesPiece (old : Relay) (n : ℕ) (reading : SessionReading) (bytes : List ℕ) (new : Relay) (reply : Option Reply) : Type 0 where
  pub taken : Taken
  pub takes : TakesAll old.limit bytes (record { log = old.log; next = Goes reading }) taken
  pub new_is : new ≡ record { limit = old.limit; log = taken.log; sessions = sessions_after n old.sessions taken.next }
  pub reply_is : reply ≡ reply_of n taken.next

-- a piece of a session that is unknown or closed changes nothing, and has no reply
abbrev pub StepsPiece : (old : Relay) → (n : ℕ) → Option SessionReading → List ℕ → (new : Relay) → Option Reply → Type 0
StepsPiece old n None bytes new reply = (new ≡ old) × (reply ≡ None)
StepsPiece old n (Some reading) bytes new reply = TakesPiece old n reading bytes new reply

-- what an event does, and the reply to it
abbrev pub RelaySteps : (old : Relay) → Event → (new : Relay) → Option Reply → Type 0
RelaySteps old (Opened n) new reply =
    (new ≡ record { limit = old.limit; log = old.log; sessions = session_opened n old.sessions }) × (reply ≡ None)
RelaySteps old (Piece n bytes) new reply = StepsPiece old n (finite.get old.sessions n) bytes new reply
RelaySteps old (Gone n) new reply =
    (new ≡ record { limit = old.limit; log = old.log; sessions = finite.remove old.sessions n }) × (reply ≡ None)

-- events one after another, and the reply to each, where there is one
abbrev pub RelayRuns : (old : Relay) → List Event → (new : Relay) → List (Option Reply) → Type 0
RelayRuns old [] new replies = (new ≡ old) × (replies ≡ [])
RelayRuns old (event ∷ events) new replies =
    (middle : Relay) × (reply : Option Reply) × (rest : List (Option Reply)) × RelaySteps old event middle reply
    × RelayRuns middle events new rest × (replies ≡ reply ∷ rest)

-- the relay is as these events leave a new one
pub record IsRelayState (limit : ℕ) (events : List Event) (relay : Relay) : Type 0 where
  pub replies : List (Option Reply)
  pub runs : RelayRuns (new_relay limit) events relay replies
