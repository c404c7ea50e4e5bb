-- Laws of a relay: events have one outcome, and what it does is what the whole texts of its sessions say.
use Rattle.std.specs.Prelude.{◌≡◌, ◌↔◌, ℕ, Option, List}
use Rattle.origin_model.specs.declared.relay.Event.{Event}
use Rattle.origin_model.specs.declared.relay.Reply.{Reply}
use Rattle.origin_model.specs.relay.Relay.{Relay, RelayRuns, RelaySteps, new_relay}
use Rattle.relay_core.specs.Texts.{TellsAll, LogWithTexts, no_log_texts}

-- there is exactly one new state and one reply, for an event and for events one after another
pub record EventsComeOnce : Type 0 where
  pub one : (relay : Relay) (event : Event) (new other : Relay) (reply answer : Option Reply) → RelaySteps relay event new reply
      → RelaySteps relay event other answer → (new ≡ other) × (reply ≡ answer)
  pub some : (relay : Relay) (event : Event) → (new : Relay) × (reply : Option Reply) × RelaySteps relay event new reply
  pub one_run : (relay : Relay) (events : List Event) (new other : Relay) (replies answers : List (Option Reply))
      → RelayRuns relay events new replies → RelayRuns relay events other answers
      → (new ≡ other) × (replies ≡ answers)
  pub some_run : (relay : Relay) (events : List Event)
      → (new : Relay) × (replies : List (Option Reply)) × RelayRuns relay events new replies

-- what a relay comes to is what the texts of its sessions say: the same log and the same replies, in whatever pieces
-- they come, and whatever other sessions say in between
pub record SessionsByWholeTexts : Type 0 where
  pub exactly : (limit : ℕ) (events : List Event) (log : List (List ℕ)) (replies : List (Option Reply))
      → ((relay : Relay) × RelayRuns (new_relay limit) events relay replies × (relay.log ≡ log))
      ↔ ((handled : LogWithTexts) × TellsAll limit no_log_texts events handled replies × (handled.log ≡ log))
