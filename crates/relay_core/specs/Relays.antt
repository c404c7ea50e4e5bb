-- A relay as contracts see it, and what a step of it does.
use Rattle.std.specs.Prelude.{◌≡◌, ℕ, Option, List}
use Rattle.std.specs.Coded.{Coded, code_by, coded_list, coded_option, coded×, coded_ℕ}
use Rattle.std.specs.FinMap as finite
use Rattle.std.proofs.Common.{refl}
use Rattle.origin_model.specs.declared.relay.Event.{Event}
use Rattle.origin_model.specs.declared.relay.Reply.{Reply}
use Rattle.origin_model.specs.relay.Relay.{Relay, Sessions, RelaySteps}
use Rattle.origin_model.specs.relay.Session.{SessionReading}
use Rattle.relay_core.specs.Sessions.{reply_list}

-- a reading has a code, so that sessions may be kept in a map
abbrev pub coded_reading : Coded SessionReading
coded_reading =
    code_by (Option ℕ × List ℕ) (coded× (coded_option coded_ℕ) (coded_list coded_ℕ)) (λ r. (r.cursor, r.rest))
    (λ p. record { cursor = p.0; rest = p.1 }) (λ _. refl)

-- a relay has a code
abbrev pub coded_relay : Coded Relay
coded_relay =
    code_by (ℕ × (List (List ℕ) × Sessions))
    (coded× coded_ℕ (coded× (coded_list (coded_list coded_ℕ)) (finite.code coded_ℕ coded_reading)))
    (λ r. (r.limit, (r.log, r.sessions)))
    (λ p. record { limit = p.0; log = p.1.0; sessions = p.1.1 }) (λ _. refl)

-- the event took the relay from old to new, and these are the replies
pub record Stepped (old : Relay) (event : Event) (new : Relay) (replies : List Reply) : Type 0 where
  pub reply : Option Reply
  pub steps : RelaySteps old event new reply
  pub replies_are : replies ≡ reply_list reply
