-- Runs of events: one event more, and one run after another.
use Rattle.origin_model.proofs.Words.{List, None, Option, Some, [], ap, if◌then◌else◌, is_some, map, refl, subst, sym, ℕ, ◌++◌, ◌∷◌, ◌≡◌}
use Rattle.std.specs.FinMap as finite
use Rattle.origin_model.specs.declared.relay.Event.{Event}
use Rattle.origin_model.specs.declared.relay.Reply.{Reply}
use Rattle.origin_model.specs.declared.relay.Event.TheVariants.{Opened, Piece}
use Rattle.origin_model.specs.relay.Relay.{IsRelayState, Relay, RelayRuns, RelaySteps, StepsPiece, new_relay, reply_of, sessions_after}
use Rattle.origin_model.specs.relay.Session.{Goes, SessionReading, Taken, TakesAll, unread}

-- one run after another
pub runs-append : (xs ys : List Event) (a b c : Relay) (ps qs : List (Option Reply)) → RelayRuns a xs b ps → RelayRuns b ys c qs → RelayRuns a (xs ++ ys) c (ps ++ qs)
runs-append [] ys a b c ps qs h i = subst (λ s. RelayRuns s ys c (ps ++ qs)) h.0 (subst (λ r. RelayRuns b ys c r) (sym (ap (λ r. r ++ qs) h.1)) i)
runs-append (x ∷ xs) ys a b c ps qs h i = (h.0, h.1, h.2 ++ qs, h.3, runs-append xs ys h.0 b c h.2 qs h.4 i, ap (λ r. r ++ qs) h.5)

-- a step is a run of one event
pub step_runs : (event : Event) (a b : Relay) (reply : Option Reply) → RelaySteps a event b reply → RelayRuns a (event ∷ []) b (reply ∷ [])
step_runs event a b reply h = (b, reply, [], h, (refl, refl), refl)

-- the state after events and one more
pub state_after : (limit : ℕ) (events : List Event) (old new : Relay) (event : Event) (reply : Option Reply) → IsRelayState limit events old → RelaySteps old event new reply
    → IsRelayState limit (events ++ event ∷ []) new
state_after limit events old new event reply h i =
    record { replies = h.replies ++ reply ∷ []; runs = runs-append events (event ∷ []) (new_relay limit) old new h.replies (reply ∷ []) h.runs (step_runs event old new reply i) }

-- events, each with the relay after it and the reply to it
abbrev pub Path : Type 0
Path = List (Event × Relay × Option Reply)

abbrev pub Follows : Relay → Path → Type 0
Follows relay [] = Unit {0}
Follows relay (s ∷ path) = RelaySteps relay s.0 s.1 s.2 × Follows s.1 path

abbrev pub ends_at : Relay → Path → Relay
ends_at relay [] = relay
ends_at relay (s ∷ path) = ends_at s.1 path

-- steps one after another are a run
pub follows_runs : (relay : Relay) (path : Path) → Follows relay path → RelayRuns relay (map (λ s. s.0) path) (ends_at relay path) (map (λ s. s.2) path)
follows_runs relay [] f = (refl, refl)
follows_runs relay (s ∷ path) f = (s.1, s.2, map (λ s. s.2) path, f.0, follows_runs s.1 path f.1, refl)

-- the relay after a piece of an open session
abbrev pub after_piece : Relay → ℕ → Taken → Relay
after_piece old n taken = record { limit = old.limit; log = taken.log; sessions = sessions_after n old.sessions taken.next }

-- a piece of an open session is a step
pub piece_steps : (old : Relay) (n : ℕ) (reading : SessionReading) (bytes : List ℕ) (taken : Taken) → finite.get old.sessions n ≡ Some reading
    → TakesAll old.limit bytes (record { log = old.log; next = Goes reading }) taken → RelaySteps old (Piece n bytes) (after_piece old n taken) (reply_of n taken.next)
piece_steps old n reading bytes taken found takes =
    subst (λ o. StepsPiece old n o bytes (after_piece old n taken) (reply_of n taken.next)) (sym found) (record { taken = taken; takes = takes; new_is = refl; reply_is = refl })

-- a piece of any other session changes nothing
pub unknown_steps : (old : Relay) (n : ℕ) (bytes : List ℕ) → finite.get old.sessions n ≡ None → RelaySteps old (Piece n bytes) old None
unknown_steps old n bytes none = subst (λ o. StepsPiece old n o bytes old None) (sym none) (refl, refl)

-- a number that is not open begins an empty text
pub opened_steps : (old : Relay) (n : ℕ) → finite.get old.sessions n ≡ None
    → RelaySteps old (Opened n) (record { limit = old.limit; log = old.log; sessions = finite.insert old.sessions n unread }) None
opened_steps old n none =
    (ap (λ o. record { limit = old.limit; log = old.log; sessions = if is_some o then old.sessions else finite.insert old.sessions n unread }) (sym none), refl)

-- an open one stays as it is
pub open_stays : (old : Relay) (n : ℕ) (reading : SessionReading) → finite.get old.sessions n ≡ Some reading → RelaySteps old (Opened n) old None
open_stays old n reading found =
    (ap (λ o. record { limit = old.limit; log = old.log; sessions = if is_some o then old.sessions else finite.insert old.sessions n unread }) (sym found), refl)
