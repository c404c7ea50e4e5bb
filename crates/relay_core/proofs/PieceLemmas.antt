-- What a piece of an open session comes to, as a step of the relay.
use Rattle.std.proofs.Common.{List, ap, refl, sym, ℕ, ◌∙◌, ◌≡◌}
use Rattle.std.specs.Prelude.{None, Option, Some}
use Rattle.std.specs.FinMap as finite
use Rattle.origin_model.specs.declared.relay.Reply.{Reply}
use Rattle.origin_model.specs.relay.Relay.{Relay, Sessions, StepsPiece, reply_of, sessions_after}
use Rattle.origin_model.specs.relay.Session.{Closes, Goes, Next, Taken, TakesAll}
use Rattle.relay_core.specs.Sessions.{SessionBecomes, KeepsSession, reply_list, reading_of, session_kept}
use Rattle.relay_core.specs.declared.sessions.Session.{Session}

-- the session is settled
is_settled : (n : ℕ) (next : Next) (kept : Option Session) (sessions : Sessions) → KeepsSession kept next → session_kept n sessions kept ≡ sessions_after n sessions next
is_settled n (Goes reading) None sessions h = absurd (cc h)
is_settled n (Goes reading) (Some session) sessions h = let same : reading_of session ≡ reading = cc h in ap (finite.insert sessions n) same
is_settled n (Closes bytes) kept sessions h = ap (session_kept n sessions) h

-- a piece of an open session
pub piece_steps : (limit n : ℕ) (log : List (List ℕ)) (sessions : Sessions) (session : Session) (piece : List ℕ) (new_log : List (List ℕ)) (new_sessions : Sessions)
    (kept : Option Session) (replies : List Reply)
    → Some (reading_of session) ≡ finite.get sessions n
    → ((after : Taken) × TakesAll limit piece (record { log = log; next = Goes (reading_of session) }) after × (new_log ≡ after.log) × SessionBecomes n after.next kept replies)
    → new_sessions ≡ session_kept n sessions kept
    → (reply : Option Reply) × (replies ≡ reply_list reply)
    × StepsPiece (record { limit = limit; log = log; sessions = sessions }) n (finite.get sessions n) piece (record { limit = limit; log = new_log; sessions = new_sessions }) reply
piece_steps limit n log sessions session piece new_log new_sessions kept replies found h settles =
    let after : Taken = h.0 in
    let are : new_sessions ≡ sessions_after n sessions after.next = settles ∙ is_settled n after.next kept sessions h.3.0 in
    let new : Relay = record { limit = limit; log = new_log; sessions = new_sessions } in (
      reply_of n after.next,
      h.3.1,
      rw (sym found) (record { taken = after; takes = h.1; new_is = λ i. record { limit = limit; log = h.2 i; sessions = are i }; reply_is = refl }),
    )
