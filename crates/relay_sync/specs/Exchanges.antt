-- Replicas that exchange over a relay: who hears its log from the start, after all have sent, accepts the closure of
-- the union of what all of them kept.
use Rattle.std.specs.Prelude.{◌≡◌, ◌≢◌, ℕ, ◌<◌, ◌≤◌, ◌^◌, nat_eq, All, Bool, IfSome, List, [], ◌∷◌, ◌++◌, Option, flat_map, length, map}
use Rattle.std.specs.List.{filter}
use Rattle.fugue_ids.specs.declared.op.Op.{Op}
use Rattle.origin_model.specs.declared.relay.Event.{Event}
use Rattle.origin_model.specs.declared.relay.Event.TheVariants.{Gone, Opened, Piece}
use Rattle.origin_model.specs.declared.relay.Reply.{Reply}
use Rattle.origin_model.specs.frames.Frames.{HasFrame}
use Rattle.origin_model.specs.order.Laws.{IsPartOf, SameOps}
use Rattle.origin_model.specs.relay.Relay.{Relay, RelayRuns, new_relay}
use Rattle.origin_model.specs.relay.Session.{refusal_message, reply_from}
use Rattle.origin_model.specs.taking.Closure.{Consistent, Converged, Taker, given_by, given_by_all, kept_by, kept_by_all, taker_state}
use Rattle.origin_model.specs.taking.Taking.{Held, closure}
use Rattle.relay_core.specs.OpLogs.{IsLogOf}
use Rattle.relay_core.specs.declared.relay.TheConstants.{MOST_LOGGED}
use Rattle.replica_core.specs.Keeping.{OpsTaking, taking_begun}
use Rattle.relay_sync.specs.Outcomes.{Ended, HearsTo}
use Rattle.relay_sync.specs.Saying.{request_for}

-- a session with this number, in which a replica sends what it holds, in pieces, but for the bytes that are unsent when it breaks off
pub record Sending : Type 0 where
  pub number : ℕ
  pub cursor : ℕ
  pub replica : Taker
  pub pieces : List (List ℕ)
  pub unsent : List ℕ

-- the pieces joined and what is unsent are the replica's request, and frames can stand for its operations
pub record IsHonestRequest (s : Sending) : Type 0 where
  pub cursor_fits : s.cursor < 2 ^ 32
  pub have_frames : All HasFrame (given_by s.replica)
  pub joined : flat_map (λ piece. piece) s.pieces ++ s.unsent ≡ request_for s.cursor (taker_state s.replica)

-- the whole request was sent
abbrev pub is_whole : Sending → Bool
is_whole s = nat_eq (length s.unsent) 0

-- the peer of a session is gone where some of the request is unsent
abbrev pub gone_with : ℕ → (unsent : List ℕ) → List Event
gone_with n [] = []
gone_with n (byte ∷ unsent) = Gone n ∷ []

-- the session as a relay sees it
abbrev pub events_of : Sending → List Event
events_of s = Opened s.number ∷ map (λ piece. Piece s.number piece) s.pieces ++ gone_with s.number s.unsent

-- the session that an event is of
abbrev pub session_of : Event → ℕ
session_of (Opened n) = n
session_of (Piece n bytes) = n
session_of (Gone n) = n

-- the events are those of the sessions, interleaved in any way; sessions with one number follow one another
abbrev pub AreInterleaved : List Sending → List Event → Type 0
AreInterleaved sendings events =
    (n : ℕ) → filter (λ event. nat_eq (session_of event) n) events
    ≡ flat_map events_of (filter (λ (s : Sending). nat_eq s.number n) sendings)

-- no session was refused
abbrev pub NoneRefused : List (Option Reply) → Type 0
NoneRefused replies = All (λ o. IfSome o (λ (reply : Reply). (code : ℕ) → reply.bytes ≢ refusal_message code)) replies

-- a new relay to which replicas sent what they held, in sessions of which none was refused
pub record IsSentTo (limit : ℕ) (sendings : List Sending) (relay : Relay) : Type 0 where
  pub within : limit ≤ MOST_LOGGED
  pub honest : All IsHonestRequest sendings
  pub events : List Event
  pub interleaved : AreInterleaved sendings events
  pub replies : List (Option Reply)
  pub runs : RelayRuns (new_relay limit) events relay replies
  pub none_refused : NoneRefused replies

-- the replicas of the sessions, and of those that are whole
abbrev pub beginners : List Sending → List Taker
beginners sendings = map (λ (s : Sending). s.replica) sendings

-- those whose whole request was sent
abbrev pub senders : List Sending → List Taker
senders sendings = beginners (filter is_whole sendings)

-- the log has all operations that were sent in whole sessions, and none but those of the sessions
abbrev pub LogsAreWhatWasSent : Type 0
LogsAreWhatWasSent =
    (limit : ℕ) (sendings : List Sending) (relay : Relay) → IsSentTo limit sendings relay
    → (ops : List Op) × IsLogOf relay.log ops × IsPartOf (given_by_all (senders sendings)) ops
    × IsPartOf ops (given_by_all (beginners sendings))

-- a replica heard a log from its start to its end, and what waited always had room
pub record HearsLog (log : List (List ℕ)) (r : Taker) (after : Held) : Type 0 where
  pub number : ℕ
  pub kept : List Op
  pub ended : OpsTaking
  pub count : ℕ
  pub hears : HearsTo (reply_from log 0)
      (taking_begun (record { number = number; hold = r.hold; most = r.most; held = taker_state r }) kept) ended (Ended count)
  pub none_full : ended.counts.full ≡ 0
  pub after_is : after ≡ ended.replica.held

-- who broke off kept nothing that no sender kept, as where each of them sent again
abbrev pub AllAreSent : List Sending → Type 0
AllAreSent sendings = IsPartOf (kept_by_all (beginners sendings)) (kept_by_all (senders sendings))

-- it has accepted exactly the closure of the union of what it and all senders kept
abbrev pub HearersHaveTheClosure : Type 0
HearersHaveTheClosure =
    (limit : ℕ) (sendings : List Sending) (relay : Relay) (r : Taker) (after : Held) → IsSentTo limit sendings relay → AllAreSent sendings
    → Consistent (kept_by r ++ kept_by_all (senders sendings)) → HearsLog relay.log r after
    → SameOps after.history (closure (kept_by r ++ kept_by_all (senders sendings)))

-- so any two that had kept nothing else than the senders accept the same and print the same
abbrev pub HearersConverge : Type 0
HearersConverge =
    (limit : ℕ) (sendings : List Sending) (relay : Relay) (a b : Taker) (after_a after_b : Held) → IsSentTo limit sendings relay
    → AllAreSent sendings
    → Consistent (kept_by_all (senders sendings)) → IsPartOf (kept_by a) (kept_by_all (senders sendings))
    → IsPartOf (kept_by b) (kept_by_all (senders sendings))
    → HearsLog relay.log a after_a → HearsLog relay.log b after_b → Converged after_a after_b
