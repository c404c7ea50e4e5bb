-- The two ends of an exchange, proved against one another: a replica reads what any relay replies, and a relay answers
-- what any replica sends.
use Rattle.std.specs.Prelude.{◌≡◌, ◌⊎◌, ℕ, ◌<◌, ◌≤◌, ◌^◌, false, All, List, ◌∷◌, ◌++◌, drop, length}
use Rattle.fugue_ids.specs.declared.op.Op.{Op}
use Rattle.origin_model.specs.declared.relay.Event.{Event}
use Rattle.origin_model.specs.frames.Frames.{HasFrame, frame}
use Rattle.origin_model.specs.operations.History.{accepted}
use Rattle.origin_model.specs.relay.Relay.{IsRelayState, Relay}
use Rattle.origin_model.specs.relay.Session.{Closes, Goes, Taken, TakesAll, is_logged, refusal_message, reply_from, unread}
use Rattle.origin_model.specs.taking.Taking.{Held}
use Rattle.relay_core.specs.OpLogs.{IsLogOf}
use Rattle.relay_core.specs.Texts.{log_with_ops}
use Rattle.relay_core.specs.declared.relay.TheConstants.{MOST_LOGGED}
use Rattle.relay_sync.specs.Outcomes.{Ended, ReadsReply}
use Rattle.relay_sync.specs.Saying.{request_for}

-- the reply from each cursor up to the log's length reads as the operations of the log from there on, and ends with the log's length
pub record IsReadable (log : List (List ℕ)) : Type 0 where
  pub ops : List Op
  pub is_log : IsLogOf log ops
  pub reads : (cursor : ℕ) → cursor ≤ length log → ReadsReply (reply_from log cursor) (drop cursor ops) (Ended (length log))

-- so it is of each log that events lead to, whoever sent them
abbrev pub RepliesAreRead : Type 0
RepliesAreRead = (limit : ℕ) (events : List Event) (relay : Relay) → limit ≤ MOST_LOGGED → IsRelayState limit events relay
    → IsReadable relay.log

-- what a replica sends: the accepted operations in their order, and then those that wait
abbrev pub sent_ops : Held → List Op
sent_ops held = accepted held.history ++ held.waiting

-- the cursor is beyond the log: the session is refused with code 3, and nothing joined
pub record IsBeyond (cursor : ℕ) (log : List (List ℕ)) (after : Taken) : Type 0 where
  pub beyond : length log < cursor
  pub answered : after ≡ record { log = log; next = Closes (refusal_message 3) }

-- there is no room for one of the operations: those before it joined, and the session is refused with code 2
pub record IsFull (limit cursor : ℕ) (log : List (List ℕ)) (ops : List Op) (after : Taken) : Type 0 where
  pub within : cursor ≤ length log
  pub before : List Op
  pub op : Op
  pub later : List Op
  pub split : ops ≡ before ++ op ∷ later
  pub lacks : is_logged (log_with_ops log before) (frame op) ≡ false
  pub full : length (log_with_ops log before) ≡ limit
  pub answered : after ≡ record { log = log_with_ops log before; next = Closes (refusal_message 2) }

-- all of the operations joined, and the reply is the log from the cursor on
pub record IsReplied (limit cursor : ℕ) (log : List (List ℕ)) (ops : List Op) (after : Taken) : Type 0 where
  pub within : cursor ≤ length log
  pub room : length (log_with_ops log ops) ≤ limit
  pub answered : after ≡ record { log = log_with_ops log ops; next = Closes (reply_from (log_with_ops log ops) cursor) }

-- a request of a replica is answered in one of these ways: it is never called no session
abbrev pub RequestsAreAnswered : Type 0
RequestsAreAnswered =
    (limit cursor : ℕ) (log : List (List ℕ)) (held : Held) (after : Taken) → cursor < 2 ^ 32 → length log ≤ limit
    → All HasFrame (sent_ops held)
    → TakesAll limit (request_for cursor held) (record { log = log; next = Goes unread }) after
    → IsBeyond cursor log after ⊎ (IsFull limit cursor log (sent_ops held) after ⊎ IsReplied limit cursor log (sent_ops held) after)
