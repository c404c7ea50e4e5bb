-- The log of a relay, as operations.
use Rattle.std.specs.Prelude.{◌≡◌, ◌≢◌, ℕ, ◌≤◌, All, AllPairs, List, ◌++◌, Option, drop, flat_map, length, map}
use Rattle.fugue_ids.specs.declared.op.Op.{Op}
use Rattle.origin_model.specs.declared.relay.Event.{Event}
use Rattle.origin_model.specs.declared.relay.Reply.{Reply}
use Rattle.origin_model.specs.frames.Frames.{HasFrame, frame}
use Rattle.origin_model.specs.relay.Relay.{IsRelayState, Relay, RelayRuns}
use Rattle.origin_model.specs.relay.Session.{reply_from}

-- the log has the own frames of these operations, none of them twice
pub record IsLogOf (log : List (List ℕ)) (ops : List Op) : Type 0 where
  pub frames_are : log ≡ map frame ops
  pub have_frames : All HasFrame ops
  pub once : AllPairs (λ a b. a ≢ b) log

-- the log of a relay that any events lead to is one of operations, no more than the limit
abbrev pub LogsAreOfOperations : Type 0
LogsAreOfOperations =
    (limit : ℕ) (events : List Event) (relay : Relay) → IsRelayState limit events relay
    → ((ops : List Op) × IsLogOf relay.log ops) × (length relay.log ≤ limit)

-- further events put frames after those of the log, and take none away
abbrev pub LogsGrow : Type 0
LogsGrow =
    (limit : ℕ) (before : List Event) (old new : Relay) (events : List Event) (replies : List (Option Reply))
    → IsRelayState limit before old → RelayRuns old events new replies
    → (more : List (List ℕ)) × (new.log ≡ old.log ++ more)

-- A reply tells the log's length. Whoever begins there the next time gets what came since: the frames that he got and
-- those of the next reply are those of a reply from his first cursor
abbrev pub RepliesJoin : Type 0
RepliesJoin =
    (cursor : ℕ) (log more : List (List ℕ)) → cursor ≤ length log
    → reply_from (log ++ more) cursor ≡ flat_map (λ frame. frame) (drop cursor log) ++ reply_from (log ++ more) (length log)
