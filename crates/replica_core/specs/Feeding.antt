-- Taking in operations one after another by one call, as the Texts of a run or Deletes of neighbours.
use Rattle.std.specs.Prelude.{◌≡◌, ◌↔◌, ◌<◌, ◌+◌, ◌++◌, ◌∷◌, List, false, length, ℕ}
use Rattle.fugue_ids.specs.Identifiers.{Identifier}
use Rattle.fugue_ids.specs.Runs.{id_after}
use Rattle.fugue_ids.specs.declared.op.Op.{Op}
use Rattle.origin_model.specs.declared.taking.Tally.{Tally}
use Rattle.origin_model.specs.operations.History.{holds}
use Rattle.origin_model.specs.taking.Taking.{MeetsNoLimit, Held, IsSettled, TooMany, answer, held_from, kept_from, tally_from}
use Rattle.origin_model.specs.edits.Edits.{history_with}
use Rattle.origin_model.specs.edits.State.{State}
use Rattle.causal_inbox.specs.Naming.{AreConcerned}
use Rattle.replica_core.specs.declared.keeping.FeedFault.{FeedFault}
use Rattle.replica_core.specs.declared.keeping.FeedFault.TheVariants.{TooMany as FedTooMany}
use Rattle.replica_core.specs.Edits.{CanJoin}
use Rattle.replica_core.specs.Keeping.{LeavesUnkept}
use Rattle.replica_core.specs.Answering.{LeavesAfterFault, total}

-- none of the n identifiers from this one on is held
abbrev pub AreUnheld : List Op → Identifier → ℕ → Type 0
AreUnheld history first n = (k : ℕ) → k < n → holds history (id_after first k) ≡ false

-- nothing accepted has one of the n identifiers from this one on, and nothing that waits has or names one
pub record AreUntouched (s : Held) (first : Identifier) (n : ℕ) : Type 0 where
  pub unheld : AreUnheld s.history first n
  pub unnamed : AreConcerned s.waiting first n → ⊥

-- the operations were taken in one after another and counted, and each found its place
pub record TakesInAll (old new : State) (ops : List Op) (before after : Tally) : Type 0 where
  pub has_place : MeetsNoLimit old.hold old.most old.held ops
  pub replica : new ≡ record old { held = held_from old.hold old.most old.held ops }
  pub counts : after ≡ tally_from old.hold old.most old.held ops before
  pub settled : IsSettled new.held
  pub once : total after + length new.held.waiting ≡ total before + length old.held.waiting + length ops

-- the first operations were taken in, and the next one met a fault: that there are too many exactly where that is its answer
pub record TakesInSome (ops : List Op) (old : State) (before : Tally) (fault : FeedFault) : Type 0 where
  pub front : List Op
  pub op : Op
  pub more : List Op
  pub parts : ops ≡ front ++ op ∷ more
  -- what those before it left
  pub reached : State
  pub counts : Tally
  pub taken : TakesInAll old reached front before counts
  pub too_many : (fault ≡ FedTooMany old.most) ↔ (answer reached.hold reached.most reached.held op ≡ TooMany)

-- a fault of `feed_run` or `feed_deletes`: the operation left what its own fault of `feed` leaves
pub record StopsFeeding (ops : List Op) (old new : State) (before after : Tally) (fault : FeedFault) : Type 0 where
  pub some : TakesInSome ops old before fault
  pub leaves : LeavesAfterFault some.reached new some.op some.counts after fault

-- a fault of `feed_run_keeping` or `feed_deletes_keeping`: the operation left what its own fault of `feed_keeping`
-- leaves, and what was kept of those before it is after the kept ones
pub record StopsKeeping (ops : List Op) (old new : State) (before after : Tally) (kept kept_after : List Op)
    (fault : FeedFault) : Type 0 where
  pub some : TakesInSome ops old before fault
  pub leaves : LeavesUnkept some.reached new some.op some.counts after fault
  pub kept_are : kept_after ≡ kept ++ kept_from old.hold old.most old.held some.front

-- operations go in at once: each is accepted in its turn, and nothing that waits is decided by them
pub record GoesAtOnce (s : State) (ops : List Op) : Type 0 where
  pub can : CanJoin s ops
  pub has_place : MeetsNoLimit s.hold s.most s.held ops
  pub held : held_from s.hold s.most s.held ops ≡ record { history = history_with s.held.history ops; waiting = s.held.waiting }
  pub settled : IsSettled (held_from s.hold s.most s.held ops)
  pub kept : kept_from s.hold s.most s.held ops ≡ ops
  pub counted : (t : Tally) → tally_from s.hold s.most s.held ops t ≡ record t { accepted = t.accepted + length ops }
