-- What the answers of a replica say.
use Rattle.std.specs.Prelude.{◌≡◌, ℕ, ◌<◌, ◌+◌, ◌^◌, ◌∷◌, Bool, true, false, ◌⊎◌, List, Option, Some, None, Result, Ok, Err, OnOk, OnErr}
use Rattle.fugue_ids.specs.declared.op.Op.{Op}
use Rattle.origin_model.specs.operations.Verdict.{verdict}
use Rattle.origin_model.specs.declared.operations.Verdict.TheVariants.{Ready}
use Rattle.origin_model.specs.declared.taking.Tally.{Tally}
use Rattle.origin_model.specs.taking.Taking.{Held, Answer, Again, Conflict, Stray, TooMany, Accepted, Full, Waits, answer, held_after}
use Rattle.origin_model.specs.taking.Taking.{is_kept, settle_step, earliest, settle, intake, answer_counted, settling_counted, IsSettled}
use Rattle.replica_core.specs.declared.replica.Taken.{Taken}
use Rattle.replica_core.specs.declared.replica.Taken.TheVariants.{Accepted as TakenAccepted, Waits as TakenWaits, Again as TakenAgain}
use Rattle.replica_core.specs.declared.replica.Settled.{Settled}
use Rattle.replica_core.specs.declared.replica.Settled.TheVariants.{Accepted as SettledAccepted, DroppedStray}
use Rattle.replica_core.specs.declared.replica.DeliverFault.{DeliverFault}
use Rattle.replica_core.specs.declared.replica.DeliverFault.TheVariants.{Conflict as RefusedConflict, Stray as RefusedStray}
use Rattle.replica_core.specs.declared.replica.DeliverFault.TheVariants.{Full as RefusedFull, TooMany as RefusedTooMany, NoMemory}
use Rattle.replica_core.specs.declared.keeping.FeedFault.{FeedFault}
use Rattle.replica_core.specs.declared.keeping.FeedFault.TheVariants.{TooMany as FedTooMany, NoMemory as FedNoMemory}
use Rattle.replica_core.specs.Settling.{SettlesTo}
use Rattle.origin_model.specs.edits.State.{State}

-- a delivery tells its answer, and a refusal hands the operation back: an allocation failure comes only where it would be kept
abbrev pub Answers : (hold most : ℕ) → Op → Answer → Result Taken DeliverFault → Type 0
Answers hold most op a (Ok TakenAccepted) = a ≡ Accepted
Answers hold most op a (Ok TakenWaits) = a ≡ Waits
Answers hold most op a (Ok TakenAgain) = a ≡ Again
Answers hold most op a (Err (RefusedConflict back)) = (a ≡ Conflict) × (back ≡ op)
Answers hold most op a (Err (RefusedStray back i)) = (a ≡ Stray i) × (back ≡ op)
Answers hold most op a (Err (RefusedFull back limit)) = (a ≡ Full) × (back ≡ op) × (limit ≡ hold)
Answers hold most op a (Err (RefusedTooMany back limit)) = (a ≡ TooMany) × (back ≡ op) × (limit ≡ most)
Answers hold most op a (Err (NoMemory back)) = (is_kept a ≡ true) × (back ≡ op)

-- the earliest decided operation left the waiting ones, or there was none
abbrev pub Settles : Held → Held → Option Settled → Type 0
Settles old new None = IsSettled old × (new ≡ old)
Settles old new (Some (SettledAccepted op)) =
    (settle_step old ≡ Some new) × (earliest old.history old.waiting ≡ Some (op, new.waiting)) × (new.history ≡ op ∷ old.history)
Settles old new (Some (DroppedStray op)) =
    (settle_step old ≡ Some new) × (earliest old.history old.waiting ≡ Some (op, new.waiting)) × (new.history ≡ old.history)

-- the next waiting operation to leave is Ready: it joins the history, which takes memory
pub record JoinsNext (s : Held) : Type 0 where
  pub op : Op
  pub others : List Op
  pub next : earliest s.history s.waiting ≡ Some (op, others)
  pub ready : verdict s.history op ≡ Ready

-- each number of the tally is below 2,147,483,648
pub record StaysBelow (tally : Tally) : Type 0 where
  pub accepted : tally.accepted < 2 ^ 31
  pub repeated : tally.repeated < 2 ^ 31
  pub conflict : tally.conflict < 2 ^ 31
  pub stray : tally.stray < 2 ^ 31
  pub full : tally.full < 2 ^ 31

-- how many operations the tally counts
abbrev pub total : Tally → ℕ
total tally = tally.accepted + tally.repeated + tally.conflict + tally.stray + tally.full

-- the operation stands and settling stopped on its way, before a waiting operation that joins: the tally counts what
-- stands, and what is left of settling ends where all of it would have ended
pub record StandsPartly (hold most : ℕ) (old new : Held) (op : Op) (before after : Tally) : Type 0 where
  pub steps : SettlesTo (held_after (answer hold most old op) old op) new
  pub counted : after ≡ settling_counted (held_after (answer hold most old op) old op) new (answer_counted (answer hold most old op) before)
  pub stopped : JoinsNext new
  pub goes_on : settle new ≡ intake hold most old op

-- what a fault of `feed` leaves: an allocation failure comes only where the operation would be kept
abbrev pub LeavesAfterFault : (old new : State) → Op → (before after : Tally) → FeedFault → Type 0
LeavesAfterFault old new op before after (FedTooMany limit) = (limit ≡ old.most) × (new ≡ old) × (after ≡ before)
LeavesAfterFault old new op before after FedNoMemory =
    (is_kept (answer old.hold old.most old.held op) ≡ true) × (new ≡ record old { held = new.held })
    × (((new ≡ old) × (after ≡ before)) ⊎ StandsPartly old.hold old.most old.held new.held op before after)

-- a step that is counted, or there was none
abbrev pub IsTallied : (old new : Held) → (before after : Tally) → Bool → Type 0
IsTallied old new before after true = (settle_step old ≡ Some new) × (after ≡ settling_counted old new before)
IsTallied old new before after false = IsSettled old × (new ≡ old) × (after ≡ before)

-- settling has come from one state to another, and the tally counts its steps
pub record SettlesOn (old new : State) (before after : Tally) : Type 0 where
  pub steps : SettlesTo old.held new.held
  pub counted : after ≡ settling_counted old.held new.held before
  pub others : new ≡ record old { held = new.held }

-- settling went to its end, or stopped for lack of memory, before a waiting operation that joins
pub record SettlesOrStops {T E : Type 0} (old new : State) (before after : Tally) (result : Result T E) : Type 0 where
  pub way : SettlesOn old new before after
  pub ended : OnOk result (IsSettled new.held)
  pub stopped : OnErr result (JoinsNext new.held)
