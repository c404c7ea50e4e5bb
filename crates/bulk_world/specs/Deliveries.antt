-- The call by which a replica takes in an operation, as an event of a world: what `put`, `cut`, `add`, `drop_section` and
-- `note` are to edits and notings, `feed` is to deliveries.
use Rattle.std.specs.Prelude.{◌≡◌, ◌≢◌, ◌↔◌, ◌⊎◌, Bool, Result, Err, IfErr, OnOk}
use Rattle.fugue_ids.specs.declared.op.Op.{Op}
use Rattle.origin_model.specs.declared.taking.Tally.{Tally}
use Rattle.origin_model.specs.edits.State.{State}
use Rattle.origin_model.specs.taking.Taking.{IsSettled, TooMany as IsOneTooMany, answer, intake, settle}
use Rattle.list_spec.specs.Worlds.{replica_after_delivery}
use Rattle.replica_core.specs.Answering.{LeavesAfterFault}
use Rattle.replica_core.specs.declared.keeping.FeedFault.{FeedFault}
use Rattle.replica_core.specs.declared.keeping.FeedFault.TheVariants.{NoMemory, TooMany}

-- what `feed` promises of the operation that it is given: the proof that a world hears one ties this to its contract
pub record IsFeedCall (op : Op) (old new : State) (before after : Tally) (result : Result Bool FeedFault) : Type 0 where
  pub held : OnOk result (new ≡ record old { held = intake old.hold old.most old.held op })
  pub too_many : (result ≡ Err (TooMany old.most)) ↔ (answer old.hold old.most old.held op ≡ IsOneTooMany)
  pub err : IfErr result (λ fault. LeavesAfterFault old new op before after fault)

-- the replica with what waits settled to the end
abbrev pub settled_replica : State → State
settled_replica s = record s { held = settle s.held }

-- the call is a delivery of the world or, where memory ran out, no event of it, or one whose settling is not over yet
pub record IsDelivery (op : Op) (old new : State) (result : Result Bool FeedFault) : Type 0 where
  pub is : result ≢ Err NoMemory → new ≡ replica_after_delivery op old
  pub partly : result ≡ Err NoMemory → (new ≡ old) ⊎ (settled_replica new ≡ replica_after_delivery op old)

-- every such call to a settled replica is a delivery
abbrev pub CallsAreDeliveries : Type 0
CallsAreDeliveries =
    (op : Op) (old new : State) (before after : Tally) (result : Result Bool FeedFault) → IsSettled old.held
    → IsFeedCall op old new before after result → IsDelivery op old new result
