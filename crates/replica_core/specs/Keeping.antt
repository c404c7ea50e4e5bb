-- Taking in operations, with a copy of each that is kept.
use Rattle.std.specs.Prelude.{◌≡◌, ◌≢◌, ◌⊎◌, ◌+◌, ◌++◌, ◌∷◌, [], List, length}
use Rattle.fugue_ids.specs.declared.op.Op.{Op}
use Rattle.origin_model.specs.declared.taking.Tally.{Tally}
use Rattle.origin_model.specs.taking.Taking.{MeetsNoLimit, TooMany, IsSettled, answer, held_from, intake, intake_counted, kept_from}
use Rattle.origin_model.specs.taking.Taking.{no_counts, tally_from}
use Rattle.replica_core.specs.declared.keeping.FeedFault.{FeedFault}
use Rattle.replica_core.specs.declared.keeping.FeedFault.TheVariants.{TooMany as FedTooMany, NoMemory}
use Rattle.origin_model.specs.edits.State.{State}
use Rattle.replica_core.specs.Answering.{StandsPartly, total}

-- the operation was taken in and counted, and is after the kept ones where it was kept
pub record TakesInKeeping (old new : State) (op : Op) (before after : Tally) (kept kept_after : List Op) : Type 0 where
  pub replica : new ≡ record old { held = intake old.hold old.most old.held op }
  pub settled : IsSettled new.held
  pub counts : after ≡ intake_counted old.hold old.most old.held op before
  pub once : total after + length new.held.waiting ≡ total before + length old.held.waiting + 1
  pub kept_are : kept_after ≡ kept ++ kept_from old.hold old.most old.held (op ∷ [])

-- Nothing changed, or the operation stands and settling stopped on its way. An allocation failure may come before it
-- is known what the answer is, but an operation that is one too many is never reported as an allocation failure.
abbrev pub LeavesUnkept : (old new : State) → Op → (before after : Tally) → FeedFault → Type 0
LeavesUnkept old new op before after (FedTooMany limit) =
    (limit ≡ old.most) × (answer old.hold old.most old.held op ≡ TooMany) × (new ≡ old) × (after ≡ before)
LeavesUnkept old new op before after NoMemory =
    (new ≡ record old { held = new.held })
    × (((new ≡ old) × (after ≡ before)) ⊎ StandsPartly old.hold old.most old.held new.held op before after)
    × (answer old.hold old.most old.held op ≢ TooMany)

-- a replica that takes operations in, what became of them so far, and copies of those that were kept
pub record OpsTaking : Type 0 where
  pub replica : State
  pub counts : Tally
  pub kept : List Op

-- nothing was counted yet
abbrev pub taking_begun : State → List Op → OpsTaking
taking_begun replica kept = record { replica = replica; counts = no_counts; kept = kept }

-- the operations were taken in one after another, and each found its place
pub record TakesIn (old new : OpsTaking) (ops : List Op) : Type 0 where
  pub has_place : MeetsNoLimit old.replica.hold old.replica.most old.replica.held ops
  pub replica : new.replica ≡ record old.replica { held = held_from old.replica.hold old.replica.most old.replica.held ops }
  pub counts : new.counts ≡ tally_from old.replica.hold old.replica.most old.replica.held ops old.counts
  pub kept : new.kept ≡ old.kept ++ kept_from old.replica.hold old.replica.most old.replica.held ops

-- memory ran out while the operation, which stands already, settled others
pub record TakesPartly (old new : OpsTaking) (op : Op) : Type 0 where
  pub replica : new.replica ≡ record old.replica { held = new.replica.held }
  pub partly : StandsPartly old.replica.hold old.replica.most old.replica.held new.replica.held op old.counts new.counts
  pub kept : new.kept ≡ old.kept
