-- Taking in what was given at once: why it stops, and what the step of the stream is then.
use Rattle.std.proofs.Common.{[], ◌∷◌, List, refl, subst}
use Rattle.std.specs.Prelude.{Err, IfErr, Ok, Result}
use Rattle.fugue_ids.specs.declared.op.Op.{Op}
use Rattle.outer_ports.specs.Sources.{SourceView}
use Rattle.origin_model.specs.edits.State.{State}
use Rattle.origin_model.proofs.SharedLemmas.{places-none}
use Rattle.op_frame.specs.NextRuns.{GivesAll}
use Rattle.op_frame.specs.Readers.{FrameReading}
use Rattle.op_frame.proofs.GatherLemmas.{reached}
use Rattle.replica_core.specs.declared.keeping.FeedFault.{FeedFault}
use Rattle.replica_core.specs.declared.keeping.FeedFault.TheVariants as feed_fault
use Rattle.command_kinds.specs.Intake.{FeedsNot, FeedsNotAll, IntakeSteps, StreamTaking}
use Rattle.command_kinds.specs.Refusal.{feed_refusal}

-- why an operation alone was not taken in
pub one_stops : (s : State) (op : Op) (fault : FeedFault) → FeedsNot fault s op → FeedsNotAll fault s (op ∷ [])
one_stops s op (feed_fault.TooMany limit) (most, refused) =
    (most, record { front = []; op = op; more = []; parts = refl; has_place = places-none s.hold s.most s.held; refused = refused })
one_stops s op feed_fault.NoMemory fed = tt

pub one_unfed : (s : State) (op : Op) (result : Result Unit FeedFault) → IfErr result (λ fault. FeedsNot fault s op) → IfErr result (λ fault. FeedsNotAll fault s (op ∷ []))
one_unfed s op (Ok none) fed = tt
one_unfed s op (Err fault) fed = one_stops s op fault fed

-- the replica met a fault
pub taking_stops : (old new : StreamTaking) (reader : FrameReading) (before after : SourceView) (fault : FeedFault) (ops : List Op) → GivesAll old.reader reader before after ops
    → FeedsNotAll fault old.replica ops → IntakeSteps old new before after (Err (feed_refusal fault))
taking_stops old new reader before after (feed_fault.TooMany limit) ops gives (most, one) = (
  most,
  record {
    ops = ops;
    one = one;
    reached = reached old.reader reader before after one.front one.op one.more (subst (GivesAll old.reader reader before after) one.parts gives);
  },
)
taking_stops old new reader before after feed_fault.NoMemory ops gives stops = tt
