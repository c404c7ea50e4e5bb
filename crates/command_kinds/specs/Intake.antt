-- Taking in a stream, one operation after another: a step of it, what it comes to, and why it stops.
use Rattle.std.specs.Prelude.{◌≡◌, ◌+◌, ◌*◌, ◌≤◌, List, [], ◌∷◌, ◌++◌, length, Option, Some, None, option_map, Bool, true, false, Result}
use Rattle.std.specs.Prelude.{Ok, Err, IfSome}
use Rattle.fugue_ids.specs.declared.op.Op.{Op}
use Rattle.outer_ports.specs.Sources.{SourceView}
use Rattle.origin_model.specs.declared.grammar.Grammar.TheVariants.{Version2}
use Rattle.origin_model.specs.taking.Taking.{MeetsNoLimit, TooMany as AnswersTooMany, IsSettled, answer, held_from, kept_from, tally_from}
use Rattle.origin_model.specs.taking.Taking.{no_counts}
use Rattle.origin_model.specs.declared.taking.Tally.{Tally}
use Rattle.op_frame.specs.IntakeOutcomes.{Whole}
use Rattle.op_frame.specs.Readers.{FrameReading, Nexts}
use Rattle.op_frame.specs.NextRuns.{GivesMany, IsReachedOp}
use Rattle.op_frame.specs.declared.fault.FrameFault.TheVariants as frame_fault
use Rattle.replica_core.specs.declared.keeping.FeedFault.{FeedFault}
use Rattle.replica_core.specs.declared.keeping.FeedFault.TheVariants as feed_fault
use Rattle.origin_model.specs.edits.State.{State}
use Rattle.replica_core.specs.Feeding.{TakesInAll}
use Rattle.replica_core.specs.Answering.{total}
use Rattle.fugue_ids.specs.declared.limits.TheConstants.{GREATEST_HOLD, STREAM_LIMIT}
use Rattle.command_kinds.specs.Input.{SourceComes, StreamRefuses}
use Rattle.command_kinds.specs.declared.refusal.Refusal.{Refusal}
use Rattle.command_kinds.specs.declared.refusal.Refusal.TheVariants.{BadFrame, CutShort, TooLong, TooMany, Outside, NoMemory}

-- copies of the operations that were kept, and these after them: none, where they are forgotten
abbrev pub copies_of_kept : Option (List Op) → List Op → Option (List Op)
copies_of_kept kept ops = option_map (λ before. before ++ ops) kept

-- the operations, where there are some
abbrev pub ops_in : Option (List Op) → List Op
ops_in None = []
ops_in (Some ops) = ops

-- why an operation was not taken in
abbrev pub FeedsNot : FeedFault → State → Op → Type 0
FeedsNot (feed_fault.TooMany limit) replica op =
    (limit ≡ replica.most) × (answer replica.hold replica.most replica.held op ≡ AnswersTooMany)
FeedsNot feed_fault.NoMemory replica op = Unit {0}

-- of the operations, one found no place after those before it
pub record OneTooMany (replica : State) (ops : List Op) : Type 0 where
  pub front : List Op
  pub op : Op
  pub more : List Op
  pub parts : ops ≡ front ++ op ∷ more
  pub has_place : MeetsNoLimit replica.hold replica.most replica.held front
  pub refused : answer replica.hold replica.most (held_from replica.hold replica.most replica.held front) op ≡ AnswersTooMany

-- why operations were not all taken in
abbrev pub FeedsNotAll : FeedFault → State → List Op → Type 0
FeedsNotAll (feed_fault.TooMany limit) replica ops = (limit ≡ replica.most) × OneTooMany replica ops
FeedsNotAll feed_fault.NoMemory replica ops = Unit {0}

-- a stream on its way: the reader, the replica, what became of the operations so far, and copies of those that were kept
pub record StreamTaking : Type 0 where
  pub reader : FrameReading
  pub replica : State
  pub counts : Tally
  pub kept : Option (List Op)

-- one operation more can be read and counted
pub record IsReady (now : StreamTaking) : Type 0 where
  pub no_fault : now.reader.fault ≡ None
  pub limit : now.reader.limit ≡ STREAM_LIMIT
  pub by_grammar : now.reader.grammar ≡ Version2
  pub settled : IsSettled now.replica.held
  -- a frame has at least three bytes for each operation
  pub few : 3 * (total now.counts + length now.replica.held.waiting) + 3 * length now.reader.todo ≤ now.reader.offset + 3 * GREATEST_HOLD

-- the next operations were read and taken in
pub record TakesSome (old new : StreamTaking) (before after : SourceView) : Type 0 where
  pub ops : List Op
  pub gives : GivesMany old.reader new.reader before after ops
  pub taken : TakesInAll old.replica new.replica ops old.counts new.counts
  pub kept : new.kept ≡ copies_of_kept old.kept (kept_from old.replica.hold old.replica.most old.replica.held ops)
  pub ready : IsReady new

-- operations were read, and one of them found no place
pub record FindsNoPlace (old : StreamTaking) (before after : SourceView) : Type 0 where
  pub ops : List Op
  pub one : OneTooMany old.replica ops
  pub reached : IsReachedOp old.reader before after one.front one.op

-- one step, by its answer: whether there were operations
abbrev pub IntakeSteps : StreamTaking → StreamTaking → SourceView → SourceView → Result Bool Refusal → Type 0
IntakeSteps old new before after (Ok true) = TakesSome old new before after
IntakeSteps old new before after (Ok false) =
    Nexts old.reader new.reader before after (Ok None) × (new.replica ≡ old.replica) × (new.counts ≡ old.counts) × (new.kept ≡ old.kept)
IntakeSteps old new before after (Err (BadFrame offset)) = Nexts old.reader new.reader before after (Err (frame_fault.BadFrame offset))
IntakeSteps old new before after (Err (CutShort offset)) = Nexts old.reader new.reader before after (Err (frame_fault.CutShort offset))
IntakeSteps old new before after (Err TooLong) = Nexts old.reader new.reader before after (Err frame_fault.TooLong)
IntakeSteps old new before after (Err (TooMany count)) = (count ≡ old.replica.most) × FindsNoPlace old before after
IntakeSteps old new before after (Err Outside) = Unit {0}
IntakeSteps old new before after (Err NoMemory) = Unit {0}
IntakeSteps old new before after (Err _) = ⊥

-- the source came to its end, and the replica took its operations in
pub record TakesInStream (start : State) (old new : SourceView) (replica : State) (counts : Tally)
    (kept kept_after : Option (List Op)) : Type 0 where
  pub ops : List Op
  pub came : SourceComes start old ops Whole
  pub read : IfSome new.left (λ bytes. bytes ≡ [])
  pub replica_is : replica ≡ record start { held = held_from start.hold start.most start.held ops }
  pub counts_are : counts ≡ tally_from start.hold start.most start.held ops no_counts
  pub kept_are : kept_after ≡ copies_of_kept kept (kept_from start.hold start.most start.held ops)

-- why a stream was not taken in: a call failed, or memory ran out, or it is refused
abbrev pub IntakeStopsFor : Refusal → State → SourceView → Type 0
IntakeStopsFor Outside start old = Unit {0}
IntakeStopsFor NoMemory start old = Unit {0}
IntakeStopsFor why start old = StreamRefuses start old why
