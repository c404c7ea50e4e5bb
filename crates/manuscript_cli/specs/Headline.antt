-- What `show` promises of a stream whose bytes are specified, and `print` and `arrange` of a file that is.
use Rattle.std.specs.Prelude.{◌≡◌, ◌≢◌, ℕ, ◌≤◌, List, length, Some}
use Rattle.fugue_ids.specs.Causes.{Faulted}
use Rattle.fugue_ids.specs.Outs.{OutView, Took}
use Rattle.fugue_ids.specs.declared.op.Op.{Op}
use Rattle.origin_model.specs.declared.grammar.Grammar.TheVariants.{Version2}
use Rattle.origin_model.specs.frames.Frames.{Reads, Whole as EndsWhole}
use Rattle.origin_model.specs.operations.Verdict.{Lawful}
use Rattle.origin_model.specs.order.Laws.{SameOps}
use Rattle.origin_model.specs.order.Printed.{manuscript}
use Rattle.origin_model.specs.taking.Taking.{MeetsNoLimit, held, nothing_held}
use Rattle.fugue_ids.specs.declared.limits.TheConstants.{MOST_OPERATIONS, STREAM_LIMIT}
use Rattle.outer_ports.specs.disk.Disks.{DiskView}
use Rattle.origin_model.specs.edits.State.{State as Replica}
use Rattle.replica_file.specs.declared.load_file.End.{End}
use Rattle.command_kinds.specs.Files.{FileHolds}
use Rattle.command_kinds.specs.Show.{PrintsInput, shown_notes, status_after}
use Rattle.command_kinds.specs.Changes.{Change, IsSpecified, Streams, change}
use Rattle.command_kinds.specs.declared.status.Status.{Status}
use Rattle.command_kinds.specs.declared.status.Status.TheVariants as status

-- no count of faults rose
pub record CountedNoFault (old new : Streams) : Type 0 where
  pub input : Faulted old.input.faults new.input.faults → ⊥
  pub output : Faulted old.output.faults new.output.faults → ⊥
  pub notes : Faulted old.notes.faults new.notes.faults → ⊥

-- The accepted operations are lawful, and what was printed is the text, the manuscript say, of every lawful list that
-- has the same operations.
pub record PrintedBySet (text : List Op → List ℕ) (history : List Op) (output : Change OutView) : Type 0 where
  pub lawful : Lawful history
  pub printed : (other : List Op) → Lawful other → SameOps history other → Took output.old output.new (text other)

-- all was shown, and the set of the accepted operations alone fixes what was printed
pub record ShowedBySet (hold : ℕ) (ops : List Op) (old new : Streams) (end : Status) : Type 0 where
  pub printed : PrintsInput hold old new ops
  pub noted : Took old.notes new.notes (shown_notes hold nothing_held ops)
  pub status : end ≡ status_after hold nothing_held ops
  pub by_set : PrintedBySet manuscript (held hold MOST_OPERATIONS ops).history (change old.output new.output)

-- For every stream of framed operations, however ordered, cut or repeated, the manuscript printed is the visible part
-- of one total order fixed by the set of accepted operations alone; an operation is accepted exactly when its causes
-- are and its identifier holds no other record, otherwise it waits within the stated capacity or is refused by name; so
-- replicas that accepted the same set print equal bytes.
abbrev pub Headline : (hold : ℕ) → Streams → Streams → Status → Type 0
Headline hold old new end =
    (bytes : List ℕ) (ops : List Op) → old.input.left ≡ Some bytes → Reads Version2 bytes ops EndsWhole → length bytes ≤ STREAM_LIMIT
    → MeetsNoLimit hold MOST_OPERATIONS nothing_held ops
    → CountedNoFault old new → end ≢ status.NoMemory → ShowedBySet hold ops old new end

-- what was printed of a file that is specified, in this form, is fixed by the set of the operations that its replica accepted
abbrev pub PrintsBySet : (text : List Op → List ℕ) → DiskView → (output : Change OutView) → Status → Type 0
PrintsBySet text home output end =
    end ≡ status.Done → IsSpecified home → (replica : Replica) (at : End) → FileHolds home replica at
    → PrintedBySet text replica.held.history output
