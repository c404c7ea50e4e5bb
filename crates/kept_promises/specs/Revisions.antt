-- A draft of an earlier moment: a revision at that moment, and then a merge.
use Rattle.std.specs.Prelude.{ℕ, Some, List, drop}
use Rattle.fugue_ids.specs.declared.op.Op.{Op}
use Rattle.origin_model.specs.edits.State.{State as Replica}
use Rattle.origin_model.specs.operations.History.{accepted}
use Rattle.origin_model.specs.order.Laws.{IsSameText, SameOps}
use Rattle.origin_model.specs.taking.Taking.{MeetsNoLimit, Held, held_from}
use Rattle.outer_ports.specs.Sources.{SourceView}
use Rattle.outer_ports.specs.disk.Disks.{DiskView}
use Rattle.replica_file.specs.Loading.{CanTake}
use Rattle.replica_file.specs.declared.load_file.End.{End}
use Rattle.catalogue_notes.specs.Laws.{IsSameArrangement}
use Rattle.version_views.specs.Fronts.{replica_at}
use Rattle.command_kinds.specs.Changes.{IsSpecified}
use Rattle.command_kinds.specs.Files.{FileHolds}
use Rattle.command_kinds.specs.Findings.{Finding, Does}
use Rattle.command_kinds.specs.Saving.{Outcome}
use Rattle.command_kinds.specs.Take.{all_held_ops}
use Rattle.command_kinds.specs.declared.status.Status.TheVariants.{Done}
use Rattle.manuscript_cli.specs.Revising.{RevisionGives}
use Rattle.manuscript_cli.specs.RevisingSince.{SinceGives}
use Rattle.manuscript_cli.specs.Run.{Meets}
use Rattle.manuscript_cli.specs.Touched.{Touched}
use Rattle.manuscript_cli.specs.declared.command.Command.TheVariants.{ReviseSince}

-- the same operations, and so the same order of each section, the same manuscript, and the same arrangement
pub record AreAlike (a b : List Op) : Type 0 where
  pub same_ops : SameOps a b
  pub same_text : IsSameText a b
  pub same_arrangement : IsSameArrangement a b

-- a replica that holds this takes all of the operations in, and has accepted then what the other history has
pub record ComesTo (replica : Replica) (held : Held) (ops other : List Op) : Type 0 where
  pub place : MeetsNoLimit replica.hold replica.most held ops
  pub alike : AreAlike (held_from replica.hold replica.most held ops).history other

-- what was accepted after the first n operations
abbrev pub after_first : ℕ → Held → List Op
after_first n held = drop n (accepted held.history)

-- A revision of the replica as it was when n operations were accepted came to this state. If it then takes in what was accepted
-- after these, or merges all that the file holds, it comes to what the file has now.
pub record IsRevisedThenMerged (n : ℕ) (guest : DiskView) (input : SourceView) (finding : Finding Outcome) (was : Replica)
    (now : Held) : Type 0 where
  pub revised : Outcome
  pub gives : RevisionGives guest input finding (replica_at n was) (Does revised)
  pub rest : ComesTo was revised.held (after_first n was.held) now.history
  pub merged : ComesTo was revised.held (all_held_ops was.held) now.history

-- what a draft with a number gives
abbrev pub SinceIsReviseThenMerge : Type 0
SinceIsReviseThenMerge =
    (n : ℕ) (guest : DiskView) (input : SourceView) (finding : Finding Outcome) (was : Replica) (whole : Outcome)
    → CanTake was → SinceGives n guest input finding was (Does whole)
    → IsRevisedThenMerged n guest input finding was whole.held

-- and what `revise` with a number does to a file
abbrev pub RevisingSinceIsReviseThenMerge : Type 0
RevisingSinceIsReviseThenMerge =
    (words : List (List ℕ)) (n : ℕ) (old new : Touched) → Meets words (Some (ReviseSince n)) old new Done → IsSpecified old.home
    → (was now : Replica) × (at end : End) × FileHolds old.home was at × FileHolds new.home now end
    × (finding : Finding Outcome) × IsRevisedThenMerged n old.guest old.streams.input finding was now.held
