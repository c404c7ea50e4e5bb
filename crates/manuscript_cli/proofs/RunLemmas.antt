-- From what a command does with the objects that it uses to what `run` does with all objects.
use Rattle.std.proofs.Common.{◌≡◌, inl, inr, ℕ, ◌≤◌, List, sym, subst, ◌∙◌, ap, arith}
use Rattle.std.specs.Prelude.{Some}
use Rattle.fugue_ids.specs.declared.limits.TheConstants.{GREATEST_HOLD}
use Rattle.fugue_ids.specs.Outs.{OutView, Took}
use Rattle.fugue_ids.specs.declared.op.Op.{Op}
use Rattle.catalogue_notes.specs.Arranged.{arranged_text}
use Rattle.catalogue_notes.specs.Laws.{ArrangedBySet}
use Rattle.origin_model.specs.order.Laws.{OrderBySet}
use Rattle.origin_model.specs.order.Printed.{manuscript}
use Rattle.outer_ports.specs.disk.Disks.{DiskView}
use Rattle.origin_model.specs.edits.State.{State as Replica}
use Rattle.replica_file.specs.declared.load_file.End.{End}
use Rattle.command_kinds.proofs.FoundLemmas.{holds_once, loaded_lawful}
use Rattle.manuscript_cli.proofs.BySetLemmas.{IsFixedBySet, arranged_text_by_set, manuscript_by_set, printed_by_set}
use Rattle.command_kinds.specs.Files.{FileHolds}
use Rattle.command_kinds.specs.Findings.{Does}
use Rattle.manuscript_cli.specs.Command.{Names}
use Rattle.manuscript_cli.specs.Headline.{PrintedBySet, PrintsBySet}
use Rattle.command_kinds.proofs.ActLemmas.{did_all}
use Rattle.command_kinds.specs.Report.{ReportText, WroteHeld, reporting}
use Rattle.manuscript_cli.specs.Run.{Meets, RunsReport}
use Rattle.command_kinds.specs.Changes.{Change, IsSpecified, change}
use Rattle.manuscript_cli.specs.Touched.{Touched}
use Rattle.manuscript_cli.specs.declared.command.Command.{Command}
use Rattle.manuscript_cli.specs.declared.command.Command.TheVariants.{Arrange, Print, Show}
use Rattle.command_kinds.specs.declared.status.Status.{Status}

-- words ask for no hold that is out of its range
pub hold_in_range : (words : List (List ℕ)) (hold : ℕ) → Names words (Show hold) → (1 ≤ hold) × (hold ≤ GREATEST_HOLD)
hold_in_range words hold (inl usual) = subst (λ (n : ℕ). (1 ≤ n) × (n ≤ GREATEST_HOLD)) (sym usual.1) (omega arith, omega arith)
hold_in_range words hold (inr named) = (named.number.from, named.number.to)

-- the command that was read is the one that is named
pub meets_named : (words : List (List ℕ)) (command named : Command) (old new : Touched) (end : Status) → Some command ≡ Some named → Meets words (Some command) old new end
    → Meets words (Some named) old new end
meets_named words command named old new end same meets = subst (λ c. Meets words c old new end) same meets

same_text : (a b : List ℕ) → Does a ≡ Does b → a ≡ b
same_text a b e = cc

-- what a report tells that is a text of the history
abbrev ReportsText : (text : List Op → List ℕ) → ReportText
ReportsText text replica found = found ≡ Does (text replica.held.history)

-- what was printed of a file is fixed by the set of what was accepted
file_by_set : (text : List Op → List ℕ) → IsFixedBySet text → (file : Change DiskView) (output : Change OutView) (bytes : List ℕ)
    → WroteHeld (ReportsText text) file bytes (Took output.old output.new bytes) → IsSpecified file.old
    → (replica : Replica) (at : End) → FileHolds file.old replica at → PrintedBySet text replica.held.history output
file_by_set text fixed file output bytes wrote reported replica at holds =
    let same = holds_once file.old reported (replica, at) (wrote.found.0, wrote.found.1) holds wrote.found.2 in
    let is : bytes ≡ text replica.held.history =
    same_text bytes (text wrote.found.0.held.history) wrote.found.3 ∙ sym (ap (λ (l : Replica × End). text l.0.held.history) same) in
    printed_by_set text fixed replica.held.history output (loaded_lawful file.old reported replica at holds) (subst (Took output.old output.new) is wrote.came)

report_by_set : (text : List Op → List ℕ) → IsFixedBySet text → (old new : Touched) (end : Status) → RunsReport (ReportsText text) old new end
    → PrintsBySet text old.home (change old.streams.output new.streams.output) end
report_by_set text fixed old new end meets done =
    let did = did_all (reporting (ReportsText text) _ _) _ end meets.does.performs (inl done) in
    file_by_set text fixed (change old.home new.home) (change old.streams.output new.streams.output) did.0 did.1

pub prints_by_set : OrderBySet → (words : List (List ℕ)) (old new : Touched) (end : Status) → Meets words (Some Print) old new end
    → PrintsBySet manuscript old.home (change old.streams.output new.streams.output) end
prints_by_set order words old new end meets = report_by_set manuscript (manuscript_by_set order) old new end meets

pub arranges_by_set : ArrangedBySet → (words : List (List ℕ)) (old new : Touched) (end : Status) → Meets words (Some Arrange) old new end
    → PrintsBySet arranged_text old.home (change old.streams.output new.streams.output) end
arranges_by_set arranged words old new end meets = report_by_set arranged_text (arranged_text_by_set arranged) old new end meets
