-- From what the commands promise of the objects that they use, that no object that is specified counts a fault that is not reported.
use Rattle.std.proofs.Common.{◌≡◌, ℕ, List, inl, inr, ap, ◌∙◌, refl, subst, sym}
use Rattle.std.specs.Prelude.{None, Option, Some}
use Rattle.fugue_ids.specs.Outs.{OutView}
use Rattle.outer_ports.specs.Sources.{SourceView}
use Rattle.command_kinds.specs.Edit.{script}
use Rattle.command_kinds.specs.Printing.{NotesBlameless}
use Rattle.command_kinds.specs.Report.{ReportText}
use Rattle.manuscript_cli.specs.Run.{IsBlameless, Meets, RunsCheck, RunsReport, UsageMeets}
use Rattle.command_kinds.specs.Refusal.{status_of}
use Rattle.command_kinds.specs.Notes.{NoteOn}
use Rattle.manuscript_cli.specs.Savers.{RunsSaving, input_saver, note_saver}
use Rattle.command_kinds.specs.Saving.{OpsSource}
use Rattle.command_kinds.specs.Take.{stream}
use Rattle.command_kinds.specs.Changes.{Change, DiskBlameless, OutBlameless, SourceBlameless, WireBlameless, change}
use Rattle.manuscript_cli.specs.Relay.{DockBlameless}
use Rattle.manuscript_cli.specs.Touched.{Touched}
use Rattle.manuscript_cli.specs.declared.command.Command.{Command}
use Rattle.manuscript_cli.specs.declared.command.Command.TheVariants.{Show, New, Edit, Print, Take, Send, Merge, Relay, Sync, Bulk, Why, Check, Move, Retitle, Arrange, Authors}
use Rattle.manuscript_cli.specs.declared.command.Command.TheVariants.{Changes, Past, Moments, Revise, ReviseSince, List as ListCommand, Comment, Comments, Remarks, Withdraw}
use Rattle.manuscript_cli.specs.declared.command.Command.TheVariants.{Remark, Version, Versions, View, About}
use Rattle.command_kinds.specs.declared.refusal.Refusal.TheVariants.{Words}
use Rattle.command_kinds.specs.declared.status.Status.{Status}
use Rattle.command_kinds.proofs.TextLemmas.{reported_blameless}
use Rattle.manuscript_cli.proofs.AloneLemmas.{written_reported}

-- the count of an object that is not used stays
quiet : {P Q : Type 0} {count : ℕ} → P → Q → count ≡ count
quiet tells inside = refl

module _ (words : List (List ℕ)) (old new : Touched) (end : Status) where
  -- the objects stand so at the end
  all : (now : Touched) → new ≡ now → SourceBlameless (change old.streams.input now.streams.input) end → OutBlameless (change old.streams.output now.streams.output) end
      → NotesBlameless (change old.streams.notes now.streams.notes) end → DiskBlameless (change old.home now.home) end → DiskBlameless (change old.guest now.guest) end
      → WireBlameless (change old.wire now.wire) end → DockBlameless (change old.dock now.dock) end → IsBlameless old new end
  all now is input output notes home guest wire dock =
      subst (λ (t : Touched). IsBlameless old t end) (sym is) (record { input = input; output = output; notes = notes; home = home; guest = guest; wire = wire; dock = dock })

  usage : UsageMeets old new end → IsBlameless old new end
  usage meets =
      let notes : Change OutView = change old.streams.notes new.streams.notes in
      all _ meets.others quiet quiet (subst (NotesBlameless notes) (sym meets.end_is) (reported_blameless Words notes meets.notes)) quiet quiet quiet quiet

  takes_input : (ops_source : Change SourceView → OpsSource) → RunsSaving (input_saver ops_source old new) old new end → IsBlameless old new end
  takes_input ops_source meets = all _ meets.others meets.leaves.blameless quiet meets.does.performs.reported.blameless meets.does.blameless quiet quiet quiet

  reports : (tells : ReportText) → RunsReport tells old new end → IsBlameless old new end
  reports tells meets = all _ meets.others quiet meets.does.output_blameless meets.does.performs.reported.blameless meets.does.file_blameless quiet quiet quiet

  checks : RunsCheck old new end → IsBlameless old new end
  checks meets =
      elim meets.does [
        | inl k ↦ all _ meets.others (λ tells not. k.count.specified_no_fault tells (λ failed. failed)) k.reports.output_blameless k.reports.performs.reported.blameless
            k.reports.file_blameless quiet
            quiet quiet
        | inr (inl k) ↦
            let notes : Change OutView = change old.streams.notes new.streams.notes in
            let none = k.none in
            all _ meets.others (λ tells not. none.count.specified_no_fault tells (λ is. not (none.end_is ∙ ap status_of is)))
            (λ tells not. ap (λ (o : OutView). o.faults) none.wrote)
            (subst (NotesBlameless notes) (sym none.end_is) (reported_blameless none.why notes none.noted)) k.file_blameless quiet quiet quiet
        | inr (inr k) ↦
            all _ meets.others (λ tells not. ap (λ (s : SourceView). s.faults) k.unread) k.reports.output_blameless k.reports.performs.reported.blameless k.reports.file_blameless
            quiet quiet
            quiet
      ]

  makes_note : (note_on : NoteOn) → RunsSaving (note_saver note_on old new) old new end → IsBlameless old new end
  makes_note note_on meets = all _ meets.others quiet quiet meets.does.performs.reported.blameless meets.does.blameless quiet quiet quiet

  pub meets_blameless : (command : Option Command) → Meets words command old new end → IsBlameless old new end
  meets_blameless None meets = usage meets
  meets_blameless (Some (Show hold)) meets =
      all _ meets.others meets.does.input_blameless meets.does.output_blameless meets.does.performs.reported.blameless quiet quiet quiet quiet
  meets_blameless (Some (New replica hold)) meets = all _ meets.others quiet quiet meets.does.performs.reported.blameless meets.does.blameless quiet quiet quiet
  meets_blameless (Some Edit) meets = takes_input script meets
  meets_blameless (Some Print) meets = reports _ meets
  meets_blameless (Some Take) meets = takes_input stream meets
  meets_blameless (Some Send) meets = reports _ meets
  meets_blameless (Some Merge) meets = all _ meets.others quiet quiet meets.does.performs.reported.blameless meets.does.blameless meets.leaves.blameless quiet quiet
  meets_blameless (Some (Relay port sessions)) meets =
      all _ meets.others quiet meets.does.output_blameless meets.does.performs.reported.blameless quiet quiet quiet meets.does.dock_blameless
  meets_blameless (Some (Sync port cursor)) meets = all _ meets.others quiet quiet meets.does.performs.reported.blameless meets.does.blameless quiet meets.leaves.blameless quiet
  meets_blameless (Some (Bulk seed count)) meets =
      all _ meets.others quiet (written_reported _ _ _ _ meets.does.writes) meets.does.writes.reported.blameless quiet quiet quiet quiet
  meets_blameless (Some (Why k p q)) meets = reports _ meets
  meets_blameless (Some Check) meets = checks meets
  meets_blameless (Some (Move k j)) meets = makes_note _ meets
  meets_blameless (Some (Retitle k)) meets = makes_note _ meets
  meets_blameless (Some Arrange) meets = reports _ meets
  meets_blameless (Some Authors) meets = reports _ meets
  meets_blameless (Some (Changes n)) meets = reports _ meets
  meets_blameless (Some (Past n)) meets = reports _ meets
  meets_blameless (Some Moments) meets =
      all _ meets.others quiet meets.does.reports.output_blameless meets.does.reports.performs.reported.blameless meets.does.reports.file_blameless quiet quiet quiet
  meets_blameless (Some Revise) (finding, meets) =
      all _ meets.others meets.leaves.1.blameless quiet meets.does.performs.reported.blameless meets.does.blameless meets.leaves.0.blameless quiet quiet
  meets_blameless (Some (ReviseSince n)) (finding, meets) =
      all _ meets.others meets.leaves.1.blameless quiet meets.does.performs.reported.blameless meets.does.blameless meets.leaves.0.blameless quiet quiet
  meets_blameless (Some ListCommand) meets = reports _ meets
  meets_blameless (Some (Comment k p n)) meets = makes_note _ meets
  meets_blameless (Some Comments) meets = reports _ meets
  meets_blameless (Some Remarks) meets = reports _ meets
  meets_blameless (Some (Withdraw n)) meets = makes_note _ meets
  meets_blameless (Some Remark) meets = makes_note _ meets
  meets_blameless (Some Version) meets = makes_note _ meets
  meets_blameless (Some Versions) meets = reports _ meets
  meets_blameless (Some View) meets = reports _ meets
  meets_blameless (Some About) meets = all _ meets.others quiet (written_reported _ _ _ _ meets.does.writes) meets.does.writes.reported.blameless quiet quiet quiet quiet
