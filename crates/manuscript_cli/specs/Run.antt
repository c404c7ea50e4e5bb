-- What `run` does for each command, and without one.
use Rattle.std.specs.Prelude.{◌≡◌, ◌-◌, ℕ, List, Option, Some, None}
use Rattle.manuscript_cli.specs.Arrange.{arrange_reports, move_on, retitle_on}
use Rattle.command_kinds.specs.Findings.{Finding}
use Rattle.manuscript_cli.specs.Listing.{list_reports}
use Rattle.manuscript_cli.specs.Margins.{comment_on, comments_reports}
use Rattle.manuscript_cli.specs.NamedVersions.{version_on, versions_reports, view_reports}
use Rattle.manuscript_cli.specs.Alone.{WritesAlone, about_text}
use Rattle.bulk_world.specs.Summary.{bulk_text}
use Rattle.manuscript_cli.specs.Changed.{authors_reports, changes_reports}
use Rattle.manuscript_cli.specs.Check.{ChecksText}
use Rattle.manuscript_cli.specs.Command.{last_word, third_word}
use Rattle.command_kinds.specs.New.{Creates}
use Rattle.manuscript_cli.specs.Moments.{ReportsMoments}
use Rattle.manuscript_cli.specs.Past.{past_reports}
use Rattle.command_kinds.specs.Printing.{NotesBlameless}
use Rattle.command_kinds.specs.Refusal.{refusal_line, Reported}
use Rattle.manuscript_cli.specs.Relay.{DockBlameless, Relays}
use Rattle.command_kinds.specs.Report.{Reports, ReportText, print_reports, send_reports}
use Rattle.manuscript_cli.specs.Savers.{RunsSaving, Saver, edit_saver, merge_saver, note_saver, revise_saver, revise_since_saver}
use Rattle.manuscript_cli.specs.Savers.{sync_saver, take_saver}
use Rattle.command_kinds.specs.Saving.{Outcome}
use Rattle.command_kinds.specs.Show.{Shows}
use Rattle.command_kinds.specs.Changes.{DiskBlameless, OutBlameless, SourceBlameless, WireBlameless, change}
use Rattle.manuscript_cli.specs.Remark.{remark_on}
use Rattle.manuscript_cli.specs.Remarks.{remarks_reports, withdraw_on}
use Rattle.manuscript_cli.specs.Touched.{Touched}
use Rattle.passage_remarks.specs.Spelling.{passage_of}
use Rattle.manuscript_cli.specs.Why.{why_reports}
use Rattle.manuscript_cli.specs.declared.command.Command.{Command}
use Rattle.manuscript_cli.specs.declared.command.Command.TheVariants.{Show, New, Edit, Print, Take, Send, Merge, Relay, Sync, Bulk, Why}
use Rattle.manuscript_cli.specs.declared.command.Command.TheVariants.{Check, Move, Retitle, Arrange, Authors, Changes, Past, Moments}
use Rattle.manuscript_cli.specs.declared.command.Command.TheVariants.{Revise, ReviseSince, List as ListCommand, Comment, Comments, Remarks}
use Rattle.manuscript_cli.specs.declared.command.Command.TheVariants.{Withdraw, Remark, Version, Versions, View, About}
use Rattle.command_kinds.specs.declared.refusal.Refusal.TheVariants.{Words}
use Rattle.command_kinds.specs.declared.status.Status.{Status}
use Rattle.command_kinds.specs.declared.status.Status.TheVariants.{Usage}

-- the words are no command: they alone decide it, and only the notes are used
pub record UsageMeets (old new : Touched) (end : Status) : Type 0 where
  pub end_is : end ≡ Usage
  pub others : new ≡ record old { streams = record old.streams { notes = new.streams.notes } }
  pub notes : Reported old.streams.notes new.streams.notes (refusal_line Words)

-- `show` uses the streams
pub record RunsShow (hold : ℕ) (old new : Touched) (end : Status) : Type 0 where
  pub others : new ≡ record old { streams = new.streams }
  pub does : Shows hold old.streams new.streams end

-- `new` uses the file, and the notes
pub record RunsNew (replica hold : ℕ) (old new : Touched) (end : Status) : Type 0 where
  pub others : new ≡ record old { streams = record old.streams { notes = new.streams.notes }; home = new.home }
  pub does : Creates replica hold (change old.home new.home) (change old.streams.notes new.streams.notes) end

-- a command that reports uses the file, the output, and the notes
pub record RunsReport (tells : ReportText) (old new : Touched) (end : Status) : Type 0 where
  pub others : new ≡ record old { streams = record old.streams { output = new.streams.output; notes = new.streams.notes }; home = new.home }
  pub does : Reports tells (change old.home new.home) (change old.streams.output new.streams.output)
      (change old.streams.notes new.streams.notes) end

-- `relay` uses the dock, the output, and the notes
pub record RunsRelay (port sessions : ℕ) (old new : Touched) (end : Status) : Type 0 where
  pub others : new ≡ record old { streams = record old.streams { output = new.streams.output; notes = new.streams.notes }; dock = new.dock }
  pub does : Relays port sessions (change old.streams.output new.streams.output) (change old.streams.notes new.streams.notes)
      (change old.dock new.dock) end

-- a command that uses no file uses the output, and the notes
pub record RunsAlone (text : List ℕ) (old new : Touched) (end : Status) : Type 0 where
  pub others : new ≡ record old { streams = record old.streams { output = new.streams.output; notes = new.streams.notes } }
  pub does : WritesAlone text (change old.streams.output new.streams.output) (change old.streams.notes new.streams.notes) end

-- `check` uses the streams, and the file
pub record RunsCheck (old new : Touched) (end : Status) : Type 0 where
  pub others : new ≡ record old { streams = new.streams; home = new.home }
  pub does : ChecksText (change old.streams.input new.streams.input) (change old.home new.home)
      (change old.streams.output new.streams.output) (change old.streams.notes new.streams.notes) end

-- `moments` uses the file, the output, and the notes
pub record RunsMoments (old new : Touched) (end : Status) : Type 0 where
  pub others : new ≡ record old { streams = record old.streams { output = new.streams.output; notes = new.streams.notes }; home = new.home }
  pub does : ReportsMoments (change old.home new.home) (change old.streams.output new.streams.output)
      (change old.streams.notes new.streams.notes) end

-- the commands, by what they promise
pub data Family : Type 1 where
  NoCommand : Family
  Showing : (hold : ℕ) → Family
  Making : (replica hold : ℕ) → Family
  Saving : (Touched → Touched → Saver) → Family
  -- one that saves, and may come to its end in several ways
  Choosing : (Finding Outcome → Touched → Touched → Saver) → Family
  Reporting : (tells : ReportText) → Family
  Serving : (port sessions : ℕ) → Family
  Alone : (text : List ℕ) → Family
  Checking : Family
  TellingMoments : Family

-- by the words too: the last of them is the title of a retitle, the text of a comment or the name of a version, and the
-- third spells a passage; sections count from 1
abbrev pub family : List (List ℕ) → Option Command → Family
family words None = NoCommand
family words (Some (Show hold)) = Showing hold
family words (Some (New replica hold)) = Making replica hold
family words (Some Edit) = Saving edit_saver
family words (Some Print) = Reporting print_reports
family words (Some Take) = Saving take_saver
family words (Some Send) = Reporting send_reports
family words (Some Merge) = Saving merge_saver
family words (Some (Relay port sessions)) = Serving port sessions
family words (Some (Sync port cursor)) = Saving (sync_saver port cursor)
family words (Some (Bulk seed count)) = Alone (bulk_text seed count)
family words (Some (Why k p q)) = Reporting (why_reports (k - 1) p q)
family words (Some Check) = Checking
family words (Some (Move k j)) = Saving (note_saver (move_on k j))
family words (Some (Retitle k)) = Saving (note_saver (retitle_on k (last_word words)))
family words (Some Arrange) = Reporting arrange_reports
family words (Some Authors) = Reporting authors_reports
family words (Some (Changes n)) = Reporting (changes_reports n)
family words (Some (Past n)) = Reporting (past_reports n)
family words (Some Moments) = TellingMoments
family words (Some Revise) = Choosing revise_saver
family words (Some (ReviseSince n)) = Choosing (revise_since_saver n)
family words (Some ListCommand) = Reporting list_reports
family words (Some (Comment k p n)) = Saving (note_saver (comment_on k p n (last_word words)))
family words (Some Comments) = Reporting comments_reports
family words (Some Remarks) = Reporting remarks_reports
family words (Some (Withdraw n)) = Saving (note_saver (withdraw_on n))
family words (Some Remark) = Saving (note_saver (remark_on (passage_of (third_word words)) (last_word words)))
family words (Some Version) = Saving (note_saver (version_on (last_word words)))
family words (Some Versions) = Reporting versions_reports
family words (Some View) = Reporting (view_reports (last_word words))
family words (Some About) = Alone about_text

-- a command of the family did what it should with the objects that it uses, and left the others as they were
abbrev pub MeetsAs : Family → Touched → Touched → Status → Type 0
MeetsAs NoCommand old new end = UsageMeets old new end
MeetsAs (Showing hold) old new end = RunsShow hold old new end
MeetsAs (Making replica hold) old new end = RunsNew replica hold old new end
MeetsAs (Saving saver) old new end = RunsSaving (saver old new) old new end
MeetsAs (Choosing saver) old new end = (finding : Finding Outcome) × RunsSaving (saver finding old new) old new end
MeetsAs (Reporting tells) old new end = RunsReport tells old new end
MeetsAs (Serving port sessions) old new end = RunsRelay port sessions old new end
MeetsAs (Alone text) old new end = RunsAlone text old new end
MeetsAs Checking old new end = RunsCheck old new end
MeetsAs TellingMoments old new end = RunsMoments old new end

-- the run of a command meets the contract of its family
abbrev pub Meets : List (List ℕ) → Option Command → Touched → Touched → Status → Type 0
Meets words command = MeetsAs (family words command)

-- No object that is specified counts a fault that is not reported: its count rises with an outside fault alone, or for a refusal
-- that the notes did not take.
pub record IsBlameless (old new : Touched) (end : Status) : Type 0 where
  pub input : SourceBlameless (change old.streams.input new.streams.input) end
  pub output : OutBlameless (change old.streams.output new.streams.output) end
  pub notes : NotesBlameless (change old.streams.notes new.streams.notes) end
  pub home : DiskBlameless (change old.home new.home) end
  pub guest : DiskBlameless (change old.guest new.guest) end
  pub wire : WireBlameless (change old.wire new.wire) end
  pub dock : DockBlameless (change old.dock new.dock) end
