-- The commands that save, each with what gives, and how it leaves that.
use Rattle.std.specs.Prelude.{◌≡◌, ℕ}
use Rattle.outer_ports.specs.Sources.{SourceView}
use Rattle.command_kinds.specs.Edit.{script}
use Rattle.command_kinds.specs.Files.{FileRefuses, LeavesFile}
use Rattle.command_kinds.specs.Findings.{Finding}
use Rattle.command_kinds.specs.Notes.{NoteOn, note_source}
use Rattle.manuscript_cli.specs.Revising.{LooksAtBase, revision}
use Rattle.manuscript_cli.specs.RevisingSince.{MomentDecidesAlone, revision_since}
use Rattle.command_kinds.specs.Saving.{OpsSource, Outcome, ReadsInput, SavesGiven}
use Rattle.command_kinds.specs.Sync.{LeavesWire, reply}
use Rattle.command_kinds.specs.Take.{other_file, stream}
use Rattle.command_kinds.specs.Changes.{Change, IsSpecified, change}
use Rattle.manuscript_cli.specs.Touched.{Touched}
use Rattle.command_kinds.specs.declared.refusal.Refusal.{Refusal}
use Rattle.command_kinds.specs.declared.status.Status.{Status}

-- what a command reads its operations from, and how it leaves that
pub record Saver : Type 1 where
  pub ops_source : OpsSource
  -- the object that gives is left so, where the command ends so
  pub Leaves : Status → Type 0
  -- all objects as they were, but for the one that gives
  pub others : Touched

-- the input gives
abbrev pub input_saver : (Change SourceView → OpsSource) → Touched → Touched → Saver
input_saver ops_source old new = record {
  ops_source = ops_source (change old.streams.input new.streams.input);
  Leaves = ReadsInput old.streams.input new.streams.input;
  others = record old { streams = record old.streams { input = new.streams.input } };
}

-- `edit`: by a script
abbrev pub edit_saver : Touched → Touched → Saver
edit_saver = input_saver script

-- `take`: by a stream of operations
abbrev pub take_saver : Touched → Touched → Saver
take_saver = input_saver stream

-- `merge`: another file gives what its replica holds
abbrev pub merge_saver : Touched → Touched → Saver
merge_saver old new = record {
  ops_source = other_file (change old.guest new.guest);
  Leaves = LeavesFile (change old.guest new.guest);
  others = record old { guest = new.guest };
}

-- `sync`: the wire gives by a relay's reply
abbrev pub sync_saver : (port cursor : ℕ) → Touched → Touched → Saver
sync_saver port cursor old new = record {
  ops_source = reply cursor old.home (change old.wire new.wire);
  Leaves = LeavesWire port cursor old.home (change old.wire new.wire);
  others = record old { wire = new.wire };
}

-- a command that makes a note: the words give it, and no object
abbrev pub note_saver : NoteOn → Touched → Touched → Saver
note_saver note_on old new = record { ops_source = note_source note_on; Leaves = λ end. Unit {0}; others = old }

-- `revise`: the input gives a draft of what the other file has, as its finding says
abbrev pub revise_saver : Finding Outcome → Touched → Touched → Saver
revise_saver finding old new = record {
  ops_source = revision (change old.guest new.guest) (change old.streams.input new.streams.input) finding;
  Leaves = λ end. LooksAtBase (change old.guest new.guest) end × ReadsInput old.streams.input new.streams.input end;
  others = record old { streams = record old.streams { input = new.streams.input }; guest = new.guest };
}

-- and with the number of the operations that were accepted when that was printed
abbrev pub revise_since_saver : ℕ → Finding Outcome → Touched → Touched → Saver
revise_since_saver n finding old new = record (revise_saver finding old new) {
  ops_source = revision_since n (change old.guest new.guest) (change old.streams.input new.streams.input) finding;
  Leaves = λ end.
      LooksAtBase (change old.guest new.guest) end
      × ReadsInput old.streams.input new.streams.input end
      × MomentDecidesAlone n old.home (change old.guest new.guest) (change old.streams.input new.streams.input);
}

-- a command that saves uses its home file, the notes, and the object that gives
pub record RunsSaving (saver : Saver) (old new : Touched) (end : Status) : Type 0 where
  pub others : new ≡ record saver.others { streams = record saver.others.streams { notes = new.streams.notes }; home = new.home }
  pub does : SavesGiven saver.ops_source (change old.home new.home) (change old.streams.notes new.streams.notes) end
  pub leaves : saver.Leaves end
  -- a home file that is refused decides alone: no object is asked to give
  pub unused : IsSpecified old.home → (why : Refusal) → FileRefuses old.home why → saver.others ≡ old
