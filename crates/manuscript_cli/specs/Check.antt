-- `check`: whether the text on the input is that of a valid certificate.
use Rattle.std.specs.Prelude.{◌≡◌, ◌⊎◌, ℕ, ◌+◌, ◌≤◌, List, [], length, IfSome, codes, ◌++◌, ◌∷◌}
use Rattle.std.specs.Io.KnownBytes.{prepend_known}
use Rattle.fugue_ids.specs.Outs.{OutView}
use Rattle.outer_ports.specs.Sources.{KeepsCount, SourceView}
use Rattle.outer_ports.specs.disk.Disks.{DiskView}
use Rattle.outer_ports.specs.disk.Moments.{past_after_step}
use Rattle.outer_ports.specs.disk.States.{durable}
use Rattle.origin_model.specs.edits.State.{State as Replica}
use Rattle.order_proof.specs.Readings.{IsValidText}
use Rattle.replica_file.specs.declared.load_file.End.{End}
use Rattle.command_kinds.specs.Crashes.{NeverTorn}
use Rattle.command_kinds.specs.Files.{FileHolds, KeepsFile}
use Rattle.command_kinds.specs.Findings.{Refuses, Does}
use Rattle.command_kinds.specs.Refusal.{Reported, refusal_line, status_of}
use Rattle.command_kinds.specs.Report.{Reports, ReportText}
use Rattle.command_kinds.specs.TextOut.{WritesReport}
use Rattle.command_kinds.specs.Changes.{Change, DiskBlameless}
use Rattle.manuscript_cli.specs.declared.check.TheConstants.{LONGEST_TEXT}
use Rattle.command_kinds.specs.declared.refusal.Refusal.{Refusal}
use Rattle.command_kinds.specs.declared.refusal.Refusal.TheVariants as refusal
use Rattle.command_kinds.specs.declared.status.Status.{Status}

-- what `check` tells of a text: `yes` exactly where it is that of a valid certificate, else `no`
abbrev pub check_reports : (text : List ℕ) → ReportText
check_reports text replica (Does bytes) =
    (IsValidText replica.held.history text × (bytes ≡ codes "yes" ++ 10 ∷ []))
    ⊎ (¬ (IsValidText replica.held.history text) × (bytes ≡ codes "no" ++ 10 ∷ []))
check_reports text replica (Refuses why) = ⊥

-- the text is all that the input had left
pub record IsTextRead (input : Change SourceView) (text : List ℕ) : Type 0 where
  pub split : input.old.left ≡ prepend_known text input.new.left
  pub ended : IfSome input.new.left (λ left. left ≡ [])
  pub short : length text ≤ LONGEST_TEXT

-- the input had more than a text may have: one byte past the limit was taken
pub record IsTextLonger (input : Change SourceView) : Type 0 where
  pub front : List ℕ
  pub split : input.old.left ≡ prepend_known front input.new.left
  pub long : length front ≡ LONGEST_TEXT + 1

-- why no text was read: a read failed, or memory ran out, or the input is too long
abbrev pub HasNoInputText : Change SourceView → Refusal → Type 0
HasNoInputText input refusal.Outside = Unit {0}
HasNoInputText input refusal.NoMemory = Unit {0}
HasNoInputText input refusal.TooLong = IsTextLonger input
HasNoInputText input _ = ⊥

-- the next n bytes came, one past the limit at most; none came only at the end
pub record GetsPiece (before after : List ℕ) (old new : SourceView) (n : ℕ) : Type 0 where
  pub piece : List ℕ
  pub long : length piece ≡ n
  pub items : after ≡ before ++ piece
  pub gave : old.left ≡ prepend_known piece new.left
  pub within : length after ≤ LONGEST_TEXT + 1
  pub ends : n ≡ 0 → IfSome old.left (λ left. left ≡ [])

-- the text was read, and what it is was written of what a replica holds
pub record HeldText (input : Change SourceView) (replica : Replica) (output notes : Change OutView) (end : Status) : Type 0 where
  pub text : List ℕ
  pub read : IsTextRead input text
  pub count : KeepsCount input.old input.new ⊥
  pub writes : WritesReport (check_reports text replica) output notes end

-- no text was read, and why was reported
pub record NoTextRead (input : Change SourceView) (output notes : Change OutView) (end : Status) : Type 0 where
  pub why : Refusal
  pub cause : HasNoInputText input why
  pub count : KeepsCount input.old input.new (why ≡ refusal.Outside)
  pub wrote : output.new ≡ output.old
  pub noted : Reported notes.old notes.new (refusal_line why)
  pub end_is : end ≡ status_of why

-- after a file that was loaded the text is read, and what it is is reported
abbrev pub ChecksHeld : Change SourceView → Replica → (output notes : Change OutView) → Status → Type 0
ChecksHeld input replica output notes end = HeldText input replica output notes end ⊎ NoTextRead input output notes end

-- no replica is there of which something might be reported
abbrev pub nothing_said : ReportText
nothing_said replica found = ⊥

-- the file was loaded, the text was read, and what it is was reported
pub record CheckedText (input : Change SourceView) (file : Change DiskView) (output notes : Change OutView) (end : Status) : Type 0 where
  pub text : List ℕ
  pub read : IsTextRead input text
  pub count : KeepsCount input.old input.new ⊥
  pub loaded : (replica : Replica) × (at : End) × FileHolds file.old replica at × WritesReport (check_reports text replica) output notes end
  pub reports : Reports (check_reports text) file output notes end

-- the file was loaded, which settles it, and no text was read
pub record ReadNoText (input : Change SourceView) (file : Change DiskView) (output notes : Change OutView) (end : Status) : Type 0 where
  pub none : NoTextRead input output notes end
  pub holds : (replica : Replica) × (at : End) × FileHolds file.old replica at
  pub synced : file.new.past ≡ past_after_step durable file.old.past
  pub keeps : KeepsFile file
  pub crash : NeverTorn (λ gave. gave ≡ []) file end
  pub file_blameless : DiskBlameless file end

-- the file was not loaded, why was reported, and the input was not asked
pub record LoadedNone (input : Change SourceView) (file : Change DiskView) (output notes : Change OutView) (end : Status) : Type 0 where
  pub unread : input.new ≡ input.old
  pub reports : Reports nothing_said file output notes end

-- the command `check`: the file decides before the input
abbrev pub ChecksText : Change SourceView → Change DiskView → (output notes : Change OutView) → Status → Type 0
ChecksText input file output notes end =
    CheckedText input file output notes end ⊎ ReadNoText input file output notes end ⊎ LoadedNone input file output notes end
