-- The commands that report: each writes a text of what a file's replica holds to the output.
use Rattle.std.specs.Prelude.{◌≡◌, ◌⊎◌, ℕ, List, [], ◌++◌, length, None, Ok, Err, Result}
use Rattle.fugue_ids.specs.Causes.{Faulted}
use Rattle.fugue_ids.specs.Outs.{OutView, Took}
use Rattle.origin_model.specs.frames.Framings.{frames}
use Rattle.origin_model.specs.operations.History.{accepted}
use Rattle.origin_model.specs.order.Printed.{manuscript}
use Rattle.outer_ports.specs.disk.Disks.{DiskView}
use Rattle.outer_ports.specs.disk.Moments.{past_after_step}
use Rattle.outer_ports.specs.disk.States.{durable}
use Rattle.origin_model.specs.edits.State.{State as Replica}
use Rattle.command_kinds.specs.Crashes.{NeverTorn}
use Rattle.command_kinds.specs.Files.{FileFinds, FileRefuses, KeepsFile, LoadFailed}
use Rattle.command_kinds.specs.Findings.{Basis, Does, EitherFails, Finding, Refuses, WhereSpecified}
use Rattle.command_kinds.specs.Printing.{WroteFront}
use Rattle.command_kinds.specs.Changes.{Change, CountsNoFault, DiskBlameless, DiskCountsNoFault, HasDiskRoom, HasRoom}
use Rattle.command_kinds.specs.Changes.{IsSpecified, OutBlameless}
use Rattle.command_kinds.specs.declared.refusal.Refusal.{Refusal}
use Rattle.command_kinds.specs.declared.refusal.Refusal.TheVariants as refusal
use Rattle.command_kinds.specs.declared.status.Status.{Status}
use Rattle.command_kinds.specs.declared.status.Status.TheVariants.{Done}
use Rattle.command_kinds.specs.Acts.{Act, IsDecidedBy, NeverOutside, Performs}

-- what a command reports of what a replica holds: a text, or why there is none
abbrev pub ReportText : Type 1
ReportText = Replica → Finding (List ℕ) → Type 0

-- what the file leads to: it is refused, or there is what is reported of its replica
abbrev pub TextFound : ReportText → DiskView → Finding (List ℕ) → Type 0
TextFound tells file found = FileFinds (λ replica end. tells replica) file found

-- the bytes that go out
abbrev pub bytes_found : Finding (List ℕ) → List ℕ
bytes_found (Refuses why) = []
bytes_found (Does bytes) = bytes

-- the file was loaded, which settles it, and this came of the text of what it holds
pub record WroteHeld (tells : ReportText) (file : Change DiskView) (bytes : List ℕ) (Wrote : Type 0) : Type 0 where
  pub found : TextFound tells file.old (Does bytes)
  pub synced : file.new.past ≡ past_after_step durable file.old.past
  pub came : Wrote

-- the file is refused, or what it holds: then it was loaded, which settles it
pub record RefusesHeld (tells : ReportText) (file : Change DiskView) (why : Refusal) : Type 0 where
  pub found : TextFound tells file.old (Refuses why)
  pub synced : FileRefuses file.old why ⊎ (file.new.past ≡ past_after_step durable file.old.past)

-- what came of a report: the text went out, or a call failed, or memory ran out, or the file or what it holds is refused
abbrev pub ReportComes : (tells : ReportText) → Change DiskView → (output : Change OutView) → Result (List ℕ) Refusal → Type 0
ReportComes tells file output (Ok bytes) = WroteHeld tells file bytes (Took output.old output.new bytes)
ReportComes tells file output (Err refusal.Outside) =
    (LoadFailed file × (output.new ≡ output.old)) ⊎ ((bytes : List ℕ) × WroteHeld tells file bytes (WroteFront bytes output))
ReportComes tells file output (Err refusal.NoMemory) = output.new ≡ output.old
ReportComes tells file output (Err refusal.Words) = ⊥
ReportComes tells file output (Err why) = RefusesHeld tells file why × (output.new ≡ output.old)

-- the act of a command that reports: only why it did not is noted
abbrev pub reporting : (tells : ReportText) → Change DiskView → (output : Change OutView) → Act (List ℕ)
reporting tells file output = record { Comes = ReportComes tells file output; line = λ bytes. None; status = λ bytes. Done }

-- what decides it: the file, and where there is a text the output
abbrev pub report_basis : (tells : ReportText) → Change DiskView → (output : Change OutView) → Basis (List ℕ)
report_basis tells file output = record {
  Specified = IsSpecified file.old;
  Leads = TextFound tells file.old;
  Failed = EitherFails (Faulted file.old.faults file.new.faults) (Faulted output.old.faults output.new.faults);
  Sure = λ found. HasDiskRoom 1 file.old × HasRoom (length (bytes_found found)) output.old;
}

-- a command that reports
pub record Reports (tells : ReportText) (file : Change DiskView) (output notes : Change OutView) (end : Status) : Type 0 where
  pub performs : Performs (reporting tells file output) notes end
  pub keeps : KeepsFile file
  pub crash : NeverTorn (λ gave. gave ≡ []) file end
  -- sure objects with room count no fault, however the command ends
  pub file_no_fault : DiskCountsNoFault 1 file
  pub output_no_fault : WhereSpecified (report_basis tells file output)
      (λ found. CountsNoFault (length (bytes_found found)) output.old output.new)
  pub never_outside : NeverOutside (reporting tells file output) (report_basis tells file output) notes end
  pub decided : IsDecidedBy (reporting tells file output) (report_basis tells file output) notes end
  pub file_blameless : DiskBlameless file end
  pub output_blameless : OutBlameless output end

-- what `print` reports: the manuscript
abbrev pub printed_of : Replica → List ℕ
printed_of replica = manuscript replica.held.history

-- `print` reports the manuscript
abbrev pub print_reports : ReportText
print_reports replica found = found ≡ Does (printed_of replica)

-- what `send` reports: the frames of the accepted operations, and those of the waiting ones
abbrev pub frames_held : Replica → List ℕ
frames_held replica = frames (accepted replica.held.history) ++ frames replica.held.waiting

-- `send` reports frames of all that the replica holds
abbrev pub send_reports : ReportText
send_reports replica found = found ≡ Does (frames_held replica)
