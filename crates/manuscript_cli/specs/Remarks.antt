-- `remarks` and `withdraw`. Remarks count from 1.
use Rattle.std.specs.Prelude.{◌≡◌, ℕ, Option, Some, None}
use Rattle.fugue_ids.specs.declared.op.Op.TheVariants.{Delete}
use Rattle.passage_remarks.specs.Remarks.{Remark, remarks_text}
use Rattle.passage_remarks.specs.Withdrawing.{remark_numbered, withdraw_refusal}
use Rattle.passage_remarks.specs.declared.withdrawing.WithdrawFault.{WithdrawFault}
use Rattle.passage_remarks.specs.declared.withdrawing.WithdrawFault.TheVariants as fault
use Rattle.command_kinds.specs.Findings.{Finding, Refuses, Does}
use Rattle.command_kinds.specs.Notes.{NoteOn}
use Rattle.command_kinds.specs.Report.{ReportText}
use Rattle.command_kinds.specs.declared.refusal.Refusal.{Refusal}
use Rattle.command_kinds.specs.declared.refusal.Refusal.TheVariants as refusal
use Rattle.fugue_ids.specs.declared.op.Op.{Op}

-- `remarks` reports the remarks on the manuscript
abbrev pub remarks_reports : ReportText
remarks_reports replica found = found ≡ Does (remarks_text replica.held.history)

-- a fault as a refusal, by the number in the words
abbrev pub withdraw_refused : ℕ → WithdrawFault → Refusal
withdraw_refused n fault.NoComment = refusal.NoComment n
withdraw_refused n (fault.TooMany held) = refusal.TooMany held
withdraw_refused n fault.NoMemory = refusal.NoMemory

-- the Delete of a comment, unless it is refused
abbrev pub withdrawal : ℕ → Option WithdrawFault → Option Remark → Finding Op
withdrawal n (Some why) remark = Refuses (withdraw_refused n why)
withdrawal n None None = Refuses (refusal.NoComment n)
withdrawal n None (Some remark) = Does (Delete remark.id)

-- `withdraw`: the comment of the remark with the number
abbrev pub withdraw_on : ℕ → NoteOn
withdraw_on n replica = withdrawal n (withdraw_refusal replica n) (remark_numbered replica.held.history n)
