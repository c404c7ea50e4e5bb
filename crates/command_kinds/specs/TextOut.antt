-- A text that goes to the output: what came of it, and the acts of commands that write one.
use Rattle.std.specs.Prelude.{◌≡◌, ◌≢◌, ◌⊎◌, ℕ, List, length, Result, Ok, Err, Some}
use Rattle.fugue_ids.specs.Outs.{OutIsSpecified, OutView, Took}
use Rattle.command_kinds.specs.Findings.{Finding, Refuses, Does}
use Rattle.command_kinds.specs.Printing.{WroteFront}
use Rattle.command_kinds.specs.Refusal.{status_of}
use Rattle.command_kinds.specs.Changes.{Change, CountsNoFault}
use Rattle.command_kinds.specs.declared.refusal.Refusal.{Refusal}
use Rattle.command_kinds.specs.declared.refusal.Refusal.TheVariants as refusal
use Rattle.command_kinds.specs.declared.status.Status.{Status}
use Rattle.command_kinds.specs.declared.status.Status.TheVariants as status
use Rattle.command_kinds.specs.Acts.{Act, Performs, all_done, no_line}
use Rattle.command_kinds.specs.Counts.{counts_line, status_by}
use Rattle.origin_model.specs.order.Printed.{manuscript}
use Rattle.origin_model.specs.taking.Taking.{Held}
use Rattle.origin_model.specs.declared.taking.Tally.{Tally}

-- what came of a text: it went out, or the output failed, or memory ran out, and nothing went out
abbrev pub TextComes : (bytes : List ℕ) → Change OutView → Result (Unit {0}) Refusal → Type 0
TextComes bytes output (Ok done) = Took output.old output.new bytes
TextComes bytes output (Err refusal.Outside) = WroteFront bytes output
TextComes bytes output (Err refusal.NoMemory) = output.new ≡ output.old
TextComes bytes output (Err _) = ⊥

-- the call that writes a text: a sure output that has room for it counts no fault, and a specified one none unless the call failed
pub record GoesOut (bytes : List ℕ) (output : Change OutView) (result : Result (Unit {0}) Refusal) : Type 0 where
  pub comes : TextComes bytes output result
  pub counts_no_fault : CountsNoFault (length bytes) output.old output.new
  pub reported : OutIsSpecified output.old → result ≢ Err refusal.Outside → output.new.faults ≡ output.old.faults

-- the act of a command that writes a text: only a failure is noted
abbrev pub writing : (bytes : List ℕ) → Change OutView → Act (Unit {0})
writing bytes output = record { Comes = GoesOut bytes output; line = no_line; status = all_done }

-- the act of printing a manuscript, where so much was counted: the counts are noted
abbrev pub printing : Held → Tally → Change OutView → Act (Unit {0})
printing state counts output = record {
  Comes = GoesOut (manuscript state.history) output;
  line = λ done. Some (counts_line counts (length state.waiting));
  status = λ done. status_by counts (length state.waiting);
}

-- a command that writes a text, and notes but why it did not
abbrev pub WritesOut : (bytes : List ℕ) → (output notes : Change OutView) → Status → Type 0
WritesOut bytes output notes end = Performs (writing bytes output) notes end

-- there is no text, and why: what a command reports of is not there, or memory ran out
abbrev pub HasNoText : (tells : Finding (List ℕ) → Type 0) → Refusal → Type 0
HasNoText tells refusal.NoMemory = Unit {0}
HasNoText tells why = (status_of why ≡ status.BadInput) × tells (Refuses why)

-- the call that writes what is reported: a text, or nothing
abbrev pub ReportGoesOut : (tells : Finding (List ℕ) → Type 0) → Change OutView → Result (Unit {0}) Refusal → Type 0
ReportGoesOut tells output result =
    ((bytes : List ℕ) × tells (Does bytes) × GoesOut bytes output result)
    ⊎ ((why : Refusal) × (result ≡ Err why) × HasNoText tells why × (output.new ≡ output.old))

-- the act of a command that writes what is reported
abbrev pub writing_found : (tells : Finding (List ℕ) → Type 0) → Change OutView → Act (Unit {0})
writing_found tells output = record { Comes = ReportGoesOut tells output; line = no_line; status = all_done }

-- what is reported was written, or nothing
abbrev pub WritesReport : (tells : Finding (List ℕ) → Type 0) → (output notes : Change OutView) → Status → Type 0
WritesReport tells output notes end = Performs (writing_found tells output) notes end
