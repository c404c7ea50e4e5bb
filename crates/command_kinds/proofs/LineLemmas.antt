-- A line that was written to the notes, as far as they took it, is reported.
use Rattle.std.proofs.Common.{◌≤◌, arith, inl, inr, List, length, ℕ}
use Rattle.std.specs.Prelude.{Result, Ok, Err}
use Rattle.fugue_ids.specs.Outs.{OutView, WritesBytes}
use Rattle.fugue_ids.specs.declared.out.Failed.{Failed}
use Rattle.command_kinds.specs.Refusal.{Reported}
use Rattle.command_kinds.specs.Changes.{notes_room}
use Rattle.command_kinds.proofs.TextLemmas.{less_room, sure_of, text_has_no_room, whole_front}

pub line_reported : (result : Result (Unit {0}) Failed) (old new : OutView) (line : List ℕ) → WritesBytes old new result line → length line ≤ notes_room → Reported old new line
line_reported (Ok done) old new line wrote short = record {
  later = wrote.cause.later;
  whole = λ not. wrote.ok;
  front = whole_front old new line wrote.ok;
  sure = λ has. ((sure_of (Ok done) old new line wrote has).counts_no_fault, wrote.ok);
  counts_no_fault = λ has. (sure_of (Ok done) old new line wrote (less_room (length line) notes_room old short has)).counts_no_fault;
  exact = λ tells. inl (wrote.specified_no_fault tells);
}
line_reported (Err e) old new line wrote short = record {
  later = wrote.cause.later;
  whole = λ not. absurd (not wrote.cause.failed);
  front = wrote.err;
  sure = λ has. absurd (text_has_no_room e old new line (length line) wrote (omega arith) has);
  counts_no_fault = λ has. absurd (text_has_no_room e old new line notes_room wrote short has);
  exact = λ tells. inr wrote.cause.failed;
}
