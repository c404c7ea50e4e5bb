-- What `show` does at each of its ends.
use Rattle.std.specs.Prelude.{◌≡◌, ◌⊎◌, ℕ, List, [], length, true, Some, IfSome, Ok, Err, Result}
use Rattle.fugue_ids.specs.Causes.{Faulted}
use Rattle.fugue_ids.specs.Outs.{Took}
use Rattle.fugue_ids.specs.declared.op.Op.{Op}
use Rattle.origin_model.specs.order.Printed.{manuscript}
use Rattle.origin_model.specs.taking.Taking.{Held, nothing_held, held_from, tally_from, no_counts}
use Rattle.origin_model.specs.edits.State.{State}
use Rattle.command_kinds.specs.Counts.{counts_line, status_by}
use Rattle.fugue_ids.specs.declared.limits.TheConstants.{MOST_OPERATIONS}
use Rattle.command_kinds.specs.Findings.{Basis, Does, EitherFails, Finding, Refuses, WhereSpecified}
use Rattle.command_kinds.specs.Input.{StreamFound}
use Rattle.command_kinds.specs.Printing.{WroteFront}
use Rattle.command_kinds.specs.Changes.{HasRoom, OutBlameless, SourceBlameless, CountsNoFault, Streams, change}
use Rattle.command_kinds.specs.declared.refusal.Refusal.{Refusal}
use Rattle.command_kinds.specs.declared.refusal.Refusal.TheVariants as refusal
use Rattle.command_kinds.specs.declared.status.Status.{Status}
use Rattle.command_kinds.specs.Acts.{Act, IsDecidedBy, NeverOutside, Performs}

-- the replica that `show` begins with: it holds nothing
abbrev pub reader : ℕ → State
reader hold = record { number = 1; hold = hold; most = MOST_OPERATIONS; held = nothing_held }

-- what is printed where these operations were taken in from a state, what is noted, and the status that they lead to
abbrev pub shown_output : (hold : ℕ) → Held → List Op → List ℕ
shown_output hold start ops = manuscript (held_from hold MOST_OPERATIONS start ops).history

-- the counts that `show` notes of the operations
abbrev pub shown_notes : (hold : ℕ) → Held → List Op → List ℕ
shown_notes hold start ops =
    counts_line (tally_from hold MOST_OPERATIONS start ops no_counts) (length (held_from hold MOST_OPERATIONS start ops).waiting)

-- the status of `show` after the operations
abbrev pub status_after : (hold : ℕ) → Held → List Op → Status
status_after hold start ops =
    status_by (tally_from hold MOST_OPERATIONS start ops no_counts) (length (held_from hold MOST_OPERATIONS start ops).waiting)

-- all of the input was read, and the manuscript of its operations was printed
pub record PrintsInput (hold : ℕ) (old new : Streams) (ops : List Op) : Type 0 where
  pub came : StreamFound (reader hold) old.input (Does ops)
  pub read : IfSome new.input.left (λ bytes. bytes ≡ [])
  pub output : Took old.output new.output (shown_output hold nothing_held ops)

-- a read failed, and nothing was printed
pub record ReadFailed (old new : Streams) : Type 0 where
  pub faulted : Faulted old.input.faults new.input.faults
  pub not_sure : old.input.sure ≡ true → ⊥
  pub output : new.output ≡ old.output

-- everything was read, and the output failed: a front of the manuscript was printed
pub record OutputFailed (hold : ℕ) (old new : Streams) : Type 0 where
  pub ops : List Op
  pub came : StreamFound (reader hold) old.input (Does ops)
  pub front : WroteFront (shown_output hold nothing_held ops) (change old.output new.output)

-- what came of the input: its operations were shown, or why not
abbrev pub ShowComes : (hold : ℕ) → Streams → Streams → Result (List Op) Refusal → Type 0
ShowComes hold old new (Ok ops) = PrintsInput hold old new ops
ShowComes hold old new (Err refusal.Outside) = ReadFailed old new ⊎ OutputFailed hold old new
ShowComes hold old new (Err refusal.NoMemory) = new.output ≡ old.output
ShowComes hold old new (Err why) = StreamFound (reader hold) old.input (Refuses why) × (new.output ≡ old.output)

-- the act of `show`: the counts are noted
abbrev pub showing : (hold : ℕ) → Streams → Streams → Act (List Op)
showing hold old new = record {
  Comes = ShowComes hold old new;
  line = λ ops. Some (shown_notes hold nothing_held ops);
  status = status_after hold nothing_held;
}

-- what the input brings to the output: nothing, where it is refused
abbrev pub brought_to_output : (hold : ℕ) → Finding (List Op) → List ℕ
brought_to_output hold (Refuses why) = []
brought_to_output hold (Does ops) = shown_output hold nothing_held ops

-- what decides `show`: the input, and where that is whole the output
abbrev pub show_basis : (hold : ℕ) → Streams → Streams → Basis (List Op)
show_basis hold old new = record {
  Specified = (bytes : List ℕ) × (old.input.left ≡ Some bytes);
  Leads = StreamFound (reader hold) old.input;
  Failed = EitherFails (Faulted old.input.faults new.input.faults) (Faulted old.output.faults new.output.faults);
  Sure = λ found. (old.input.sure ≡ true) × HasRoom (length (brought_to_output hold found)) old.output;
}

-- the input decides the status of `show`, but for lack of memory and faults
abbrev pub ShowIsDecided : (hold : ℕ) → Streams → Streams → Status → Type 0
ShowIsDecided hold old new end = IsDecidedBy (showing hold old new) (show_basis hold old new) (change old.notes new.notes) end

-- the command `show`
pub record Shows (hold : ℕ) (old new : Streams) (end : Status) : Type 0 where
  pub performs : Performs (showing hold old new) (change old.notes new.notes) end
  -- sure objects with room count no fault, however the command ends
  pub input_no_fault : old.input.sure ≡ true → new.input.faults ≡ old.input.faults
  pub output_no_fault : WhereSpecified (show_basis hold old new)
      (λ found. CountsNoFault (length (brought_to_output hold found)) old.output new.output)
  pub never_outside : NeverOutside (showing hold old new) (show_basis hold old new) (change old.notes new.notes) end
  pub decided : ShowIsDecided hold old new end
  pub input_blameless : SourceBlameless (change old.input new.input) end
  pub output_blameless : OutBlameless (change old.output new.output) end
