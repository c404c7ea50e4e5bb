-- What `show` does, by what its parts do.
use Rattle.std.proofs.Common.{◌≡◌, ◌≢◌, ℕ, List, length, refl, ap, sym, subst, ◌∙◌, inl, inr, Bool, true, false}
use Rattle.std.specs.Prelude.{◌⊎◌, Option, if◌then◌else◌, Ok, Err, Result}
use Rattle.fugue_ids.specs.Causes.{Faulted}
use Rattle.fugue_ids.specs.Outs.{OutView}
use Rattle.fugue_ids.specs.declared.op.Op.{Op}
use Rattle.origin_model.specs.order.Printed.{manuscript}
use Rattle.origin_model.specs.taking.Taking.{Held, held, tally}
use Rattle.origin_model.specs.declared.taking.Tally.{Tally}
use Rattle.origin_model.specs.edits.State.{State}
use Rattle.command_kinds.specs.Counts.{is_done}
use Rattle.fugue_ids.specs.declared.limits.TheConstants.{MOST_OPERATIONS}
use Rattle.command_kinds.specs.Show.{ShowComes, Shows, brought_to_output, reader, show_basis, showing}
use Rattle.command_kinds.specs.Findings.{Basis, Does, Finding, Refuses, WhereSpecified}
use Rattle.command_kinds.specs.Intake.{TakesInStream, IntakeStopsFor}
use Rattle.command_kinds.specs.Changes.{Streams, HasRoom, CountsNoFault, Change, OutBlameless, SourceBlameless, change}
use Rattle.command_kinds.specs.declared.refusal.Refusal.{Refusal}
use Rattle.command_kinds.specs.declared.refusal.Refusal.TheVariants as refusal
use Rattle.command_kinds.specs.declared.status.Status.{Status}
use Rattle.command_kinds.specs.declared.status.Status.TheVariants as status
use Rattle.command_kinds.specs.Acts.{Performs, ReportsResult}
use Rattle.command_kinds.specs.TextOut.{TextComes, printing}
use Rattle.command_kinds.proofs.ActLemmas.{Answers, decided_by, first_fails, inside_by}
use Rattle.command_kinds.proofs.TakeLemmas.{stream_found_once}

-- the end of what was shown is Done or Partial
pub done_or_partial : (all : Bool) → let end : Status = if all then status.Done else status.Partial in (end ≡ status.Done) ⊎ (end ≡ status.Partial)
done_or_partial true = inl refl
done_or_partial false = inr refl

-- the stream was taken in, and the manuscript printed and noted, or not
pub printed_performs : (hold : ℕ) (old new : Streams) (replica : State) (counts : Tally) (kept kept_after : Option (List Op)) (end : Status)
    → TakesInStream (reader hold) old.input new.input replica counts kept kept_after
    → Performs (printing replica.held counts (change old.output new.output)) (change old.notes new.notes) end
    → Performs (showing hold old new) (change old.notes new.notes) end
printed_performs hold old new replica counts kept kept_after end taken prints =
    let shown = subst (λ (c : Tally). Performs (printing state c output) notes end) taken.counts_are
    (subst (λ (s : State). Performs (printing s.held counts output) notes end) taken.replica_is prints) in
    by_result shown.result shown.did.comes shown.reported
  where
    output : Change OutView
    output = change old.output new.output

    notes : Change OutView
    notes = change old.notes new.notes

    state : Held
    state = held hold MOST_OPERATIONS taken.ops

    Specified : Result (Unit {0}) Refusal → Type 0
    Specified result = let act = printing state (tally hold MOST_OPERATIONS taken.ops) output in ReportsResult act.line act.status result notes end

    by_result : (result : Result (Unit {0}) Refusal) → TextComes (manuscript state.history) output result → Specified result
        → Performs (showing hold old new) notes end
    by_result (Ok done) wrote reported = record {
      result = Ok taken.ops;
      did = record { came = taken.came; read = taken.read; output = wrote };
      reported = record { noted = reported.noted; counts_no_fault = reported.counts_no_fault; blameless = reported.blameless };
    }
    by_result (Err refusal.Outside) front reported = record {
      result = Err refusal.Outside;
      did = inr (record { ops = taken.ops; came = taken.came; front = front });
      reported = record { noted = reported.noted; counts_no_fault = reported.counts_no_fault; blameless = reported.blameless };
    }
    by_result (Err refusal.NoMemory) same reported = record {
      result = Err refusal.NoMemory;
      did = same;
      reported = record { noted = reported.noted; counts_no_fault = reported.counts_no_fault; blameless = reported.blameless };
    }
    by_result (Err _) none reported = absurd none

-- the stream was refused
pub refused_comes : (why : Refusal) (hold : ℕ) (old new : Streams) → IntakeStopsFor why (reader hold) old.input
    → (why ≡ refusal.Outside → Faulted old.input.faults new.input.faults) → (old.input.sure ≡ true → why ≢ refusal.Outside)
    → new.output ≡ old.output → ShowComes hold old new (Err why)
refused_comes refusal.Outside hold old new stops faulted sure same = inl (record { faulted = faulted refl; not_sure = λ is. sure is refl; output = same })
refused_comes refusal.NoMemory hold old new stops faulted sure same = same
refused_comes why hold old new stops faulted sure same = (stops, same)

module _ (hold : ℕ) (old new : Streams) where
  abbrev basis : Basis (List Op)
  basis = show_basis hold old new

  once : basis.Specified → (one two : Finding (List Op)) → basis.Leads one → basis.Leads two → one ≡ two
  once specified = stream_found_once old.input specified (reader hold)

  -- what came of the input is what it leads to
  answers : (result : Result (List Op) Refusal) → ShowComes hold old new result → WhereSpecified basis (λ found. Answers basis found result)
  answers (Ok ops) did specified found is = once specified found (Does ops) is did.came
  answers (Err refusal.Outside) (inl read) specified found is = (first_fails _ _ found read.faulted, λ sure. read.not_sure sure.0)
  answers (Err refusal.Outside) (inr write) specified found is =
      let same = once specified (Does write.ops) found write.came is in
      (subst basis.Failed same (inr write.front.faulted), λ sure. write.front.no_room (subst (λ f. HasRoom (length (brought_to_output hold f)) old.output) (sym same) sure.1))
  answers (Err refusal.NoMemory) did specified found is = tt
  answers (Err why) did specified found is = once specified found (Refuses why) is did.0

  -- where the manuscript has room, the output counts no fault
  pub output_no_fault : (replica : State) (counts : Tally) (kept kept_after : Option (List Op)) → TakesInStream (reader hold) old.input new.input replica counts kept kept_after
      → CountsNoFault (length (manuscript replica.held.history)) old.output new.output
      → WhereSpecified basis (λ found. CountsNoFault (length (brought_to_output hold found)) old.output new.output)
  output_no_fault replica counts kept kept_after taken counts_no_fault specified found is has =
      let same = once specified found (Does taken.ops) is taken.came in
      counts_no_fault (subst (λ text. HasRoom (length text) old.output) (ap (brought_to_output hold) same
      ∙ ap (λ (r : State). manuscript r.held.history) (sym taken.replica_is)) has)

  -- the rest follows from that
  pub shows : (end : Status) → Performs (showing hold old new) (change old.notes new.notes) end → (old.input.sure ≡ true → new.input.faults ≡ old.input.faults)
      → WhereSpecified basis (λ found. CountsNoFault (length (brought_to_output hold found)) old.output new.output)
      → SourceBlameless (change old.input new.input) end → OutBlameless (change old.output new.output) end → Shows hold old new end
  shows end performs input_no_fault output_no_fault input_blameless output_blameless = record {
    performs = performs;
    input_no_fault = input_no_fault;
    output_no_fault = output_no_fault;
    never_outside = inside_by (showing hold old new) (change old.notes new.notes) end performs basis answers
        (λ ops did. done_or_partial (is_done (tally hold MOST_OPERATIONS ops) (length (held hold MOST_OPERATIONS ops).waiting)));
    decided = decided_by (showing hold old new) (change old.notes new.notes) end performs basis answers;
    input_blameless = input_blameless;
    output_blameless = output_blameless;
  }
