-- From what `show` does at each of its ends: the headline.
use Rattle.std.proofs.Common.{◌≡◌, ◌≢◌, ℕ, List, sym, subst, inl, inr}
use Rattle.std.specs.Prelude.{IfSome, Some, Ok, Err, Result}
use Rattle.fugue_ids.specs.Outs.{Took}
use Rattle.fugue_ids.specs.declared.op.Op.{Op}
use Rattle.origin_model.specs.declared.grammar.Grammar.TheVariants.{Version2}
use Rattle.origin_model.specs.order.Laws.{OrderBySet}
use Rattle.origin_model.specs.order.Printed.{manuscript}
use Rattle.origin_model.specs.taking.Taking.{held, nothing_held}
use Rattle.op_frame.specs.IntakeOutcomes.{Comes, Whole}
use Rattle.command_kinds.proofs.LawfulLemmas.{held_lawful}
use Rattle.manuscript_cli.proofs.BySetLemmas.{manuscript_by_set, printed_by_set}
use Rattle.manuscript_cli.specs.Headline.{Headline, CountedNoFault}
use Rattle.fugue_ids.specs.declared.limits.TheConstants.{MOST_OPERATIONS, STREAM_LIMIT}
use Rattle.command_kinds.specs.Acts.{NotesResult, Performs}
use Rattle.command_kinds.specs.Findings.{Does, Finding, Refuses}
use Rattle.command_kinds.specs.Input.{StreamFound}
use Rattle.command_kinds.specs.Refusal.{status_of}
use Rattle.command_kinds.specs.Show.{PrintsInput, ShowComes, reader, showing, shown_notes, status_after}
use Rattle.command_kinds.specs.Changes.{Streams, change}
use Rattle.command_kinds.specs.declared.refusal.Refusal.{Refusal}
use Rattle.command_kinds.specs.declared.refusal.Refusal.TheVariants as refusal
use Rattle.command_kinds.specs.declared.status.Status.{Status}
use Rattle.command_kinds.specs.declared.status.Status.TheVariants as status
use Rattle.command_kinds.proofs.TakeLemmas.{stream_found_once}

-- where no object failed and no limit was met, the stream was shown
module _ (hold : ℕ) (old new : Streams) (end : Status) (bytes : List ℕ) (ops : List Op) (is : old.input.left ≡ Some bytes)
    (comes : Comes Version2 hold MOST_OPERATIONS nothing_held STREAM_LIMIT bytes ops Whole) (counts_no_fault : CountedNoFault old new) (memory : end ≢ status.NoMemory) where
  abbrev IsShown : Type 0
  IsShown = PrintsInput hold old new ops × Took old.notes new.notes (shown_notes hold nothing_held ops) × (end ≡ status_after hold nothing_held ops)

  same : (found : Finding (List Op)) → StreamFound (reader hold) old.input found → found ≡ Does ops
  same found came = stream_found_once old.input (bytes, is) (reader hold) found (Does ops) came
      (subst (λ left. IfSome left (λ b. Comes Version2 hold MOST_OPERATIONS nothing_held STREAM_LIMIT b ops Whole)) (sym is) comes)

  no_refusal : (why : Refusal) → ShowComes hold old new (Err why) → end ≡ status_of why → ⊥
  no_refusal refusal.Outside (inl read) ends = counts_no_fault.input read.faulted
  no_refusal refusal.Outside (inr write) ends = counts_no_fault.output write.front.faulted
  no_refusal refusal.NoMemory did ends = memory ends
  no_refusal why did ends = cc (same (Refuses why) did.0)

  whole_shown : Performs (showing hold old new) (change old.notes new.notes) end → IsShown
  whole_shown performs = by_result performs.result performs.did performs.reported.noted
    where
      Noted : Result (List Op) Refusal → Type 0
      Noted result = let act = showing hold old new in NotesResult act.line act.status result (change old.notes new.notes) end

      by_result : (result : Result (List Op) Refusal) → ShowComes hold old new result → Noted result → IsShown
      by_result (Ok others) did (inl took) =
          let shown : others ≡ ops = cc (same (Does others) did.came) in
          subst (λ (o : List Op). PrintsInput hold old new o × Took old.notes new.notes (shown_notes hold nothing_held o) × (end ≡ status_after hold nothing_held o))
          shown (did, took.took, took.end_is)
      by_result (Ok others) did (inr failed) = absurd (counts_no_fault.notes failed.0.faulted)
      by_result (Err why) did noted = absurd (no_refusal why did noted.1)

-- and what was printed is fixed by the set of what was accepted
pub headline : OrderBySet → (hold : ℕ) (old new : Streams) (end : Status) → Performs (showing hold old new) (change old.notes new.notes) end
    → Headline hold old new end
headline order hold old new end performs bytes ops is reads short place counts_no_fault memory =
    let shown = whole_shown hold old new end bytes ops is (record { has_place = place; ends = (short, reads) }) counts_no_fault memory performs in
    record {
      printed = shown.0;
      noted = shown.1;
      status = shown.2;
      by_set = printed_by_set manuscript (manuscript_by_set order) (held hold MOST_OPERATIONS ops).history (change old.output new.output)
          (held_lawful hold MOST_OPERATIONS nothing_held ops tt) shown.0.output;
    }
