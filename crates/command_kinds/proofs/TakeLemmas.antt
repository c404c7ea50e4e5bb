-- What a stream gives, by how it was taken in, and that it gives one thing.
use Rattle.std.proofs.Common.{List, [], ap, length, refl, subst, sym, ℕ, ◌∙◌, ◌≡◌, ◌≢◌}
use Rattle.std.specs.Prelude.{Option, Some, None, IfSome, IsErrOf, Ok, Err}
use Rattle.std.proofs.lemmas.List.Elements.{All-weaker}
use Rattle.fugue_ids.specs.declared.limits.TheConstants.{STREAM_LIMIT}
use Rattle.fugue_ids.specs.declared.op.Op.{Op}
use Rattle.origin_model.specs.declared.grammar.Grammar.TheVariants.{Version2}
use Rattle.origin_model.specs.declared.taking.Tally.{Tally}
use Rattle.origin_model.specs.taking.Taking.{Answer, Full, IsSettled, TooMany as AnswersTooMany, answers_from, kept_from}
use Rattle.origin_model.proofs.SharedLemmas.{kept_suffice}
use Rattle.outer_ports.specs.Sources.{KeepsCount, SourceView}
use Rattle.op_frame.specs.IntakeOutcomes.{BadFrame, Comes, IntakeOutcome, CutShort, TooLong, TooMany, Whole}
use Rattle.op_frame.proofs.ComesLemmas.{comes_once}
use Rattle.origin_model.specs.edits.State.{State as Replica}
use Rattle.command_kinds.specs.Findings.{Finding, Refuses, Does}
use Rattle.command_kinds.specs.Giving.{GivesTo, ReportsOutcome}
use Rattle.command_kinds.specs.Input.{SourceComes, StreamFound}
use Rattle.command_kinds.specs.Intake.{IntakeStopsFor, TakesInStream, copies_of_kept, ops_in}
use Rattle.command_kinds.specs.Saving.{OpsSource, GivesOnce, Outcome, Suffices}
use Rattle.command_kinds.specs.Take.{StreamGives, counts_in, noted_in, stream, taken_in, waiting_in}
use Rattle.command_kinds.specs.Changes.{Change}
use Rattle.command_kinds.specs.declared.counts.Counts.{Counts}
use Rattle.command_kinds.specs.declared.counts.Note.TheVariants as note
use Rattle.command_kinds.specs.declared.refusal.Refusal.{Refusal}
use Rattle.command_kinds.specs.declared.refusal.Refusal.TheVariants as refusal

-- the kept ones of a list stand for all of it
pub taken_suffices : (replica : Replica) (ops : List Op) (cursor : Option ℕ) → IsSettled replica.held → Suffices replica (noted_in replica ops cursor)
taken_suffices replica ops cursor settled =
    let kept : List Op = kept_from replica.hold replica.most replica.held ops in
    let stand = kept_suffice replica.hold replica.most replica.held ops settled in
    record {
      same_state = stand.same_state;
      place = All-weaker (λ (a : Answer). (a ≢ Full) × (a ≢ AnswersTooMany)) (λ a. a ≢ AnswersTooMany) (λ a within. within.1)
          (answers_from replica.hold replica.most replica.held kept) stand.within_limits;
    }

-- what was taken in was given
pub taken_gives : (ops_source : OpsSource) (replica now : Replica) (ops : List Op) (cursor : Option ℕ) → ops_source.Gives replica (Does (noted_in replica ops cursor))
    → IsSettled replica.held
    → (kept : Option (List Op)) → ops_in kept ≡ (taken_in replica ops).saved → (counts : Counts)
    → counts ≡ record { tally = counts_in replica ops; waiting = waiting_in replica ops; cursor = cursor }
    → GivesTo ops_source replica now kept (Ok (note.Counted counts))
taken_gives ops_source replica now ops cursor gives settled kept kept_are counts is = record {
  outcome = noted_in replica ops cursor;
  gives = gives;
  suffices = taken_suffices replica ops cursor settled;
  saved = kept_are;
  noted = subst (λ (c : Counts). ReportsOutcome (noted_in replica ops cursor) (note.Counted c)) (sym is) (record { line = refl; status = refl });
}

-- what a stream leads to that comes to an end
abbrev stream_finding : Replica → List Op → IntakeOutcome → Finding (List Op)
stream_finding replica ops Whole = Does ops
stream_finding replica ops (CutShort k) = Refuses (refusal.CutShort k)
stream_finding replica ops (BadFrame k) = Refuses (refusal.BadFrame k)
stream_finding replica ops TooLong = Refuses refusal.TooLong
stream_finding replica ops TooMany = Refuses (refusal.TooMany replica.most)

-- the end to which a stream came
record ComesTo (input : SourceView) (replica : Replica) (finding : Finding (List Op)) : Type 0 where
  ops : List Op
  outcome : IntakeOutcome
  came : SourceComes replica input ops outcome
  finding_is : finding ≡ stream_finding replica ops outcome

comes_to : (input : SourceView) (replica : Replica) (finding : Finding (List Op)) → StreamFound replica input finding → ComesTo input replica finding
comes_to input replica (Does ops) found = record { ops = ops; outcome = Whole; came = found; finding_is = refl }
comes_to input replica (Refuses (refusal.BadFrame k)) found = record { ops = found.0; outcome = BadFrame k; came = found.1; finding_is = refl }
comes_to input replica (Refuses (refusal.CutShort k)) found = record { ops = found.0; outcome = CutShort k; came = found.1; finding_is = refl }
comes_to input replica (Refuses refusal.TooLong) found = record { ops = found.0; outcome = TooLong; came = found.1; finding_is = refl }
comes_to input replica (Refuses (refusal.TooMany count)) found =
    record { ops = found.1; outcome = TooMany; came = found.2; finding_is = ap (λ (n : ℕ). Refuses (refusal.TooMany n)) found.0 }
comes_to input replica (Refuses _) found = absurd found

-- a stream that is specified leads to one thing
pub stream_found_once : (input : SourceView) → (bytes : List ℕ) × (input.left ≡ Some bytes) → (replica : Replica) (one two : Finding (List Op))
    → StreamFound replica input one → StreamFound replica input two → one ≡ two
stream_found_once input reported replica one two found others =
    let a = comes_to input replica one found in
    let b = comes_to input replica two others in
    let same = comes_once Version2 replica.hold replica.most replica.held STREAM_LIMIT reported.0 a.ops b.ops a.outcome b.outcome (by_bytes a.ops a.outcome a.came)
    (by_bytes b.ops b.outcome b.came) in
    a.finding_is ∙ (λ i. stream_finding replica (same.0 i) (same.1 i)) ∙ sym b.finding_is
  where
    by_bytes : (ops : List Op) (outcome : IntakeOutcome) → SourceComes replica input ops outcome
        → Comes Version2 replica.hold replica.most replica.held STREAM_LIMIT reported.0 ops outcome
    by_bytes ops outcome came = subst (λ o. IfSome o (λ bytes. Comes Version2 replica.hold replica.most replica.held STREAM_LIMIT bytes ops outcome)) reported.1 came

-- and gives one thing
pub stream_once : (input : Change SourceView) → GivesOnce (stream input)
stream_once input reported replica = by_finding
  where
    once : (one two : Finding (List Op)) → StreamFound replica input.old one → StreamFound replica input.old two → one ≡ two
    once = stream_found_once input.old reported replica

    by_finding : (one two : Finding Outcome) → StreamGives input.old replica one → StreamGives input.old replica two → one ≡ two
    by_finding (Refuses why) (Refuses other) a b = let same : why ≡ other = cc (once (Refuses why) (Refuses other) a b) in ap Refuses same
    by_finding (Refuses why) (Does outcome) a b = cc (once (Refuses why) (Does b.0) a b.1)
    by_finding (Does outcome) (Refuses why) a b = cc (once (Does a.0) (Refuses why) a.1 b)
    by_finding (Does outcome) (Does other) a b =
        let same : a.0 ≡ b.0 = cc (once (Does a.0) (Does b.0) a.1 b.1) in ap Does (a.2 ∙ ap (taken_in replica) same ∙ sym b.2)

-- a stream that was taken in gives its outcome
pub stream_gives : (input : Change SourceView) (replica now : Replica) (tally : Tally) (kept kept_after : Option (List Op)) → kept ≡ Some []
    → TakesInStream replica input.old input.new now tally kept kept_after
    → (counts : Counts) → IsSettled replica.held → counts ≡ record { tally = tally; waiting = length now.held.waiting; cursor = None }
    → GivesTo (stream input) replica now kept_after (Ok (note.Counted counts))
stream_gives input replica now tally kept kept_after none taken counts settled is =
    taken_gives (stream input) replica now taken.ops None (taken.ops, taken.came, refl) settled kept_after
    (ap ops_in (taken.kept_are ∙ ap (λ (k : Option (List Op)). copies_of_kept k (taken_in replica taken.ops).saved) none)) counts
    (is ∙ (λ i. record { tally = taken.counts_are i; waiting = length (taken.replica_is i).held.waiting; cursor = None }))

-- a stream that stopped gives its refusal
pub stream_gives_none : (input : Change SourceView) (replica now : Replica) (kept : Option (List Op)) (why : Refusal) → IntakeStopsFor why replica input.old
    → KeepsCount input.old input.new (IsErrOf {T = Tally} (Err why) refusal.Outside) → GivesTo (stream input) replica now kept (Err why)
stream_gives_none input replica now kept refusal.Outside stops count = (count.faulted refl, λ sure. count.succeeds sure refl)
stream_gives_none input replica now kept refusal.NoMemory stops count = tt
stream_gives_none input replica now kept why stops count = stops
