-- Taking in a stream: what a step is by what its calls answered, and what all steps come to.
use Rattle.std.proofs.Common.{◌≡◌, ℕ, List, [], ◌++◌, refl, ap, sym, subst, ◌∙◌, append_assoc}
use Rattle.std.specs.Prelude.{Option, Some, None, Bool, true, false, Ok, Err, IfSome}
use Rattle.std.proofs.lemmas.List.{append-nil}
use Rattle.fugue_ids.specs.declared.op.Op.{Op}
use Rattle.outer_ports.specs.Sources.{SourceView}
use Rattle.origin_model.specs.declared.grammar.Grammar.{Grammar}
use Rattle.origin_model.specs.declared.grammar.Grammar.TheVariants.{Version2}
use Rattle.origin_model.specs.declared.taking.Tally.{Tally}
use Rattle.origin_model.specs.taking.Taking.{MeetsNoLimit, Held, TooMany as AnswersTooMany, answer, held_from, kept_from, no_counts, tally_from}
use Rattle.origin_model.proofs.SharedLemmas.{held-append, kept-append, places-append, places-none, tally-append}
use Rattle.replica_core.specs.Feeding.{TakesInAll}
use Rattle.op_frame.specs.IntakeOutcomes.{Comes, IntakeOutcome, Whole, CutShort as IsCutShort, BadFrame as HasBadFrame, TooLong as IsTooLong, TooMany as HasTooMany}
use Rattle.op_frame.specs.Readers.{Gave}
use Rattle.op_frame.proofs.StreamLemmas.{gave_none}
use Rattle.op_frame.proofs.ComesLemmas.{Fed, fed_whole, fed_cut, fed_bad, fed_long, fed_many}
use Rattle.origin_model.specs.edits.State.{State}
use Rattle.fugue_ids.specs.declared.limits.TheConstants.{STREAM_LIMIT}
use Rattle.command_kinds.specs.Input.{SourceComes}
use Rattle.command_kinds.specs.Intake.{FindsNoPlace, StreamTaking, TakesSome, IntakeSteps, TakesInStream, IntakeStopsFor, copies_of_kept}
use Rattle.command_kinds.specs.declared.refusal.Refusal.{Refusal}
use Rattle.command_kinds.specs.declared.refusal.Refusal.TheVariants as refusal

-- a step that took operations in, and one that came to the end
pub step_took : (more : Bool) (old new : StreamTaking) (before after : SourceView) → more ≡ true → IntakeSteps old new before after (Ok more) → TakesSome old new before after
step_took more old new before after is steps = subst (λ b. IntakeSteps old new before after (Ok b)) is steps

abbrev pub Ended : StreamTaking → StreamTaking → SourceView → SourceView → Type 0
Ended old new before after = IntakeSteps old new before after (Ok false)

pub step_ended : (more : Bool) (old new : StreamTaking) (before after : SourceView) → more ≡ false → IntakeSteps old new before after (Ok more) → Ended old new before after
step_ended more old new before after is steps = subst (λ b. IntakeSteps old new before after (Ok b)) is steps

-- counts that are all 0
pub fresh_counts : (t : Tally) → (t.accepted ≡ 0) × ((t.repeated ≡ 0) × ((t.conflict ≡ 0) × ((t.stray ≡ 0) × (t.full ≡ 0)))) → t ≡ no_counts
fresh_counts t (accepted, (repeated, (conflict, (stray, full)))) =
    λ i. record { accepted = accepted i; repeated = repeated i; conflict = conflict i; stray = stray i; full = full i }

pub copied-nil : (kept : Option (List Op)) → copies_of_kept kept [] ≡ kept
copied-nil None = refl
copied-nil (Some ops) = ap Some (append-nil ops)

pub copied-append : (kept : Option (List Op)) (a b : List Op) → copies_of_kept (copies_of_kept kept a) b ≡ copies_of_kept kept (a ++ b)
copied-append None a b = refl
copied-append (Some ops) a b = ap Some (append_assoc ops a b)

-- of the bytes that were specified, the reader gave operations, which were taken in from a start
pub record FedFrom (start : State) (kept : Option (List Op)) (reported : Option (List ℕ)) (now : StreamTaking) (left : Option (List ℕ)) : Type 0 where
  pub ops : List Op
  pub gave : Gave reported ops now.reader left
  pub has_place : MeetsNoLimit start.hold start.most start.held ops
  pub replica_is : now.replica ≡ record start { held = held_from start.hold start.most start.held ops }
  pub counts_are : now.counts ≡ tally_from start.hold start.most start.held ops no_counts
  pub kept_are : now.kept ≡ copies_of_kept kept (kept_from start.hold start.most start.held ops)

-- nothing was read yet
pub fed_nothing : (start : State) (reported : Option (List ℕ)) (now : StreamTaking) → now.reader.todo ≡ [] → now.reader.unread ≡ [] → now.reader.offset ≡ 0 → now.replica ≡ start
    → now.counts ≡ no_counts
    → FedFrom start now.kept reported now reported
fed_nothing start reported now todo none at same counts = record {
  ops = [];
  gave = gave_none now.reader reported todo none at;
  has_place = places-none start.hold start.most start.held;
  replica_is = same;
  counts_are = counts;
  kept_are = sym (copied-nil now.kept);
}

module _ (start : State) (kept : Option (List Op)) (reported : Option (List ℕ)) (old new : StreamTaking) (before after : SourceView)
    (fed : FedFrom start kept reported old before.left) where
  abbrev reached : Held
  reached = held_from start.hold start.most start.held fed.ops

  -- operations more were taken in
  pub fed_some : TakesSome old new before after → FedFrom start kept reported new after.left
  fed_some some =
      let hold : ℕ = start.hold in
      let most : ℕ = start.most in
      let held : Held = held_from hold most start.held fed.ops in
      let taken : TakesInAll (record start { held = held }) new.replica some.ops old.counts new.counts =
      subst (λ (r : State). TakesInAll r new.replica some.ops old.counts new.counts) fed.replica_is some.taken in
      record {
        ops = fed.ops ++ some.ops;
        gave = some.gives.gave reported fed.ops fed.gave;
        has_place = places-append hold most start.held fed.ops some.ops fed.has_place taken.has_place;
        replica_is = taken.replica ∙ ap (λ (h : Held). record start { held = h }) (held-append hold most start.held fed.ops some.ops);
        counts_are = taken.counts ∙ ap (tally_from hold most held some.ops) fed.counts_are ∙ tally-append hold most start.held fed.ops some.ops no_counts;
        kept_are = some.kept ∙ (λ i. let r : State = fed.replica_is i in copies_of_kept (fed.kept_are i) (kept_from r.hold r.most r.held some.ops))
            ∙ copied-append kept (kept_from hold most start.held fed.ops) (kept_from hold most held some.ops)
            ∙ ap (copies_of_kept kept) (kept-append hold most start.held fed.ops some.ops);
      }

  -- what the reader gave and the counts of it
  abbrev counted : Fed start.hold start.most start.held reported old.reader before.left old.replica.held old.counts
  counted = record { ops = fed.ops; gave = fed.gave; has_place = fed.has_place; state_is = ap (λ (r : State). r.held) fed.replica_is; counts_are = fed.counts_are }

  at_limit : (outcome : IntakeOutcome) → old.reader.limit ≡ STREAM_LIMIT → old.reader.grammar ≡ Version2
      → IfSome reported (λ bytes. Comes old.reader.grammar start.hold start.most start.held old.reader.limit bytes fed.ops outcome)
      → IfSome reported (λ bytes. Comes Version2 start.hold start.most start.held STREAM_LIMIT bytes fed.ops outcome)
  at_limit outcome is runs came =
      subst (λ (g : Grammar). IfSome reported (λ bytes. Comes g start.hold start.most start.held STREAM_LIMIT bytes fed.ops outcome)) runs
      (subst (λ n. IfSome reported (λ bytes. Comes old.reader.grammar start.hold start.most start.held n bytes fed.ops outcome)) is came)

  -- the end was reached
  pub fed_over : (source last : SourceView) → source.left ≡ reported → last.left ≡ after.left → old.reader.limit ≡ STREAM_LIMIT → old.reader.grammar ≡ Version2
      → Ended old new before after
      → TakesInStream start source last new.replica new.counts kept new.kept
  fed_over source last same same_last limit runs ended = record {
    ops = fed.ops;
    came = subst (λ o. IfSome o (λ bytes. Comes Version2 start.hold start.most start.held STREAM_LIMIT bytes fed.ops Whole)) (sym same)
        (at_limit Whole limit runs (fed_whole start.hold start.most start.held reported old.reader new.reader before after old.replica.held old.counts counted ended.0));
    read = subst (λ o. IfSome o (λ bytes. bytes ≡ [])) (sym same_last) ended.0.moves.1;
    replica_is = ended.1 ∙ fed.replica_is;
    counts_are = ended.2 ∙ fed.counts_are;
    kept_are = ended.3 ∙ fed.kept_are;
  }

  -- a step met the cause to stop
  pub fed_stops : (why : Refusal) (source : SourceView) → source.left ≡ reported → old.reader.limit ≡ STREAM_LIMIT → old.reader.grammar ≡ Version2
      → IntakeSteps old new before after (Err why) → IntakeStopsFor why start source
  fed_stops why source same limit runs steps = by_cause why steps
    where
      -- the operations before the one that found no place were read and taken in
      found_no_place : FindsNoPlace old before after → (ops : List Op) × SourceComes start source ops HasTooMany
      found_no_place finds =
          let hold : ℕ = start.hold in
          let most : ℕ = start.most in
          let at = finds.reached in
          let one = finds.one in
          let place : MeetsNoLimit hold most reached one.front = subst (λ (r : State). MeetsNoLimit r.hold r.most r.held one.front) fed.replica_is one.has_place in
          let refused : answer hold most (held_from hold most reached one.front) one.op ≡ AnswersTooMany
          = subst (λ (r : State). answer r.hold r.most (held_from r.hold r.most r.held one.front) one.op ≡ AnswersTooMany) fed.replica_is one.refused in
          let ops : List Op = fed.ops ++ one.front in
          let state : Held = held_from hold most reached one.front in
          let counts : Tally = tally_from hold most start.held ops no_counts in
          let fed_front : Fed hold most start.held reported at.at at.seen.left state counts = record {
            ops = ops;
            gave = at.gave reported fed.ops fed.gave;
            has_place = places-append hold most start.held fed.ops one.front fed.has_place place;
            state_is = held-append hold most start.held fed.ops one.front;
            counts_are = refl;
          } in
          let many = fed_many hold most start.held reported at.at at.next at.seen after state counts fed_front one.op at.nexts refused in (
            ops,
            subst (λ o. IfSome o (λ bytes. Comes Version2 hold most start.held STREAM_LIMIT bytes ops HasTooMany)) (sym same)
                (subst (λ (g : Grammar). IfSome reported (λ bytes. Comes g hold most start.held STREAM_LIMIT bytes ops HasTooMany)) (at.grammar ∙ runs)
                (subst (λ n. IfSome reported (λ bytes. Comes at.at.grammar hold most start.held n bytes ops HasTooMany)) (at.limit ∙ limit) many)),
          )

      came : (outcome : IntakeOutcome) → IfSome reported (λ bytes. Comes old.reader.grammar start.hold start.most start.held old.reader.limit bytes fed.ops outcome)
          → (ops : List Op) × SourceComes start source ops outcome
      came outcome is = (
        fed.ops,
        subst (λ o. IfSome o (λ bytes. Comes Version2 start.hold start.most start.held STREAM_LIMIT bytes fed.ops outcome)) (sym same)
            (at_limit outcome limit runs is),
      )

      by_cause : (why : Refusal) → IntakeSteps old new before after (Err why) → IntakeStopsFor why start source
      by_cause (refusal.BadFrame k) steps =
          came (HasBadFrame k) (fed_bad start.hold start.most start.held reported old.reader new.reader before after old.replica.held old.counts counted k steps)
      by_cause (refusal.CutShort k) steps =
          came (IsCutShort k) (fed_cut start.hold start.most start.held reported old.reader new.reader before after old.replica.held old.counts counted k steps)
      by_cause refusal.TooLong steps =
          came IsTooLong (fed_long start.hold start.most start.held reported old.reader new.reader before after old.replica.held old.counts counted steps)
      by_cause (refusal.TooMany count) steps =
          let many = found_no_place steps.1 in
          (steps.0 ∙ ap (λ (r : State). r.most) fed.replica_is, many.0, many.1)
      by_cause refusal.Outside steps = tt
      by_cause refusal.NoMemory steps = tt
      by_cause _ steps = absurd steps
