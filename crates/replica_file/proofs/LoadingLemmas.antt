-- What a file's operations leave in a replica, one after another.
use Rattle.std.proofs.Common.{◌≡◌, ◌≢◌, inl, inr, ℕ, ◌+◌, ◌<◌, ◌≤◌, List, [], ◌∷◌, ◌++◌, length, refl, ap, sym, subst, ◌∙◌, arith, append_assoc, length-append}
use Rattle.std.specs.Prelude.{Bool, true, false, Contains, Option, Some, None, Result, Err, ◌↔◌, nat_eq, if◌then◌else◌}
use Rattle.std.proofs.lemmas.Bool.{cases_order}
use Rattle.std.proofs.lemmas.Bool.Decides.{eqb_tells}
use Rattle.std.proofs.lemmas.List.{append-nil}
use Rattle.std.proofs.lemmas.List.Elements.{All-head, All-tail, Contains-append_left, Contains-append_right}
use Rattle.fugue_ids.specs.declared.op.Op.{Op}
use Rattle.fugue_ids.specs.declared.limits.TheConstants.{MOST_OPERATIONS}
use Rattle.origin_model.specs.operations.Verdict.{verdict}
use Rattle.origin_model.specs.declared.operations.Verdict.{Verdict}
use Rattle.origin_model.specs.declared.operations.Verdict.TheVariants as verdict_is
use Rattle.origin_model.specs.taking.Taking.{Accepted, Again, IsSettled, Conflict, Full, MeetsNoLimit, Held, Stray, Waits, Answer, TooMany as AnswersTooMany, answer, answer_by}
use Rattle.origin_model.specs.taking.Taking.{answers_from, held, held_from, intake, is_again, is_kept, is_taken, nothing_held, held_after, settle, settle_step, settled_within}
use Rattle.origin_model.proofs.SharedLemmas.{answers-append, held-append, places-append, places-one}
use Rattle.origin_model.specs.edits.State.{State, IsSound}
use Rattle.replica_core.specs.Feeding.{StopsFeeding, TakesInAll}
use Rattle.replica_core.specs.Answering.{LeavesAfterFault}
use Rattle.replica_core.proofs.KeepingLemmas.{full_keeps_none}
use Rattle.replica_core.proofs.StepLemmas.{step_moves}
use Rattle.replica_core.specs.declared.keeping.FeedFault.{FeedFault}
use Rattle.replica_core.specs.declared.keeping.FeedFault.TheVariants.{TooMany as FedTooMany, NoMemory as FedNoMemory}
use Rattle.origin_model.specs.declared.taking.Tally.{Tally}
use Rattle.replica_file.specs.Load.{AreTooMany, FindPlace}
use Rattle.replica_file.specs.Loading.{AreIn, Fed, Feeds, CanTake, IsSameButHeld, WantsMemory}

-- the answer by the two tests that come first
abbrev by_tests : (again known at_most at_hold : Bool) → Verdict → Answer
by_tests true known at_most at_hold v = Again
by_tests false true at_most at_hold v = Conflict
by_tests false false at_most at_hold v = answer_by at_most at_hold v

-- where the answer is not that there are too many, being below the limit says the same
below_limit : (again known at_most at_hold : Bool) (v : Verdict) → by_tests again known at_most at_hold v ≢ AnswersTooMany
    → by_tests again known at_most at_hold v ≡ by_tests again known false at_hold v
below_limit true known at_most at_hold v other = refl
below_limit false true at_most at_hold v other = refl
below_limit false false false at_hold v other = refl
below_limit false false true at_hold (verdict_is.Stray i) other = refl
below_limit false false true at_hold verdict_is.Again other = absurd (other refl)
below_limit false false true at_hold verdict_is.Conflict other = absurd (other refl)
below_limit false false true at_hold (verdict_is.Missing i) other = absurd (other refl)
below_limit false false true at_hold verdict_is.Ready other = absurd (other refl)

answer_is : (hold most : ℕ) (s : Held) (op : Op)
    → answer hold most s op ≡ by_tests (is_again s op) (is_taken s op) (nat_eq (length s.history + length s.waiting) most) (nat_eq (length s.waiting) hold) (verdict s.history op)
answer_is hold most s op = by_cases (is_again s op) (is_taken s op)
  where
    by_cases : (again taken : Bool)
        → (if again then Again else if taken then Conflict else
        answer_by (nat_eq (length s.history + length s.waiting) most) (nat_eq (length s.waiting) hold) (verdict s.history op))
        ≡ by_tests again taken (nat_eq (length s.history + length s.waiting) most) (nat_eq (length s.waiting) hold) (verdict s.history op)
    by_cases true taken = refl
    by_cases false true = refl
    by_cases false false = refl

-- a greater limit changes no answer but the one that there are too many
pub same_answer : (hold most : ℕ) (s : Held) (op : Op) → length s.history + length s.waiting ≤ most → most ≤ MOST_OPERATIONS → answer hold most s op ≢ AnswersTooMany
    → answer hold most s op ≡ answer hold MOST_OPERATIONS s op
same_answer hold most s op few within other = elim (eqb_tells (length s.history + length s.waiting) MOST_OPERATIONS) [
  | inl full ↦ ap (λ (n : ℕ). answer hold n s op) (omega (arith, few, within, full.1))
  | inr less ↦ answer_is hold most s op
      ∙ below_limit (is_again s op) (is_taken s op) (nat_eq (length s.history + length s.waiting) most) (nat_eq (length s.waiting) hold) (verdict s.history op)
      (λ many. other (answer_is hold most s op ∙ many))
      ∙ sym (answer_is hold MOST_OPERATIONS s op ∙ ap (λ (b : Bool). by_tests (is_again s op) (is_taken s op) b (nat_eq (length s.waiting) hold) (verdict s.history op)) less.0)
]

-- how many operations are held
abbrev count : Held → ℕ
count s = length s.history + length s.waiting

-- settling makes them no more
pub within_few : (room : List Op) (s : Held) → count (settled_within room s) ≤ count s
within_few [] s = omega arith
within_few (o ∷ room) s = by (settle_step s) refl (within_few room)
  where
    by : (found : Option Held) → settle_step s ≡ found → ((t : Held) → count (settled_within room t) ≤ count t) → count (settled_within (o ∷ room) s) ≤ count s
    by None is few =
        let stays : settled_within (o ∷ room) s ≡ s = rw (is, settled_within) in
        omega (arith, ap (λ (h : Held). count h) stays)
    by (Some t) is few =
        let goes : settled_within (o ∷ room) s ≡ settled_within room t = rw (is, settled_within) in
        let moves = step_moves s t is in
        elim moves.longer [
          | inl same ↦ omega (arith, ap (λ (h : Held). count h) goes, few t, moves.shorter, same)
          | inr more ↦ omega (arith, ap (λ (h : Held). count h) goes, few t, moves.shorter, more)
        ]

pub settle_few : (s : Held) → count (settle s) ≤ count s
unfolding settle
settle_few s = within_few s.waiting s

-- an answer adds the operation where it is kept
count_kept : (a : Answer) (s : Held) (op : Op) → is_kept a ≡ true → count (held_after a s op) ≡ count s + 1
count_kept Accepted s op kept = omega arith
count_kept Waits s op kept = omega (arith, length-append s.waiting (op ∷ []))
count_kept Again s op kept = absurd (cc kept)
count_kept Conflict s op kept = absurd (cc kept)
count_kept (Stray i) s op kept = absurd (cc kept)
count_kept AnswersTooMany s op kept = absurd (cc kept)
count_kept Full s op kept = absurd (cc kept)

count_unkept : (a : Answer) (s : Held) (op : Op) → is_kept a ≡ false → count (held_after a s op) ≡ count s
count_unkept Accepted s op kept = absurd (cc kept)
count_unkept Waits s op kept = absurd (cc kept)
count_unkept Again s op kept = refl
count_unkept Conflict s op kept = refl
count_unkept (Stray i) s op kept = refl
count_unkept AnswersTooMany s op kept = refl
count_unkept Full s op kept = refl

-- so never more are held than may be
few_on : (hold most : ℕ) (s : Held) (op : Op) → count s ≤ most → count (intake hold most s op) ≤ most
few_on hold most s op few = by (is_kept (answer hold most s op)) refl
  where
    by : (kept : Bool) → is_kept (answer hold most s op) ≡ kept → count (intake hold most s op) ≤ most
    by false is = omega (arith, settle_few (held_after (answer hold most s op) s op), count_unkept (answer hold most s op) s op is, few)
    by true is =
        let below : count s < most = elim (cases_order (count s) most) [
          | inl full ↦ absurd (let no = sym is ∙ full_keeps_none hold most s op full in cc no)
          | inr (inl less) ↦ less
          | inr (inr more) ↦ absurd (omega (arith, few, more))
        ] in
        omega (arith, settle_few (held_after (answer hold most s op) s op), count_kept (answer hold most s op) s op is, below)

-- a greater limit changes nothing where all find their place
same_held : (hold most : ℕ) (s : Held) (ops : List Op) → count s ≤ most → most ≤ MOST_OPERATIONS → MeetsNoLimit hold most s ops
    → held_from hold most s ops ≡ held_from hold MOST_OPERATIONS s ops
same_held hold most s [] few within place = refl
same_held hold most s (op ∷ ops) few within place =
    let a : Answer = answer hold most s op in
    let t : Held = intake hold most s op in
    let here : a ≢ AnswersTooMany = All-head (λ (b : Answer). b ≢ AnswersTooMany) a (answers_from hold most t ops) place in
    let later : MeetsNoLimit hold most t ops = All-tail (λ (b : Answer). b ≢ AnswersTooMany) a (answers_from hold most t ops) place in
    same_held hold most t ops (few_on hold most s op few) within later
    ∙ ap (λ (b : Answer). held_from hold MOST_OPERATIONS (settle (held_after b s op)) ops) (same_answer hold most s op few within here)

-- more that find their place
are_more : (r : State) (ops more : List Op) → IsSound r → MeetsNoLimit r.hold r.most r.held more → AreIn r ops
    → AreIn (record r { held = held_from r.hold r.most r.held more }) (ops ++ more)
are_more r ops more sound place are = record {
  place = places-append r.hold r.most nothing_held ops more are.place (subst (λ (s : Held). MeetsNoLimit r.hold r.most s more) are.held_is place);
  held_is = ap (λ (s : Held). held_from r.hold r.most s more) are.held_is ∙ held-append r.hold r.most nothing_held ops more;
  same = same_held r.hold r.most r.held more sound.few sound.most_within.1 place ∙ ap (λ (s : Held). held_from r.hold MOST_OPERATIONS s more) are.same
      ∙ held-append r.hold MOST_OPERATIONS nothing_held ops more;
}

-- one too many stays one too many
pub still_many : (hold most : ℕ) (ops more : List Op) → AreTooMany hold most ops → AreTooMany hold most (ops ++ more)
still_many hold most ops more many =
    subst (λ (l : List Answer). Contains l AnswersTooMany) (sym (answers-append hold most nothing_held ops more))
    (Contains-append_left (answers_from hold most nothing_held ops) (answers_from hold most (held hold most ops) more) AnswersTooMany many)

-- none of those that find their place is one too many
pub never_both : (hold most : ℕ) (ops : List Op) → FindPlace hold most ops → AreTooMany hold most ops → ⊥
never_both hold most ops place many = place many.0 AnswersTooMany many.1 many.2

are_many : (r : State) (op : Op) (ops : List Op) → answer r.hold r.most r.held op ≡ AnswersTooMany → AreIn r ops → AreTooMany r.hold r.most (ops ++ op ∷ [])
are_many r op ops many are =
    subst (λ (l : List Answer). Contains l AnswersTooMany) (sym (answers-append r.hold r.most nothing_held ops (op ∷ [])))
    (Contains-append_right (answers_from r.hold r.most nothing_held ops) (answer r.hold r.most (held r.hold r.most ops) op ∷ []) AnswersTooMany
    (0, omega arith, ap (λ (s : Held). answer r.hold r.most s op) (sym are.held_is) ∙ many))

pub feeds_dropped : (was : Bool) (r : State) (ops : List Op) → was ≡ false → Feeds was r was r ops
feeds_dropped was r ops is = subst (λ (b : Bool). Feeds b r b r ops) (sym is) (record { behind = λ before many. still_many r.hold r.most before ops many })

-- the operations found their place, one after another
pub feeds_taken : (r new : State) (ops : List Op) → IsSound r → MeetsNoLimit r.hold r.most r.held ops → new ≡ record r { held = held_from r.hold r.most r.held ops }
    → Feeds true r true new ops
feeds_taken r new ops sound place same = record { behind = λ before are. subst (λ (s : State). AreIn s (before ++ ops)) (sym same) (are_more r before ops sound place are) }

-- the same of one
pub feeds_one : (was : Bool) (r new : State) (op : Op) → was ≡ true → IsSound r → answer r.hold r.most r.held op ≢ AnswersTooMany
    → new ≡ record r { held = intake r.hold r.most r.held op } → Feeds was r was new (op ∷ [])
feeds_one was r new op is sound other same =
    subst (λ (b : Bool). Feeds b r b new (op ∷ [])) (sym is) (feeds_taken r new (op ∷ []) sound (places-one r.hold r.most r.held op other) same)

pub feeds_refused : (was : Bool) (r new : State) (op : Op) → was ≡ true → answer r.hold r.most r.held op ≡ AnswersTooMany → new ≡ r → Feeds was r false new (op ∷ [])
feeds_refused was r new op is many same =
    subst (λ (b : Bool). Feeds b r false new (op ∷ [])) (sym is)
    (record { behind = λ before are. subst (λ (s : State). AreTooMany s.hold s.most (before ++ op ∷ [])) (sym same) (are_many r op before many are) })

pub feeds_none : (was : Bool) (r : State) → Feeds was r was r []
feeds_none was r = record { behind = λ before fed. subst (Fed was r) (sym (append-nil before)) fed }

pub feeds_then : (b c d : Bool) (r s t : State) (ops more : List Op) → Feeds b r c s ops → Feeds c s d t more → Feeds b r d t (ops ++ more)
feeds_then b c d r s t ops more one two =
    record { behind = λ before fed. subst (Fed d t) (append_assoc before ops more) (two.behind (before ++ ops) (one.behind before fed)) }

abbrev failed_by : FeedFault → Result Bool FeedFault
failed_by fault = Err fault

-- a refusal because there are too many
pub refused_many : (old new : State) (op : Op) (before after : Tally) (fault : FeedFault) (count : ℕ) → fault ≡ FedTooMany count
    → ((failed_by fault ≡ failed_by (FedTooMany old.most)) ↔ (answer old.hold old.most old.held op ≡ AnswersTooMany)) → LeavesAfterFault old new op before after fault
    → (answer old.hold old.most old.held op ≡ AnswersTooMany) × (new ≡ old)
refused_many old new op before after fault count is exactly leaves =
    let left = subst (LeavesAfterFault old new op before after) is leaves in
    (exactly.0 (ap failed_by (is ∙ ap FedTooMany left.0)), left.1)

-- an operation for which memory ran out would be kept
pub wanted_kept : (old new : State) (op : Op) (before after : Tally) (fault : FeedFault) → fault ≡ FedNoMemory → LeavesAfterFault old new op before after fault
    → is_kept (answer old.hold old.most old.held op) ≡ true
wanted_kept old new op before after fault is leaves = (subst (LeavesAfterFault old new op before after) is leaves).0

pub wants_one : (was : Bool) (old new : State) (op : Op) (before after : Tally) (fault : FeedFault) → was ≡ true → fault ≡ FedNoMemory
    → LeavesAfterFault old new op before after fault → WantsMemory was old (op ∷ [])
wants_one was old new op before after fault found is leaves = record {
  front = [];
  op = op;
  more = [];
  parts = refl;
  reached = old;
  feeds = subst (λ (b : Bool). Feeds b old true old []) (sym found) (feeds_none true old);
  same = refl;
  kept = wanted_kept old new op before after fault is leaves;
}

module _ (old new : State) (ops : List Op) (before after : Tally) (ready : CanTake old) where
  -- operations that found their place, by one call
  pub run_feeds : (was : Bool) → was ≡ true → TakesInAll old new ops before after → Feeds was old was new ops
  run_feeds was found taken = subst (λ (b : Bool). Feeds b old b new ops) (sym found) (feeds_taken old new ops ready.sound taken.has_place taken.replica)

  pub run_same : TakesInAll old new ops before after → IsSameButHeld old new
  run_same taken = taken.replica ∙ ap (λ (s : State). record old { held = s.held }) (sym taken.replica)

  module _ (fault : FeedFault) (stops : StopsFeeding ops old new before after fault) where
    abbrev reached : State
    reached = stops.some.reached

    front_feeds : Feeds true old true reached stops.some.front
    front_feeds = feeds_taken old reached stops.some.front ready.sound stops.some.taken.has_place stops.some.taken.replica

    front_same : IsSameButHeld old reached
    front_same = let taken = stops.some.taken in taken.replica ∙ ap (λ (s : State). record old { held = s.held }) (sym taken.replica)

    -- one of them is one too many: those before it stand
    module _ (count : ℕ) (is : fault ≡ FedTooMany count) where
      left : (count ≡ reached.most) × (new ≡ reached) × (after ≡ stops.some.counts)
      left = subst (LeavesAfterFault reached new stops.some.op stops.some.counts after) is stops.leaves

      refused : answer reached.hold reached.most reached.held stops.some.op ≡ AnswersTooMany
      refused = stops.some.too_many.0 (is ∙ ap FedTooMany (left.0 ∙ ap (λ (s : State). s.most) front_same))

      pub run_refused : (was : Bool) → was ≡ true → Feeds was old false new ops
      run_refused was found =
          let one : Feeds true reached false new (stops.some.op ∷ []) = feeds_refused true reached new stops.some.op refl refused left.1 in
          let rest : Feeds false new false new stops.some.more = feeds_dropped false new stops.some.more refl in
          let all : Feeds true old false new (stops.some.front ++ stops.some.op ∷ stops.some.more) =
          feeds_then true true false old reached new stops.some.front (stops.some.op ∷ stops.some.more) front_feeds
          (feeds_then true false false reached new new (stops.some.op ∷ []) stops.some.more one rest) in
          subst (λ (b : Bool). Feeds b old false new ops) (sym found) (subst (Feeds true old false new) (sym stops.some.parts) all)

      pub refused_same : IsSameButHeld old new
      refused_same = subst (IsSameButHeld old) (sym left.1) front_same

      pub refused_settled : IsSettled new.held
      refused_settled = subst (λ (s : State). IsSettled s.held) (sym left.1) stops.some.taken.settled

    pub run_wants : (was : Bool) → was ≡ true → fault ≡ FedNoMemory → WantsMemory was old ops
    run_wants was found is = record {
      front = stops.some.front;
      op = stops.some.op;
      more = stops.some.more;
      parts = stops.some.parts;
      reached = reached;
      feeds = subst (λ (b : Bool). Feeds b old true reached stops.some.front) (sym found) front_feeds;
      same = front_same;
      kept = wanted_kept reached new stops.some.op stops.some.counts after fault is stops.leaves;
    }

pub same_then : (a b c : State) → IsSameButHeld a b → IsSameButHeld b c → IsSameButHeld a c
same_then a b c one two = cc (one, two)
