-- No limit is met in a bulk manuscript, and both authors end with the same.
use Rattle.std.proofs.Common.{List, [], ap, arith, inl, inr, length, nat_eq, refl, subst, sym, ◌%◌, ◌+◌, ◌++◌, ◌∙◌, ◌∷◌, ◌≡◌, ◌≤◌, ℕ, suc, zero}
use Rattle.std.proofs.lemmas.Bool.{cases_Bool}
use Rattle.std.proofs.lemmas.List.Elements.{All-cons, All-nil}
use lib.Pointwise.{bytes_decides}
use Rattle.fugue_ids.specs.declared.op.Op.{Op}
use Rattle.fugue_ids.specs.declared.limits.TheConstants.{MOST_OPERATIONS}
use Rattle.origin_model.specs.declared.operations.Verdict.TheVariants.{Ready}
use Rattle.origin_model.specs.operations.Verdict.{Lawful, verdict}
use Rattle.origin_model.specs.order.Laws.{OrderBySet}
use Rattle.origin_model.specs.order.Order.{order}
use Rattle.origin_model.specs.order.Printed.{manuscript}
use Rattle.origin_model.specs.taking.Taking.{held_from}
use Rattle.origin_model.specs.edits.Edits.{history_with}
use Rattle.origin_model.proofs.edits.MadeLemmas.{extended_length, ready_lawful}
use Rattle.origin_model.specs.edits.State.{State}
use Rattle.origin_model.specs.edits.Effect.{with_ops}
use Rattle.list_spec.specs.Worlds.{Event, World, after_event, effect, pool_with}
use Rattle.list_spec.proofs.PoolLemmas.{IsBy}
use Rattle.bulk_world.specs.Generator.{next}
use Rattle.bulk_world.specs.Laws.{ComesTogether}
use Rattle.bulk_world.specs.Summary.{summary, summary_of}
use Rattle.bulk_world.specs.Turns.{among, bulk_world, made_over, turns}
use Rattle.bulk_world.specs.declared.making.TheConstants.{HOLD, MOST_TURNS}
use Rattle.bulk_world.proofs.BulkLemmas.{after, heard, made, one_hears, the_section, two_hears}
use Rattle.bulk_world.proofs.MergeLemmas.{IsOf, IsWritten, all_accepted, comes_after, quiet, same_after}
use Rattle.bulk_world.proofs.SteadyLemmas.{IsOneStep, IsSteady, one_step, quiet_author}
use Rattle.bulk_world.proofs.TurnLemmas.{asked, even_turn, numbered, odd_turn, turn_by}

-- what was written after an operation, and the operation
one_more : (n : ℕ) (h ops : List Op) (op : Op) → verdict h op ≡ Ready → IsBy n op → IsOf n op → IsWritten n (op ∷ h) ops → IsWritten n h (op ∷ ops)
one_more n h ops op ready by of w = record { ready = (ready, w.ready); by = All-cons (IsBy n) op ops by w.by; of = All-cons (IsOf n) op ops of w.of }

-- what both authors made, so many operations in all
record AreWritten (count : ℕ) (h k a b : List Op) : Type 0 where
  first : IsWritten 1 h a
  second : IsWritten 2 k b
  counted : length a + length b ≡ count

nothing_written : (n : ℕ) (h : List Op) → IsWritten n h []
nothing_written n h = record { ready = tt; by = All-nil (IsBy n); of = All-nil (IsOf n) }

written : (count i x : ℕ) (pool h k : List Op) → IsSteady 1 h → IsSteady 2 k → length h + count ≤ MOST_OPERATIONS → length k + count ≤ MOST_OPERATIONS
    → let w : World = among pool (quiet_author 1 h) (quiet_author 2 k) in
    AreWritten count h k (made_over 1 w (turns w count i x)) (made_over 2 w (turns w count i x))
written zero i x pool h k s t lh lk = record { first = nothing_written 1 h; second = nothing_written 2 k; counted = refl }
written (suc count) i x pool h k s t lh lk =
    elim (cases_Bool (nat_eq (i % 2) 1)) [
      | inl odd ↦ subst Written (sym (odd_turn i odd))
          (let step : IsOneStep 1 h (effect one_author (asked y one_author)) = one_step 1 h s (omega (arith, lh)) y in
          subst First (sym step.is)
          (let rest = written count (suc i) y (pool_with pool (step.op ∷ [])) (step.op ∷ h) k step.steady t (omega (arith, lh)) (omega (arith, lk)) in
          record { first = one_more 1 h _ step.op step.ready step.by step.of rest.first; second = rest.second; counted = omega (arith, rest.counted) }))
      | inr even ↦ subst Written (sym (even_turn i even))
          (let step : IsOneStep 2 k (effect two_author (asked y two_author)) = one_step 2 k t (omega (arith, lk)) y in
          subst Second (sym step.is)
          (let rest = written count (suc i) y (pool_with pool (step.op ∷ [])) h (step.op ∷ k) s step.steady (omega (arith, lh)) (omega (arith, lk)) in
          record { first = rest.first; second = one_more 2 k _ step.op step.ready step.by step.of rest.second; counted = omega (arith, rest.counted) }))
    ]
  where
    one_author : State
    one_author = quiet_author 1 h

    two_author : State
    two_author = quiet_author 2 k

    y : ℕ
    y = next x

    Written : ℕ → Type 0
    Written n =
        let w : World = among pool one_author two_author in
        let events : List Event = turn_by n w y ∷ turns (after_event w (turn_by n w y)) count (suc i) y in
        AreWritten (suc count) h k (made_over 1 w events) (made_over 2 w events)

    -- after the operations of a turn of the first author, and of the second
    First : List Op → Type 0
    First ops =
        let w : World = among (pool_with pool (ops ++ [])) (with_ops one_author ops) two_author in
        AreWritten (suc count) h k ((ops ++ []) ++ made_over 1 w (turns w count (suc i) y)) (made_over 2 w (turns w count (suc i) y))

    Second : List Op → Type 0
    Second ops =
        let w : World = among (pool_with pool (ops ++ [])) one_author (with_ops two_author ops) in
        AreWritten (suc count) h k (made_over 1 w (turns w count (suc i) y)) ((ops ++ []) ++ made_over 2 w (turns w count (suc i) y))

-- both begin steadily
first_begins : IsSteady 1 (the_section ∷ [])
unfolding order verdict
first_begins = record { lawful = (refl, tt); section = refl; own = All-nil (λ x. x.replica ≡ 1); counters = omega arith }

second_begins : IsSteady 2 (the_section ∷ [])
unfolding order verdict
second_begins = record { lawful = (refl, tt); section = refl; own = All-nil (λ x. x.replica ≡ 2); counters = omega arith }

-- no more turns than may be leave room
module _ (by_set : OrderBySet) (seed count : ℕ) (few : count ≤ MOST_TURNS) where
  abbrev section : List Op
  section = the_section ∷ []

  both : AreWritten count section section (made seed count 1) (made seed count 2)
  both = written count 1 seed section section section first_begins second_begins (omega (arith, few)) (omega (arith, few))

  lawful : Lawful section
  lawful = first_begins.lawful

  -- each accepts what the other made
  first_all : one_hears seed count ≡ quiet (history_with (history_with section (made seed count 1)) (made seed count 2))
  first_all =
      ap (λ (s : State). held_from HOLD MOST_OPERATIONS s.held (made seed count 2)) (after seed count).one_is
      ∙ all_accepted HOLD MOST_OPERATIONS (history_with section (made seed count 1)) (made seed count 2)
      (comes_after 1 2 section (made seed count 1) (made seed count 2) (λ e. cc e) lawful both.first both.second)
      (omega (arith, few, both.counted, extended_length section (made seed count 1)))

  second_all : two_hears seed count ≡ quiet (history_with (history_with section (made seed count 2)) (made seed count 1))
  second_all =
      ap (λ (s : State). held_from HOLD MOST_OPERATIONS s.held (made seed count 1)) (after seed count).two_is
      ∙ all_accepted HOLD MOST_OPERATIONS (history_with section (made seed count 2)) (made seed count 1)
      (comes_after 2 1 section (made seed count 2) (made seed count 1) (λ e. cc e) lawful both.second both.first)
      (omega (arith, few, both.counted, extended_length section (made seed count 2)))

  abbrev here : List Op
  here = history_with (history_with section (made seed count 1)) (made seed count 2)

  abbrev there : List Op
  there = history_with (history_with section (made seed count 2)) (made seed count 1)

  same_text : manuscript here ≡ manuscript there
  same_text =
      (by_set here there
      (ready_lawful (history_with section (made seed count 1)) (made seed count 2) (ready_lawful section (made seed count 1) lawful both.first.ready)
      (comes_after 1 2 section (made seed count 1) (made seed count 2) (λ e. cc e) lawful both.first both.second))
      (ready_lawful (history_with section (made seed count 2)) (made seed count 1) (ready_lawful section (made seed count 2) lawful both.second.ready)
      (comes_after 2 1 section (made seed count 2) (made seed count 1) (λ e. cc e) lawful both.second both.first))
      (same_after section (made seed count 1) (made seed count 2))).same_manuscript

  reported : summary (bulk_world seed count) ≡ summary_of (quiet_author 1 here) (quiet_author 2 there)
  reported = ap summary (heard seed count) ∙ (λ i. summary_of (numbered 1 (first_all i)) (numbered 2 (second_all i)))

  pub together : ComesTogether seed count
  together = record {
    operations = ap (λ s. s.operations) reported ∙ sized;
    equal = ap (λ s. s.is_equal) reported ∙ (bytes_decides (manuscript here) (manuscript there)).1 same_text;
  }
    where
      sized : length here ≡ count + 1
      sized = omega (arith, both.counted, extended_length section (made seed count 1), extended_length (history_with section (made seed count 1)) (made seed count 2))
