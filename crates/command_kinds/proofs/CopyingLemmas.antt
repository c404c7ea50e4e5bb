-- Taking in a list of operations, some at a time, and why it stops.
use Rattle.std.proofs.Common.{List, [], ap, append_assoc, arith, drop, length, length-append, refl, subst, sym, ℕ, ◌+◌, ◌++◌, ◌<◌, ◌≤◌, ◌∙◌, ◌∷◌, ◌≡◌}
use Rattle.std.specs.Prelude.{Bool, Option}
use Rattle.std.proofs.lemmas.List.{append-nil, drop_more, nil_from_length}
use Rattle.std.proofs.lemmas.Option.{get_or_from_slice_get}
use Rattle.fugue_ids.specs.Identifiers.{Identifier}
use Rattle.fugue_ids.specs.declared.op.Op.TheVariants.{Delete}
use Rattle.op_runs.specs.Deletions.{deletes_by, target_by}
use Rattle.op_runs.proofs.DeletionLemmas.{length-deletes}
use Rattle.op_runs.proofs.FindLemmas.{delete_at}
use Rattle.fugue_ids.specs.declared.op.Op.{Op}
use Rattle.origin_model.specs.declared.taking.Tally.{Tally}
use Rattle.origin_model.specs.taking.Taking.{MeetsNoLimit, Held, IsSettled, TooMany, answer, held_from, kept_from}
use Rattle.origin_model.specs.edits.State.{State}
use Rattle.origin_model.proofs.SharedLemmas.{held-append, kept-append, places-append}
use Rattle.replica_core.specs.Feeding.{TakesInAll}
use Rattle.replica_core.specs.Answering.{total}
use Rattle.replica_core.specs.declared.keeping.FeedFault.{FeedFault}
use Rattle.replica_core.specs.declared.keeping.FeedFault.TheVariants as feed_fault
use Rattle.replica_core.proofs.FeedingLemmas.{takes_none_in, takes_on}
use Rattle.command_kinds.specs.Intake.{FeedsNotAll, OneTooMany, copies_of_kept}
use Rattle.command_kinds.proofs.IntakeLemmas.{copied-append, copied-nil}

-- what was kept of two lists, one after the other
pub both_kept : (start mid : State) (a b : List Op) (kept one two : Option (List Op)) → mid ≡ record start { held = held_from start.hold start.most start.held a }
    → one ≡ copies_of_kept kept (kept_from start.hold start.most start.held a)
    → two ≡ copies_of_kept one (kept_from mid.hold mid.most mid.held b) → two ≡ copies_of_kept kept (kept_from start.hold start.most start.held (a ++ b))
both_kept start mid a b kept one two mid_is one_is two_is =
    two_is ∙ (λ i. let r : State = mid_is i in copies_of_kept (one_is i) (kept_from r.hold r.most r.held b))
    ∙ copied-append kept (kept_from start.hold start.most start.held a) (kept_from start.hold start.most (held_from start.hold start.most start.held a) b)
    ∙ ap (copies_of_kept kept) (kept-append start.hold start.most start.held a b)

-- one that finds no place is after others that found theirs
pub one_further : (replica now : State) (done ops : List Op) (before after : Tally) → TakesInAll replica now done before after → OneTooMany now ops
    → OneTooMany replica (done ++ ops)
one_further replica now done ops before after taken one =
    let reached : Held = held_from replica.hold replica.most replica.held done in
    let place : MeetsNoLimit replica.hold replica.most reached one.front = subst (λ (r : State). MeetsNoLimit r.hold r.most r.held one.front) taken.replica one.has_place in
    let refused : answer replica.hold replica.most (held_from replica.hold replica.most reached one.front) one.op ≡ TooMany
    = subst (λ (r : State). answer r.hold r.most (held_from r.hold r.most r.held one.front) one.op ≡ TooMany) taken.replica one.refused in
    record {
      front = done ++ one.front;
      op = one.op;
      more = one.more;
      parts = ap (λ (l : List Op). done ++ l) one.parts ∙ sym (append_assoc done one.front (one.op ∷ one.more));
      has_place = places-append replica.hold replica.most replica.held done one.front taken.has_place place;
      refused = ap (λ (s : Held). answer replica.hold replica.most s one.op) (sym (held-append replica.hold replica.most replica.held done one.front)) ∙ refused;
    }

-- the same of a fault
pub fault_further : (fault : FeedFault) (replica now : State) (done ops : List Op) (before after : Tally) → TakesInAll replica now done before after → FeedsNotAll fault now ops
    → FeedsNotAll fault replica (done ++ ops)
fault_further (feed_fault.TooMany limit) replica now done ops before after taken (most, one) =
    (most ∙ ap (λ (r : State). r.most) taken.replica, one_further replica now done ops before after taken one)
fault_further feed_fault.NoMemory replica now done ops before after taken fed = tt

pub fault_whole : (fault : FeedFault) (replica : State) (ops more : List Op) → FeedsNotAll fault replica ops → FeedsNotAll fault replica (ops ++ more)
fault_whole (feed_fault.TooMany limit) replica ops more (most, one) = (
  most,
  record {
    front = one.front;
    op = one.op;
    more = one.more ++ more;
    parts = ap (λ (l : List Op). l ++ more) one.parts ∙ append_assoc one.front (one.op ∷ one.more) more;
    has_place = one.has_place;
    refused = one.refused;
  },
)
fault_whole feed_fault.NoMemory replica ops more fed = tt

-- A list that is taken in some at a time: the first ones were, and these are left.
module _ (start : State) (counts : Tally) (kept : Option (List Op)) (ops : List Op) where
  pub record IsCopying (now : State) (counts_now : Tally) (kept_now : Option (List Op)) (rest : List Op) : Type 0 where
    pub done : List Op
    pub parts : ops ≡ done ++ rest
    pub taken : TakesInAll start now done counts counts_now
    pub kept_are : kept_now ≡ copies_of_kept kept (kept_from start.hold start.most start.held done)

  pub copying_begun : IsSettled start.held → IsCopying start counts kept ops
  copying_begun settled = record { done = []; parts = refl; taken = takes_none_in start counts settled; kept_are = sym (copied-nil kept) }

  module _ (now : State) (counts_now : Tally) (kept_now : Option (List Op)) (rest : List Op) (copying : IsCopying now counts_now kept_now rest) where
    -- there is room to count all that is left
    pub counts_rise : (n : ℕ) → total counts + length start.held.waiting + length ops ≤ n → total counts_now + length now.held.waiting + length rest ≤ n
    counts_rise n few = omega (arith, few, copying.taken.once, ap length copying.parts, length-append copying.done rest)

    module _ (front others : List Op) (split : rest ≡ front ++ others) where
      pub copying_on : (next : State) (counts_next : Tally) → TakesInAll now next front counts_now counts_next → (kept_next : Option (List Op))
          → kept_next ≡ copies_of_kept kept_now (kept_from now.hold now.most now.held front) → IsCopying next counts_next kept_next others
      copying_on next counts_next taken kept_next is = record {
        done = copying.done ++ front;
        parts = copying.parts ∙ ap (λ (l : List Op). copying.done ++ l) split ∙ sym (append_assoc copying.done front others);
        taken = takes_on start now next copying.done front counts counts_now counts_next copying.taken taken;
        kept_are = both_kept start now copying.done front kept kept_now kept_next copying.taken.replica copying.kept_are is;
      }

      -- one of the next ones found no place
      pub copying_stops : (fault : FeedFault) → FeedsNotAll fault now front → FeedsNotAll fault start ops
      copying_stops fault stops =
          subst (FeedsNotAll fault start) (sym (copying.parts ∙ ap (λ (l : List Op). copying.done ++ l) split))
          (fault_further fault start now copying.done (front ++ others) counts counts_now copying.taken (fault_whole fault now front others stops))

    -- none is left
    pub copying_over : length rest ≡ 0 → copying.done ≡ ops
    copying_over none = sym (copying.parts ∙ ap (λ (l : List Op). copying.done ++ l) (nil_from_length rest none) ∙ append-nil copying.done)

-- Deletes of neighbours, of which the first ones were taken in
pub next_delete : (down : Bool) (target : Identifier) (n k : ℕ) → k < n
    → drop k (deletes_by down target n) ≡ (Delete (target_by down target k) ∷ []) ++ drop (k + 1) (deletes_by down target n)
next_delete down target n k below =
    let op : Op = Delete (target_by down target k) in
    let all : List Op = deletes_by down target n in
    drop_more all k op (omega (arith, below, length-deletes down target n))
    ∙ ap (λ (o : Op). o ∷ drop (k + 1) all) (get_or_from_slice_get all k op op (sym (delete_at down target n k below)))
