-- The accepted set does not depend on the order of arrival: it is the closure of what was taken in, and replicas that
-- exchange what they kept come to the same.
use Rattle.origin_model.proofs.Words.{All-append, IsPartOf, List, Op, SameOps, [], accepted, ap, append-nil, cases_Bool, false, false_from_ne_true, false≢true, has_op, inl, inr}
use Rattle.origin_model.proofs.Words.{or_cases, or_left, or_parts, or_right, subst, sym, true, true≢false, ℕ, ◌++◌, ◌||◌, ◌∙◌, ◌∷◌, ◌≡◌, ◌≢◌}
use Rattle.origin_model.specs.taking.Closure.{IsClosed, answers, ClosureBySet, ClosureOfMerge, ClosureOfSet, ClosureOfUnion, Consistent, WithinLimits, SameSetConverges, Taker}
use Rattle.origin_model.specs.taking.Closure.{given_by, given_by_all, kept_by, kept_by_all, taker_state}
use Rattle.origin_model.specs.taking.Taking.{Full, Held, IsSettled, TooMany, answers_from, closure, held, held_from, is_decided, is_again, nothing_held}
use Rattle.origin_model.proofs.operations.LookupLemmas.{has-append, has-reverse, when_ready}
use Rattle.origin_model.proofs.order.{Within-part, order_by_set, same-part}
use Rattle.origin_model.proofs.operations.CauseLemmas.{Dead, dead_within}
use Rattle.origin_model.proofs.taking.ClosureLemmas.{closed_by_set, closure_is, maximal, same_closed}
use Rattle.origin_model.proofs.taking.SettlingLemmas.{undecided_found}
use Rattle.origin_model.proofs.taking.TakingLemmas.{Covers, fold_covers}
use Rattle.origin_model.proofs.taking.KeptLemmas.{answers-append, held-append, kept_suffice, nothing_settled, stays_settled}

-- nothing is held at first
pub nothing_covers : Covers [] nothing_held
nothing_covers = record { lawful = tt; history_part = λ x m. m; waiting_part = λ x m. m; decided = λ x m. absurd (false≢true m) }

-- where no limit is met, the state covers the whole list
held_covers : (hold most : ℕ) (ops : List Op) → Consistent ops → WithinLimits (answers hold most ops) → Covers ops (held hold most ops)
held_covers hold most ops k n =
    subst (λ l. Covers l (held hold most ops)) (append-nil ops)
    (fold_covers hold most ops ops [] nothing_held k (λ x m. subst (λ l. has_op l x ≡ true) (append-nil ops) m) nothing_covers n)

-- a settled state that covers a list is closed
pub covered_closed : (ops : List Op) (s : Held) → Covers ops s → IsSettled s → IsClosed ops s.history
covered_closed ops s c z =
    record {
      lawful = c.lawful;
      part = c.history_part;
      saturated = λ x m n v. elim (cases_Bool (has_op s.waiting x)) [
        | inl w ↦ true≢false (ap is_decided (sym v) ∙ undecided_found s.history s.waiting z x w)
        | inr w ↦ c.decided x m n w (when_ready s.history x v).none_stray
      ];
    }

-- where no limit is met, what is accepted is closed
held_closed : (hold most : ℕ) (ops : List Op) → Consistent ops → WithinLimits (answers hold most ops) → IsClosed ops (held hold most ops).history
held_closed hold most ops k n =
    covered_closed ops (held hold most ops) (held_covers hold most ops k n) (stays_settled hold most nothing_held ops nothing_settled)

-- so it has the operations of the closure
pub closure_of_set : ClosureOfSet
closure_of_set hold most ops k n = same_closed ops (held hold most ops).history (closure ops) k (held_closed hold most ops k n) (closure_is ops)

-- a part of a consistent list is consistent
pub consistent_part : (a b : List Op) → IsPartOf a b → Consistent b → Consistent a
consistent_part a b f k x y i m n = k x y i (f x m) (f y n)

-- lists with the same operations have the same closure
pub closure_by_set : ClosureBySet
closure_by_set a b k s = same_closed a (closure a) (closure b) k (closure_is a) (closed_by_set b a (closure b) (λ op. sym (s op)) (closure_is b))

-- replicas that took in the same set accept the same and print the same
pub same_set_converges : SameSetConverges
same_set_converges hold most hold' most' a b k s n m =
    let x : List Op = (held hold most a).history in
    let y : List Op = (held hold' most' b).history in
    let back : SameOps b a = λ op. sym (s op) in
    let c : IsClosed a x = held_closed hold most a k n in
    let d : IsClosed a y = closed_by_set b a y back (held_closed hold' most' b (consistent_part b a (same-part b a back) k) m) in
    let same : SameOps x y = same_closed a x y k c d in
    record { same_ops = same; same_text = order_by_set x y c.lawful d.lawful same }

-- what a replica accepts that then takes in more is closed in what it kept and those
more_closed : (r : Taker) (ops : List Op) → Consistent (kept_by r ++ ops) → WithinLimits (answers_from r.hold r.most (taker_state r) ops)
    → IsClosed (kept_by r ++ ops) (held_from r.hold r.most (taker_state r) ops).history
more_closed r ops k n =
    let mine : List Op = kept_by r in
    let alone = kept_suffice r.hold r.most nothing_held r.ops nothing_settled in
    let after : held_from r.hold r.most (held r.hold r.most mine) ops ≡ held_from r.hold r.most (taker_state r) ops = ap (λ s. held_from r.hold r.most s ops) alone.same_state in
    let later : WithinLimits (answers_from r.hold r.most (held r.hold r.most mine) ops) =
    subst (λ s. WithinLimits (answers_from r.hold r.most s ops)) (sym alone.same_state) n in
    let both : WithinLimits (answers r.hold r.most (mine ++ ops)) =
    subst WithinLimits (sym (answers-append r.hold r.most nothing_held mine ops))
    (All-append (λ a. (a ≢ Full) × (a ≢ TooMany)) (answers r.hold r.most mine) (answers_from r.hold r.most (held r.hold r.most mine) ops) alone.within_limits later) in
    subst (λ (s : Held). IsClosed (mine ++ ops) s.history) (sym (held-append r.hold r.most nothing_held mine ops) ∙ after) (held_closed r.hold r.most (mine ++ ops) k both)

-- a front of two lists, the second of which is part of another
part_after : (front a b : List Op) → IsPartOf a b → IsPartOf (front ++ a) (front ++ b)
part_after front a b f x m =
    has-append front b x ∙ (elim (or_cases (has_op front x) (has_op a x) (sym (has-append front a x) ∙ m)) [
      | inl j ↦ or_left (has_op front x) (has_op b x) j
      | inr j ↦ or_right (has_op front x) (has_op b x) (f x j)
    ])

-- the first of two lists is part of both
pub part_in_front : (a b : List Op) → IsPartOf a (a ++ b)
part_in_front a b x m = has-append a b x ∙ or_left (has_op a x) (has_op b x) m

-- the second of two lists is part of both
pub part_at_end : (a b : List Op) → IsPartOf b (a ++ b)
part_at_end a b x m = has-append a b x ∙ or_right (has_op a x) (has_op b x) m

-- two parts are a part together
pub parts_join : (xs ys all : List Op) → IsPartOf xs all → IsPartOf ys all → IsPartOf (xs ++ ys) all
parts_join xs ys all f g x m = elim (or_cases (has_op xs x) (has_op ys x) (sym (has-append xs ys x) ∙ m)) [ inl j ↦ f x j | inr j ↦ g x j ]

-- an operation that a replica gives is accepted or waits
has-given : (r : Taker) (x : Op) → has_op (given_by r) x ≡ is_again (taker_state r) x
has-given r x =
    let s : Held = taker_state r in
    has-append (accepted s.history) s.waiting x ∙ ap (λ t. t || has_op s.waiting x) (has-reverse s.history x)

-- the state of a replica covers what it kept
pub state_covers : (r : Taker) → Consistent (kept_by r) → Covers (kept_by r) (taker_state r)
state_covers r k =
    let alone = kept_suffice r.hold r.most nothing_held r.ops nothing_settled in
    subst (Covers (kept_by r)) alone.same_state (held_covers r.hold r.most (kept_by r) k alone.within_limits)

-- what a replica gives is part of what it kept
given_part : (r : Taker) → Consistent (kept_by r) → IsPartOf (given_by r) (kept_by r)
given_part r k x m =
    let s : Held = taker_state r in
    let c : Covers (kept_by r) s = state_covers r k in
    elim (or_cases (has_op s.history x) (has_op s.waiting x) (sym (has-given r x) ∙ m)) [ inl j ↦ c.history_part x j | inr j ↦ c.waiting_part x j ]

-- one of the replicas kept the operation
record Keeper (replicas : List Taker) (x : Op) : Type 0 where
  keeper : Taker
  keeps : has_op (kept_by keeper) x ≡ true
  given : IsPartOf (given_by keeper) (given_by_all replicas)
  kept : IsPartOf (kept_by keeper) (kept_by_all replicas)

-- what all of the replicas kept, one of them kept
find_keeper : (replicas : List Taker) (x : Op) → has_op (kept_by_all replicas) x ≡ true → Keeper replicas x
find_keeper [] x m = absurd (false≢true m)
find_keeper (r ∷ replicas) x m =
    elim (or_cases (has_op (kept_by r) x) (has_op (kept_by_all replicas) x) (sym (has-append (kept_by r) (kept_by_all replicas) x) ∙ m)) [
      | inl j ↦ record {
        keeper = r;
        keeps = j;
        given = part_in_front (given_by r) (given_by_all replicas);
        kept = part_in_front (kept_by r) (kept_by_all replicas);
      }
      | inr j ↦
          let k : Keeper replicas x = find_keeper replicas x j in
          record {
            keeper = k.keeper;
            keeps = k.keeps;
            given = λ y i. part_at_end (given_by r) (given_by_all replicas) y (k.given y i);
            kept = λ y i. part_at_end (kept_by r) (kept_by_all replicas) y (k.kept y i);
          }
    ]

-- what a replica kept and does not give can't be added to a history that has all that it accepted
not_given : (r : Taker) (ops h : List Op) (x : Op) → Consistent (kept_by r) → Consistent ops → IsPartOf (given_by r) ops → IsClosed ops h
    → has_op (kept_by r) x ≡ true → has_op (given_by r) x ≡ false → Dead h x
not_given r ops h x k l f d m n =
    let s : Held = taker_state r in
    let c : Covers (kept_by r) s = state_covers r k in
    let has : IsPartOf s.history ops = λ y j. f y (has-given r y ∙ or_left (has_op s.history y) (has_op s.waiting y) j) in
    let within : IsPartOf s.history h = maximal s.history h ops c.lawful d.lawful has d.part l d.saturated in
    let gone = or_parts (has_op s.history x) (has_op s.waiting x) (sym (has-given r x) ∙ n) in
    dead_within s.history h x (Within-part s.history h d.lawful within) (c.decided x m gone.0 gone.1)

-- a history that is closed in all that the replicas give is closed in what they kept
given_suffices : (front ops h : List Op) (replicas : List Taker) → IsPartOf (given_by_all replicas) ops → IsPartOf ops (kept_by_all replicas)
    → Consistent (front ++ kept_by_all replicas) → IsClosed (front ++ ops) h → IsClosed (front ++ kept_by_all replicas) h
given_suffices front ops h replicas f g k d =
    let all : List Op = front ++ kept_by_all replicas in
    let part : IsPartOf (front ++ ops) all = part_after front ops (kept_by_all replicas) g in
    record {
      lawful = d.lawful;
      part = λ x m. part x (d.part x m);
      saturated = λ x m n v. elim (cases_Bool (has_op (front ++ ops) x)) [
        | inl t ↦ d.saturated x t n v
        | inr t ↦
            let out = or_parts (has_op front x) (has_op ops x) (sym (has-append front ops x) ∙ t) in
            let there : has_op (kept_by_all replicas) x ≡ true =
            elim (or_cases (has_op front x) (has_op (kept_by_all replicas) x) (sym (has-append front (kept_by_all replicas) x) ∙ m))
            [ inl j ↦ absurd (true≢false (sym j ∙ out.0)) | inr j ↦ j ] in
            let w : Keeper replicas x = find_keeper replicas x there in
            not_given w.keeper (front ++ ops) h x
            (consistent_part (kept_by w.keeper) all (λ y j. part_at_end front (kept_by_all replicas) y (w.kept y j)) k)
            (consistent_part (front ++ ops) all part k)
            (λ y j. part_at_end front ops y (f y (w.given y j)))
            d w.keeps
            (false_from_ne_true (has_op (given_by w.keeper) x) (λ j. true≢false (sym (f x (w.given x j)) ∙ out.1)))
            (when_ready h x v).none_stray
      ];
    }

-- taking in all that others give gives the closure of the union of what all kept
pub closure_of_union : ClosureOfUnion
closure_of_union r others ops f g k n =
    let all : List Op = kept_by r ++ kept_by_all others in
    let end : List Op = (held_from r.hold r.most (taker_state r) ops).history in
    let part : IsPartOf (kept_by r ++ ops) all = part_after (kept_by r) ops (kept_by_all others) g in
    let c : IsClosed (kept_by r ++ ops) end = more_closed r ops (consistent_part (kept_by r ++ ops) all part k) n in
    same_closed all end (closure all) k (given_suffices (kept_by r) ops end others f g k c) (closure_is all)

-- so does taking in what one other gives
pub closure_of_merge : ClosureOfMerge
closure_of_merge r other k n =
    let theirs : List Op = kept_by other in
    let alone : kept_by_all (other ∷ []) ≡ theirs = append-nil theirs in
    let end : List Op = (held_from r.hold r.most (taker_state r) (given_by other)).history in
    let part : IsPartOf (given_by other) theirs = given_part other (consistent_part theirs (kept_by r ++ theirs) (part_at_end (kept_by r) theirs) k) in
    subst (λ l. SameOps end (closure (kept_by r ++ l))) alone
    (closure_of_union r (other ∷ []) (given_by other)
    (λ x m. sym (ap (λ l. has_op l x) (append-nil (given_by other))) ∙ m)
    (λ x m. ap (λ l. has_op l x) (append-nil theirs) ∙ part x m)
    (subst (λ l. Consistent (kept_by r ++ l)) (sym alone) k) n)
