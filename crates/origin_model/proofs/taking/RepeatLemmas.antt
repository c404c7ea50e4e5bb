-- The closure is the greatest lawful part of a list, whatever is accepted is in it, and a pass that accepts nothing
-- finds all of it accepted.
use Rattle.origin_model.proofs.Words.{All-head, All-tail, IsPartOf, List, Op, Ready, [], ap, arith, cases_Bool, false, false≢true, has_op, if◌then◌else◌, inl, inr, length}
use Rattle.origin_model.proofs.Words.{length-append, nat_eq, op_eq, op_eq-refl, op_eq-true, or_cases, or_left, or_right, refl, subst, sym, true, true≢false, verdict, ℕ, ◌++◌, ◌+◌}
use Rattle.origin_model.proofs.Words.{◌∙◌, ◌∷◌, ◌≡◌, ◌≢◌, ◌⊎◌, Bool}
use Rattle.std.proofs.lemmas.Bool.{or_from}
use Rattle.std.proofs.lemmas.List.{nil_from_length}
use Rattle.origin_model.specs.taking.Closure.{Consistent}
use Rattle.origin_model.specs.taking.Repeats.{AcceptedIsInClosure, ClosureIsGreatest, ClosureIsMonotone, QuietPassIsLast}
use Rattle.origin_model.specs.taking.Taking.{Accepted, Again as AnsweredAgain, Answer, Conflict as AnsweredConflict, MeetsNoLimit, Held, IsSettled, TooMany, answer, answer_by}
use Rattle.origin_model.specs.taking.Taking.{answers_from, closure, held, held_from, intake, is_decided, is_kept, kept, kept_from, nothing_held, settle, held_after}
use Rattle.origin_model.proofs.operations.LookupLemmas.{has-append, when_ready}
use Rattle.origin_model.proofs.taking.AcceptedFrontLemmas.{EndsIn, hears_on, settling}
use Rattle.origin_model.proofs.taking.ClosureLawLemmas.{consistent_part, state_covers}
use Rattle.origin_model.proofs.taking.ClosureLemmas.{closure_is, maximal, no_conflict, same_closed}
use Rattle.origin_model.proofs.taking.KeptLemmas.{held-append, kept-no, kept-yes, nothing_settled, stays_settled}
use Rattle.origin_model.proofs.taking.SettlingLemmas.{undecided_found}
use Rattle.origin_model.proofs.taking.TakingLemmas.{Covers}

-- the closure has each lawful part of the list
pub closure_is_greatest : ClosureIsGreatest
closure_is_greatest ops part k w f = let c = closure_is ops in maximal part (closure ops) ops w c.lawful f c.part k c.saturated

-- so it grows with the list
pub closure_is_monotone : ClosureIsMonotone
closure_is_monotone a b k f = let c = closure_is a in closure_is_greatest b (closure a) k c.lawful (λ x m. f x (c.part x m))

-- what is kept of a list is part of it
kept_part : (hold most : ℕ) (s : Held) (ops : List Op) → IsPartOf (kept_from hold most s ops) ops
kept_part hold most s [] x m = m
kept_part hold most s (op ∷ ops) x m =
    let t : Held = intake hold most s op in
    elim (cases_Bool (is_kept (answer hold most s op))) [
      | inl e ↦ elim (or_cases (op_eq op x) (has_op (kept_from hold most t ops) x) (sym (ap (λ k. has_op k x) (kept-yes hold most s op ops e)) ∙ m)) [
        | inl q ↦ or_left (op_eq op x) (has_op ops x) q
        | inr j ↦ or_right (op_eq op x) (has_op ops x) (kept_part hold most t ops x j)
      ]
      | inr e ↦ or_right (op_eq op x) (has_op ops x) (kept_part hold most t ops x (sym (ap (λ k. has_op k x) (kept-no hold most s op ops e)) ∙ m))
    ]

-- whatever the limits, what is held covers what was kept
covers_kept : (hold most : ℕ) (ops : List Op) → Consistent ops → Covers (kept hold most ops) (held hold most ops)
covers_kept hold most ops k =
    state_covers (record { hold = hold; most = most; ops = ops }) (consistent_part (kept hold most ops) ops (kept_part hold most nothing_held ops) k)

-- what is accepted of a list is in its closure
pub accepted_is_in_closure : AcceptedIsInClosure
accepted_is_in_closure hold most ops k =
    let c = covers_kept hold most ops k in
    closure_is_greatest ops (held hold most ops).history k c.lawful (λ x m. kept_part hold most nothing_held ops x (c.history_part x m))

-- where an operation is accepted the history grows
accepts_more : (hold most : ℕ) (s : Held) (op : Op) → answer hold most s op ≡ Accepted → (intake hold most s op).history ≡ s.history → ⊥
accepts_more hold most s op a q =
    let after : Answer → Held = λ r. settle (held_after r s op) in
    let e : EndsIn (op ∷ s.history) (after Accepted) = settling (op ∷ s.history) (held_after Accepted s op) ([], refl) in
    let same : s.history ≡ e.0 ++ op ∷ s.history = sym q ∙ ap (λ r. (after r).history) a ∙ e.1 in
    omega (arith, ap length same, length-append e.0 (op ∷ s.history))

-- a history that is the same at the end is the same on the way
same_on_the_way : (hold most : ℕ) (s : Held) (op : Op) (ops : List Op) → (held_from hold most (intake hold most s op) ops).history ≡ s.history
    → (intake hold most s op).history ≡ s.history
same_on_the_way hold most s op ops q =
    let t : Held = intake hold most s op in
    let one : EndsIn s.history t = hears_on hold most s.history s (op ∷ []) ([], refl) in
    let two : EndsIn t.history (held_from hold most t ops) = hears_on hold most t.history t ops ([], refl) in
    let first = ap length one.1 in
    let second = ap length (sym q ∙ two.1) in
    let none : one.0 ≡ [] = nil_from_length one.0 (omega (arith, first, second, length-append one.0 s.history, length-append two.0 t.history)) in
    one.1 ∙ ap (λ k. k ++ s.history) none

-- a Ready operation is answered Accepted or TooMany
by_room : (full no_room : Bool) → (answer_by full no_room Ready ≡ Accepted) ⊎ (answer_by full no_room Ready ≡ TooMany)
by_room true no_room = inr refl
by_room false no_room = inl refl

-- so is one that is Ready on what is held of a consistent list
ready_answer : (hold most : ℕ) (all : List Op) (s : Held) (op : Op) → Consistent all → IsPartOf s.history all → IsPartOf s.waiting all → has_op all op ≡ true → IsSettled s
    → verdict s.history op ≡ Ready → (answer hold most s op ≡ Accepted) ⊎ (answer hold most s op ≡ TooMany)
ready_answer hold most all s op k f g m z v =
    let full : Bool = nat_eq (length s.history + length s.waiting) most in
    let no_room : Bool = nat_eq (length s.waiting) hold in
    let gone : has_op s.history op ≡ false = (when_ready s.history op v).absent in
    elim (cases_Bool (has_op s.waiting op)) [
      | inl w ↦ absurd (true≢false (ap is_decided (sym v) ∙ undecided_found s.history s.waiting z op w))
      | inr w ↦
          let again = or_from (has_op s.history op) (has_op s.waiting op) gone w in
          let free = or_from _ _ (no_conflict all s.history op k f m gone) (no_conflict all s.waiting op k g m w) in
          let is : answer hold most s op ≡ answer_by full no_room Ready =
          λ i. if again i then AnsweredAgain else if free i then AnsweredConflict else answer_by full no_room (v i) in
          elim (by_room full no_room) [ inl a ↦ inl (is ∙ a) | inr a ↦ inr (is ∙ a) ]
    ]

-- in a pass that answers no TooMany and accepts nothing no operation is Ready
quiet : (hold most : ℕ) (all before ops : List Op) → Consistent all → IsPartOf before all → IsPartOf ops all
    → MeetsNoLimit hold most (held hold most before) ops → (held_from hold most (held hold most before) ops).history ≡ (held hold most before).history
    → (x : Op) → has_op ops x ≡ true → verdict (held hold most before).history x ≡ Ready → ⊥
quiet hold most all before [] k f g p q x m v = false≢true m
quiet hold most all before (op ∷ ops) k f g p q x m v =
    let s : Held = held hold most before in
    let t : Held = intake hold most s op in
    let same : t.history ≡ s.history = same_on_the_way hold most s op ops q in
    let it : has_op all op ≡ true = g op (or_left (op_eq op op) (has_op ops op) (op_eq-refl op)) in
    let c : Covers (kept hold most before) s = covers_kept hold most before (consistent_part before all f k) in
    let inside : IsPartOf (kept hold most before) all = λ y j. f y (kept_part hold most nothing_held before y j) in
    elim (or_cases (op_eq op x) (has_op ops x) m) [
      | inl e ↦ elim (ready_answer hold most all s op k (λ y j. inside y (c.history_part y j)) (λ y j. inside y (c.waiting_part y j)) it
          (stays_settled hold most nothing_held before nothing_settled) (ap (verdict s.history) (op_eq-true op x e) ∙ v)) [
            | inl a ↦ accepts_more hold most s op a same
            | inr a ↦ All-head (λ r. r ≢ TooMany) (answer hold most s op) (answers_from hold most t ops) p a
          ]
      | inr j ↦
          let next : t ≡ held hold most (before ++ op ∷ []) = held-append hold most nothing_held before (op ∷ []) in
          quiet hold most all (before ++ op ∷ []) ops k
          (λ y i. elim (or_cases (has_op before y) (has_op (op ∷ []) y) (sym (has-append before (op ∷ []) y) ∙ i)) [
            | inl b ↦ f y b
            | inr b ↦ elim (or_cases (op_eq op y) false b) [ inl e ↦ subst (λ o. has_op all o ≡ true) (op_eq-true op y e) it | inr n ↦ absurd (false≢true n) ]
          ])
          (λ y i. g y (or_right (op_eq op y) (has_op ops y) i))
          (subst (λ u. MeetsNoLimit hold most u ops) next (All-tail (λ r. r ≢ TooMany) (answer hold most s op) (answers_from hold most t ops) p))
          (subst (λ (u : Held). (held_from hold most u ops).history ≡ u.history) next (q ∙ sym same))
          x j
          (subst (λ (u : Held). verdict u.history x ≡ Ready) next (ap (λ h. verdict h x) same ∙ v))
    ]

-- after such a pass all of the closure is accepted
pub quiet_pass_is_last : QuietPassIsLast
quiet_pass_is_last hold most before ops k f p q =
    let c : Covers (kept hold most before) (held hold most before) = covers_kept hold most before (consistent_part before ops f k) in
    same_closed ops (held hold most before).history (closure ops) k
    (record {
      lawful = c.lawful;
      part = λ x m. f x (kept_part hold most nothing_held before x (c.history_part x m));
      saturated = λ x m n v. quiet hold most ops before ops k f (λ y i. i) p q x m v;
    })
    (closure_is ops)
