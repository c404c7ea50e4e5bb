-- Settling takes the earliest decided operation out of those that wait, one at a time, and ends where none is decided.
-- A settled state stays as it is.
use Rattle.origin_model.proofs.Words.{All, All-cons, All-head, All-nil, All-tail, List, None, Op, Option, Some, [], ap, arith, cases_Bool, false, false≢true, has_op, inl, inr}
use Rattle.origin_model.proofs.Words.{length, op_eq, op_eq-refl, op_eq-true, or_cases, or_left, refl, subst, suc, sym, true, true≢false, verdict, ◌||◌, ◌∙◌, ◌∷◌, ◌≡◌, ◌≤◌, ◌⊎◌}
use Rattle.std.proofs.lemmas.List.{nil_from_length}
use Rattle.origin_model.specs.taking.Taking.{Held, IsSettled, decided_on, earliest, joined, settle, settle_step, settled_within}
use Rattle.origin_model.specs.taking.Closure.{SettlingEnds}
use Rattle.origin_model.proofs.operations.LookupLemmas.{swap_or}

-- r is a decided operation of w, and the others
pub record IsEarliest (h w : List Op) (r : Op × List Op) : Type 0 where
  pub ready : decided_on h r.0 ≡ true
  pub same : (x : Op) → has_op w x ≡ (op_eq r.0 x || has_op r.1 x)
  pub fewer : length w ≡ suc (length r.1)

-- one operation leaves those that wait: a Ready one joins the history, a Stray one is dropped
abbrev pub without : Held → Op × List Op → Held
without s r = record { history = joined (verdict s.history r.0) r.0 s.history; waiting = r.1 }

-- what was found after an operation that is not decided, which stays with the others
abbrev pub passed_over : Op → Option (Op × List Op) → Option (Op × List Op)
passed_over o q = elim q [ None ↦ None | Some r ↦ Some (r.0, o ∷ r.1) ]

-- a decided operation is the earliest
pub earliest-yes : (h : List Op) (o : Op) (w : List Op) → decided_on h o ≡ true → earliest h (o ∷ w) ≡ Some (o, w)
earliest-yes h o w e = rw (e, earliest)

-- any other one stays in front
pub earliest-no : (h : List Op) (o : Op) (w : List Op) → decided_on h o ≡ false → earliest h (o ∷ w) ≡ passed_over o (earliest h w)
earliest-no h o w e = rw (e, earliest)

-- no operation is decided, or the earliest is found
pub earliest_found : (h w : List Op) → (earliest h w ≡ None) × All (λ op. decided_on h op ≡ false) w ⊎ ((r : Op × List Op) × (earliest h w ≡ Some r) × IsEarliest h w r)
earliest_found h [] = inl (refl, All-nil (λ op. decided_on h op ≡ false))
earliest_found h (o ∷ w) =
    elim (cases_Bool (decided_on h o)) [
      | inl t ↦ inr ((o, w), earliest-yes h o w t, record { ready = t; same = λ x. refl; fewer = refl })
      | inr t ↦ elim (earliest_found h w) [
        | inl k ↦ inl (earliest-no h o w t ∙ ap (passed_over o) k.0, All-cons (λ op. decided_on h op ≡ false) o w t k.1)
        | inr k ↦ inr (
          (k.0.0, o ∷ k.0.1),
          earliest-no h o w t ∙ ap (passed_over o) k.1,
          record {
            ready = k.2.ready;
            same = λ x. ap (λ b. op_eq o x || b) (k.2.same x) ∙ swap_or (op_eq o x) (op_eq k.0.0 x) (has_op k.0.1 x);
            fewer = ap suc k.2.fewer;
          },
        )
      ]
    ]

-- where none is decided, nothing leaves
pub within-none : (o : Op) (room : List Op) (s : Held) → earliest s.history s.waiting ≡ None → settled_within (o ∷ room) s ≡ s
within-none o room s e = rw (e, settle_step, settled_within)

-- the earliest decided one leaves
pub within-some : (o : Op) (room : List Op) (s : Held) (r : Op × List Op) → earliest s.history s.waiting ≡ Some r → settled_within (o ∷ room) s ≡ settled_within room (without s r)
within-some o room s r e = rw (e, settle_step, settled_within)

-- with room for all that wait, the steps end where none is decided
settles_within : (room : List Op) (s : Held) → length s.waiting ≤ length room → IsSettled (settled_within room s)
settles_within [] s l =
    let none : s.waiting ≡ [] = nil_from_length s.waiting (omega arith) in
    subst (All (λ op. decided_on s.history op ≡ false)) (sym none) (All-nil (λ op. decided_on s.history op ≡ false))
settles_within (o ∷ room) s l =
    elim (earliest_found s.history s.waiting) [
      | inl k ↦ subst IsSettled (sym (within-none o room s k.0)) k.1
      | inr k ↦
          let f : length s.waiting ≡ suc (length k.0.1) = k.2.fewer in
          subst IsSettled (sym (within-some o room s k.0 k.1)) (settles_within room (without s k.0) (omega arith))
    ]

-- settling ends in a settled state
pub settles : SettlingEnds
unfolding settle
settles s = settles_within s.waiting s (omega arith)

-- what a look-up finds among the waiting operations of a settled state is not decided
pub undecided_found : (h w : List Op) → All (λ op. decided_on h op ≡ false) w → (x : Op) → has_op w x ≡ true → decided_on h x ≡ false
undecided_found h [] all x m = absurd (false≢true m)
undecided_found h (o ∷ w) all x m =
    elim (or_cases (op_eq o x) (has_op w x) m) [
      | inl q ↦ ap (decided_on h) (sym (op_eq-true o x q)) ∙ All-head (λ op. decided_on h op ≡ false) o w all
      | inr j ↦ undecided_found h w (All-tail (λ op. decided_on h op ≡ false) o w all) x j
    ]

-- in a settled state no step is left
stays_within : (room : List Op) (s : Held) → IsSettled s → settled_within room s ≡ s
stays_within [] s z = refl
stays_within (o ∷ room) s z =
    elim (earliest_found s.history s.waiting) [
      | inl k ↦ within-none o room s k.0
      | inr k ↦ absurd (true≢false (sym k.2.ready
          ∙ undecided_found s.history s.waiting z k.0.0 (k.2.same k.0.0 ∙ or_left (op_eq k.0.0 k.0.0) (has_op k.0.1 k.0.0) (op_eq-refl k.0.0))))
    ]

-- a settled state stays as it is
pub settle-settled : (s : Held) → IsSettled s → settle s ≡ s
unfolding settle
settle-settled s z = stays_within s.waiting s z
