-- What holds of the state that taking in leads to: each operation that was taken in is accepted, waits, or names one
-- that is held and does not fit.
use Rattle.origin_model.proofs.Words.{All-head, All-tail, Bool, Identifier, IsPartOf, Lawful, List, Op, Ready, SameOps, Stray, Verdict, [], ap, cases_Bool, false, false≢true}
use Rattle.origin_model.proofs.Words.{has_op, if◌then◌else◌, inl, inr, length, nat_eq, op_eq, op_eq-refl, op_eq-true, or_cases, or_left, or_parts, or_right, refl, subst, sym, true}
use Rattle.origin_model.proofs.Words.{true≢false, verdict, ℕ, ◌++◌, ◌+◌, ◌||◌, ◌∙◌, ◌∷◌, ◌≡◌, ◌≢◌, ◌⊎◌}
use Rattle.std.proofs.lemmas.Bool.{or_from}
use Rattle.origin_model.specs.taking.Closure.{Consistent, WithinLimits}
use Rattle.origin_model.specs.taking.Taking.{Held, Answer, Accepted, Again as AnsweredAgain, Conflict as AnsweredConflict, Full, Stray as AnsweredStray, TooMany, Waits, answer}
use Rattle.origin_model.specs.taking.Taking.{answer_by, answers_from, held_from, intake, is_again, is_decided, is_taken, joined, settle, settled_within, held_after}
use Rattle.origin_model.proofs.order.{Within-append}
use Rattle.origin_model.proofs.operations.CauseLemmas.{Dead, dead_within, stray_dead}
use Rattle.origin_model.proofs.operations.LookupLemmas.{has-append, swap_or}
use Rattle.origin_model.proofs.taking.ClosureLemmas.{no_conflict}
use Rattle.origin_model.proofs.taking.SettlingLemmas.{IsEarliest, earliest_found, within-none, within-some, without}

-- what is so of a state when the operations `done` were taken in
pub record Covers (done : List Op) (s : Held) : Type 0 where
  pub lawful : Lawful s.history
  pub history_part : IsPartOf s.history done
  pub waiting_part : IsPartOf s.waiting done
  pub decided : (op : Op) → has_op done op ≡ true → has_op s.history op ≡ false → has_op s.waiting op ≡ false → Dead s.history op

-- a list covers what any list with the same operations covers
pub Covers-same : (a b : List Op) (s : Held) → SameOps a b → Covers a s → Covers b s
Covers-same a b s e c =
    record {
      lawful = c.lawful;
      history_part = λ x m. sym (e x) ∙ c.history_part x m;
      waiting_part = λ x m. sym (e x) ∙ c.waiting_part x m;
      decided = λ x m n o. c.decided x (e x ∙ m) n o;
    }

-- a decided verdict is Ready or Stray
decided_is : (v : Verdict) → is_decided v ≡ true → (v ≡ Ready) ⊎ ((i : Identifier) × (v ≡ Stray i))
decided_is Ready h = inl refl
decided_is (Stray i) h = inr (i, refl)
decided_is _ h = absurd (false≢true h)

-- it stays so as one operation leaves those that wait
covers_step : (done : List Op) (s : Held) (r : Op × List Op) → Covers done s → IsEarliest s.history s.waiting r → Covers done (without s r)
covers_step done s r c e =
    let h : List Op = s.history in
    let came : (x : Op) → has_op r.1 x ≡ true → has_op done x ≡ true = λ x m. c.waiting_part x (e.same x ∙ or_right (op_eq r.0 x) (has_op r.1 x) m) in
    let it : has_op done r.0 ≡ true = c.waiting_part r.0 (e.same r.0 ∙ or_left (op_eq r.0 r.0) (has_op r.1 r.0) (op_eq-refl r.0)) in
    elim (decided_is (verdict h r.0) e.ready) [
      | inl v ↦
          let w : Lawful (r.0 ∷ h) = (v, c.lawful) in
          let g : List Op → Held = λ k. record { history = k; waiting = r.1 } in
          subst (λ k. Covers done (g k)) (sym (ap (λ x. joined x r.0 h) v))
          (record {
            lawful = w;
            history_part = λ x m. elim (or_cases (op_eq r.0 x) (has_op h x) m) [ inl q ↦ subst (λ y. has_op done y ≡ true) (op_eq-true r.0 x q) it | inr j ↦ c.history_part x j ];
            waiting_part = came;
            decided = λ x m n o.
                let p = or_parts (op_eq r.0 x) (has_op h x) n in
                dead_within h (r.0 ∷ h) x (Within-append (r.0 ∷ []) h w) (c.decided x m p.1 (e.same x ∙ or_from (op_eq r.0 x) (has_op r.1 x) p.0 o));
          })
      | inr v ↦
          let g : List Op → Held = λ k. record { history = k; waiting = r.1 } in
          subst (λ k. Covers done (g k)) (sym (ap (λ x. joined x r.0 h) v.1))
          (record {
            lawful = c.lawful;
            history_part = c.history_part;
            waiting_part = came;
            decided = λ x m n o. elim (cases_Bool (op_eq r.0 x)) [
              | inl q ↦ subst (Dead h) (op_eq-true r.0 x q) (stray_dead h r.0 v.0 v.1)
              | inr q ↦ c.decided x m n (e.same x ∙ or_from (op_eq r.0 x) (has_op r.1 x) q o)
            ];
          })
    ]

-- it stays so over any number of steps
settled_covers : (done room : List Op) (s : Held) → Covers done s → Covers done (settled_within room s)
settled_covers done [] s c = c
settled_covers done (o ∷ room) s c =
    elim (earliest_found s.history s.waiting) [
      | inl k ↦ subst (Covers done) (sym (within-none o room s k.0)) c
      | inr k ↦ subst (Covers done) (sym (within-some o room s k.0 k.1)) (settled_covers done room (without s k.0) (covers_step done s k.0 c k.2))
    ]

-- it stays so while settling
settle_covers : (done : List Op) (s : Held) → Covers done s → Covers done (settle s)
unfolding settle
settle_covers done s c = settled_covers done s.waiting s c

-- what is answered where the identifier is new too
abbrev Cases : Verdict → Answer → Type 0
Cases v a = ((i : Identifier) × (v ≡ Stray i) × (a ≡ AnsweredStray i)) ⊎ ((a ≡ TooMany) ⊎ (((v ≡ Ready) × (a ≡ Accepted)) ⊎ ((a ≡ Full) ⊎ (a ≡ Waits))))

-- these are all the cases
answer_cases : (t f : Bool) (v : Verdict) → Cases v (answer_by t f v)
answer_cases t f (Stray i) = inl (i, refl, refl)
answer_cases true f v = inr (inl refl)
answer_cases false f Ready = inr (inr (inl (refl, refl)))
answer_cases false true v = inr (inr (inr (inl refl)))
answer_cases false false v = inr (inr (inr (inr refl)))

-- Accepted is answered by no other verdict than Ready
pub accepted_by : (t f : Bool) (v : Verdict) → answer_by t f v ≡ Accepted → v ≡ Ready
accepted_by t f v e =
    elim (answer_cases t f v) [
      | inl q ↦ cc (q.2, e)
      | inr q ↦ elim q [ inl r ↦ cc (r, e) | inr r ↦ elim r [ inl x ↦ x.0 | inr x ↦ elim x [ inl y ↦ cc (y, e) | inr y ↦ cc (y, e) ] ] ]
    ]

-- an operation that is accepted is Ready
pub accepted_is_ready : (hold most : ℕ) (s : Held) (op : Op) → answer hold most s op ≡ Accepted → verdict s.history op ≡ Ready
accepted_is_ready hold most s op e =
    accepted_by (nat_eq (length s.history + length s.waiting) most) (nat_eq (length s.waiting) hold) (verdict s.history op)
    (by_lines (is_again s op) (is_taken s op) _ e)
  where
    by_lines : (again taken : Bool) (a : Answer) → (if again then AnsweredAgain else if taken then AnsweredConflict else a) ≡ Accepted → a ≡ Accepted
    by_lines true taken a e = cc e
    by_lines false true a e = cc e
    by_lines false false a e = e

-- it stays so where the operation is there already, or names one that does not fit
grow : (done : List Op) (s : Held) (op : Op) → Covers done s → (has_op s.history op ≡ false → has_op s.waiting op ≡ false → Dead s.history op) → Covers (op ∷ done) s
grow done s op c d =
    record {
      lawful = c.lawful;
      history_part = λ x m. or_right (op_eq op x) (has_op done x) (c.history_part x m);
      waiting_part = λ x m. or_right (op_eq op x) (has_op done x) (c.waiting_part x m);
      decided = λ x m n o. elim (or_cases (op_eq op x) (has_op done x) m) [
        | inl q ↦ let e : op ≡ x = op_eq-true op x q in
            subst (Dead s.history) e (d (ap (has_op s.history) e ∙ n) (ap (has_op s.waiting) e ∙ o))
        | inr j ↦ c.decided x j n o
      ];
    }

-- it stays so where a Ready operation is accepted
pub accept_covers : (done : List Op) (s : Held) (op : Op) → Covers done s → verdict s.history op ≡ Ready
    → Covers (op ∷ done) (record { history = op ∷ s.history; waiting = s.waiting })
accept_covers done s op c v =
    let w : Lawful (op ∷ s.history) = (v, c.lawful) in
    record {
      lawful = w;
      history_part = λ x m. elim (or_cases (op_eq op x) (has_op s.history x) m)
          [ inl q ↦ or_left (op_eq op x) (has_op done x) q | inr j ↦ or_right (op_eq op x) (has_op done x) (c.history_part x j) ];
      waiting_part = λ x m. or_right (op_eq op x) (has_op done x) (c.waiting_part x m);
      decided = λ x m n o.
          let p = or_parts (op_eq op x) (has_op s.history x) n in
          elim (or_cases (op_eq op x) (has_op done x) m) [
            | inl q ↦ absurd (true≢false (sym q ∙ p.0))
            | inr j ↦ dead_within s.history (op ∷ s.history) x (Within-append (op ∷ []) s.history w) (c.decided x j p.1 o)
          ];
    }

-- it stays so where an operation waits
wait_covers : (done : List Op) (s : Held) (op : Op) → Covers done s → Covers (op ∷ done) (record { history = s.history; waiting = s.waiting ++ op ∷ [] })
wait_covers done s op c =
    record {
      lawful = c.lawful;
      history_part = λ x m. or_right (op_eq op x) (has_op done x) (c.history_part x m);
      waiting_part = λ x m. elim (or_cases (has_op s.waiting x) (has_op (op ∷ []) x) (sym (has-append s.waiting (op ∷ []) x) ∙ m)) [
        | inl j ↦ or_right (op_eq op x) (has_op done x) (c.waiting_part x j)
        | inr j ↦ elim (or_cases (op_eq op x) false j) [ inl q ↦ or_left (op_eq op x) (has_op done x) q | inr k ↦ absurd (false≢true k) ]
      ];
      decided = λ x m n o.
          let p = or_parts (has_op s.waiting x) (has_op (op ∷ []) x) (sym (has-append s.waiting (op ∷ []) x) ∙ o) in
          let q = or_parts (op_eq op x) false p.1 in
          elim (or_cases (op_eq op x) (has_op done x) m) [ inl k ↦ absurd (true≢false (sym k ∙ q.0)) | inr j ↦ c.decided x j n p.0 ];
    }

-- it stays so by any answer but Full and TooMany
taken_covers : (hold most : ℕ) (all done : List Op) (s : Held) (op : Op) → Consistent all → IsPartOf done all → has_op all op ≡ true → Covers done s
    → (answer hold most s op ≢ Full) × (answer hold most s op ≢ TooMany) → Covers (op ∷ done) (held_after (answer hold most s op) s op)
taken_covers hold most all done s op k f m c n =
    let G : Answer → Type 0 = λ a. Covers (op ∷ done) (held_after a s op) in
    let a : Answer = answer_by (nat_eq (length s.history + length s.waiting) most) (nat_eq (length s.waiting) hold) (verdict s.history op) in
    elim (cases_Bool (has_op s.history op || has_op s.waiting op)) [
      | inl t ↦ subst G (sym (λ i. if t i then AnsweredAgain else if is_taken s op then AnsweredConflict else a))
          (grow done s op c (λ x y. absurd (true≢false (sym t ∙ or_from (has_op s.history op) (has_op s.waiting op) x y))))
      | inr t ↦
          let p = or_parts (has_op s.history op) (has_op s.waiting op) t in
          let free = or_from _ _
          (no_conflict all s.history op k (λ x j. f x (c.history_part x j)) m p.0)
          (no_conflict all s.waiting op k (λ x j. f x (c.waiting_part x j)) m p.1) in
          let e : answer hold most s op ≡ a = λ i. if t i then AnsweredAgain else if free i then AnsweredConflict else a in
          subst G (sym e)
          (elim (answer_cases (nat_eq (length s.history + length s.waiting) most) (nat_eq (length s.waiting) hold) (verdict s.history op)) [
            | inl q ↦ subst G (sym q.2) (grow done s op c (λ x y. stray_dead s.history op q.0 q.1))
            | inr q ↦ elim q [
              | inl r ↦ absurd (n.1 (e ∙ r))
              | inr r ↦ elim r [
                | inl v ↦ subst G (sym v.1) (accept_covers done s op c v.0)
                | inr v ↦ elim v [
                  | inl u ↦ absurd (n.0 (e ∙ u))
                  | inr u ↦ subst G (sym u) (wait_covers done s op c)
                ]
              ]
            ]
          ])
    ]

-- an operation in front of two lists, or between them
pub has-moved : (op : Op) (ops done : List Op) (x : Op) → has_op (ops ++ op ∷ done) x ≡ (op_eq op x || has_op (ops ++ done) x)
has-moved op [] done x = refl
has-moved op (o ∷ ops) done x = ap (λ t. op_eq o x || t) (has-moved op ops done x) ∙ swap_or (op_eq o x) (op_eq op x) (has_op (ops ++ done) x)

-- it stays so over a list that is part of a consistent one and meets no limit
pub fold_covers : (hold most : ℕ) (all ops done : List Op) (s : Held) → Consistent all → IsPartOf (ops ++ done) all → Covers done s
    → WithinLimits (answers_from hold most s ops) → Covers (ops ++ done) (held_from hold most s ops)
fold_covers hold most all [] done s k f c n = c
fold_covers hold most all (op ∷ ops) done s k f c n =
    let m : has_op all op ≡ true = f op (or_left (op_eq op op) (has_op (ops ++ done) op) (op_eq-refl op)) in
    let Within : Answer → Type 0 = λ a. (a ≢ Full) × (a ≢ TooMany) in
    let rest = answers_from hold most (intake hold most s op) ops in
    let t = taken_covers hold most all done s op k (λ x j. f x (has-append (op ∷ ops) done x ∙ or_right (has_op (op ∷ ops) x) (has_op done x) j)) m c
    (All-head Within (answer hold most s op) rest n) in
    Covers-same (ops ++ op ∷ done) (op ∷ (ops ++ done)) (held_from hold most (intake hold most s op) ops) (has-moved op ops done)
    (fold_covers hold most all ops (op ∷ done) (intake hold most s op) k
    (λ x j. f x (sym (has-moved op ops done x) ∙ j))
    (settle_covers (op ∷ done) (held_after (answer hold most s op) s op) t)
    (All-tail Within (answer hold most s op) rest n))
