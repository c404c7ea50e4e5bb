-- What a lawful history has is taken in by each lawful part of it, in whatever turn the parts came.
use Rattle.std.proofs.Common.{Bool, List, [], ap, arith, eqb-true, false, inl, inr, length, nat_eq, refl, subst, suc, sym, true, ℕ, ◌+◌, ◌++◌, ◌||◌, ◌∙◌, ◌∷◌, ◌≡◌, ◌≢◌, ◌≤◌}
use Rattle.std.specs.Prelude.{None, Option, Some, if◌then◌else◌}
use Rattle.std.proofs.lemmas.Bool.{cases_Bool, false_from_ne_true, false≢true, ne_eqb, or_cases, or_left, or_right, true≢false}
use Rattle.std.proofs.lemmas.List.{length-append}
use Rattle.std.proofs.lemmas.List.Elements.{All-append, All-cons, All-head, All-nil, All-tail}
use Rattle.fugue_ids.specs.Identifiers.{Identifier, origin_eq}
use Rattle.fugue_ids.specs.Ops.{id_of, op_eq}
use Rattle.fugue_ids.specs.declared.op.Op.{Op}
use Rattle.fugue_ids.proofs.IdentifierLemmas.{id_eq-refl}
use Rattle.fugue_ids.proofs.OpLemmas.{op_eq-refl, op_eq-true}
use Rattle.origin_model.specs.declared.operations.Role.{Role}
use Rattle.origin_model.specs.declared.operations.Verdict.TheVariants.{Ready}
use Rattle.origin_model.specs.edits.Edits.{ReadyInTurn}
use Rattle.origin_model.specs.operations.History.{has_op, holder, holds, is_own}
use Rattle.origin_model.specs.operations.Verdict.{Lawful, first_line, first_missing, first_stray, fits, id_held, names, verdict}
use Rattle.origin_model.specs.order.Laws.{IsPartOf, SameOps}
use Rattle.origin_model.specs.taking.Taking.{Accepted, Again, Answer, Conflict, MeetsNoLimit, TooMany, Waits, answer, answer_by, answers_from, decided_on, held_from, intake}
use Rattle.origin_model.specs.taking.Taking.{is_decided, is_taken, settle, held_after}
use Rattle.origin_model.proofs.SharedLemmas.{accepted_is_ready, becomes_ready, cases_held, found, has-holder, holder-has, id_held-nil, names_within, ready_absent, settle-settled}
use Rattle.origin_model.proofs.SharedLemmas.{swap_or, when_ready, Within-part}
use Rattle.origin_model.proofs.edits.EditIntakeLemmas.{accepts, state_of}
use Rattle.origin_model.proofs.edits.UndecidedLemmas.{Undecided}
use Rattle.kept_promises.proofs.FewLemmas.{too_many}

-- the list without one of its members
record IsWithout (ops : List Op) (op : Op) : Type 0 where
  rest : List Op
  longer : length ops ≡ suc (length rest)
  same : (x : Op) → has_op ops x ≡ (op_eq op x || has_op rest x)

without_one : (ops : List Op) (op : Op) → has_op ops op ≡ true → IsWithout ops op
without_one [] op m = absurd (false≢true m)
without_one (o ∷ ops) op m =
    elim (or_cases (op_eq o op) (has_op ops op) m) [
      | inl t ↦ record { rest = ops; longer = refl; same = λ x. ap (λ y. op_eq y x || has_op ops x) (op_eq-true o op t) }
      | inr j ↦
          let r = without_one ops op j in
          record {
            rest = o ∷ r.rest;
            longer = ap suc r.longer;
            same = λ x. ap (λ b. op_eq o x || b) (r.same x) ∙ swap_or (op_eq o x) (op_eq op x) (has_op r.rest x);
          }
    ]

pub part_short : (a b : List Op) → Lawful a → IsPartOf a b → length a ≤ length b
part_short [] b w f = omega arith
part_short (op ∷ a) b w f =
    let r = without_one b op (f op (or_left (op_eq op op) (has_op a op) (op_eq-refl op))) in
    let rest : IsPartOf a r.rest = λ x m. elim (or_cases (op_eq op x) (has_op r.rest x) (sym (r.same x) ∙ f x (or_right (op_eq op x) (has_op a x) m))) [
      | inl q ↦ absurd (true≢false (sym (subst (λ y. has_op a y ≡ true) (sym (op_eq-true op x q)) m) ∙ ready_absent a op w.0))
      | inr j ↦ j
    ] in
    let short : length a ≤ length r.rest = part_short a r.rest w.1 rest in
    omega (arith, short, r.longer)

none_undecided : (h : List Op) → Undecided h []
none_undecided h = All-nil (λ op. decided_on h op ≡ false)

module _ (hold most : ℕ) (whole : List Op) (is_lawful : Lawful whole) (few : length whole ≤ most) where
  -- an operation of the whole that a part lacks has an identifier of its own there
  fresh_in : (p : List Op) (op : Op) → IsPartOf p whole → has_op whole op ≡ true → has_op p op ≡ false → (o : Option Identifier) → id_of op ≡ o → id_held p o ≡ false
  fresh_in p op f m n None is = refl
  fresh_in p op f m n (Some i) is =
      false_from_ne_true (holds p i) (λ t.
      let o = found (holder p i) t in
      let there : holder whole i ≡ Some o.0 = Within-part p whole is_lawful f i o.0 o.1 in
      let own : is_own i op ≡ true = ap (λ z. origin_eq z (Some i)) is ∙ id_eq-refl i in
      let same : o.0 ≡ op = cc (there, has-holder whole i op is_lawful m own) in
      true≢false (sym (subst (λ z. has_op p z ≡ true) same (holder-has p i o.0 o.1)) ∙ n))

  ready_in : (h p : List Op) (op : Op) → Lawful p → IsPartOf p whole → IsPartOf h p → has_op whole op ≡ true → verdict h op ≡ Ready → has_op p op ≡ false → verdict p op ≡ Ready
  ready_in h p op w f g m v n =
      let ready = when_ready h op v in
      let named = names_within h p (names op) (Within-part h p w g) ready.none_stray ready.none_missing in
      becomes_ready p op n (fresh_in p op f m n (id_of op) refl) named.0 named.1

  -- one that is there
  had_answer : (p : List Op) (op : Op) → has_op p op ≡ true → answer hold most (state_of p []) op ≡ Again
  had_answer p op t =
      ap (λ z. if z || has_op [] op then Again else if is_taken (state_of p []) op then Conflict else answer_by (nat_eq (length p + 0) most) (nat_eq 0 hold) (verdict p op)) t

  had_intake : (p : List Op) (op : Op) → has_op p op ≡ true → intake hold most (state_of p []) op ≡ state_of p []
  had_intake p op t = ap (λ a. settle (held_after a (state_of p []) op)) (had_answer p op t) ∙ settle-settled (state_of p []) (none_undecided p)

  -- one that is Ready
  grows_part : (p : List Op) (op : Op) → IsPartOf p whole → has_op whole op ≡ true → IsPartOf (op ∷ p) whole
  grows_part p op f m x k = elim (or_cases (op_eq op x) (has_op p x) k) [ inl q ↦ subst (λ y. has_op whole y ≡ true) (op_eq-true op x q) m | inr j ↦ f x j ]

  new_answer : (p : List Op) (op : Op) → Lawful p → IsPartOf p whole → has_op whole op ≡ true → verdict p op ≡ Ready → answer hold most (state_of p []) op ≡ Accepted
  new_answer p op w f m v =
      let short : length (op ∷ p) ≤ length whole = part_short (op ∷ p) whole (v, w) (grows_part p op f m) in
      accepts hold most p [] op (none_undecided p) v (id_held-nil (id_of op)) (ne_eqb (length p + 0) most (λ e. omega (arith, e, short, few)))

  new_intake : (p : List Op) (op : Op) → Lawful p → IsPartOf p whole → has_op whole op ≡ true → verdict p op ≡ Ready → intake hold most (state_of p []) op ≡ state_of (op ∷ p) []
  new_intake p op w f m v = ap (λ a. settle (held_after a (state_of p []) op)) (new_answer p op w f m v) ∙ settle-settled (state_of (op ∷ p) []) (none_undecided (op ∷ p))

  -- all are taken in, and nothing else is there then
  pub record IsTaken (p ops : List Op) : Type 0 where
    pub last : List Op
    pub state : held_from hold most (state_of p []) ops ≡ state_of last []
    pub place : MeetsNoLimit hold most (state_of p []) ops
    pub lawful : Lawful last
    pub same : (x : Op) → has_op last x ≡ (has_op p x || has_op ops x)

  step : (p q ops : List Op) (op : Op) → intake hold most (state_of p []) op ≡ state_of q [] → answer hold most (state_of p []) op ≢ TooMany
      → ((x : Op) → (has_op q x || has_op ops x) ≡ (has_op p x || (op_eq op x || has_op ops x))) → IsTaken q ops → IsTaken p (op ∷ ops)
  step p q ops op next other has later =
      record {
        last = later.last;
        state = ap (λ s. held_from hold most s ops) next ∙ later.state;
        place = All-cons (λ (a : Answer). a ≢ TooMany) (answer hold most (state_of p []) op) (answers_from hold most (intake hold most (state_of p []) op) ops) other
            (subst (λ s. MeetsNoLimit hold most s ops) (sym next) later.place);
        lawful = later.lawful;
        same = λ x. later.same x ∙ has x;
      }

  had_has : (p ops : List Op) (op x : Op) → has_op p op ≡ true → (has_op p x || has_op ops x) ≡ (has_op p x || (op_eq op x || has_op ops x))
  had_has p ops op x t =
      elim (cases_Bool (op_eq op x)) [
        | inl q ↦ ap (λ b. b || has_op ops x) (there q) ∙ sym (ap (λ b. b || (op_eq op x || has_op ops x)) (there q))
        | inr n ↦ sym (ap (λ b. has_op p x || (b || has_op ops x)) n)
      ]
    where
      there : op_eq op x ≡ true → has_op p x ≡ true
      there q = subst (λ y. has_op p y ≡ true) (op_eq-true op x q) t

  moved : (a b c : Bool) → ((a || b) || c) ≡ (b || (a || c))
  moved true true c = refl
  moved true false c = refl
  moved false true c = refl
  moved false false c = refl

  pub all_taken : (ops h p : List Op) → Lawful p → IsPartOf p whole → IsPartOf h p → ReadyInTurn h ops → ((x : Op) → has_op ops x ≡ true → has_op whole x ≡ true) → IsTaken p ops
  all_taken [] h p w f g r m = record { last = p; state = refl; place = All-nil (λ (a : Answer). a ≢ TooMany); lawful = w; same = λ x. or_none (has_op p x) }
    where
      or_none : (b : Bool) → b ≡ (b || false)
      or_none true = refl
      or_none false = refl
  all_taken (op ∷ ops) h p w f g r m =
      let here : has_op whole op ≡ true = m op (or_left (op_eq op op) (has_op ops op) (op_eq-refl op)) in
      let others : (x : Op) → has_op ops x ≡ true → has_op whole x ≡ true = λ x k. m x (or_right (op_eq op x) (has_op ops x) k) in
      elim (cases_Bool (has_op p op)) [
        | inl t ↦
            let part : IsPartOf (op ∷ h) p = λ x k. elim (or_cases (op_eq op x) (has_op h x) k) [ inl q ↦ subst (λ y. has_op p y ≡ true) (op_eq-true op x q) t | inr j ↦ g x j ] in
            step p p ops op (had_intake p op t) (λ e. cc (sym e ∙ had_answer p op t)) (λ x. had_has p ops op x t) (all_taken ops (op ∷ h) p w f part r.1 others)
        | inr n ↦
            let v : verdict p op ≡ Ready = ready_in h p op w f g here r.0 n in
            let part : IsPartOf (op ∷ h) (op ∷ p) =
            λ x k. elim (or_cases (op_eq op x) (has_op h x) k) [ inl q ↦ or_left (op_eq op x) (has_op p x) q | inr j ↦ or_right (op_eq op x) (has_op p x) (g x j) ] in
            step p (op ∷ p) ops op (new_intake p op w f here v) (λ e. cc (sym e ∙ new_answer p op w f here v)) (λ x. moved (op_eq op x) (has_op p x) (has_op ops x))
            (all_taken ops (op ∷ h) (op ∷ p) (v, w) (grows_part p op f here) part r.1 others)
      ]

-- ---- what is decided is fixed by the set
module _ (a b : List Op) (v : Lawful a) (w : Lawful b) (same : SameOps a b) where
  same_holder : (i : Identifier) → holder a i ≡ holder b i
  same_holder i =
      elim (cases_held (holder a i)) [
        | inl n ↦ elim (cases_held (holder b i)) [
          | inl m ↦ n ∙ sym m
          | inr k ↦ absurd (none_some (sym n ∙ Within-part b a v (λ x m. same x ∙ m) i k.0 k.1))
        ]
        | inr k ↦ k.1 ∙ sym (Within-part a b w (λ x m. sym (same x) ∙ m) i k.0 k.1)
      ]
    where
      none_some : {op : Op} → None ≡ Some op → ⊥
      none_some e = cc e

  same_stray : (ns : List (Identifier × Role)) → first_stray a ns ≡ first_stray b ns
  same_stray [] = refl
  same_stray (n ∷ ns) = let rest = same_stray ns in λ i. elim (same_holder n.0 i) [ None ↦ rest i | Some o ↦ if fits n.1 o then rest i else Some n.0 ]

  same_missing : (ns : List (Identifier × Role)) → first_missing a ns ≡ first_missing b ns
  same_missing [] = refl
  same_missing (n ∷ ns) = let rest = same_missing ns in λ i. elim (same_holder n.0 i) [ None ↦ Some n.0 | Some o ↦ rest i ]

  same_id : (o : Option Identifier) → id_held a o ≡ id_held b o
  same_id None = refl
  same_id (Some i) = ap (λ o. elim o [ None ↦ false | Some op ↦ true ]) (same_holder i)

  pub same_verdict : (op : Op) → verdict a op ≡ verdict b op
  unfolding verdict
  same_verdict op = λ i. first_line (same op i) (same_id (id_of op) i) (same_stray (names op) i) (same_missing (names op) i)

-- ---- what is not decided waits, or is refused
module _ (hold most : ℕ) (h : List Op) where
  record Stays (w : List Op) (op : Op) : Type 0 where
    waiting : List Op
    next : intake hold most (state_of h w) op ≡ state_of h waiting
    undecided : Undecided h waiting
    longer : length waiting ≤ length w + 1

  stays : (w : List Op) (op : Op) → Undecided h w → decided_on h op ≡ false → (a : Answer) → answer hold most (state_of h w) op ≡ a → Stays w op
  stays w op u n Accepted e = absurd (true≢false (sym (ap is_decided (accepted_is_ready hold most (state_of h w) op e)) ∙ n))
  stays w op u n Waits e =
      let more : Undecided h (w ++ op ∷ []) = All-append (λ o. decided_on h o ≡ false) w (op ∷ []) u (All-cons (λ o. decided_on h o ≡ false) op [] n (none_undecided h)) in
      record {
        waiting = w ++ op ∷ [];
        next = ap (λ a. settle (held_after a (state_of h w) op)) e ∙ settle-settled (state_of h (w ++ op ∷ [])) more;
        undecided = more;
        longer = omega (arith, length-append w (op ∷ []));
      }
  stays w op u n _ e = record { waiting = w; next = ap (λ a. settle (held_after a (state_of h w) op)) e ∙ settle-settled (state_of h w) u; undecided = u; longer = omega arith }

  pub record Leaves (w ops : List Op) : Type 0 where
    pub same : (held_from hold most (state_of h w) ops).history ≡ h
    pub place : MeetsNoLimit hold most (state_of h w) ops

  pub all_stay : (ops w : List Op) → Undecided h w → Undecided h ops → length h + length w + length ops ≤ most → Leaves w ops
  all_stay [] w u n l = record { same = refl; place = All-nil (λ (a : Answer). a ≢ TooMany) }
  all_stay (op ∷ ops) w u n l =
      let one = stays w op u (All-head (λ o. decided_on h o ≡ false) op ops n) (answer hold most (state_of h w) op) refl in
      let longer : length one.waiting ≤ length w + 1 = one.longer in
      let rest = all_stay ops one.waiting one.undecided (All-tail (λ o. decided_on h o ≡ false) op ops n) (omega (arith, longer, l)) in
      record {
        same = ap (λ s. (held_from hold most s ops).history) one.next ∙ rest.same;
        place = All-cons (λ (a : Answer). a ≢ TooMany) (answer hold most (state_of h w) op) (answers_from hold most (intake hold most (state_of h w) op) ops)
            (λ e. let full : length h + length w ≡ most = eqb-true (length h + length w) most (too_many hold most (state_of h w) op e) in absurd (omega (arith, full, l)))
            (subst (λ s. MeetsNoLimit hold most s ops) (sym one.next) rest.place);
      }
