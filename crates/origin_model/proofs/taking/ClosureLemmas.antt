-- The closure of a list is a lawful part of it to which no more of it can be added, and every such history has the same operations.
use Rattle.origin_model.proofs.Words.{Bool, Identifier, IsPartOf, Lawful, List, None, Op, Option, Ready, SameOps, Some, Verdict, [], ap, arith, cases_Bool, cond, count_by, false}
use Rattle.origin_model.proofs.Words.{false_from_ne_true, false≢true, has_op, holder, id_held, id_of, inl, inr, length, names, not, op_eq, op_eq-refl, op_eq-true, or_cases}
use Rattle.origin_model.proofs.Words.{or_left, or_right, refl, subst, sym, true, true≢false, verdict, ℕ, ◌+◌, ◌||◌, ◌∙◌, ◌∷◌, ◌≡◌, ◌≤◌}
use Rattle.std.proofs.lemmas.List.Sums.{count_by-le-length, sum_by-cons}
use Rattle.origin_model.specs.taking.Closure.{ClosureIsClosed, Consistent, IsClosed, Saturated}
use Rattle.origin_model.specs.taking.Taking.{closed_within, closure, first_ready}
use Rattle.origin_model.proofs.operations.LookupLemmas.{cases_held, found, holder-has, holder_owns, own_id, when_ready}
use Rattle.origin_model.proofs.order.{Within-part}
use Rattle.origin_model.proofs.operations.CauseLemmas.{becomes_ready, names_within, ready_absent}
use Rattle.std.specs.Cmp.{both_ways}

-- an identifier that is held is that of an operation of the history
taken_by : (h : List Op) (o : Option Identifier) → id_held h o ≡ true → (i : Identifier) × (op : Op) × (o ≡ Some i) × (holder h i ≡ Some op)
taken_by h None e = absurd (false≢true e)
taken_by h (Some i) e = let r = found (holder h i) e in (i, r.0, refl, r.1)

-- in a consistent list an identifier is held only by the operation itself
pub no_conflict : (all h : List Op) (op : Op) → Consistent all → IsPartOf h all → has_op all op ≡ true → has_op h op ≡ false → id_held h (id_of op) ≡ false
no_conflict all h op k f m n =
    false_from_ne_true (id_held h (id_of op)) (λ e.
    let r = taken_by h (id_of op) e in
    let hh = holder-has h r.0 r.1 r.3 in
    true≢false (sym (subst (λ x. has_op h x ≡ true) (k r.1 op r.0 (f r.1 hh) m (own_id r.1 r.0 (holder_owns h r.0 r.1 r.3)) r.2) hh) ∙ n))

-- a history to which no more can be added has all that any lawful part of the list has
pub maximal : (d c ops : List Op) → Lawful d → Lawful c → IsPartOf d ops → IsPartOf c ops → Consistent ops → Saturated c ops → IsPartOf d c
maximal [] c ops v w f g k s op e = absurd (false≢true e)
maximal (o ∷ d) c ops v w f g k s op e =
    let rest : IsPartOf d c = maximal d c ops v.1 w (λ x m. f x (or_right (op_eq o x) (has_op d x) m)) g k s in
    elim (or_cases (op_eq o op) (has_op d op) e) [
      | inr m ↦ rest op m
      | inl t ↦
          let q : o ≡ op = op_eq-true o op t in
          elim (cases_Bool (has_op c o)) [
            | inl y ↦ subst (λ x. has_op c x ≡ true) q y
            | inr n ↦
                let ready = when_ready d o v.0 in
                let m : has_op ops o ≡ true = f o (or_left (op_eq o o) (has_op d o) (op_eq-refl o)) in
                let free = no_conflict ops c o k g m n in
                let p = names_within d c (names o) (Within-part d c w rest) ready.none_stray ready.none_missing in
                absurd (s o m n (becomes_ready c o n free p.0 p.1))
          ]
    ]

-- the verdict is Ready
abbrev is_ready : Verdict → Bool
is_ready Ready = true
is_ready _ = false

-- a verdict that passes is Ready
ready-is : (v : Verdict) → is_ready v ≡ true → v ≡ Ready
ready-is Ready h = refl
ready-is _ h = absurd (false≢true h)

-- the first Ready operation, by the verdict on the first of a list and what is found after it
abbrev ready_or : Verdict → Op → Option Op → Option Op
ready_or v o rest = elim v [ Ready ↦ Some o | _ ↦ rest ]

-- any verdict but Ready leaves what is found after
ready_or-no : (v : Verdict) (o : Op) (rest : Option Op) → is_ready v ≡ false → ready_or v o rest ≡ rest
ready_or-no Ready o rest e = absurd (true≢false e)
ready_or-no _ o rest e = refl

-- a Ready operation is the first one
first-yes : (h : List Op) (o : Op) (ops : List Op) → is_ready (verdict h o) ≡ true → first_ready h (o ∷ ops) ≡ Some o
first-yes h o ops e = ap (λ v. ready_or v o (first_ready h ops)) (ready-is (verdict h o) e)

-- any other one is passed
first-no : (h : List Op) (o : Op) (ops : List Op) → is_ready (verdict h o) ≡ false → first_ready h (o ∷ ops) ≡ first_ready h ops
first-no h o ops e = ready_or-no (verdict h o) o (first_ready h ops) e

-- the first Ready operation is of the list, and Ready
found_ready : (h ops : List Op) (op : Op) → first_ready h ops ≡ Some op → (has_op ops op ≡ true) × (verdict h op ≡ Ready)
found_ready h [] op e = cc
found_ready h (o ∷ ops) op e =
    elim (cases_Bool (is_ready (verdict h o))) [
      | inl t ↦
          let q : o ≡ op = cc (first-yes h o ops t, e) in
          (or_left (op_eq o op) (has_op ops op) (subst (λ x. op_eq o x ≡ true) q (op_eq-refl o)), subst (λ x. verdict h x ≡ Ready) q (ready-is (verdict h o) t))
      | inr t ↦ let r = found_ready h ops op (sym (first-no h o ops t) ∙ e) in (or_right (op_eq o op) (has_op ops op) r.0, r.1)
    ]

-- where no operation is Ready, none can be added
none_ready : (h ops : List Op) → first_ready h ops ≡ None → Saturated h ops
none_ready h [] e op m n r = false≢true m
none_ready h (o ∷ ops) e op m n r =
    elim (cases_Bool (is_ready (verdict h o))) [
      | inl t ↦ let d : Some o ≡ None = sym (first-yes h o ops t) ∙ e in cc
      | inr t ↦ elim (or_cases (op_eq o op) (has_op ops op) m) [
        | inl q ↦ true≢false (sym (ap is_ready (ap (verdict h) (op_eq-true o op q) ∙ r)) ∙ t)
        | inr j ↦ none_ready h ops (sym (first-no h o ops t) ∙ e) op j n r
      ]
    ]

-- how many of the list are not in the history
abbrev lacking : List Op → List Op → ℕ
lacking h ops = count_by (λ o. not (has_op h o)) ops

-- by the first of the list
lacking-cons : (h : List Op) (o : Op) (ops : List Op) → lacking h (o ∷ ops) ≡ cond (not (has_op h o)) 1 0 + lacking h ops
lacking-cons h o ops = sum_by-cons (λ x. cond (not (has_op h x)) 1 0) o ops

-- 1 where it lacks
abbrev lack : Bool → ℕ
lack b = cond (not b) 1 0

-- what holds of one more lacks no more
or_less : (a b : Bool) → cond (not (a || b)) 1 0 ≤ cond (not b) 1 0
or_less true true = omega arith
or_less true false = omega arith
or_less false true = omega arith
or_less false false = omega arith

-- one more operation leaves no more lacking
lacks_less : (h : List Op) (op : Op) (ops : List Op) → lacking (op ∷ h) ops ≤ lacking h ops
lacks_less h op [] = omega arith
lacks_less h op (o ∷ ops) =
    let a = lacking-cons h o ops in
    let b = lacking-cons (op ∷ h) o ops in
    let c = lacks_less h op ops in
    let d : cond (not (op_eq op o || has_op h o)) 1 0 ≤ cond (not (has_op h o)) 1 0 = or_less (op_eq op o) (has_op h o) in
    omega (arith, a, b, c, d)

-- one more that lacked leaves one fewer lacking
one_fewer : (h : List Op) (op : Op) (ops : List Op) → has_op ops op ≡ true → has_op h op ≡ false → lacking (op ∷ h) ops + 1 ≤ lacking h ops
one_fewer h op [] m n = absurd (false≢true m)
one_fewer h op (o ∷ ops) m n =
    let a = lacking-cons h o ops in
    let b = lacking-cons (op ∷ h) o ops in
    let d : cond (not (op_eq op o || has_op h o)) 1 0 ≤ cond (not (has_op h o)) 1 0 = or_less (op_eq op o) (has_op h o) in
    elim (or_cases (op_eq o op) (has_op ops op) m) [
      | inl q ↦
          let e : o ≡ op = op_eq-true o op q in
          let x : lack (has_op h o) ≡ 1 = ap lack (ap (has_op h) e ∙ n) in
          let y : lack (op_eq op o || has_op h o) ≡ 0 = ap (λ z. lack (z || has_op h o)) (ap (op_eq op) e ∙ op_eq-refl op) in
          let c = lacks_less h op ops in
          omega (arith, a, b, c, x, y)
      | inr j ↦ let c = one_fewer h op ops j n in omega (arith, a, b, c, d)
    ]

-- where none lacks, each is in the history
none_lacking : (h ops : List Op) (op : Op) → lacking h ops ≡ 0 → has_op ops op ≡ true → has_op h op ≡ true
none_lacking h [] op z m = absurd (false≢true m)
none_lacking h (o ∷ ops) op z m =
    let a = lacking-cons h o ops in
    elim (or_cases (op_eq o op) (has_op ops op) m) [
      | inl q ↦ elim (cases_Bool (has_op h o)) [
        | inl t ↦ subst (λ x. has_op h x ≡ true) (op_eq-true o op q) t
        | inr t ↦ let x : lack (has_op h o) ≡ 1 = ap lack t in absurd (omega (arith, a, x))
      ]
      | inr j ↦ none_lacking h ops op (omega (arith, a)) j
    ]

-- where no operation is Ready, it is closed
closed-none : (o : Op) (room ops h : List Op) → first_ready h ops ≡ None → closed_within (o ∷ room) ops h ≡ h
closed-none o room ops h e = rw (e, closed_within)

-- the first Ready operation joins
closed-some : (o : Op) (room ops h : List Op) (op : Op) → first_ready h ops ≡ Some op → closed_within (o ∷ room) ops h ≡ closed_within room ops (op ∷ h)
closed-some o room ops h op e = rw (e, closed_within)

-- with room for all that lacks, the steps end so
pub closed_is : (room ops h : List Op) → lacking h ops ≤ length room → Lawful h → IsPartOf h ops → IsClosed ops (closed_within room ops h)
closed_is [] ops h l w f =
    record { lawful = w; part = f; saturated = λ op m n r. true≢false (sym (none_lacking h ops op (omega arith) m) ∙ n) }
closed_is (o ∷ room) ops h l w f =
    elim (cases_held (first_ready h ops)) [
      | inl e ↦ subst (IsClosed ops) (sym (closed-none o room ops h e)) (record { lawful = w; part = f; saturated = none_ready h ops e })
      | inr e ↦
          let r = found_ready h ops e.0 e.1 in
          let c = one_fewer h e.0 ops r.0 (ready_absent h e.0 r.1) in
          subst (IsClosed ops) (sym (closed-some o room ops h e.0 e.1))
          (closed_is room ops (e.0 ∷ h) (omega (arith, c)) (r.1, w)
          (λ x m. elim (or_cases (op_eq e.0 x) (has_op h x) m) [ inl q ↦ subst (λ y. has_op ops y ≡ true) (op_eq-true e.0 x q) r.0 | inr j ↦ f x j ]))
    ]

-- the closure is such a history
pub closure_is : ClosureIsClosed
unfolding closure
closure_is ops = closed_is ops ops [] (count_by-le-length (λ o. not (has_op [] o)) ops) tt (λ x m. absurd (false≢true m))

-- any two such histories have the same operations
pub same_closed : (ops a b : List Op) → Consistent ops → IsClosed ops a → IsClosed ops b → SameOps a b
same_closed ops a b k s t op =
    both_ways _ _
    (maximal a b ops s.lawful t.lawful s.part t.part k t.saturated op)
    (maximal b a ops t.lawful s.lawful t.part s.part k s.saturated op)

-- lists with the same operations are closed alike
pub closed_by_set : (ops more h : List Op) → SameOps ops more → IsClosed ops h → IsClosed more h
closed_by_set ops more h s c =
    record {
      lawful = c.lawful;
      part = λ op m. sym (s op) ∙ c.part op m;
      saturated = λ op m n r. c.saturated op (s op ∙ m) n r;
    }
