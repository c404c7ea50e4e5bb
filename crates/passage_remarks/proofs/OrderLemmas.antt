-- Remarks in order.
use Rattle.std.proofs.Common.{List, [], arith, false, inl, inr, subst, sym, true, ◌<◌, ◌≢◌, ◌∙◌, ◌∷◌, ◌≡◌, ℕ}
use Rattle.std.specs.Prelude.{Bool, if◌then◌else◌, nat_eq, nat_lt, ◌&&◌, ◌||◌, ◌⊎◌}
use Rattle.std.specs.List.{All, AllPairs, Contains}
use Rattle.std.proofs.lemmas.Bool.{cases_Bool, cases_lt, true≢false}
use Rattle.std.proofs.lemmas.Bool.Decides.{nat_tests}
use Rattle.std.proofs.lemmas.List.Elements.{All-contains, All-cons, All-head, All-nil, All-tail, All-weaker}
use Rattle.std.proofs.lemmas.List.Kept.{AllPairs-cons}
use Rattle.fugue_ids.specs.Identifiers.{id_lt}
use Rattle.fugue_ids.proofs.ListLemmas.{all_from_contains, all_pairs_head, all_pairs_nil, all_pairs_tail, contains_cases, contains_here, contains_none, contains_there}
use Rattle.margin_notes.proofs.SortLemmas.{id_other}
use Rattle.passage_remarks.specs.Remarks.{Remark, in_order, is_before, put_in_order}
use Rattle.fugue_ids.proofs.OrderLemmas.{id_irrefl, id_trans}

abbrev pub Before : Remark → Remark → Type 0
Before a b = is_before a b ≡ true

-- no two remarks have one identifier
abbrev pub Others : Remark → Remark → Type 0
Others a b = a.id ≢ b.id

-- which of the three decides that a remark stands before another
abbrev Decides : (p q f g : ℕ) → Bool → Type 0
Decides p q f g t = (p < q) ⊎ ((p ≡ q) × ((f < g) ⊎ ((f ≡ g) × (t ≡ true))))

decided : (p q f g : ℕ) (t : Bool) → (nat_lt p q || (nat_eq p q && (nat_lt f g || (nat_eq f g && t)))) ≡ true → Decides p q f g t
decided p q f g t e =
    elim (cases_lt p q) [
      | inl l ↦ inl l
      | inr l ↦
          let same : p ≡ q = grind (arith, nat_tests) in
          elim (cases_lt f g) [ inl m ↦ inr (same, inl m) | inr m ↦ let one : (f ≡ g) × (t ≡ true) = (grind (arith, nat_tests), grind (arith, nat_tests)) in inr (same, inr one) ]
    ]

decides : (p q f g : ℕ) (t : Bool) → Decides p q f g t → (nat_lt p q || (nat_eq p q && (nat_lt f g || (nat_eq f g && t)))) ≡ true
decides p q f g t (inl l) = grind (arith, nat_tests)
decides p q f g t (inr (e, inl l)) = grind (arith, nat_tests)
decides p q f g t (inr (e, inr (d, k))) = grind (arith, nat_tests)

stands : (a b : Remark) → Before a b → Decides a.place b.place a.from b.from (id_lt a.id b.id)
stands a b e = decided a.place b.place a.from b.from (id_lt a.id b.id) e

pub before_irrefl : (a : Remark) → Before a a → ⊥
before_irrefl a e =
    elim (stands a a e) [ inl l ↦ omega (arith, l) | inr d ↦ elim d.1 [ inl l ↦ omega (arith, l) | inr k ↦ true≢false (sym k.1 ∙ id_irrefl a.id) ] ]

pub before_trans : (a b c : Remark) → Before a b → Before b c → Before a c
before_trans a b c e f = decides a.place c.place a.from c.from (id_lt a.id c.id) (both (stands a b e) (stands b c f))
  where
    both : Decides a.place b.place a.from b.from (id_lt a.id b.id) → Decides b.place c.place b.from c.from (id_lt b.id c.id)
        → Decides a.place c.place a.from c.from (id_lt a.id c.id)
    both (inl l) (inl m) = inl (omega (arith, l, m))
    both (inl l) (inr m) = inl (omega (arith, l, m.0))
    both (inr l) (inl m) = inl (omega (arith, l.0, m))
    both (inr (l, inl p)) (inr (m, inl q)) = inr (l ∙ m, inl (omega (arith, p, q)))
    both (inr (l, inl p)) (inr (m, inr q)) = inr (l ∙ m, inl (omega (arith, p, q.0)))
    both (inr (l, inr p)) (inr (m, inl q)) = inr (l ∙ m, inl (omega (arith, p.0, q)))
    both (inr (l, inr p)) (inr (m, inr q)) = inr (l ∙ m, inr (p.0 ∙ q.0, id_trans a.id b.id c.id p.1 q.1))

-- of two others one stands before the other
pub before_other : (a b : Remark) → Others a b → is_before a b ≡ false → Before b a
before_other a b o e =
    let not : Before a b → ⊥ = λ t. true≢false (sym t ∙ e) in
    decides b.place a.place b.from a.from (id_lt b.id a.id)
    (elim (cases_lt b.place a.place) [
      | inl l ↦ inl l
      | inr l ↦ elim (cases_lt a.place b.place) [
        | inl m ↦ absurd (not (decides a.place b.place a.from b.from (id_lt a.id b.id) (inl m)))
        | inr m ↦
            let same : a.place ≡ b.place = omega (arith, l, m) in
            elim (cases_lt b.from a.from) [
              | inl k ↦ inr (sym same, inl k)
              | inr k ↦ elim (cases_lt a.from b.from) [
                | inl j ↦ absurd (not (decides a.place b.place a.from b.from (id_lt a.id b.id) (inr (same, inl j))))
                | inr j ↦
                    let level : a.from ≡ b.from = omega (arith, k, j) in
                    elim (cases_Bool (id_lt a.id b.id)) [
                      | inl t ↦ absurd (not (decides a.place b.place a.from b.from (id_lt a.id b.id) (inr (same, inr (level, t)))))
                      | inr t ↦ inr (sym same, inr (sym level, id_other a.id b.id o t))
                    ]
              ]
            ]
      ]
    ])

-- the members with one more
put_from : (r : Remark) (ss : List Remark) (x : Remark) → Contains (put_in_order r ss) x → (r ≡ x) ⊎ Contains ss x
put_from r [] x k = contains_cases r [] x k
put_from r (s ∷ ss) x k =
    elim (is_before r s) as (λ (b : Bool). Contains (if b then r ∷ s ∷ ss else s ∷ put_in_order r ss) x → (r ≡ x) ⊎ Contains (s ∷ ss) x) [
      | true ↦ λ m. contains_cases r (s ∷ ss) x m
      | false ↦ λ m. elim (contains_cases s (put_in_order r ss) x m) [
        | inl e ↦ inr (subst (Contains (s ∷ ss)) e (contains_here s ss))
        | inr j ↦ elim (put_from r ss x j) [ inl e ↦ inl e | inr n ↦ inr (contains_there s ss x n) ]
      ]
    ] k

put_in : (r : Remark) (ss : List Remark) (x : Remark) → (r ≡ x) ⊎ Contains ss x → Contains (put_in_order r ss) x
put_in r [] x (inl e) = subst (Contains (r ∷ [])) e (contains_here r [])
put_in r [] x (inr k) = absurd (contains_none x k)
put_in r (s ∷ ss) x k =
    elim (is_before r s) as (λ (b : Bool). Contains (if b then r ∷ s ∷ ss else s ∷ put_in_order r ss) x) [
      | true ↦ elim k [ inl e ↦ subst (Contains (r ∷ s ∷ ss)) e (contains_here r (s ∷ ss)) | inr m ↦ contains_there r (s ∷ ss) x m ]
      | false ↦ elim k [
        | inl e ↦ contains_there s (put_in_order r ss) x (put_in r ss x (inl e))
        | inr m ↦ elim (contains_cases s ss x m) [
          | inl e ↦ subst (Contains (s ∷ put_in_order r ss)) e (contains_here s (put_in_order r ss))
          | inr n ↦ contains_there s (put_in_order r ss) x (put_in r ss x (inr n))
        ]
      ]
    ]

pub in_order_from : (rs : List Remark) (x : Remark) → Contains (in_order rs) x → Contains rs x
in_order_from [] x k = k
in_order_from (r ∷ rs) x k =
    elim (put_from r (in_order rs) x k) [ inl e ↦ subst (Contains (r ∷ rs)) e (contains_here r rs) | inr m ↦ contains_there r rs x (in_order_from rs x m) ]

pub in_order_in : (rs : List Remark) (x : Remark) → Contains rs x → Contains (in_order rs) x
in_order_in [] x k = k
in_order_in (r ∷ rs) x k = put_in r (in_order rs) x (elim (contains_cases r rs x k) [ inl e ↦ inl e | inr m ↦ inr (in_order_in rs x m) ])

put_ordered : (r : Remark) (ss : List Remark) → All (Others r) ss → AllPairs Before ss → AllPairs Before (put_in_order r ss)
put_ordered r [] a o = AllPairs-cons Before r [] (All-nil (Before r)) (all_pairs_nil Before)
put_ordered r (s ∷ ss) a o =
    let goal : Bool → Type 0 = λ b. AllPairs Before (if b then r ∷ s ∷ ss else s ∷ put_in_order r ss) in
    let later : All (Before s) ss = all_pairs_head Before s ss o in
    elim (cases_Bool (is_before r s)) [
      | inl k ↦ subst goal (sym k) (AllPairs-cons Before r (s ∷ ss) (All-cons (Before r) s ss k (All-weaker (Before s) (Before r) (λ e l. before_trans r s e k l) ss later)) o)
      | inr k ↦
          let first : Before s r = before_other r s (All-head (Others r) s ss a) k in
          subst goal (sym k)
          (AllPairs-cons Before s (put_in_order r ss)
          (all_from_contains (Before s) (put_in_order r ss) (λ x m. elim (put_from r ss x m) [ inl e ↦ subst (Before s) e first | inr n ↦ All-contains (Before s) ss x later n ]))
          (put_ordered r ss (All-tail (Others r) s ss a) (all_pairs_tail Before s ss o)))
    ]

-- remarks of which no two have one identifier are in order then
pub in_order_ordered : (rs : List Remark) → AllPairs Others rs → AllPairs Before (in_order rs)
in_order_ordered [] a = all_pairs_nil Before
in_order_ordered (r ∷ rs) a =
    put_ordered r (in_order rs) (all_from_contains (Others r) (in_order rs) (λ x m. All-contains (Others r) rs x (all_pairs_head Others r rs a) (in_order_from rs x m)))
    (in_order_ordered rs (all_pairs_tail Others r rs a))

put_apart : (r : Remark) (ss : List Remark) → All (Others r) ss → AllPairs Others ss → AllPairs Others (put_in_order r ss)
put_apart r [] a o = AllPairs-cons Others r [] (All-nil (Others r)) (all_pairs_nil Others)
put_apart r (s ∷ ss) a o =
    let goal : Bool → Type 0 = λ b. AllPairs Others (if b then r ∷ s ∷ ss else s ∷ put_in_order r ss) in
    let later : All (Others s) ss = all_pairs_head Others s ss o in
    let first : Others s r = λ e. All-head (Others r) s ss a (sym e) in
    elim (is_before r s) as goal [
      | true ↦ AllPairs-cons Others r (s ∷ ss) a o
      | false ↦
          AllPairs-cons Others s (put_in_order r ss)
          (all_from_contains (Others s) (put_in_order r ss) (λ x m. elim (put_from r ss x m) [ inl e ↦ subst (Others s) e first | inr n ↦ All-contains (Others s) ss x later n ]))
          (put_apart r ss (All-tail (Others r) s ss a) (all_pairs_tail Others s ss o))
    ]

-- and still no two have one identifier
pub in_order_apart : (rs : List Remark) → AllPairs Others rs → AllPairs Others (in_order rs)
in_order_apart [] a = all_pairs_nil Others
in_order_apart (r ∷ rs) a =
    put_apart r (in_order rs) (all_from_contains (Others r) (in_order rs) (λ x m. All-contains (Others r) rs x (all_pairs_head Others r rs a) (in_order_from rs x m)))
    (in_order_apart rs (all_pairs_tail Others r rs a))
