-- A step leads nearer to the order of the parts.
use Rattle.std.proofs.Common.{ℕ, zero, suc, ◌+◌, ◌-◌, ◌<◌, ◌≤◌, List, Bool, true, false, refl, sym, ap, arith, subst, ◌≡◌, ◌≢◌, ◌⊎◌, inl, inr, ◌∙◌, length, get_or}
use Rattle.std.specs.Prelude.{remove}
use Rattle.std.proofs.lemmas.Bool.{cases_eq, cases_lt}
use Rattle.std.proofs.lemmas.List.{ext_get_or}
use Rattle.std.proofs.lemmas.List.Edits.{get_or-insert_above, get_or-insert_at, get_or-insert_below, get_or-remove_above, get_or-remove_below, length-insert, length-remove}
use Rattle.section_plan.specs.Orders.{ArePlaced, IsOrder, IsPartPlaced, IsStepOf, order_after_move}

-- a member of what is left without one stood in the list, elsewhere, and in the same order
record WasAt (order : List ℕ) (from k a : ℕ) : Type 0 where
  within : a < length order
  other : a ≢ from
  same : get_or (remove order from) k 0 ≡ get_or order a 0
  front : k < from → a ≡ k
  back : from ≤ k → a ≡ k + 1

was_at : (order : List ℕ) (from k : ℕ) → from < length order → k + 1 < length order → (a : ℕ) × WasAt order from k a
was_at order from k l m = elim (cases_lt k from) [
  | inl n ↦ (k, record { within = omega arith; other = omega arith; same = get_or-remove_below order from 0 k n l; front = λ x. refl; back = λ x. omega arith })
  | inr n ↦ (k + 1, record { within = m; other = omega arith; same = get_or-remove_above order from 0 k n l; front = λ x. omega arith; back = λ x. refl })
]

module _ (order : List ℕ) (stays : List Bool) (part from to : ℕ) (is : IsOrder order) (placed : ArePlaced order stays part) (step : IsStepOf order part from to) where
  mid : ℕ → ℕ
  mid k = get_or (remove order from) k 0

  mid_length : length (remove order from) + 1 ≡ length order
  mid_length = length-remove order from step.from_within

  to_most : to ≤ length (remove order from)
  to_most = let l = step.to_within in omega (arith, mid_length)

  new_length : length (order_after_move order from to part) ≡ length order
  new_length = length-insert (remove order from) to part to_most ∙ mid_length

  mid_other : (k : ℕ) → k + 1 < length order → get_or (remove order from) k 0 ≢ part
  mid_other k l e =
      let was = was_at order from k step.from_within l in
      was.1.other (is.once was.0 from was.1.within step.from_within (sym was.1.same ∙ (e ∙ sym step.stands)))

  mid_less : (k m : ℕ) → k < m → m + 1 < length order → IsPartPlaced stays part (get_or (remove order from) k 0) → IsPartPlaced stays part (get_or (remove order from) m 0)
      → get_or (remove order from) k 0 < get_or (remove order from) m 0
  mid_less k m l n p q =
      let a = was_at order from k step.from_within (omega arith) in
      let b = was_at order from m step.from_within n in
      let less : a.0 < b.0 = elim (cases_lt k from) [
        | inl x ↦ let e = a.1.front x in elim (cases_lt m from) [ inl y ↦ let f = b.1.front y in omega arith | inr y ↦ let f = b.1.back y in omega arith ]
        | inr x ↦ let e = a.1.back x in let f = b.1.back (omega arith) in omega arith
      ] in
      rw (a.1.same, b.1.same) (placed a.0 b.0 less b.1.within (subst (IsPartPlaced stays part) a.1.same p) (subst (IsPartPlaced stays part) b.1.same q))

  front_less : (k : ℕ) → k < to → IsPartPlaced stays part (get_or (remove order from) k 0) → get_or (remove order from) k 0 < part
  front_less k l p = elim (cases_eq part 0) [
    | inl e ↦ let f = step.first e in omega arith
    | inr ne ↦
        let there = step.behind (part - 1) (omega arith) in
        let is_before : get_or (remove order from) (to - 1) 0 ≡ part - 1 = there.1 in
        elim (cases_eq k (to - 1)) [
          | inl e ↦ rw (e, is_before) (omega arith)
          | inr other ↦
              let less = mid_less k (to - 1) (omega arith) (let t = step.to_within in omega arith) p (inl (rw is_before (omega arith))) in
              omega arith
        ]
  ]

  back_more : (k : ℕ) → to ≤ k → k + 1 < length order → IsPartPlaced stays part (get_or (remove order from) k 0) → part < get_or (remove order from) k 0
  back_more k l m p =
      let other = mid_other k m in
      elim (cases_eq part 0) [
        | inl e ↦ omega arith
        | inr ne ↦
            let there = step.behind (part - 1) (omega arith) in
            let is_before : get_or (remove order from) (to - 1) 0 ≡ part - 1 = there.1 in
            let less = mid_less (to - 1) k (omega (arith, there.0)) m (inl (rw is_before (omega arith))) p in
            omega arith
      ]

  at_front : (k : ℕ) → k < to → get_or (order_after_move order from to part) k 0 ≡ get_or (remove order from) k 0
  at_front k l = get_or-insert_below (remove order from) to part 0 k l to_most

  at_part : get_or (order_after_move order from to part) to 0 ≡ part
  at_part = get_or-insert_at (remove order from) to part 0 to_most

  at_back : (k : ℕ) → to ≤ k → get_or (order_after_move order from to part) (k + 1) 0 ≡ get_or (remove order from) k 0
  at_back k l = get_or-insert_above (remove order from) to part 0 k l to_most

  pub was_placed : (x : ℕ) → x ≢ part → IsPartPlaced stays (part + 1) x → IsPartPlaced stays part x
  was_placed x ne (inl l) = inl (omega arith)
  was_placed x ne (inr e) = inr e

  at_later : (k : ℕ) → to < k → get_or (order_after_move order from to part) k 0 ≡ get_or (remove order from) (k - 1) 0
  at_later k l = let e : k ≡ k - 1 + 1 = omega arith in ap (λ n. get_or (order_after_move order from to part) n 0) e ∙ at_back (k - 1) (omega arith)

  new_less : (a b : ℕ) → a < b → b < length order → IsPartPlaced stays (part + 1) (get_or (order_after_move order from to part) a 0)
      → IsPartPlaced stays (part + 1) (get_or (order_after_move order from to part) b 0)
      → get_or (order_after_move order from to part) a 0 < get_or (order_after_move order from to part) b 0
  new_less a b l m p q = elim (cases_lt a to) [
    | inl x ↦
        let old = was_placed (get_or (remove order from) a 0) (mid_other a (let t = step.to_within in omega arith)) (subst (IsPartPlaced stays (part + 1)) (at_front a x) p) in
        elim (cases_lt b to) [
          | inl y ↦ rw (at_front a x, at_front b y)
              (mid_less a b l (let t = step.to_within in omega arith) old
              (was_placed (get_or (remove order from) b 0) (mid_other b (let t = step.to_within in omega arith)) (subst (IsPartPlaced stays (part + 1)) (at_front b y) q)))
          | inr y ↦ elim (cases_eq b to) [
            | inl e ↦ rw (at_front a x, e, at_part) (front_less a x old)
            | inr ne ↦ let z : to < b =
                omega arith in rw (at_front a x, at_later b z)
                (mid_less a (b - 1) (omega arith) (omega arith) old
                (was_placed (get_or (remove order from) (b - 1) 0) (mid_other (b - 1) (omega arith)) (subst (IsPartPlaced stays (part + 1)) (at_later b z) q)))
          ]
        ]
    | inr x ↦
        let z : to < b = omega arith in
        let later = was_placed (get_or (remove order from) (b - 1) 0) (mid_other (b - 1) (omega arith)) (subst (IsPartPlaced stays (part + 1)) (at_later b z) q) in
        elim (cases_eq a to) [
          | inl e ↦ rw (e, at_part, at_later b z) (back_more (b - 1) (omega arith) (omega arith) later)
          | inr ne ↦ let w : to < a =
              omega arith in rw (at_later a w, at_later b z)
              (mid_less (a - 1) (b - 1) (omega arith) (omega arith)
              (was_placed (get_or (remove order from) (a - 1) 0) (mid_other (a - 1) (omega arith)) (subst (IsPartPlaced stays (part + 1)) (at_later a w) p)) later)
        ]
  ]

  pub placed_new : ArePlaced (order_after_move order from to part) stays (part + 1)
  placed_new a b l m p q = new_less a b l (omega (arith, new_length)) p q

  -- which member of the order each one of the new order is
  new_is : (k : ℕ) → k < length order → ((k ≡ to) × (get_or (order_after_move order from to part) k 0 ≡ part))
      ⊎ ((j : ℕ) × (j + 1 < length order) × (get_or (order_after_move order from to part) k 0 ≡ get_or (remove order from) j 0) × (k < to → k ≡ j) × (to < k → k ≡ j + 1)
      × (k ≢ to))
  new_is k l = elim (cases_lt k to) [
    | inl x ↦ inr (k, let t = step.to_within in omega arith, at_front k x, λ y. refl, λ y. omega arith, omega arith)
    | inr x ↦ elim (cases_eq k to) [
      | inl e ↦ inl (e, rw (e, at_part) refl)
      | inr ne ↦ let z : to < k = omega arith in inr (k - 1, omega arith, at_later k z, λ y. omega arith, λ y. omega arith, ne)
    ]
  ]

  mid_once : (j k : ℕ) → j + 1 < length order → k + 1 < length order → get_or (remove order from) j 0 ≡ get_or (remove order from) k 0 → j ≡ k
  mid_once j k l m e =
      let a = was_at order from j step.from_within l in
      let b = was_at order from k step.from_within m in
      let same : a.0 ≡ b.0 = is.once a.0 b.0 a.1.within b.1.within (sym a.1.same ∙ (e ∙ b.1.same)) in
      elim (cases_lt j from) [
        | inl x ↦ let f = a.1.front x in elim (cases_lt k from) [ inl y ↦ let g = b.1.front y in omega arith | inr y ↦ let g = b.1.back y in omega arith ]
        | inr x ↦ let f = a.1.back x in elim (cases_lt k from) [ inl y ↦ let g = b.1.front y in omega arith | inr y ↦ let g = b.1.back y in omega arith ]
      ]

  new_once : (a b : ℕ) → a < length order → b < length order → get_or (order_after_move order from to part) a 0 ≡ get_or (order_after_move order from to part) b 0 → a ≡ b
  new_once a b l m e = elim (new_is a l) [
    | inl x ↦ elim (new_is b m) [
      | inl y ↦ x.0 ∙ sym y.0
      | inr y ↦ absurd (mid_other y.0 y.1 (sym y.2 ∙ (sym e ∙ x.1)))
    ]
    | inr x ↦ elim (new_is b m) [
      | inl y ↦ absurd (mid_other x.0 x.1 (sym x.2 ∙ (e ∙ y.1)))
      | inr y ↦
          let same = mid_once x.0 y.0 x.1 y.1 (sym x.2 ∙ (e ∙ y.2)) in
          let side = x.5 in let other = y.5 in
          elim (cases_lt a to) [
            | inl p ↦ let f = x.3 p in elim (cases_lt b to) [ inl q ↦ let g = y.3 q in omega arith | inr q ↦ let g = y.4 (omega arith) in omega arith ]
            | inr p ↦ let f = x.4 (omega arith) in elim (cases_lt b to) [ inl q ↦ let g = y.3 q in omega arith | inr q ↦ let g = y.4 (omega arith) in omega arith ]
          ]
    ]
  ]

  new_within : (a : ℕ) → a < length order → get_or (order_after_move order from to part) a 0 < length order
  new_within a l = elim (new_is a l) [
    | inl x ↦ rw (x.1, sym step.stands) (is.within from step.from_within)
    | inr x ↦ let was = was_at order from x.0 step.from_within x.1 in rw (x.2, was.1.same) (is.within was.0 was.1.within)
  ]

  mid_has : (a : ℕ) → a < length order → a ≢ from → (j : ℕ) × (j + 1 < length order) × (get_or (remove order from) j 0 ≡ get_or order a 0)
  mid_has a l ne = elim (cases_lt a from) [
    | inl x ↦ (a, let f = step.from_within in omega arith, get_or-remove_below order from 0 a x step.from_within)
    | inr x ↦ let e : a - 1 + 1 ≡ a = omega arith in (a - 1, omega arith, get_or-remove_above order from 0 (a - 1) (omega arith) step.from_within ∙ ap (λ n. get_or order n 0) e)
  ]

  new_all : (r : ℕ) → r < length order → (a : ℕ) × (a < length order) × (get_or (order_after_move order from to part) a 0 ≡ r)
  new_all r l = elim (cases_eq r part) [
    | inl e ↦ (to, step.to_within, at_part ∙ sym e)
    | inr ne ↦
        let there = is.all r l in
        let other : there.0 ≢ from = λ e. ne (sym there.2 ∙ (ap (λ n. get_or order n 0) e ∙ step.stands)) in
        let mid_there = mid_has there.0 there.1 other in
        elim (cases_lt mid_there.0 to) [
          | inl x ↦ (mid_there.0, omega (arith, mid_there.1), at_front mid_there.0 x ∙ (mid_there.2 ∙ there.2))
          | inr x ↦ (mid_there.0 + 1, mid_there.1, at_back mid_there.0 x ∙ (mid_there.2 ∙ there.2))
        ]
  ]

  pub order_new : IsOrder (order_after_move order from to part)
  order_new = record {
    within = λ a l. rw new_length (new_within a (omega (arith, new_length)));
    once = λ a b l m e. new_once a b (omega (arith, new_length)) (omega (arith, new_length)) e;
    all = λ r l. let there = new_all r (omega (arith, new_length)) in (there.0, omega (arith, there.1, new_length), there.2);
  }

  pub length_new : length (order_after_move order from to part) ≡ length order
  length_new = new_length

-- a part that stays is placed where it stands
pub placed_stay : (order : List ℕ) (stays : List Bool) (part : ℕ) → get_or stays part false ≡ true → ArePlaced order stays part → ArePlaced order stays (part + 1)
placed_stay order stays part e placed a b l m p q = placed a b l m (was (get_or order a 0) p) (was (get_or order b 0) q)
  where
    was : (x : ℕ) → IsPartPlaced stays (part + 1) x → IsPartPlaced stays part x
    was x (inl l) = elim (cases_eq x part) [ inl same ↦ inr (rw same e) | inr ne ↦ inl (omega arith) ]
    was x (inr f) = inr f

-- so is one that stands after the part before it
moved_same : (order : List ℕ) (from part : ℕ) → from < length order → get_or order from 0 ≡ part → order_after_move order from from part ≡ order
moved_same order from part l e = ext_get_or 0 (order_after_move order from from part) order len (λ k m. by k (omega (arith, len)))
  where
    mid_length : length (remove order from) + 1 ≡ length order
    mid_length = length-remove order from l

    most : from ≤ length (remove order from)
    most = omega (arith, length-remove order from l)

    len : length (order_after_move order from from part) ≡ length order
    len = length-insert (remove order from) from part (omega (arith, length-remove order from l)) ∙ length-remove order from l

    by : (k : ℕ) → k < length order → get_or (order_after_move order from from part) k 0 ≡ get_or order k 0
    by k m =
        let most : from ≤ length (remove order from) = omega (arith, length-remove order from l) in
        elim (cases_lt k from) [
          | inl x ↦ get_or-insert_below (remove order from) from part 0 k x most ∙ get_or-remove_below order from 0 k x l
          | inr x ↦ elim (cases_eq k from) [
            | inl same ↦ rw same (get_or-insert_at (remove order from) from part 0 most ∙ sym e)
            | inr ne ↦
                let f : k ≡ k - 1 + 1 = omega arith in
                ap (λ n. get_or (order_after_move order from from part) n 0) f
                ∙ (get_or-insert_above (remove order from) from part 0 (k - 1) (omega arith) most
                ∙ (get_or-remove_above order from 0 (k - 1) (omega arith) l ∙ ap (λ n. get_or order n 0) (sym f)))
          ]
        ]

pub placed_there : (order : List ℕ) (stays : List Bool) (part from to : ℕ) → IsOrder order → ArePlaced order stays part → IsStepOf order part from to → from ≡ to
    → ArePlaced order stays (part + 1)
placed_there order stays part from to is placed step e =
    let same : order_after_move order from to part ≡ order = rw (sym e) (moved_same order from part step.from_within step.stands) in
    subst (λ o. ArePlaced o stays (part + 1)) same (placed_new order stays part from to is placed step)

-- the order of the parts, once all are placed
module _ (order : List ℕ) (stays : List Bool) (is : IsOrder order) (placed : ArePlaced order stays (length order)) where
  rises : (k : ℕ) → k + 1 < length order → get_or order k 0 < get_or order (k + 1) 0
  rises k l = placed k (k + 1) (omega arith) l (inl (is.within k (omega arith))) (inl (is.within (k + 1) l))

  lower : (k : ℕ) → k < length order → k ≤ get_or order k 0
  lower zero l = omega arith
  lower (suc k) l = let e : k + 1 ≡ suc k = omega arith in let less = rises k (omega arith) in subst (λ n. n ≤ get_or order n 0) e (omega (arith, less, lower k (omega arith)))

  upper : (d k : ℕ) → k + d + 1 ≡ length order → get_or order k 0 ≤ k
  upper zero k e = let l = is.within k (omega arith) in omega arith
  upper (suc d) k e = let less = rises k (omega arith) in let next = upper d (k + 1) (omega arith) in omega arith

  pub order_whole : (k : ℕ) → k < length order → get_or order k 0 ≡ k
  order_whole k l = let up = upper (length order - k - 1) k (omega arith) in let low = lower k l in omega arith
