-- The order in which sections stand, by their numbers.
use Rattle.std.proofs.Common.{Bool, List, [], ap, arith, get_or, inl, inr, length, refl, subst, sym, take, ℕ, ◌+◌, ◌++◌, ◌-◌, ◌<◌, ◌≤◌, ◌∙◌, ◌∷◌, ◌≡◌, ◌≢◌, ◌⊎◌, true, false}
use Rattle.std.specs.Prelude.{IsSome, None, Option, Some, insert, remove, slice_get, ◌↔◌}
use Rattle.std.specs.List.{Contains}
use Rattle.std.proofs.lemmas.Bool.{cases_eq, cases_lt}
use Rattle.std.proofs.lemmas.List.{get_or_append_left, get_or_push, length_push, same_lists, take_more}
use Rattle.std.proofs.lemmas.List.Edits.{get_or-insert_above, get_or-insert_at, get_or-insert_below, get_or-remove_above, get_or-remove_below, length-insert, length-remove}
use Rattle.std.proofs.lemmas.Option.{same_Some, slice_get-get_or}
use Rattle.fugue_ids.specs.Identifiers.{Identifier}
use Rattle.fugue_ids.specs.declared.op.Op.{Op}
use Rattle.origin_model.specs.declared.operations.Place.TheVariants.{Catalogue as catalogue}
use Rattle.origin_model.specs.operations.Verdict.{Lawful}
use Rattle.origin_model.specs.order.Printed.{shown}
use Rattle.catalogue_notes.specs.Arranged.{arranged}
use Rattle.catalogue_notes.proofs.ArrangedLemmas.{arranged_once, arranged_shown, shown_arranged}
use Rattle.origin_model.proofs.edits.SplitLemmas.{get_in}
use Rattle.catalogue_notes.proofs.PartLemmas.{Distinct, get_some, within_length}
use Rattle.section_plan.specs.Matching.{section_of}
use Rattle.section_plan.specs.declared.pairs.Pairs.{Pairs}
use Rattle.section_plan.specs.Orders.{ArePlaced, IsOrder, IsPartPlaced, order_after_move}
use Rattle.section_plan.specs.Rises.{IsChosen, IsRise, rise_value}
use Rattle.draft_plan.specs.Arranging.{ArePlacesTo, IsOrderOf, PutsPlace}
use Rattle.draft_plan.specs.Resizing.{AreDistinct}
use Rattle.draft_plan.proofs.ResizingLemmas.{places_once}
use Rattle.draft_plan.proofs.RevisionLemmas.{stands_at}
use Rattle.draft_plan.proofs.TargetLemmas.{push_cases}
use Rattle.draft_plan.proofs.ShapeLemmas.{got}

-- the numbers of distinct sections are an order
pub order_is : (ts xs : List Identifier) (order : List ℕ) → AreDistinct ts → AreDistinct xs → ((s : Identifier) → Contains ts s → Contains xs s) → length ts ≡ length xs
    → IsOrderOf ts xs order → IsOrder order
order_is ts xs order once once_xs there long is = record {
  within = λ a l. let s = get_some xs a (omega (arith, is.long)) in let at = got ts (get_or order a 0) s.0 (is.each a s.0 s.1) in omega (arith, at.0, is.long, long);
  once = λ a b l m e.
      let s = get_some xs a (omega (arith, is.long)) in
      let t = get_some xs b (omega (arith, is.long)) in
      let same : s.0 ≡ t.0 = same_Some s.0 t.0 (sym (is.each a s.0 s.1) ∙ (ap (slice_get ts) e ∙ is.each b t.0 t.1)) in
      once_xs a b t.0 (s.1 ∙ ap Some same) t.1;
  all = λ r l.
      let s = get_some ts r (omega (arith, is.long, long)) in
      let a = stands_at xs s.0 (there s.0 (get_in ts r s.0 s.1)) in
      let within = (got xs a.0 s.0 a.1).0 in
      (a.0, omega (arith, within, is.long), once (get_or order a.0 0) r s.0 (is.each a.0 s.0 a.1) s.1);
}

-- those that were chosen stand in the order of the parts
pub stays_placed : (order : List ℕ) (pairs : Pairs) (places : List (Option ℕ)) (stays : List Bool) → IsOrder order → ArePlacesTo order pairs (length order) places
    → IsRise places stays → ArePlaced order stays 0
stays_placed order pairs places stays is at rise a b l m p q =
    let x = chosen a (omega (arith, m)) p in
    let y = chosen b m q in
    elim (cases_lt (get_or order a 0) (get_or order b 0)) [
      | inl less ↦ less
      | inr more ↦
          let ne : get_or order b 0 ≢ get_or order a 0 = λ e. let f = is.once b a m (omega (arith, m)) e in omega arith in
          let back = rise.rises (get_or order b 0) (get_or order a 0) b a (omega arith) (stays_of b q) (stays_of a p) y x in
          absurd (omega arith)
    ]
  where
    stays_of : (k : ℕ) → IsPartPlaced stays 0 (get_or order k 0) → IsChosen stays (get_or order k 0)
    stays_of k (inl n) = absurd (omega arith)
    stays_of k (inr e) = e

    by : (k : ℕ) → k < length order → (o : Option ℕ) → rise_value places (get_or order k 0) ≡ o → IsSome (rise_value places (get_or order k 0))
        → rise_value places (get_or order k 0) ≡ Some k
    by k n None e some = let f : false ≡ true = subst IsSome e some in cc
    by k n (Some x) e some = let there = (at.each (get_or order k 0) x).0 e in let same = is.once x k there.0 n there.1 in e ∙ ap Some same

    chosen : (k : ℕ) → k < length order → IsPartPlaced stays 0 (get_or order k 0) → rise_value places (get_or order k 0) ≡ Some k
    chosen k n p = by k n (rise_value places (get_or order k 0)) refl (rise.have (get_or order k 0) (stays_of k p))

-- a member that moved, in both lists
moved_at : (xs : List Identifier) (order : List ℕ) (from to k part : ℕ) (y d : Identifier) → length order ≡ length xs → from < length xs → to < length xs → k < length xs
    → (k ≡ to) ⊎ ((j : ℕ) × (j < length xs) × (get_or (insert (remove xs from) to y) k d ≡ get_or xs j d) × (get_or (order_after_move order from to part) k 0 ≡ get_or order j 0))
moved_at xs order from to k part y d long f t l =
    let xs_mid = length-remove xs from f in
    let order_mid = length-remove order from (omega (arith, long)) in
    let most : to ≤ length (remove xs from) = omega (arith, xs_mid) in
    let order_most : to ≤ length (remove order from) = omega (arith, order_mid, long) in
    elim (cases_lt k to) [
      | inl a ↦
          let x = get_or-insert_below (remove xs from) to y d k a most in
          let o = get_or-insert_below (remove order from) to part 0 k a order_most in
          inr (mid k (omega arith) x o)
      | inr a ↦ elim (cases_eq k to) [
        | inl e ↦ inl e
        | inr ne ↦
            let e : k ≡ k - 1 + 1 = omega arith in
            let x = ap (λ n. get_or (insert (remove xs from) to y) n d) e ∙ get_or-insert_above (remove xs from) to y d (k - 1) (omega arith) most in
            let o = ap (λ n. get_or (order_after_move order from to part) n 0) e ∙ get_or-insert_above (remove order from) to part 0 (k - 1) (omega arith) order_most in
            inr (mid (k - 1) (omega arith) x o)
      ]
    ]
  where
    mid : (j : ℕ) → j + 1 < length xs → get_or (insert (remove xs from) to y) k d ≡ get_or (remove xs from) j d
        → get_or (order_after_move order from to part) k 0 ≡ get_or (remove order from) j 0
        → (j : ℕ) × (j < length xs) × (get_or (insert (remove xs from) to y) k d ≡ get_or xs j d) × (get_or (order_after_move order from to part) k 0 ≡ get_or order j 0)
    mid j m x o = elim (cases_lt j from) [
      | inl a ↦ (j, omega arith, x ∙ get_or-remove_below xs from d j a f, o ∙ get_or-remove_below order from 0 j a (omega (arith, long)))
      | inr a ↦ (j + 1, m, x ∙ get_or-remove_above xs from d j a f, o ∙ get_or-remove_above order from 0 j a (omega (arith, long)))
    ]

pub order_moved : (ts xs : List Identifier) (order : List ℕ) (from to part : ℕ) (y : Identifier) → IsOrderOf ts xs order → slice_get xs from ≡ Some y → get_or order from 0 ≡ part
    → to < length xs
    → IsOrderOf ts (insert (remove xs from) to y) (order_after_move order from to part)
order_moved ts xs order from to part y is at stands t = record {
  long = lengths;
  each = λ k s e. each k s e;
}
  where
    f : from < length xs
    f = (got xs from y at).0

    xs_mid : length (remove xs from) + 1 ≡ length xs
    xs_mid = length-remove xs from (got xs from y at).0

    xs_long : length (insert (remove xs from) to y) ≡ length xs
    xs_long = let m = length-remove xs from (got xs from y at).0 in length-insert (remove xs from) to y (omega (arith, m)) ∙ m

    lengths : length (order_after_move order from to part) ≡ length (insert (remove xs from) to y)
    lengths =
        let m = length-remove xs from (got xs from y at).0 in
        let n = length-remove order from (let l = (got xs from y at).0 in omega (arith, is.long)) in
        let a = length-insert (remove xs from) to y (omega (arith, m)) in
        let b = length-insert (remove order from) to part (omega (arith, n, is.long)) in
        omega (arith, a, b, m, n, is.long)

    each : (k : ℕ) (s : Identifier) → slice_get (insert (remove xs from) to y) k ≡ Some s → slice_get ts (get_or (order_after_move order from to part) k 0) ≡ Some s
    each k s e =
        let l = (got xs from y at).0 in
        let m = length-remove xs from l in
        let n = length-remove order from (omega (arith, is.long)) in
        let there = got (insert (remove xs from) to y) k s e in
        let long = length-insert (remove xs from) to y (omega (arith, m)) in
        elim (moved_at xs order from to k part y s is.long l t (omega (arith, long, m, there.0))) [
          | inl same ↦
              let here = ap (λ z. get_or (insert (remove xs from) to y) z s) (sym same) ∙ there.1 in
              let y_is : y ≡ s = sym (get_or-insert_at (remove xs from) to y s (omega (arith, m))) ∙ here in
              let rank : get_or (order_after_move order from to part) k 0 ≡ get_or order from 0 =
              ap (λ z. get_or (order_after_move order from to part) z 0) same ∙ (get_or-insert_at (remove order from) to part 0 (omega (arith, n, is.long)) ∙ sym stands) in
              ap (slice_get ts) rank ∙ (is.each from y at ∙ ap Some y_is)
          | inr j ↦
              let was : slice_get xs j.0 ≡ Some s = slice_get-get_or xs j.0 s j.1 ∙ ap Some (sym j.2 ∙ there.1) in
              ap (slice_get ts) j.3 ∙ is.each j.0 s was
        ]

-- the sections stand in the order of the parts
pub order_all : (ts xs : List Identifier) (order : List ℕ) → length ts ≡ length xs → IsOrderOf ts xs order → ((k : ℕ) → k < length order → get_or order k 0 ≡ k) → xs ≡ ts
order_all ts xs order long is whole = same_lists xs ts (sym long) (λ k d l.
    let s = get_some xs k l in
    let at = got xs k s.0 s.1 in
    let there : slice_get ts k ≡ Some s.0 = ap (slice_get ts) (sym (whole k (omega (arith, is.long)))) ∙ is.each k s.0 s.1 in
    let x = slice_get-get_or xs k d l in
    let t = slice_get-get_or ts k d (omega arith) in
    same_Some (get_or xs k d) (get_or ts k d) (sym x ∙ (s.1 ∙ (sym there ∙ t))))

-- one section more
pub order_more : (ts xs : List Identifier) (order : List ℕ) (k r : ℕ) (s : Identifier) → IsOrderOf ts (take k xs) order → slice_get xs k ≡ Some s → slice_get ts r ≡ Some s
    → IsOrderOf ts (take (k + 1) xs) (order ++ r ∷ [])
order_more ts xs order k r s is at there =
    let g = got xs k s at in
    let more : take (k + 1) xs ≡ take k xs ++ s ∷ [] = take_more xs k s g.0 ∙ ap (λ x. take k xs ++ x ∷ []) g.1 in
    subst (λ l. IsOrderOf ts l (order ++ r ∷ [])) (sym more) (record {
      long = length_push order r ∙ (ap (λ n. n + 1) is.long ∙ sym (length_push (take k xs) s));
      each = λ j u e. elim (push_cases (take k xs) s j u e) [
        | inl f ↦
            let l = (got (take k xs) j u f).0 in
            ap (slice_get ts) (get_or_append_left order (r ∷ []) 0 j (omega (arith, is.long))) ∙ is.each j u f
        | inr f ↦
            let rank : get_or (order ++ r ∷ []) j 0 ≡ r = get_or_push order r 0 j (is.long ∙ sym f.0) in
            ap (slice_get ts) rank ∙ (there ∙ ap Some (sym f.1))
      ];
    })

-- one place more: that of a part that is matched
pub places_more : (order : List ℕ) (pairs : Pairs) (old new : List (Option ℕ)) (part place : ℕ) → IsOrder order → ArePlacesTo order pairs place old → PutsPlace old new part place
    → place < length order → get_or order place 0 ≡ part
    → IsSome (section_of pairs part) → ArePlacesTo order pairs (place + 1) new
places_more order pairs old new part place is was put l here some = record {
  long = put.long ∙ was.long;
  each = λ q x. elim (cases_eq q part) [
    | inl e ↦ (
      (λ v. let same : place ≡ x = same_Some place x (sym (put.here within) ∙ (ap (rise_value new) (sym e) ∙ v)) in
          (omega (arith, same), ap (λ n. get_or order n 0) (sym same) ∙ (here ∙ sym e), subst (λ n. IsSome (section_of pairs n)) (sym e) some)),
      λ t. let same : x ≡ place = is.once x place (omega (arith, t.0, l)) l (t.1 ∙ (e ∙ sym here)) in ap (rise_value new) e ∙ (put.here within ∙ ap Some (sym same)),
    )
    | inr ne ↦ (
      (λ v. let t = (was.each q x).0 (sym (put.others q ne) ∙ v) in (omega (arith, t.0), t.1, t.2)),
      λ t.
          let other : x ≢ place = λ d. ne (sym t.1 ∙ (ap (λ n. get_or order n 0) d ∙ here)) in
          put.others q ne ∙ (was.each q x).1 (omega (arith, t.0, other), t.1, t.2),
    )
  ];
}
  where
    within : part < length old
    within = let w = is.within place l in omega (arith, w, here, was.long)

-- a part that is not matched needs no place
pub places_same : (order : List ℕ) (pairs : Pairs) (old : List (Option ℕ)) (place : ℕ) → ArePlacesTo order pairs place old → (IsSome (section_of pairs (get_or order place 0)) → ⊥)
    → ArePlacesTo order pairs (place + 1) old
places_same order pairs old place was none = record {
  long = was.long;
  each = λ q x. (
    (λ v. let t = (was.each q x).0 v in (omega (arith, t.0), t.1, t.2)),
    λ t. elim (cases_eq x place) [
      | inl e ↦ absurd (none (subst (λ n. IsSome (section_of pairs n)) (sym t.1 ∙ ap (λ n. get_or order n 0) e) t.2))
      | inr ne ↦ (was.each q x).1 (omega (arith, t.0, ne), t.1, t.2)
    ],
  );
}

distinct_from : (xs : List Identifier) → AreDistinct xs → Distinct xs
distinct_from xs once = λ i j d l m e.
    let x = slice_get-get_or xs i d (omega arith) in
    let y = slice_get-get_or xs j d m in
    let same = once i j (get_or xs j d) (x ∙ ap Some e) y in
    omega arith

-- the numbers of the sections that are arranged are an order
pub arranged_order : (h : List Op) (ts : List Identifier) (order : List ℕ) → Lawful h → ((s : Identifier) → Contains (shown catalogue h) s ↔ Contains ts s) → AreDistinct ts
    → IsOrderOf ts (arranged h) order
    → IsOrder order × (length order ≡ length ts)
arranged_order h ts order w there once is =
    let xs : List Identifier = arranged h in
    let apart = arranged_once h w in
    let into : (s : Identifier) → Contains ts s → Contains (arranged h) s = λ s m. shown_arranged h s w ((there s).1 m) in
    let least = within_length xs ts apart (λ s m. (there s).0 (arranged_shown h s m)) in
    let most = within_length ts xs (distinct_from ts once) into in
    let long : length ts ≡ length xs = omega (arith, least, most) in
    (order_is ts xs order once (places_once xs apart) into long is, is.long ∙ sym long)
