-- The two numbers of a span cut the visible elements between the anchors out of those that are shown.
use Rattle.margin_notes.proofs.Words.{All-weaker, AllPairs, Bool, Identifier, IsIn, Lawful, List, Op, Place, ap, arith, before, cases_Bool, count_by, drop, false, filter, id_eq}
use Rattle.margin_notes.proofs.Words.{inl, inr, is_hidden, length, not, order, refl, shown, subst, sym, take, true, within, ◌&&◌, ◌+◌, ◌-◌, ◌||◌, ◌∙◌, ◌≡◌, ◌≤◌, ℕ}
use Rattle.std.proofs.lemmas.Bool.{or_cases, or_right}
use Rattle.std.proofs.lemmas.List.{drop-take}
use Rattle.std.proofs.lemmas.List.Elements.{All-filter}
use Rattle.std.proofs.lemmas.List.Kept.{AllPairs-filter}
use Rattle.std.proofs.lemmas.List.Sums.{count_by-le-length, length-filter}
use Rattle.fugue_ids.proofs.IdentifierLemmas.{id_eq-false, id_eq-true}
use Rattle.fugue_ids.proofs.ListLemmas.{all_pairs_weaker, filter-both}
use Rattle.origin_model.specs.order.Laws.{IsTotal}
use Rattle.origin_model.proofs.SharedLemmas.{order-in, order_total}
use Rattle.margin_notes.specs.Comments.{is_text_of}
use Rattle.margin_notes.specs.Laws.{SpanIsPassage}
use Rattle.margin_notes.specs.Margins.{passage, stands_between}
use Rattle.margin_notes.proofs.FilterLemmas.{IsCut, back_of_cut, filter-agree, filter-swap, front_of_cut}
use Rattle.margin_notes.proofs.PassageLemmas.{both_parts, text_in}
use Rattle.std.proofs.Math.Bool.{and_comm}

module _ (p : Place) (h : List Op) (w : Lawful h) (a b : Identifier) (in_a : IsIn p h a) (in_order : (id_eq a b || before p h a b) ≡ true) where
  abbrev total : IsTotal p h
  total = order_total p h w

  abbrev visible : Identifier → Bool
  visible x = not (is_hidden h x)

  -- x stands before a; x stands before b, or is b
  abbrev is_before : Identifier → Bool
  is_before x = before p h x a

  abbrev is_up_to : Identifier → Bool
  is_up_to x = id_eq x b || before p h x b

  -- what stands before one that is before b or b itself is before b
  up_to_closed : (x y : Identifier) → before p h x y ≡ true → is_up_to y ≡ true → is_up_to x ≡ true
  up_to_closed x y e k =
      or_right (id_eq x b) (before p h x b) (elim (or_cases (id_eq y b) (before p h y b) k) [
        | inl t ↦ subst (λ z. before p h x z ≡ true) (id_eq-true y b t) e
        | inr t ↦ total.transitive x y b e t
      ])

  -- what stands before a stands before b
  before_up_to : (x : Identifier) → is_before x ≡ true → is_up_to x ≡ true
  before_up_to x e = up_to_closed x a e in_order

  -- the shown elements are in order
  shown_ordered : AllPairs (λ x y. before p h x y ≡ true) (shown p h)
  shown_ordered = AllPairs-filter (λ x y. before p h x y ≡ true) visible (order p h) total.agrees

  up_to_cut : IsCut is_up_to (shown p h)
  up_to_cut = all_pairs_weaker (λ x y. before p h x y ≡ true) (λ x y. is_up_to y ≡ true → is_up_to x ≡ true) up_to_closed (shown p h) shown_ordered

  -- those up to b
  abbrev upper : List Identifier
  upper = filter is_up_to (shown p h)

  before_cut : IsCut is_before upper
  before_cut =
      all_pairs_weaker (λ x y. before p h x y ≡ true) (λ x y. is_before y ≡ true → is_before x ≡ true) (λ x y e k. total.transitive x y a e k) upper
      (AllPairs-filter (λ x y. before p h x y ≡ true) is_up_to (shown p h) shown_ordered)

  -- those before a are among them
  and_right : (c d : Bool) → (c ≡ true → d ≡ true) → (d && c) ≡ c
  and_right true d f = ap (λ t. t && true) (f refl)
  and_right false true f = refl
  and_right false false f = refl

  lower : filter is_before upper ≡ filter is_before (shown p h)
  lower = filter-both is_up_to is_before (shown p h) ∙ (λ i. filter (λ x. and_right (is_before x) (is_up_to x) (before_up_to x) i) (shown p h))

  -- one that is a or after it is one that is not before it
  not_before : (x : Identifier) → IsIn p h x → (id_eq a x || before p h a x) ≡ not (is_before x)
  not_before x m =
      elim (cases_Bool (id_eq a x)) [
        | inl t ↦ ap (λ c. c || before p h a x) t ∙ sym (ap not (subst (λ z. before p h z a ≡ false) (id_eq-true a x t) (total.irreflexive a)))
        | inr t ↦ ap (λ c. c || before p h a x) t ∙ total.one_first a x in_a m (id_eq-false a x t)
      ]

  -- the shown elements of the passage are those up to b that are not before a
  middle : filter (λ x. not (is_before x)) upper ≡ filter visible (passage p h a b)
  middle =
      filter-both is_up_to (λ x. not (is_before x)) (shown p h)
      ∙ filter-agree (λ x. is_up_to x && not (is_before x)) (stands_between p h a b) (shown p h)
      (All-weaker (IsIn p h) (λ x. (is_up_to x && not (is_before x)) ≡ stands_between p h a b x)
      (λ x m. and_comm (is_up_to x) (not (is_before x)) ∙ sym (ap (λ c. c && is_up_to x) (not_before x m))) (shown p h)
      (All-filter visible (IsIn p h) (order p h) (order-in p h w)))
      ∙ filter-swap (stands_between p h a b) visible (order p h)

  abbrev from : ℕ
  from = count_by is_before (shown p h)

  abbrev to : ℕ
  to = count_by is_up_to (shown p h)

  lower_count : length (filter is_before upper) ≡ from
  lower_count = ap length lower ∙ length-filter is_before (shown p h)

  upper_front : take to (shown p h) ≡ upper
  upper_front = sym (front_of_cut is_up_to (shown p h) up_to_cut ∙ ap (λ n. take n (shown p h)) (length-filter is_up_to (shown p h)))

  from_to : from ≤ to
  from_to = omega (arith, lower_count, length-filter is_before upper, length-filter is_up_to (shown p h), count_by-le-length is_before upper)

  pub cut_out : take (to - from) (drop from (shown p h)) ≡ filter visible (passage p h a b)
  cut_out =
      sym (drop-take from (to - from) (shown p h))
      ∙ ap (λ n. drop from (take n (shown p h))) (let e : from + (to - from) ≡ to = omega (arith, from_to) in e)
      ∙ ap (drop from) upper_front
      ∙ ap (λ n. drop n upper) (sym lower_count)
      ∙ sym (back_of_cut is_before upper before_cut)
      ∙ middle

pub span_is_passage : SpanIsPassage
span_is_passage h s c w e =
    let anchors : Bool = is_text_of h s c.first && is_text_of h s c.last in
    let k = both_parts anchors (id_eq c.first c.last || before (within s) h c.first c.last) e in
    let l = both_parts (is_text_of h s c.first) (is_text_of h s c.last) k.0 in
    cut_out (within s) h w c.first c.last (text_in s h c.first l.0) k.1
