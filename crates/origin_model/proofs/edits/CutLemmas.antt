-- Deletes of shown elements: each is Ready in its turn, no order changes, and what is shown loses exactly these elements.
use Rattle.origin_model.proofs.Words.{All-contains, All-weaker, Bool, Contains, Delete, Identifier, IsIn, Lawful, List, None, Op, Option, Place, Ready, Some, [], all_from_contains}
use Rattle.origin_model.proofs.Words.{all_pairs_head, all_pairs_tail, ap, append-nil, arith, catalogue, cond, contains_filter_from, contains_middle, drop, element_of, false}
use Rattle.origin_model.proofs.Words.{filter, holder, id_eq, id_eq-refl, is_hidden, ne-id_eq, not, order, refl, shown, slice_get, subst, suc, sym, take, take-append-drop, true}
use Rattle.origin_model.proofs.Words.{verdict, within, ℕ, ◌++◌, ◌+◌, ◌||◌, ◌∙◌, ◌∷◌, ◌≡◌, ◌≢◌}
use Rattle.std.proofs.lemmas.List.{drop-drop}
use Rattle.origin_model.proofs.operations.ElementLemmas.{one_place}
use Rattle.origin_model.proofs.operations.FoundedLemmas.{shown_can_go}
use Rattle.origin_model.proofs.order.{IsIn-held, filter_no, filter_yes, order-member, order-none, order_total}
use Rattle.origin_model.specs.edits.Edits.{Cut, DropSection, IsEdit, ReadyInTurn, cut_in, deletes_of, history_with, made}
use Rattle.origin_model.proofs.edits.SplitLemmas.{Distinct, is_shown, filter_all, get_split}
use Rattle.std.proofs.lemmas.List.Kept.{AllPairs-filter}
use Rattle.std.proofs.lemmas.Bool.{not-true}

-- all but x
abbrev but : Identifier → Identifier → Bool
but x = λ y. not (id_eq x y)

-- what passes two tests passes one after the other
filter_two : (f g : Identifier → Bool) (xs : List Identifier) → filter (λ y. not (f y || g y)) xs ≡ filter (λ y. not (f y)) (filter (λ y. not (g y)) xs)
filter_two f g [] = refl
filter_two f g (x ∷ xs) =
    let both : List Identifier = filter (λ y. not (f y || g y)) xs in
    let kept : List Identifier = filter (λ y. not (g y)) xs in
    let nf : Identifier → Bool = λ y. not (f y) in
    elim (g x) as (λ b. cond (not (f x || b)) (x ∷ both) both ≡ filter nf (cond (not b) (x ∷ kept) kept)) [
      | true ↦ elim (f x) as (λ a. cond (not (a || true)) (x ∷ both) both ≡ filter nf kept) [ true ↦ filter_two f g xs | false ↦ filter_two f g xs ]
      | false ↦ elim (f x) as (λ a. cond (not (a || false)) (x ∷ both) both ≡ cond (not a) (x ∷ filter nf kept) (filter nf kept))
          [ true ↦ filter_two f g xs | false ↦ ap (λ z. x ∷ z) (filter_two f g xs) ]
    ]

-- a list of distinct members without one of them
filter_out : (a c : List Identifier) (x : Identifier) → Distinct (a ++ x ∷ c) → filter (but x) (a ++ x ∷ c) ≡ a ++ c
filter_out [] c x d =
    filter_no (but x) x c (ap not (id_eq-refl x))
    ∙ filter_all (but x) c (All-weaker (λ y. x ≢ y) (λ y. but x y ≡ true) (λ y n. ap not (ne-id_eq x y n)) c (all_pairs_head (λ y z. y ≢ z) x c d))
filter_out (y ∷ a) c x d =
    let apart : y ≢ x = All-contains (λ z. y ≢ z) (a ++ x ∷ c) x (all_pairs_head (λ y z. y ≢ z) y (a ++ x ∷ c) d) (contains_middle a x c) in
    filter_yes (but x) y (a ++ x ∷ c) (ap not (ne-id_eq x y (λ e. apart (sym e)))) ∙ ap (λ z. y ∷ z) (filter_out a c x (all_pairs_tail (λ y z. y ≢ z) y (a ++ x ∷ c) d))

-- a look-up finds one operation
same_op : (o : Option Op) (a b : Op) → o ≡ Some a → o ≡ Some b → b ≡ a
same_op o a b e f = cc (e, f)

-- what is shown has each element once
shown_distinct : (p : Place) (h : List Op) → Lawful h → Distinct (shown p h)
shown_distinct p h w = AllPairs-filter (λ x y. x ≢ y) (is_shown h) (order p h) (order_total p h w).once

-- a Delete hides its target
shown_without : (q : Place) (x : Identifier) (h : List Op) → shown q (Delete x ∷ h) ≡ filter (but x) (shown q h)
shown_without q x h = ap (filter (is_shown (Delete x ∷ h))) (order-none q (Delete x) h refl) ∙ filter_two (id_eq x) (is_hidden h) (order q h)

-- what Deletes do
record Taken (p : Place) (h ops : List Op) (left : List Identifier) : Type 0 where
  ready : ReadyInTurn h ops
  lawful : Lawful (history_with h ops)
  orders : (q : Place) → order q (history_with h ops) ≡ order q h
  here : shown p (history_with h ops) ≡ left
  elsewhere : (q : Place) → q ≢ p → shown q (history_with h ops) ≡ shown q h

-- another place does not show an element
not_there : (p q : Place) (h : List Op) (x y : Identifier) → Lawful h → q ≢ p → Contains (order p h) x → Contains (shown q h) y → not (id_eq x y) ≡ true
not_there p q h x y w n a b =
    let m : IsIn p h x = order-member p h x w a in
    let k : IsIn q h y = order-member q h y w (contains_filter_from (is_shown h) (order q h) y b).0 in
    ap not (ne-id_eq x y (λ e. n
    (one_place p q m.op x y m.place (subst (λ o. element_of q o ≡ Some y) (same_op (holder h y) m.op k.op (ap (holder h) (sym e) ∙ m.held) k.held) k.place))))

-- Deletes of elements that stand together in what is shown
taking : (xs : List Identifier) (p : Place) (h : List Op) (a b : List Identifier) → Lawful h → shown p h ≡ a ++ (xs ++ b) → Taken p h (deletes_of xs) (a ++ b)
taking [] p h a b w e = record { ready = tt; lawful = w; orders = λ q. refl; here = e; elsewhere = λ q n. refl }
taking (x ∷ xs) p h a b w e =
    let there = contains_filter_from (is_shown h) (order p h) x (subst (λ l. Contains l x) (sym e) (contains_middle a x (xs ++ b))) in
    let ready : verdict h (Delete x) ≡ Ready = shown_can_go h x (IsIn-held p h x (order-member p h x w there.0)) (not-true (is_hidden h x) there.1) in
    let now : shown p (Delete x ∷ h) ≡ a ++ (xs ++ b) =
    shown_without p x h ∙ ap (filter (but x)) e ∙ filter_out a (xs ++ b) x (subst Distinct e (shown_distinct p h w)) in
    let rest = taking xs p (Delete x ∷ h) a b (ready, w) now in
    record {
      ready = (ready, rest.ready);
      lawful = rest.lawful;
      orders = λ q. rest.orders q ∙ order-none q (Delete x) h refl;
      here = rest.here;
      elsewhere = λ q n. rest.elsewhere q n ∙ shown_without q x h
          ∙ filter_all (but x) (shown q h) (all_from_contains (λ y. not (id_eq x y) ≡ true) (shown q h) (λ y m. not_there p q h x y w n there.0 m));
    }

-- a cut in a section that is there
cut_in_takes : (h : List Op) (s : Identifier) (at n : ℕ) → Lawful h
    → IsEdit (within s) h (cut_in h s at n) at n [] × ((p : Place) → order p (history_with h (cut_in h s at n)) ≡ order p h)
cut_in_takes h s at n w =
    let p : Place = within s in
    let xs : List Identifier = shown p h in
    let t = taking (take n (drop at xs)) p h (take at xs) (drop n (drop at xs)) w
    (sym (take-append-drop at xs) ∙ ap (λ z. take at xs ++ z) (sym (take-append-drop n (drop at xs)))) in (
      record {
        ready = t.ready;
        lawful = t.lawful;
        here = t.here ∙ (λ i. sym (append-nil (take at xs)) i ++ drop-drop n at xs i);
        elsewhere = t.elsewhere;
      },
      t.orders,
    )

-- a cut takes what it was asked for
pub cut_takes : (r : ℕ) (h w : List Op) (k at n : ℕ) (s : Identifier) → Lawful h → slice_get (shown catalogue h) k ≡ Some s
    → let ops = made r h w (Cut k at n) in
    IsEdit (within s) h ops at n [] × ((p : Place) → order p (history_with h ops) ≡ order p h)
cut_takes r h w k at n s v e =
    let ops : made r h w (Cut k at n) ≡ cut_in h s at n = ap (λ o. elim o [ None ↦ [] | Some s ↦ cut_in h s at n ]) e in
    subst (λ ops. IsEdit (within s) h ops at n [] × ((p : Place) → order p (history_with h ops) ≡ order p h)) (sym ops) (cut_in_takes h s at n v)

-- a section is dropped
pub drop_takes : (r : ℕ) (h w : List Op) (k : ℕ) (s : Identifier) → Lawful h → slice_get (shown catalogue h) k ≡ Some s
    → let ops = made r h w (DropSection k) in
    IsEdit catalogue h ops k 1 [] × ((p : Place) → order p (history_with h ops) ≡ order p h)
drop_takes r h w k s v e =
    let xs : List Identifier = shown catalogue h in
    let t = taking (s ∷ []) catalogue h (take k xs) (drop (suc k) xs) v (get_split xs k s e) in
    let more : suc k ≡ k + 1 = omega arith in
    let ops : made r h w (DropSection k) ≡ Delete s ∷ [] = ap (λ o. elim o [ None ↦ [] | Some s ↦ Delete s ∷ [] ]) e in
    subst (λ ops. IsEdit catalogue h ops k 1 [] × ((p : Place) → order p (history_with h ops) ≡ order p h)) (sym ops) (
      record {
        ready = t.ready;
        lawful = t.lawful;
        here = t.here ∙ (λ i. sym (append-nil (take k xs)) i ++ drop (more i) xs);
        elsewhere = t.elsewhere;
      },
      t.orders,
    )
