-- Why each of the four sentences is there: without it, a second order meets the others in a history of two or four
-- letters, which honest editors make.
use Rattle.std.proofs.Common.{List, [], ap, arith, false, inl, inr, not, refl, subst, sym, true, ◌∙◌, ◌∷◌, ◌≡◌, ◌≢◌, ◌⊎◌}
use Rattle.std.specs.Prelude.{None, Option, Some, codes}
use Rattle.std.specs.List.{Contains}
use Rattle.std.proofs.lemmas.Bool.{false≢true, true≢false}
use Rattle.std.proofs.lemmas.Bool.Decides.{nat_tests}
use Rattle.fugue_ids.specs.Identifiers.{Identifier, id_eq, id_lt}
use Rattle.fugue_ids.specs.declared.op.Op.{Op}
use Rattle.fugue_ids.specs.declared.op.Op.TheVariants.{Section, Text}
use Rattle.fugue_ids.proofs.IdentifierLemmas.{ne-id_eq, not_some}
use Rattle.fugue_ids.proofs.ListLemmas.{contains_cases, contains_none}
use Rattle.origin_model.specs.declared.operations.Place.{Place}
use Rattle.origin_model.specs.declared.operations.Place.TheVariants.{Section as within}
use Rattle.origin_model.specs.operations.History.{holder}
use Rattle.origin_model.specs.operations.Verdict.{Lawful}
unfoldable use Rattle.origin_model.specs.operations.Verdict.{verdict}
use Rattle.origin_model.specs.order.Laws.{IsIn}
use Rattle.origin_model.specs.order.Order.{left_at, right_at}
unfoldable use Rattle.origin_model.specs.order.Order.{before, chain, order}
use Rattle.origin_model.specs.edits.Edits.{id_at}
use Rattle.origin_model.specs.edits.Passages.{IsTie, Relation}
use Rattle.origin_model.proofs.SharedLemmas.{order_total}
use Rattle.only_order.specs.TextOrder.{ClosesBlock, HangsOn, HasLaterRight, HeadsBlock, OriginIsLater, IsLeft, IsRightSibling, IsStrictOrder, LeadsUp, LeansOn}
use Rattle.fugue_ids.proofs.OrderLemmas.{id_irrefl, id_trans}

-- identifiers in their order, and the other way round
abbrev rising : Relation
rising x y = id_lt x y

abbrev falling : Relation
falling x y = id_lt y x

lt_one : (a b : Identifier) → id_eq a b ≡ false → id_lt a b ≡ not (id_lt b a)
lt_one a b h = grind (arith, nat_tests)

lt_loop : (a b : Identifier) → id_lt a b ≡ true → id_lt b a ≡ true → ⊥
lt_loop a b h k = true≢false (sym (id_trans a b a h k) ∙ id_irrefl a)

rising_strict : (p : Place) (h : List Op) → IsStrictOrder p h rising
rising_strict p h = record {
  irreflexive = λ x _. id_irrefl x;
  one_first = λ x y _ _ n. lt_one x y (ne-id_eq x y n);
  transitive = λ x y z _ _ _. id_trans x y z;
}

falling_strict : (p : Place) (h : List Op) → IsStrictOrder p h falling
falling_strict p h = record {
  irreflexive = λ x _. id_irrefl x;
  one_first = λ x y _ _ n. lt_one y x (ne-id_eq y x (λ e. n (sym e)));
  transitive = λ x y z _ _ _ k j. id_trans z y x j k;
}

-- letters of one section
abbrev section : Identifier
section = id_at 9 0

abbrev p : Place
p = within section

abbrev begun : List Op
begun = Section section None None (codes "T") ∷ []

abbrev letter : Identifier → (left right : Option Identifier) → Op
letter x left right = Text x section left right 97

abbrev a : Identifier
a = id_at 1 0

abbrev b : Identifier
b = id_at 2 0

abbrev c : Identifier
c = id_at 3 0

-- the members of a list of two
of_two : (x y e : Identifier) → Contains (x ∷ y ∷ []) e → (x ≡ e) ⊎ (y ≡ e)
of_two x y e m =
    elim (contains_cases x (y ∷ []) e m) [
      | inl d ↦ inl d
      | inr k ↦ elim (contains_cases y [] e k) [ inl d ↦ inr d | inr j ↦ absurd (contains_none e j) ]
    ]

-- what holds of both holds of each element
each_of : (h : List Op) (x y : Identifier) (P : Identifier → Type 0) → Lawful h → order p h ≡ x ∷ y ∷ [] → P x → P y → (e : Identifier) → IsIn p h e → P e
each_of h x y P w o k j e m =
    elim (of_two x y e (subst (λ l. Contains l e) o (((order_total p h w).lists e).0 m))) [ inl d ↦ subst P d k | inr d ↦ subst P d j ]

-- there is no way up from an element with nothing above it
no_way : (IsAbove : Identifier → Identifier → Type 0) (x e : Identifier) (way : List Identifier) → ((y : Identifier) → IsAbove y e → ⊥) → LeadsUp IsAbove x e way → e ≡ x
no_way IsAbove x e [] f g = g
no_way IsAbove x e (y ∷ way) f g = absurd (f y g.0)

none_some : (o : Option Identifier) (y : Identifier) → o ≡ None → o ≡ Some y → ⊥
none_some o y e f = not_some y (sym f ∙ e)

module _ (h : List Op) (R : Relation) (s : IsStrictOrder p h R) where
  -- where no element has a left origin, the first sentence says nothing
  apart_together : ((e : Identifier) → IsIn p h e → left_at h e ≡ None) → (x : Identifier) → IsIn p h x → HeadsBlock p h R x
  apart_together f x m =
      let alone : (e : Identifier) → IsIn p h e → HangsOn h x e → e ≡ x = λ e k q. no_way (IsLeft h) x e q.0 (λ y j. none_some (left_at h e) y (f e k) j) q.1 in
      record {
        first = λ e k d q. absurd (d (alone e k q));
        no_gap = λ z e mz me q j i.
            absurd (true≢false (sym (s.transitive x z x m mz m j (subst (λ y. R z y ≡ true) (alone e me q) i)) ∙ s.irreflexive x m));
      }

  -- where none has a right sibling, the second says nothing
  apart_before : ((e : Identifier) → IsIn p h e → (q : Identifier) → IsRightSibling h q e → ⊥) → (r : Identifier) → IsIn p h r → ClosesBlock p h R r
  apart_before f r m =
      let none : (e : Identifier) → LeansOn p h r e → ⊥ = λ e g. g.other (no_way (IsRightSibling h) r g.top g.put.0 (f g.top g.member) g.put.1) in
      record { last = λ e k g. absurd (none e g); no_gap = λ e z me mz g j i. absurd (none e g) }

-- the relation agrees with the order
abbrev Agrees : List Op → Relation → Type 0
Agrees h R = (x y : Identifier) → IsIn p h x → IsIn p h y → R x y ≡ before p h x y

-- each sentence, for a history and a relation
abbrev Strict : List Op → Relation → Type 0
Strict h R = IsStrictOrder p h R

abbrev Together : List Op → Relation → Type 0
Together h R = (x : Identifier) → IsIn p h x → HeadsBlock p h R x

abbrev BeforeRight : List Op → Relation → Type 0
BeforeRight h R = (r : Identifier) → IsIn p h r → ClosesBlock p h R r

abbrev ByIdentifier : List Op → Relation → Type 0
ByIdentifier h R = (x y : Identifier) → IsTie p h x y → R x y ≡ id_lt x y

abbrev LaterFirst : List Op → Relation → Type 0
LaterFirst h R = (x y : Identifier) → HasLaterRight p h R x y → R x y ≡ true

-- an element, by its operation
abbrev is_in : (h : List Op) (x : Identifier) (l r : Option Identifier) → holder h x ≡ Some (letter x l r) → IsIn p h x
is_in h x l r e = record { op = letter x l r; held = e; place = refl }

-- b was put after a: without the first sentence it may stand before it
needs_together : ((h : List Op) (R : Relation) → Lawful h → Strict h R → BeforeRight h R → ByIdentifier h R → LaterFirst h R → Agrees h R) → ⊥
unfolding before order chain verdict
needs_together law =
    let h : List Op = letter b (Some a) None ∷ letter a None None ∷ begun in
    let w : Lawful h = (refl, (refl, (refl, tt))) in
    let right : (e : Identifier) → IsIn p h e → right_at h e ≡ None = each_of h a b (λ e. right_at h e ≡ None) w refl refl refl in
    let lefts_differ : (x y : Identifier) → IsIn p h x → IsIn p h y → left_at h x ≡ left_at h y → x ≡ y = λ x y m n.
    each_of h a b (λ x. left_at h x ≡ left_at h y → x ≡ y) w refl
    (each_of h a b (λ y. left_at h a ≡ left_at h y → a ≡ y) w refl (λ e. refl) (λ e. cc e) y n)
    (each_of h a b (λ y. left_at h b ≡ left_at h y → b ≡ y) w refl (λ e. cc e) (λ e. refl) y n) x m in
    false≢true
    (law h falling w (falling_strict p h)
    (apart_before h falling (falling_strict p h) (λ e m q t. none_some (right_at h e) q (right e m) t.0))
    (λ x y t. absurd (t.apart (lefts_differ x y t.first t.second t.same_left)))
    (λ x y t. absurd (subst (λ o. OriginIsLater falling o None) (right x t.first) (subst (λ o. OriginIsLater falling (right_at h x) o) (right y t.second) t.later)))
    a b (is_in h a None None refl) (is_in h b (Some a) None refl))

-- b was put before a: without the second sentence it may stand after it
needs_before_right : ((h : List Op) (R : Relation) → Lawful h → Strict h R → Together h R → ByIdentifier h R → LaterFirst h R → Agrees h R) → ⊥
unfolding before order chain verdict
needs_before_right law =
    let h : List Op = letter b None (Some a) ∷ letter a None None ∷ begun in
    let w : Lawful h = (refl, (refl, (refl, tt))) in
    let Later : Identifier → Identifier → Type 0 = λ x y. ((q : Identifier) → IsRightSibling h q y → ⊥) → OriginIsLater rising (right_at h x) (right_at h y) → rising x y ≡ true in
    let later : (x y : Identifier) → IsIn p h x → IsIn p h y → Later x y = λ x y m n.
    each_of h b a (λ x. Later x y) w refl
    (each_of h b a (Later b) w refl (λ f k. absurd (f a (refl, refl))) (λ f k. absurd k) y n)
    (each_of h b a (Later a) w refl (λ f k. absurd (f a (refl, refl))) (λ f k. absurd k) y n) x m in
    true≢false
    (law h rising w (rising_strict p h)
    (apart_together h rising (rising_strict p h) (each_of h b a (λ e. left_at h e ≡ None) w refl refl refl))
    (λ x y t. refl)
    (λ x y t. later x y t.first t.second t.alone_y t.later)
    a b (is_in h a None None refl) (is_in h b None (Some a) refl))

-- a and b know nothing of each other: without the third sentence either may stand first
needs_by_identifier : ((h : List Op) (R : Relation) → Lawful h → Strict h R → Together h R → BeforeRight h R → LaterFirst h R → Agrees h R) → ⊥
unfolding before order chain verdict
needs_by_identifier law =
    let h : List Op = letter b None None ∷ letter a None None ∷ begun in
    let w : Lawful h = (refl, (refl, (refl, tt))) in
    let right : (e : Identifier) → IsIn p h e → right_at h e ≡ None = each_of h a b (λ e. right_at h e ≡ None) w refl refl refl in
    false≢true
    (law h falling w (falling_strict p h)
    (apart_together h falling (falling_strict p h) (each_of h a b (λ e. left_at h e ≡ None) w refl refl refl))
    (apart_before h falling (falling_strict p h) (λ e m q t. none_some (right_at h e) q (right e m) t.0))
    (λ x y t. absurd (subst (λ o. OriginIsLater falling o None) (right x t.first) (subst (λ o. OriginIsLater falling (right_at h x) o) (right y t.second) t.later)))
    a b (is_in h a None None refl) (is_in h b None None refl))

some_same : (a b : Identifier) → Some a ≡ Some b → a ≡ b
some_same a b e = cc e

-- what holds of four holds of each element
each_of_four : (h : List Op) (x y z v : Identifier) (P : Identifier → Type 0) → Lawful h → order p h ≡ x ∷ y ∷ z ∷ v ∷ [] → P x → P y → P z → P v → (e : Identifier) → IsIn p h e
    → P e
each_of_four h x y z v P w o k j i l e m =
    elim (contains_cases x (y ∷ z ∷ v ∷ []) e (subst (λ l. Contains l e) o (((order_total p h w).lists e).0 m))) [
      | inl d ↦ subst P d k
      | inr n ↦ elim (contains_cases y (z ∷ v ∷ []) e n) [
        | inl d ↦ subst P d j
        | inr t ↦ elim (of_two z v e t) [ inl d ↦ subst P d i | inr d ↦ subst P d l ]
      ]
    ]

abbrev d : Identifier
d = id_at 4 0

-- a and d know nothing of each other; b was put between them, and c after a where d was not yet: without the fourth
-- sentence b may stand before c
needs_later_right_first : ((h : List Op) (R : Relation) → Lawful h → Strict h R → Together h R → BeforeRight h R → ByIdentifier h R → Agrees h R) → ⊥
unfolding before order chain verdict
needs_later_right_first law =
    let h : List Op = letter c (Some a) None ∷ letter b (Some a) (Some d) ∷ letter d None None ∷ letter a None None ∷ begun in
    let w : Lawful h = (refl, (refl, (refl, (refl, (refl, tt))))) in
    let each : (P : Identifier → Type 0) → P a → P c → P b → P d → (e : Identifier) → IsIn p h e → P e = λ P. each_of_four h a c b d P w refl in
    let on_a : (e y : Identifier) → IsIn p h e → IsLeft h y e → (a ≡ y) × ((e ≡ b) ⊎ (e ≡ c)) = λ e y m.
    each (λ e. IsLeft h y e → (a ≡ y) × ((e ≡ b) ⊎ (e ≡ c))) (λ k. absurd (not_some y (sym k))) (λ k. (some_same a y k, inr refl))
    (λ k. (some_same a y k, inl refl)) (λ k. absurd (not_some y (sym k))) e m in
    let hanging : (x e : Identifier) (way : List Identifier) → IsIn p h e → LeadsUp (IsLeft h) x e way → (x ≡ e) ⊎ ((x ≡ a) × ((e ≡ b) ⊎ (e ≡ c))) = λ x e way m g.
    (elim way as (λ z. LeadsUp (IsLeft h) x e z → (x ≡ e) ⊎ ((x ≡ a) × ((e ≡ b) ⊎ (e ≡ c)))) [
      | [] ↦ (λ k. inl (sym k))
      | y ∷ more ↦ (λ k. let t = on_a e y m k.0 in inr (sym (no_way (IsLeft h) x a more (λ z j. not_some z (sym j)) (subst (λ v. LeadsUp (IsLeft h) x v more) (sym t.0) k.1)), t.1))
    ]) g in
    let behind : (e : Identifier) → IsIn p h e → e ≢ a → rising a e ≡ true =
    each (λ e. e ≢ a → rising a e ≡ true) (λ n. absurd (n refl)) (λ n. refl) (λ n. refl) (λ n. refl) in
    let Between : Identifier → Identifier → Type 0 = λ e z. rising a z ≡ true → rising z e ≡ true → HangsOn h a z in
    let between : (e z : Identifier) → (e ≡ b) ⊎ (e ≡ c) → IsIn p h z → Between e z = λ e z s m.
    elim s [
      | inl i ↦ subst (λ v. Between v z) (sym i)
          (each (Between b) (λ k j. absurd (false≢true k)) (λ k j. (a ∷ [], (refl, refl))) (λ k j. (a ∷ [], (refl, refl))) (λ k j. absurd (false≢true j)) z m)
      | inr i ↦ subst (λ v. Between v z) (sym i)
          (each (Between c) (λ k j. absurd (false≢true k)) (λ k j. (a ∷ [], (refl, refl))) (λ k j. (a ∷ [], (refl, refl))) (λ k j. absurd (false≢true j)) z m)
    ] in
    false≢true
    (law h rising w (rising_strict p h)
    (λ x m. record {
      first = λ e n t q. elim (hanging x e q.0 n q.1) [ inl i ↦ absurd (t (sym i)) | inr i ↦ subst (λ y. rising y e ≡ true) (sym i.0) (behind e n (λ j. t (j ∙ sym i.0))) ];
      no_gap = λ z e k n q r t. elim (hanging x e q.0 n q.1) [
        | inl i ↦ absurd (lt_loop x z r (subst (λ y. rising z y ≡ true) (sym i) t))
        | inr i ↦ subst (λ y. HangsOn h y z) (sym i.0) (between e z i.1 k (subst (λ y. rising y z ≡ true) i.0 r) t)
      ];
    })
    (apart_before h rising (rising_strict p h)
    (each (λ e. (q : Identifier) → IsRightSibling h q e → ⊥) (λ q t. not_some q (sym t.0)) (λ q t. not_some q (sym t.0))
    (λ q t. not_some a (sym (ap (left_at h) (some_same d q t.0) ∙ t.1))) (λ q t. not_some q (sym t.0))))
    (λ x y t. refl)
    c b (is_in h c (Some a) None refl) (is_in h b (Some a) (Some d) refl))
