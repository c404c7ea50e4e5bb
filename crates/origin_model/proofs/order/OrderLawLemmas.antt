-- The laws of the order: it is total, later operations keep it, and it is fixed by the set of operations alone.
use Rattle.origin_model.proofs.Words.{All-contains, Bool, Delete, Note, Identifier, IsIn, IsPartOf, Lawful, List, None, Op, Option, Place, SameOps, Section, Some, Text, [], ap}
use Rattle.origin_model.proofs.Words.{before, before_in, catalogue, codes, deletes, false, filter, flat_map, has_op, holder, is_hidden, manuscript, not, older_of, op_eq, order}
use Rattle.origin_model.proofs.Words.{refl, scalar_of, sym, title_of, true, true≢false, within, ℕ, ◌++◌, ◌||◌, ◌∙◌, ◌∷◌, ◌≡◌, ◌≢◌}
use Rattle.std.specs.Str.{encode_utf8_all}
use Rattle.origin_model.specs.order.Laws.{KeepsOrder, LaterOpsKeepOrder, OrderBySet, OrderTotal, PartsKeepOrder}
use Rattle.origin_model.proofs.operations.LookupLemmas.{has-holder, holder-has, holder_owns}
use Rattle.origin_model.proofs.order.StrictOrderLemmas.{before_in-irrefl, before_in-total, before_in-trans}
use Rattle.origin_model.proofs.order.OrderLemmas.{IsIn-held, order-has, order-in, order-ordered}
use Rattle.origin_model.proofs.order.PartLemmas.{Lawful-append, Within, Within-append, before-within, order-same, order-within}
use Rattle.fugue_ids.proofs.ListLemmas.{all_pairs_weaker}

-- a lawful history holds what a part of it holds
pub Within-part : (a b : List Op) → Lawful b → IsPartOf a b → Within a b
Within-part a b w f i op e = has-holder b i op w (f op (holder-has a i op e)) (holder_owns a i op e)

-- lists with the same operations are parts of each other
pub same-part : (a b : List Op) → SameOps a b → IsPartOf a b
same-part a b s op e = sym (s op) ∙ e

-- options that are present alike are equal
same_option : (o q : Option Op) → ((op : Op) → o ≡ Some op → q ≡ Some op) → ((op : Op) → q ≡ Some op → o ≡ Some op) → o ≡ q
same_option None None f g = refl
same_option None (Some op) f g = g op refl
same_option (Some op) q f g = sym (f op refl)

-- histories within each other find the same
holder-same : (a b : List Op) → Within a b → Within b a → (i : Identifier) → holder a i ≡ holder b i
holder-same a b f g i = same_option (holder a i) (holder b i) (f i) (g i)

-- what hides x is its Delete
deletes-eq : (x : Identifier) (op : Op) → deletes x op ≡ op_eq op (Delete x)
deletes-eq x (Section i l r t) = refl
deletes-eq x (Text i s l r c) = refl
deletes-eq x (Delete i) = refl
deletes-eq x (Note i ns c b) = refl

-- an element is hidden where its Delete is in the history
pub hidden-has : (h : List Op) (x : Identifier) → is_hidden h x ≡ has_op h (Delete x)
hidden-has [] x = refl
hidden-has (op ∷ h) x = λ i. deletes-eq x op i || hidden-has h x i

-- what is printed, by what is found, what is hidden, and the orders
abbrev printed_from : (Identifier → Option Op) → (Identifier → Bool) → (Place → List Identifier) → List ℕ
printed_from hold hid ord =
    flat_map (λ s. codes "# " ++ encode_utf8_all (title_of (hold s)) ++ 10 ∷ encode_utf8_all (flat_map (λ x. scalar_of (hold x)) (filter (λ x. not (hid x)) (ord (within s))))
    ++ 10 ∷ [])
    (filter (λ x. not (hid x)) (ord catalogue))

-- the manuscript, by these
manuscript-from : (h : List Op) → manuscript h ≡ printed_from (holder h) (is_hidden h) (λ p. order p h)
unfolding manuscript
manuscript-from h = refl

-- two lawful histories with the same operations have one order, show the same and print the same
pub order_by_set : OrderBySet
order_by_set a b v w s =
    let f : Within a b = Within-part a b w (same-part a b s) in
    let g : Within b a = Within-part b a v (same-part b a (λ op. sym (s op))) in
    let ord : (p : Place) → order p a ≡ order p b = λ p. order-same p a b v w f g in
    let hid : (x : Identifier) → is_hidden a x ≡ is_hidden b x = λ x. hidden-has a x ∙ s (Delete x) ∙ sym (hidden-has b x) in
    let hold : (i : Identifier) → holder a i ≡ holder b i = holder-same a b f g in
    record {
      same_order = ord;
      same_shown = λ p. λ i. filter (λ x. not (hid x i)) (ord p i);
      same_manuscript = manuscript-from a ∙ (λ i. printed_from (λ x. hold x i) (λ x. hid x i) (λ p. ord p i)) ∙ sym (manuscript-from b);
    }

-- a history within another keeps its order
keeps_order : (p : Place) (a b : List Op) → Lawful a → Lawful b → Within a b → KeepsOrder p a b
unfolding before
keeps_order p a b v w f = record { same_before = before-within p a b v w f; same_order = order-within p a b v w f }

-- later operations keep the order of the older elements
pub later_ops_keep_order : LaterOpsKeepOrder
later_ops_keep_order p new h w = keeps_order p h (new ++ h) (Lawful-append new h w) w (Within-append new h w)

-- so does any lawful part of a lawful history
pub parts_keep_order : PartsKeepOrder
parts_keep_order p part whole v w f = keeps_order p part whole v w (Within-part part whole w f)

-- exactly one of two holds where one does and not both
exactly_one : (a b : Bool) → (a ≡ false → b ≡ true) → (a ≡ true → b ≡ true → ⊥) → a ≡ not b
exactly_one true true f g = absurd (g refl refl)
exactly_one true false f g = refl
exactly_one false true f g = refl
exactly_one false false f g = f refl

-- the elements of a place are in a total order, which `order` lists
pub order_total : OrderTotal
unfolding before
order_total p h w =
    let o : List Identifier = order p (older_of h) in
    record {
      irreflexive = before_in-irrefl o h;
      one_first = λ x y m n d. exactly_one (before_in o h x y) (before_in o h y x) (before_in-total o h x y (IsIn-held p h x m) (IsIn-held p h y n) d)
          (λ k j. true≢false (sym (before_in-trans o h x y x k j) ∙ before_in-irrefl o h x));
      transitive = before_in-trans o h;
      lists = λ x. (order-has p h x, λ m. All-contains (IsIn p h) (order p h) x (order-in p h w) m);
      once = all_pairs_weaker (λ x y. before_in o h x y ≡ true) (λ x y. x ≢ y) (λ x y k e. true≢false (sym k ∙ ap (before_in o h x) (sym e) ∙ before_in-irrefl o h x)) (order p h)
          (order-ordered p h w);
      agrees = order-ordered p h w;
    }
