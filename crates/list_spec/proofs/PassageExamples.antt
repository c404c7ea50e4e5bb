-- Why the premises of the laws on concurrent insertions are there: each law is stated without one of them, and a small history breaks it.
use Rattle.std.proofs.Common.{List, [], refl, inl, ◌∷◌, ◌≡◌, ◌≢◌}
use Rattle.std.specs.Prelude.{All, None, Option, Some, codes}
use Rattle.std.proofs.lemmas.Bool.{false≢true, true≢false}
use Rattle.std.proofs.lemmas.List.Elements.{All-head, All-tail}
use Rattle.fugue_ids.proofs.IdentifierLemmas.{id_eq-false}
use Rattle.fugue_ids.specs.Identifiers.{Identifier, id_lt}
use Rattle.fugue_ids.specs.declared.op.Op.{Op}
use Rattle.fugue_ids.specs.declared.op.Op.TheVariants.{Section, Text}
use Rattle.origin_model.specs.declared.operations.Place.{Place}
use Rattle.origin_model.specs.declared.operations.Place.TheVariants.{Section as within}
use Rattle.origin_model.specs.operations.History.{holder}
use Rattle.origin_model.specs.operations.Verdict.{Lawful, verdict}
use Rattle.origin_model.specs.order.Laws.{IsIn}
use Rattle.origin_model.specs.order.Order.{before, chain, left_at, order, right_at}
use Rattle.origin_model.specs.edits.Edits.{id_at}
use Rattle.origin_model.specs.edits.Passages.{IsPassage, IsTie, StandsBefore}

-- letters of one section
abbrev section : Identifier
section = id_at 9 0

abbrev begun : List Op
begun = Section section None None (codes "T") ∷ []

abbrev letter : Identifier → (left right : Option Identifier) → Op
letter x left right = Text x section left right 97

abbrev a : Identifier
a = id_at 1 0

abbrev b : Identifier
b = id_at 2 0

abbrev c : Identifier
c = id_at 3 0

-- a letter that is held is an element of the section
is_in : (h : List Op) (x : Identifier) (l r : Option Identifier) → holder h x ≡ Some (letter x l r) → IsIn (within section) h x
is_in h x l r e = record { op = letter x l r; held = e; place = refl }

-- a names b before b came; c stands after b, before a
abbrev early : List Op
early = letter c (Some b) (Some a) ∷ letter b None None ∷ letter a (Some b) None ∷ begun

-- in a history that is not lawful, what hangs on the left of a stands after it
before_right_lawful : ((p : Place) (h : List Op) (r : Identifier) → IsIn p h r → StandsBefore p h r) → ⊥
unfolding before order chain
before_right_lawful law =
    false≢true ((law (within section) early a (is_in early a (Some b) None refl)).last c (is_in early c (Some b) (Some a) refl)
    (record {
      top = c;
      member = is_in early c (Some b) (Some a) refl;
      other = id_eq-false c a refl;
      same_left = refl;
      through = (c ∷ [], refl);
      below = ([], refl);
    }))

-- b is no element, so its chains are empty, and what has no left origin counts as being on its left
before_right_element : ((p : Place) (h : List Op) (r : Identifier) → Lawful h → StandsBefore p h r) → ⊥
unfolding before order chain verdict
before_right_element law =
    let h : List Op = letter a None None ∷ begun in
    let m : IsIn (within section) h a = is_in h a None None refl in
    false≢true ((law (within section) h b (refl, (refl, tt))).last a m
    (record { top = a; member = m; other = id_eq-false a b refl; same_left = refl; through = (a ∷ [], refl); below = ([], refl) }))

-- b names a before a came, and c names it later: they have the same origins, and c stands before b
abbrev late : List Op
late = letter c (Some a) None ∷ letter a None None ∷ letter b (Some a) None ∷ begun

by_identifier_lawful : ((p : Place) (h : List Op) (x y : Identifier) → IsTie p h x y → before p h x y ≡ id_lt x y) → ⊥
unfolding before order chain
by_identifier_lawful law =
    false≢true (law (within section) late b c
    (record { first = is_in late b (Some a) None refl; second = is_in late c (Some a) None refl; apart = id_eq-false b c refl; same_left = refl; same_right = refl }))

-- what is no element has an empty chain, and stands before all elements
by_identifier_first :
    ((p : Place) (h : List Op) (x y : Identifier) → Lawful h → IsIn p h y → x ≢ y → left_at h x ≡ left_at h y → right_at h x ≡ right_at h y → before p h x y ≡ id_lt x y) → ⊥
unfolding before order chain verdict
by_identifier_first law =
    let h : List Op = letter a None None ∷ begun in
    true≢false (law (within section) h b a (refl, (refl, tt)) (is_in h a None None refl) (id_eq-false b a refl) refl refl)

by_identifier_second :
    ((p : Place) (h : List Op) (x y : Identifier) → Lawful h → IsIn p h x → x ≢ y → left_at h x ≡ left_at h y → right_at h x ≡ right_at h y → before p h x y ≡ id_lt x y) → ⊥
unfolding before order chain verdict
by_identifier_second law =
    let h : List Op = letter a None None ∷ begun in
    false≢true (law (within section) h a b (refl, (refl, tt)) (is_in h a None None refl) (id_eq-false a b refl) refl refl)

-- a was put after b, or before it
by_identifier_left :
    ((p : Place) (h : List Op) (x y : Identifier) → Lawful h → IsIn p h x → IsIn p h y → x ≢ y → right_at h x ≡ right_at h y → before p h x y ≡ id_lt x y) → ⊥
unfolding before order chain verdict
by_identifier_left law =
    let h : List Op = letter a (Some b) None ∷ letter b None None ∷ begun in
    true≢false (law (within section) h b a (refl, (refl, (refl, tt))) (is_in h b None None refl) (is_in h a (Some b) None refl) (id_eq-false b a refl) refl)

by_identifier_right :
    ((p : Place) (h : List Op) (x y : Identifier) → Lawful h → IsIn p h x → IsIn p h y → x ≢ y → left_at h x ≡ left_at h y → before p h x y ≡ id_lt x y) → ⊥
unfolding before order chain verdict
by_identifier_right law =
    let h : List Op = letter b None (Some a) ∷ letter a None None ∷ begun in
    true≢false (law (within section) h b a (refl, (refl, (refl, tt))) (is_in h b None (Some a) refl) (is_in h a None None refl) (id_eq-false b a refl) refl)

-- passages without letters after the first are a tie, so the premises of ties are needed here too

-- all of one list stands before all of the other, by the identifiers of the first elements
abbrev Apart : Place → List Op → (x y : Identifier) → (xs ys : List Identifier) → Type 0
Apart p h x y xs ys = All (λ e. All (λ f. before p h e f ≡ id_lt x y) (y ∷ ys)) (x ∷ xs)

-- what the lists say of the first element of one and the second of the other
first_second : (p : Place) (h : List Op) (x y z : Identifier) → Apart p h x y [] (z ∷ []) → before p h x z ≡ id_lt x y
first_second p h x y z k =
    All-head (λ f. before p h x f ≡ id_lt x y) z []
    (All-tail (λ f. before p h x f ≡ id_lt x y) y (z ∷ []) (All-head (λ e. All (λ f. before p h e f ≡ id_lt x y) (y ∷ z ∷ [])) x [] k))

second_first : (p : Place) (h : List Op) (x y z : Identifier) → Apart p h x y (z ∷ []) [] → before p h z y ≡ id_lt x y
second_first p h x y z k =
    All-head (λ f. before p h z f ≡ id_lt x y) y []
    (All-head (λ e. All (λ f. before p h e f ≡ id_lt x y) (y ∷ [])) z []
    (All-tail (λ e. All (λ f. before p h e f ≡ id_lt x y) (y ∷ [])) x (z ∷ []) k))

-- a passage is mixed with itself
never_mixed_apart :
    ((p : Place) (h : List Op) (x y : Identifier) (xs ys : List Identifier) → Lawful h → IsIn p h x → IsIn p h y → left_at h x ≡ left_at h y → right_at h x ≡ right_at h y
    → IsPassage p h x xs → IsPassage p h y ys → Apart p h x y xs ys) → ⊥
unfolding before order chain verdict
never_mixed_apart law =
    let h : List Op = letter b (Some a) None ∷ letter a None None ∷ begun in
    let m : IsIn (within section) h a = is_in h a None None refl in
    true≢false (first_second (within section) h a a b
    (law (within section) h a a [] (b ∷ []) (refl, (refl, (refl, tt))) m m refl refl (inl tt) (inl (is_in h b (Some a) None refl, refl, tt))))

-- three letters that know nothing of each other stand by identifier
abbrev three : List Op
three = letter c None None ∷ letter b None None ∷ letter a None None ∷ begun

never_mixed_first :
    ((p : Place) (h : List Op) (x y : Identifier) (xs ys : List Identifier) → Lawful h → IsTie p h x y → IsPassage p h y ys → Apart p h x y xs ys) → ⊥
unfolding before order chain verdict
never_mixed_first law =
    false≢true (second_first (within section) three a b c
    (law (within section) three a b (c ∷ []) [] (refl, (refl, (refl, (refl, tt))))
    (record { first = is_in three a None None refl; second = is_in three b None None refl; apart = id_eq-false a b refl; same_left = refl; same_right = refl }) (inl tt)))

never_mixed_second :
    ((p : Place) (h : List Op) (x y : Identifier) (xs ys : List Identifier) → Lawful h → IsTie p h x y → IsPassage p h x xs → Apart p h x y xs ys) → ⊥
unfolding before order chain verdict
never_mixed_second law =
    false≢true (first_second (within section) three b c a
    (law (within section) three b c [] (a ∷ []) (refl, (refl, (refl, (refl, tt))))
    (record { first = is_in three b None None refl; second = is_in three c None None refl; apart = id_eq-false b c refl; same_left = refl; same_right = refl }) (inl tt)))
