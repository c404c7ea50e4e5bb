-- The laws of what changed and of who wrote what.
use Rattle.std.proofs.Common.{List, [], ap, false, refl, subst, sym, true, ℕ, ◌++◌, ◌∙◌, ◌∷◌, ◌≡◌}
use Rattle.std.specs.Prelude.{Bool, Option, Some, filter, flat_map, if◌then◌else◌, is_some, not, ◌&&◌, ◌||◌}
use Rattle.std.specs.List.{Contains, list_any}
use Rattle.std.proofs.lemmas.Bool.{false≢true}
use Rattle.std.proofs.lemmas.List.{append-nil}
use Rattle.fugue_ids.specs.Identifiers.{Identifier}
use Rattle.fugue_ids.specs.declared.op.Op.{Op}
use Rattle.fugue_ids.proofs.IdentifierLemmas.{id_eq-refl}
use Rattle.fugue_ids.proofs.ListLemmas.{contains_filter_from, contains_here, contains_there, pointwise-same}
use Rattle.origin_model.specs.declared.operations.Place.TheVariants.{Section as within}
use Rattle.origin_model.specs.operations.History.{holder, holds}
use Rattle.origin_model.specs.operations.Verdict.{Lawful}
use Rattle.origin_model.specs.order.Order.{order}
use Rattle.origin_model.specs.order.Printed.{is_hidden, scalar_of, shown}
use Rattle.origin_model.proofs.SharedLemmas.{found, order_total}
use Rattle.origin_model.proofs.edits.EditedTextLemmas.{text_length}
use Rattle.catalogue_notes.specs.Arranged.{arranged, position}
use Rattle.catalogue_notes.specs.Lift.{is_section, lift}
use Rattle.catalogue_notes.proofs.PartLemmas.{parts_same}
use Rattle.catalogue_notes.proofs.RetitlingLemmas.{arranged_section}
use Rattle.version_views.specs.Laws.{is_shown}
use Rattle.version_views.proofs.ViewLemmas.{shown_by_filter}
use Rattle.change_marks.specs.Changes.{IsLater, arranges, changes_text, dropped_changes, head, heading_bytes, is_changed, is_marked}
use Rattle.change_marks.specs.Changes.{is_moved, is_retitled, section_changes, change_text}
use Rattle.change_marks.specs.Laws.{AllSinceTheBeginning, AuthorsTellAll, ChangesByFilter, NothingSinceNow, is_new, is_of_now, is_of_then, section_new}
use Rattle.change_marks.specs.Marks.{letter_of, mark_of, marked_as, runs}
use Rattle.change_marks.specs.Steps.{is_changed_element}
use Rattle.change_marks.specs.declared.mark.Mark.{Mark}
use Rattle.change_marks.specs.declared.mark.Mark.TheVariants.{New}
use Rattle.change_marks.proofs.KeyLemmas.{keys_all, letters_by_elements, passes}
use Rattle.change_marks.proofs.LaterLemmas.{has_from_contains, hidden_later, holder_later}
use Rattle.change_marks.proofs.PassageLemmas.{all_letters}
use Rattle.change_marks.proofs.RunLemmas.{marks_by_elements}

filter_same : (p q : Identifier → Bool) (xs : List Identifier) → ((x : Identifier) → p x ≡ q x) → filter p xs ≡ filter q xs
filter_same p q xs e = ap (λ (t : Identifier → Bool). filter t xs) (λ i x. e x i)

-- an element is of today's text where no Delete names it
now_marks : (had was is : Bool) (r : ℕ) → (was ≡ true → is ≡ true) → passes is_of_now (marked_as had was is r) ≡ not is
now_marks false was false r k = refl
now_marks false was true r k = refl
now_marks true false false r k = refl
now_marks true false true r k = refl
now_marks true true false r k = absurd (false≢true (k refl))
now_marks true true true r k = refl

-- and of the text of the moment where that has it, and did not delete it
then_marks : (had was is : Bool) (r : ℕ) → passes is_of_then (marked_as had was is r) ≡ (had && not was)
then_marks false was false r = refl
then_marks false was true r = refl
then_marks true false false r = refl
then_marks true false true r = refl
then_marks true true false r = refl
then_marks true true true r = refl

both : (a b : Bool) → (a && b) ≡ true → a ≡ true
both true b e = refl
both false b e = e

-- a letter of the moment is the same now
same_letter : (f h : List Op) (x : Identifier) → Lawful h → IsLater f h → is_shown f x ≡ true → letter_of h x ≡ scalar_of (holder f x)
same_letter f h x w l e =
    let held = found (holder f x) (both (holds f x) (not (is_hidden f x)) e) in
    ap scalar_of (holder_later f h x held.0 w l held.1) ∙ sym (ap scalar_of held.1)

pub changes_by_filter : ChangesByFilter
changes_by_filter f h s w l =
    let key : Identifier → Option Mark = mark_of f h in
    let xs : List Identifier = order (within s) h in
    record {
      now =
          letters_by_elements is_of_now h key xs
          ∙ ap (flat_map (letter_of h))
          (filter_same (λ x. passes is_of_now (key x)) (λ x. not (is_hidden h x)) xs (λ x. now_marks (holds f x) (is_hidden f x) (is_hidden h x) x.replica (hidden_later f h x l)));
      then =
          letters_by_elements is_of_then h key xs
          ∙ ap (flat_map (letter_of h)) (filter_same (λ x. passes is_of_then (key x)) (is_shown f) xs (λ x. then_marks (holds f x) (is_hidden f x) (is_hidden h x) x.replica))
          ∙ parts_same (letter_of h) (λ x. scalar_of (holder f x)) (filter (is_shown f) xs) (λ x m. same_letter f h x w l (contains_filter_from (is_shown f) xs x m).1)
          ∙ sym (ap (flat_map (λ x. scalar_of (holder f x)))
          (subst (λ whole. shown (within s) f ≡ filter (is_shown f) (order (within s) whole)) (sym l.whole) (shown_by_filter (within s) l.newer f (subst Lawful l.whole w))));
    }

-- what is held and compared with itself has no mark
no_change : (had is : Bool) (r : ℕ) → had ≡ true → is_changed_element (marked_as had is is r) ≡ false
no_change false is r e = absurd (false≢true e)
no_change true false r e = refl
no_change true true r e = refl

pub none_changed : (key : Identifier → Option Mark) (xs : List Identifier) → ((x : Identifier) → Contains xs x → is_changed_element (key x) ≡ false)
    → list_any (λ x. is_changed_element (key x)) xs ≡ false
none_changed key [] e = refl
none_changed key (x ∷ xs) e = ap (λ b. b || list_any (λ y. is_changed_element (key y)) xs) (e x (contains_here x xs)) ∙ none_changed key xs (λ y m. e y (contains_there x xs y m))

nothing_marked : (h : List Op) (s : Identifier) → Lawful h → list_any is_marked (runs false h h s) ≡ false
nothing_marked h s w =
    let xs : List Identifier = order (within s) h in
    marks_by_elements (mark_of h h) xs
    ∙ none_changed (mark_of h h) xs (λ x m. let i = ((order_total (within s) h w).lists x).1 m in no_change (holds h x) (is_hidden h x) x.replica (ap is_some i.held))

unchanged : (h : List Op) (s : Identifier) → Lawful h → is_section h s ≡ true → is_changed h h s ≡ false
unchanged h s w k =
    let rest : Bool = is_retitled h h s || is_moved h h s in
    let title : is_retitled h h s ≡ false = ap not (pointwise-same (heading_bytes h s)) in
    let place : is_moved h h s ≡ false = ap not (id_eq-refl (position h s)) in
    (λ i. (not (k i) || (title i || place i)) || nothing_marked h s w i)

nothing_in : (f : Identifier → List ℕ) (xs : List Identifier) → ((x : Identifier) → Contains xs x → f x ≡ []) → flat_map f xs ≡ []
nothing_in f [] e = refl
nothing_in f (x ∷ xs) e = let none = nothing_in f xs (λ y m. e y (contains_there x xs y m)) in λ i. e x (contains_here x xs) i ++ none i

none_left : (test : Identifier → Bool) (xs : List Identifier) → ((x : Identifier) → Contains xs x → test x ≡ false) → filter test xs ≡ []
none_left test [] e = refl
none_left test (x ∷ xs) e = rw (e x (contains_here x xs)) (none_left test xs (λ y m. e y (contains_there x xs y m)))

pub nothing_since_now : NothingSinceNow
unfolding changes_text
nothing_since_now h w =
    let sections : flat_map (section_changes h h) (arranged h) ≡ [] =
    nothing_in (section_changes h h) (arranged h)
    (λ s m. ap (λ (b : Bool). if b then change_text h (head h h s) (runs false h h s) else []) (unchanged h s w (arranged_section h s w m))) in
    let dropped : flat_map (dropped_changes h h) (filter (λ s. not (arranges h s)) (arranged h)) ≡ [] =
    ap (flat_map (dropped_changes h h)) (none_left (λ s. not (arranges h s)) (arranged h) (λ s m. ap not (has_from_contains (arranged h) s m))) in
    (λ i. sections i ++ dropped i)

new_marks : (is : Bool) (r : ℕ) (k : Mark) → marked_as false false is r ≡ Some k → is_new k ≡ true
new_marks false r k e = let d : New r ≡ k = cc in ap is_new (sym d)
new_marks true r k e = cc

pub all_since_the_beginning : AllSinceTheBeginning
unfolding changes_text order lift
all_since_the_beginning h w = record {
  sections = append-nil (flat_map (section_new h) (arranged h));
  each = λ s. keys_all (λ k. is_new k ≡ true) (mark_of [] h) (λ x k e. new_marks (is_hidden h x) x.replica k e) (order (within s) h);
}

pub authors_tell_all : AuthorsTellAll
authors_tell_all h s w = all_letters (shown (within s) h) ∙ sym (text_length h s w)
