-- What the lists of places tell of anchors and of sections is what the definitions say.
use Rattle.margin_notes.proofs.Words.{AllPairs, Bool, Contains, Identifier, IsIn, Lawful, List, None, Op, Option, Place, Some, Text, Section, Delete, Note, [], ap, arith, before}
use Rattle.margin_notes.proofs.Words.{count_by, drop, false, holder, id_eq, inl, inr, is_hidden, length, not, option_map, order, refl, shown, subst, suc, sym, take, true}
use Rattle.margin_notes.proofs.Words.{true≢false, within, ℕ, ◌+◌, ◌||◌, ◌∙◌, ◌≡◌, ◌≤◌}
use Rattle.std.specs.Prelude.{◌≢◌, IfSome, IsNone, IsSome, ◌↔◌, nat_lt}
use Rattle.std.proofs.lemmas.Bool.{cases_lt}
use Rattle.std.proofs.lemmas.List.Kept.{AllPairs-filter}
use Rattle.std.proofs.lemmas.List.{length-append, take-append-drop}
use Rattle.std.proofs.lemmas.List.Sums.{count_by-le-length, length-filter}
use Rattle.fugue_ids.specs.Listed.{index_of}
use Rattle.fugue_ids.proofs.IdentifierLemmas.{below-contains, contains-below}
use Rattle.fugue_ids.proofs.ListLemmas.{contains_filter, contains_filter_from}
use Rattle.origin_model.specs.order.Laws.{IsTotal}
use Rattle.origin_model.proofs.SharedLemmas.{element_stands, order_bounded, order_total}
use Rattle.run_store.specs.Cells.{cell_ids, is_hidden_cell, shown_before}
use Rattle.run_store.specs.declared.cell.Cell.{Cell}
use Rattle.section_list.specs.SectionList.{Listing}
use Rattle.section_catalogue.specs.Contents.{Contents, listed_count, section_at, text_at}
use Rattle.section_catalogue.specs.Manuscript.{IsOrderedPlace, IsTextOf, Represents}
use Rattle.section_catalogue.specs.Place.{place_held}
use Rattle.section_catalogue.specs.declared.tables.Section.{Section as Titled}
use Rattle.section_catalogue.proofs.BoundLemmas.{places_bounded}
use Rattle.section_catalogue.proofs.ConditionLemmas.{held_at}
use Rattle.section_catalogue.proofs.ShownLemmas.{look_ups_agree}
use Rattle.margin_notes.specs.Listing.{number_from, text_section}
use Rattle.margin_notes.proofs.CountLemmas.{counted_before, earlier, no_number, not_up_to, number, up_to}
use Rattle.margin_notes.proofs.MemberLemmas.{text_at as held_text}
use Rattle.margin_notes.proofs.PassageLemmas.{text_in}

-- the section of a Text is that of its place
pub section_placed : (o : Option Op) (s : Identifier) → place_held o ≡ Some (within s) → text_section o ≡ Some s
section_placed (Some (Text id t left right ch)) s e = let d : t ≡ s = cc in ap Some d
section_placed (Some (Section id left right title)) s e = cc
section_placed (Some (Delete target)) s e = cc
section_placed (Some (Note id named code body)) s e = cc
section_placed None s e = cc

pub none_placed : (o : Option Op) (p : Option Place) → p ≡ place_held o → ((s : Identifier) → p ≢ Some (within s)) → text_section o ≡ None
none_placed (Some (Text id t left right ch)) p e n = absurd (n t e)
none_placed (Some (Section id left right title)) p e n = refl
none_placed (Some (Delete target)) p e n = refl
none_placed (Some (Note id named code body)) p e n = refl
none_placed None p e n = refl

-- a Text of a section is an element of it
pub text_is_in : (h : List Op) (s x : Identifier) → text_section (holder h x) ≡ Some s → IsIn (within s) h x
text_is_in h s x e = text_in s h x (held_text (holder h x) s e)

-- what is shown has at most one member for each operation
pub shown_bounded : (p : Place) (h : List Op) → length (shown p h) ≤ length h
shown_bounded p h =
    let visible : Identifier → Bool = λ x. not (is_hidden h x) in
    omega (arith, length-filter visible (order p h), count_by-le-length visible (order p h), order_bounded p h)

-- no more visible elements stand before one than there are elements
few_before : (cells : List Cell) (x : Identifier) → shown_before cells x ≤ length cells
few_before cells x =
    let i : ℕ = index_of (cell_ids cells) x in
    let front : List Cell = take i cells in
    omega (
      arith,
      length-filter (λ (c : Cell). not c.hidden) front,
      count_by-le-length (λ (c : Cell). not c.hidden) front,
      ap length (take-append-drop i cells),
      length-append front (drop i cells),
    )

-- so they are few
pub few_sections : (m : Contents) (h : List Op) (x : Identifier) → Represents m h → shown_before m.catalogue.cells x ≤ length h
few_sections m h x s = omega (arith, few_before m.catalogue.cells x, places_bounded m h (Section x None None []) s)

pub few_texts : (m : Contents) (h : List Op) (s x : Identifier) (l : Listing) → Represents m h → Some l ≡ text_at m s → shown_before l.cells x ≤ length h
few_texts m h s x l represents is =
    let bound : listed_count (text_at m s) ≤ length h = places_bounded m h (Text x s None None 0) represents in
    let here : listed_count (Some l) ≤ length h = subst (λ o. listed_count o ≤ length h) (sym is) bound in
    omega (arith, few_before l.cells x, here)

-- what an answer was given for is there
pub there_in : (xs : List Identifier) (x : Identifier) (n : ℕ) → (IsNone (Some n) ↔ (Contains xs x → ⊥)) → Contains xs x
there_in xs x n none =
    elim (cases_lt (index_of xs x) (length xs)) [
      | inl l ↦ below-contains xs x l
      | inr l ↦ absurd (none_given n (none.1 (λ c. omega (arith, l, contains-below xs x c))))
    ]
  where
    none_given : (n : ℕ) → IsNone (Some n) → ⊥
    none_given n e = cc

-- the list of a section
pub text_list : (m : Contents) (h : List Op) (s : Identifier) (l : Listing) → Represents m h → Some l ≡ text_at m s → IsOrderedPlace (within s) h l
text_list m h s l st is = (subst (λ (o : Option Listing). IfSome o (IsTextOf s h)) (sym is) ((look_ups_agree m h st).section_is s)).place

no_text : (o : Option Titled) → IsSome o → None ≡ option_map (λ (e : Titled). e.text) o → ⊥
no_text None there e = true≢false (sym there)
no_text (Some t) there e = cc

-- a section with an element has one
pub list_there : (m : Contents) (h : List Op) (s x : Identifier) → Represents m h → IsIn (within s) h x → None ≡ text_at m s → ⊥
list_there m h s x st i e =
    no_text (section_at m s) (held_at m h (within s) x st (st.places x ∙ ap place_held i.held ∙ (element_stands (within s) i.op x i.place).0)).there e

-- a list that is that of a place
module _ (p : Place) (h : List Op) (w : Lawful h) (l : Listing) (is : IsOrderedPlace p h l) where
  abbrev total : IsTotal p h
  total = order_total p h w

  abbrev visible : Identifier → Bool
  visible x = not (is_hidden h x)

  pub in_list : (x : Identifier) → IsIn p h x → Contains (cell_ids l.cells) x
  in_list x m = subst (λ xs. Contains xs x) (sym is.all) ((total.lists x).0 m)

  pub in_place : (x : Identifier) → Contains (cell_ids l.cells) x → IsIn p h x
  in_place x c = (total.lists x).1 (subst (λ xs. Contains xs x) is.all c)

  list_ordered : AllPairs (λ a b. before p h a b ≡ true) (cell_ids l.cells)
  list_ordered = subst (AllPairs (λ a b. before p h a b ≡ true)) (sym is.all) total.agrees

  shown_ordered : AllPairs (λ a b. before p h a b ≡ true) (shown p h)
  shown_ordered = AllPairs-filter (λ a b. before p h a b ≡ true) visible (order p h) total.agrees

  -- the list tells which one stands before
  pub earlier_in : (a b : Identifier) → IsIn p h a → IsIn p h b → nat_lt (index_of (cell_ids l.cells) a) (index_of (cell_ids l.cells) b) ≡ before p h a b
  earlier_in a b m n = earlier (before p h) total.irreflexive total.transitive (cell_ids l.cells) a b list_ordered (in_list a m) (in_list b n)

  -- and how many visible ones do
  pub counted : (x : Identifier) → IsIn p h x → shown_before l.cells x ≡ count_by (λ y. before p h y x) (shown p h)
  counted x m =
      counted_before (before p h) total.irreflexive total.transitive l.cells x list_ordered (in_list x m)
      ∙ ap (count_by (λ y. before p h y x)) is.visible

  -- an answer is given for an element
  pub given : (x : Identifier) (o : Option ℕ) → IsIn p h x → (IsNone o ↔ (Contains (cell_ids l.cells) x → ⊥)) → IfSome o (λ n. n ≡ shown_before l.cells x)
      → (n : ℕ) × (o ≡ Some n) × (n ≡ count_by (λ y. before p h y x) (shown p h))
  given x None m none some = absurd (none.0 refl (in_list x m))
  given x (Some n) m none some = (n, refl, some ∙ counted x m)

  -- a visible element is counted besides those before it, and a hidden one is not
  pub counted_visible : (x : Identifier) → IsIn p h x → is_hidden_cell l.cells x ≡ false
      → count_by (λ y. id_eq y x || before p h y x) (shown p h) ≡ suc (count_by (λ y. before p h y x) (shown p h))
  counted_visible x m k =
      up_to (before p h) total.irreflexive total.transitive x (shown p h) shown_ordered
      (contains_filter visible (order p h) x ((total.lists x).0 m) (ap not (sym (is.hidden x m) ∙ k)))

  pub counted_hidden : (x : Identifier) → IsIn p h x → is_hidden_cell l.cells x ≡ true
      → count_by (λ y. id_eq y x || before p h y x) (shown p h) ≡ count_by (λ y. before p h y x) (shown p h)
  counted_hidden x m k = not_up_to (λ y. before p h y x) x (shown p h) (λ c. not_shown (contains_filter_from visible (order p h) x c).1)
    where
      not_shown : visible x ≡ true → ⊥
      not_shown e = true≢false (sym e ∙ ap not (sym (is.hidden x m) ∙ k))

  -- the number of an element among the visible ones
  pub numbered : (x : Identifier) (k : ℕ) → IsIn p h x → is_hidden_cell l.cells x ≡ false → number_from k (shown p h) x ≡ Some (count_by (λ y. before p h y x) (shown p h) + k)
  numbered x k m v =
      number (before p h) total.irreflexive total.transitive k (shown p h) x shown_ordered
      (contains_filter visible (order p h) x ((total.lists x).0 m) (ap not (sym (is.hidden x m) ∙ v)))

  pub not_numbered : (x : Identifier) (k : ℕ) → IsIn p h x → is_hidden_cell l.cells x ≡ true → number_from k (shown p h) x ≡ None
  not_numbered x k m v = no_number k (shown p h) x (λ c. true≢false (sym (contains_filter_from visible (order p h) x c).1 ∙ ap not (sym (is.hidden x m) ∙ v)))

  pub absent : (x : Identifier) (k : ℕ) → (Contains (cell_ids l.cells) x → ⊥) → number_from k (shown p h) x ≡ None
  absent x k n = no_number k (shown p h) x (λ c. n (subst (λ xs. Contains xs x) (sym is.all) (contains_filter_from visible (order p h) x c).0))
