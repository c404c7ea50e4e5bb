-- What is shown and printed of a manuscript, by its cells.
use Rattle.std.proofs.Common.{Bool, List, [], ap, cond, false, inl, inr, length, not, refl, subst, sym, true, ℕ, ◌∙◌, ◌&&◌, ◌||◌, ◌∷◌, ◌++◌, ◌≡◌}
use Rattle.std.specs.Prelude.{IfSome, IsSome, is_some, None, Option, Some, codes, filter, flat_map, map, option_map}
use Rattle.std.specs.List.{All, Contains}
use Rattle.std.specs.Str.{encode_utf8_all}
use Rattle.std.proofs.lemmas.List.{length-map}
use Rattle.std.proofs.lemmas.List.Elements.{All-head, All-tail}
use Rattle.fugue_ids.specs.Identifiers.{Identifier}
use Rattle.fugue_ids.proofs.IdentifierLemmas.{cases_id, eq-id_eq, id_eq-true, ne-id_eq}
use Rattle.fugue_ids.proofs.ListLemmas.{contains_cases, contains_filter_from, contains_here, contains_none, contains_there}
use Rattle.fugue_ids.specs.declared.op.Op.{Op}
use Rattle.fugue_ids.specs.declared.op.Op.TheVariants.{Section, Text}
use Rattle.origin_model.specs.order.Laws.{IsIn}
use Rattle.origin_model.specs.operations.History.{element_of, holder}
use Rattle.origin_model.specs.order.Order.{order}
use Rattle.origin_model.specs.order.Printed.{is_hidden, manuscript, printed_section, scalar_of, shown, text as text_on, title_of}
use Rattle.origin_model.specs.operations.Verdict.{Lawful}
use Rattle.origin_model.specs.declared.operations.Place.{Place}
use Rattle.origin_model.specs.declared.operations.Place.TheVariants.{Catalogue as catalogue, Section as within}
use Rattle.origin_model.proofs.SharedLemmas.{holder_owns, order_total}
use Rattle.origin_model.specs.edits.Landing.{following}
use Rattle.run_store.specs.Cells.{cell_ids, cell_text, cells_shown, is_hidden_cell}
use Rattle.run_store.specs.declared.cell.Cell.{Cell}
use Rattle.section_list.specs.SectionList.{Listing}
use Rattle.section_catalogue.specs.declared.tables.Section.{Section as Titled}
use Rattle.section_catalogue.specs.Contents.{Contents, section_at}
use Rattle.section_catalogue.specs.Section.{printed_at, printed_entry}
use Rattle.section_catalogue.specs.Place.{IsCellIn, Lists, place_held, scalar_held, title_held}
use Rattle.section_catalogue.specs.Manuscript.{IsOrderedPlace, IsTextOf, LookUpsAreDefinitions, Represents}
use Rattle.section_catalogue.proofs.HolderLemmas.{in_place}

module _ (h : List Op) where
  abbrev kept : List Identifier → List Identifier
  kept xs = filter (λ x. not (is_hidden h x)) xs

  -- the visible cells are those of the shown elements
  shown_cells : (cs : List Cell) → All (IsCellIn h) cs → cell_ids (cells_shown cs) ≡ kept (cell_ids cs)
  shown_cells [] a = refl
  shown_cells (c ∷ cs) a =
      let e = (All-head (IsCellIn h) c cs a).hidden in
      let rest = shown_cells cs (All-tail (IsCellIn h) c cs a) in
      elim (c.hidden) as (λ b. cell_ids (cond (not b) (c ∷ cells_shown cs) (cells_shown cs)) ≡ cond (not b) (c.id ∷ kept (cell_ids cs)) (kept (cell_ids cs))) [
        | true ↦ rest
        | false ↦ ap (λ t. c.id ∷ t) rest
      ]
      ∙ ap (λ b. cond (not b) (c.id ∷ kept (cell_ids cs)) (kept (cell_ids cs))) e

  -- the text of cells that have scalars
  shown_text : (cs : List Cell) → All (IsCellIn h) cs → ((x : Identifier) → Contains (cell_ids cs) x → scalar_of (holder h x) ≡ scalar_held (holder h x) ∷ [])
      → cell_text cs ≡ flat_map (λ x. scalar_of (holder h x)) (kept (cell_ids cs))
  shown_text [] a k = refl
  shown_text (c ∷ cs) a k =
      let its = All-head (IsCellIn h) c cs a in
      let others : List ℕ = flat_map (λ y. scalar_of (holder h y)) (kept (cell_ids cs)) in
      let rest = shown_text cs (All-tail (IsCellIn h) c cs a) (λ y m. k y (contains_there c.id (cell_ids cs) y m)) in
      let own : c.ch ∷ [] ≡ scalar_of (holder h c.id) = ap (λ z. z ∷ []) its.ch ∙ sym (k c.id (contains_here c.id (cell_ids cs))) in
      elim (c.hidden) as (λ b. map (λ (z : Cell). z.ch) (cond (not b) (c ∷ cells_shown cs) (cells_shown cs)) ≡ flat_map (λ y. scalar_of (holder h y))
      (cond (not b) (c.id ∷ kept (cell_ids cs)) (kept (cell_ids cs)))) [
        | true ↦ rest
        | false ↦ ap (λ t. c.ch ∷ t) rest ∙ ap (λ t. t ++ others) own
      ]
      ∙ ap (λ b. flat_map (λ y. scalar_of (holder h y)) (cond (not b) (c.id ∷ kept (cell_ids cs)) (kept (cell_ids cs)))) its.hidden

  -- a cell is hidden where a Delete names its element
  hidden_cell : (cs : List Cell) (x : Identifier) → All (IsCellIn h) cs → Contains (cell_ids cs) x → is_hidden_cell cs x ≡ is_hidden h x
  hidden_cell [] x a m = absurd (contains_none x m)
  hidden_cell (c ∷ cs) x a m =
      let e = (All-head (IsCellIn h) c cs a).hidden in
      let tail = All-tail (IsCellIn h) c cs a in
      elim (cases_id c.id x) [
        | inl d ↦
            let same : c.hidden ≡ is_hidden h x = e ∙ ap (is_hidden h) d in
            ap (λ b. (b && c.hidden) || is_hidden_cell cs x) (eq-id_eq c.id x d) ∙ again c.hidden cs x tail (sym same) ∙ same
        | inr n ↦ ap (λ b. (b && c.hidden) || is_hidden_cell cs x) (ne-id_eq c.id x n)
            ∙ hidden_cell cs x tail (elim (contains_cases c.id (cell_ids cs) x m) [ inl d ↦ absurd (n d) | inr k ↦ k ])
      ]
    where
      -- further cells of the element say the same
      again : (b : Bool) (cs : List Cell) (x : Identifier) → All (IsCellIn h) cs → is_hidden h x ≡ b → (b || is_hidden_cell cs x) ≡ b
      again true cs x a e = refl
      again false [] x a e = refl
      again false (c ∷ cs) x a e =
          let its = (All-head (IsCellIn h) c cs a).hidden in
          let rest = again false cs x (All-tail (IsCellIn h) c cs a) e in
          elim (cases_id c.id x) [
            | inl d ↦ ap (λ b. (b && c.hidden) || is_hidden_cell cs x) (eq-id_eq c.id x d) ∙ ap (λ b. b || is_hidden_cell cs x) (its ∙ ap (is_hidden h) d ∙ e) ∙ rest
            | inr n ↦ ap (λ b. (b && c.hidden) || is_hidden_cell cs x) (ne-id_eq c.id x n) ∙ rest
          ]

  -- what a place lists is the order of the definitions
  is_place_of : (p : Place) (s : Listing) → Lawful h → Lists p h s → IsOrderedPlace p h s
  is_place_of p s w l = record {
    all = l.listed;
    visible = shown_cells s.cells l.each ∙ ap kept l.listed;
    hidden = λ x i. hidden_cell s.cells x l.each (subst (λ xs. Contains xs x) (sym l.listed) (((order_total p h w).lists x).0 i));
    after = λ x. ap (λ xs. following xs x) l.listed;
  }

-- two functions that agree on a list
flat_map-alike : (f g : Identifier → List ℕ) (xs : List Identifier) → ((x : Identifier) → Contains xs x → f x ≡ g x) → flat_map f xs ≡ flat_map g xs
flat_map-alike f g [] k = refl
flat_map-alike f g (x ∷ xs) k = λ i. k x (contains_here x xs) i ++ flat_map-alike f g xs (λ y m. k y (contains_there x xs y m)) i

-- the shown sections
pub catalogue_shown : (m : Contents) (h : List Op) → Represents m h → cell_ids (cells_shown m.catalogue.cells) ≡ shown catalogue h
catalogue_shown m h s = (is_place_of h catalogue m.catalogue s.lawful s.sections).visible

-- how many there are
pub count_shown : (m : Contents) (h : List Op) → Represents m h → length (cells_shown m.catalogue.cells) ≡ length (shown catalogue h)
count_shown m h s = sym (length-map (cells_shown m.catalogue.cells) (λ (c : Cell). c.id)) ∙ ap length (catalogue_shown m h s)

-- an element of a section has a scalar
one_scalar : (s : Identifier) (o : Option Op) → place_held o ≡ Some (within s) → scalar_of o ≡ scalar_held o ∷ []
one_scalar s (Some (Text id section left right ch)) e = refl
one_scalar s _ e = cc

-- the text of a section
text_shown : (m : Contents) (h : List Op) (s : Identifier) (l : Listing) → Represents m h → Lists (within s) h l → cell_text l.cells ≡ text_on h s
text_shown m h s l k e =
    shown_text h l.cells e.each
    (λ x i. one_scalar s (holder h x) (in_place (within s) h x ((((order_total (within s) h k.lawful).lists x).1) (subst (λ xs. Contains xs x) e.listed i))))
    ∙ ap (λ xs. flat_map (λ x. scalar_of (holder h x)) (kept h xs)) e.listed

-- an element of the catalogue has a title
pub titled : (op : Op) (s : Identifier) → element_of catalogue op ≡ Some s → (t : List ℕ) × (title_held (Some op) ≡ Some t) × (title_of (Some op) ≡ t)
titled (Section id left right title) s e = (title, refl, refl)
titled _ s e = cc

-- a section that has a title is there
entry_there : (o : Option Titled) (t : List ℕ) (P : Titled → Type 0) → option_map (λ (e : Titled). e.title) o ≡ Some t → IfSome o P
    → (e : Titled) × (o ≡ Some e) × (e.title ≡ t) × P e
entry_there None t P k p = cc
entry_there (Some e) t P k p = let d : e.title ≡ t = cc in (e, refl, d, p)

-- a section is printed
section_printed : (m : Contents) (h : List Op) (s : Identifier) → Represents m h → IsIn catalogue h s → printed_entry (section_at m s) ≡ printed_section h s
section_printed m h s k i =
    let n = titled i.op s i.place in
    let e = entry_there (section_at m s) n.0 (λ (t : Titled). Lists (within s) h t.text) (k.titles s ∙ ap title_held i.held ∙ n.1) (k.texts s) in
    let title : e.0.title ≡ title_of (holder h s) = e.2 ∙ sym n.2 ∙ ap title_of (sym i.held) in
    let body : cell_text e.0.text.cells ≡ text_on h s = text_shown m h s e.0.text k e.3 in
    ap printed_entry e.1
    ∙ (λ j. codes "# " ++ encode_utf8_all (title j) ++ 10 ∷ encode_utf8_all (body j) ++ 10 ∷ [])

-- what the shown sections add is the manuscript
pub manuscript_parts : (m : Contents) (h : List Op) → Represents m h → flat_map (printed_at m.sections) (cell_ids (cells_shown m.catalogue.cells)) ≡ manuscript h
unfolding manuscript
manuscript_parts m h k =
    ap (flat_map (printed_at m.sections)) (catalogue_shown m h k)
    ∙ flat_map-alike (printed_at m.sections) (printed_section h) (shown catalogue h)
    (λ x i. section_printed m h x k (((order_total catalogue h k.lawful).lists x).1 ((contains_filter_from (λ z. not (is_hidden h z)) (order catalogue h) x i).0)))

-- a section that is there is an element of the catalogue
there_in : (m : Contents) (h : List Op) (s : Identifier) (o : Option Op) (e : Option Titled) → holder h s ≡ o → option_map (λ (t : Titled). t.title) e ≡ title_held o
    → IsSome (option_map (λ (t : Titled). t.text) e) → IsIn catalogue h s
there_in m h s (Some (Section id left right title)) (Some e) held k there =
    let own : id ≡ s = id_eq-true id s (holder_owns h s (Section id left right title) held) in
    record { op = Section id left right title; held = held; place = ap Some own }
there_in m h s _ (Some e) held k there = cc
there_in m h s o None held k there = cc

-- the look-ups of a manuscript are the definitions
pub look_ups_agree : LookUpsAreDefinitions
look_ups_agree m h k = record {
  catalogue_is = is_place_of h catalogue m.catalogue k.lawful k.sections;
  section_is = λ s. texts s (section_at m s) (k.texts s);
  there = λ s. (
    there_in m h s (holder h s) (section_at m s) refl (k.titles s),
    (λ i. let n = titled i.op s i.place in
        let e = entry_there (section_at m s) n.0 (λ (t : Titled). Lists (within s) h t.text) (k.titles s ∙ ap title_held i.held ∙ n.1) (k.texts s) in
        ap (λ o. is_some (option_map (λ (t : Titled). t.text) o)) e.1),
  );
}
  where
    texts : (s : Identifier) (o : Option Titled) → IfSome o (λ (t : Titled). Lists (within s) h t.text) → IfSome (option_map (λ (t : Titled). t.text) o) (IsTextOf s h)
    texts s None l = tt
    texts s (Some t) l = record { place = is_place_of h (within s) t.text k.lawful l; text = text_shown m h s t.text k l }
