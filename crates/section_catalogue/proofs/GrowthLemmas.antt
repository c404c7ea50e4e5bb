-- A manuscript that stands for a history stands for the longer one once its newest element has come.
use Rattle.std.proofs.Common.{List, [], ap, false, inl, inr, refl, subst, sym, ℕ, ◌∙◌, ◌∷◌, ◌≡◌, ◌≢◌}
use Rattle.std.specs.Prelude.{IfSome, None, Option, Some, option_map}
use Rattle.std.proofs.lemmas.List.Elements.{All-nil}
use Rattle.fugue_ids.specs.Identifiers.{Identifier}
use Rattle.fugue_ids.specs.Ops.{id_of}
use Rattle.fugue_ids.proofs.IdentifierLemmas.{cases_id}
use Rattle.fugue_ids.specs.declared.op.Op.{Op}
use Rattle.fugue_ids.specs.declared.op.Op.TheVariants.{Note, Section, Text}
use Rattle.fugue_ids.specs.Keyed.{IsReplaced}
use Rattle.origin_model.specs.sides.Node.{find_node, node_order, nodes}
use Rattle.origin_model.specs.operations.History.{holder, holds, place}
use Rattle.origin_model.specs.order.Order.{order}
use Rattle.origin_model.specs.order.Printed.{is_hidden}
use Rattle.origin_model.specs.operations.Verdict.{Lawful, verdict}
use Rattle.origin_model.specs.declared.operations.Place.{Place}
use Rattle.origin_model.specs.declared.operations.Place.TheVariants.{Catalogue as catalogue, Section as within}
use Rattle.origin_model.specs.declared.operations.Verdict.TheVariants.{Ready}
use Rattle.origin_model.proofs.SharedLemmas.{no_text_before, not_hidden_before, order_by_nodes, ready_is_new, stands_element}
use Rattle.section_list.specs.SectionList.{IsOfNode, Listing, empty_listing as no_elements, with_element}
use Rattle.section_catalogue.specs.declared.tables.Section.{Section as Titled}
use Rattle.section_catalogue.specs.Changes.{AddsSection, AddsText}
use Rattle.section_catalogue.specs.Contents.{Contents, place_at, section_at}
use Rattle.section_catalogue.specs.Place.{IsCellIn, Lists, place_held, scalar_held, title_held}
use Rattle.section_catalogue.specs.Manuscript.{Represents}
use Rattle.section_catalogue.proofs.HolderLemmas.{cell-older, holder-new, holder-older, nodes-other, none_held, order-nothing, order-other}
use Rattle.section_catalogue.proofs.ListingLemmas.{grown, node_of, unmoved}
use Rattle.section_catalogue.proofs.TextLemmas.{each_text, if_some, titles_stay}

-- an element comes to its history
module _ (op : Op) (h : List Op) (x : Identifier) (own : id_of op ≡ Some x) (w : Lawful (op ∷ h)) where
  unheld : holds h x ≡ false
  unheld = ready_is_new h op x w.0 own

  none_before : holder h x ≡ None
  none_before = none_held (holder h x) unheld

  -- what is said of another element stays, and so does what is not said of one that is not held
  same_before : {X : Type 0} (f : Option Op → X) → f (Some op) ≡ f None → (y : Identifier) → f (holder h y) ≡ f (holder (op ∷ h) y)
  same_before f e y =
      elim (cases_id y x) [
        | inl d ↦ ap f (ap (holder h) d ∙ none_before) ∙ sym e ∙ ap f (sym (holder-new op h x y own d))
        | inr n ↦ ap f (sym (holder-older op h x y own n))
      ]

  -- another place
  elsewhere : (q : Place) (s : Listing) → place op ≢ Some q → Lists q h s → Lists q (op ∷ h) s
  elsewhere q s n l =
      unmoved q h (op ∷ h) x s w.1 l (λ e. let none : place_held (holder h x) ≡ None = ap place_held none_before in cc (none, e)) (nodes-other q op h n) (order-other q op h n)
      (cell-older op h x own)

  -- its own place
  at_home : (p : Place) (ch : ℕ) (s : Listing) → place op ≡ Some p → scalar_held (Some op) ≡ ch → is_hidden (op ∷ h) x ≡ is_hidden h x → Lists p h s
      → Lists p (op ∷ h) (with_element (node_of op x) ch s)
  at_home p ch s e k j l =
      grown p op h x ch s w (stands_element p op e ∙ own) l unheld
      (record {
        ch = sym (ap scalar_held (holder-new op h x x own refl) ∙ k);
        hidden = sym (j ∙ not_hidden_before h x w.1 unheld);
      })
      (cell-older op h x own)

  -- the look-ups of what is said of each element
  looked_up : {X : Type 0} (f : Option Op → X) (old new : Identifier → X) (v : X) → f (Some op) ≡ v → IsReplaced old new x v → ((y : Identifier) → old y ≡ f (holder h y))
      → (y : Identifier) → new y ≡ f (holder (op ∷ h) y)
  looked_up f old new v e put was y =
      elim (cases_id y x) [
        | inl d ↦ ap new d ∙ put.here ∙ sym e ∙ ap f (sym (holder-new op h x y own d))
        | inr n ↦ put.others y n ∙ was y ∙ ap f (sym (holder-older op h x y own n))
      ]

-- a section without text lists its place
no_text : (op : Op) (h : List Op) (s : Identifier) → Lawful (op ∷ h) → holds h s ≡ false → place op ≢ Some (within s) → Lists (within s) (op ∷ h) no_elements
no_text op h s w f n =
    let none : nodes (within s) (op ∷ h) ≡ [] = nodes-other (within s) op h n ∙ no_text_before h s w.1 f in
    let nothing : order (within s) (op ∷ h) ≡ [] = (order_by_nodes (within s) (op ∷ h) w).same_order ∙ ap node_order none ∙ order-nothing catalogue in
    record {
      in_order = record { are_nodes = tt; in_order = sym (order-nothing catalogue); each = All-nil (IsOfNode []) };
      same_nodes = λ y. ap (λ ns. find_node ns y) (sym none);
      listed = sym nothing;
      each = All-nil (IsCellIn (op ∷ h));
    }

-- a section came
pub section_stands : (old new : Contents) (h : List Op) (id : Identifier) (left right : Option Identifier) (title : List ℕ)
    → Represents old h → verdict h (Section id left right title) ≡ Ready → AddsSection old new (record { id = id; left = left; right = right }) title
    → Represents new (Section id left right title ∷ h)
section_stands old new h id left right title s ready c =
    let op : Op = Section id left right title in
    let w : Lawful (op ∷ h) = (ready, s.lawful) in
    record {
      lawful = w;
      sections = subst (Lists catalogue (op ∷ h)) (sym c.listed) (at_home op h id refl w catalogue 32 old.catalogue refl refl refl s.sections);
      titles = looked_up op h id refl w title_held (λ y. option_map (λ (t : Titled). t.title) (section_at old y)) (λ y. option_map (λ (t : Titled). t.title) (section_at new y))
          (Some title) refl
          (record { here = ap (option_map (λ (t : Titled). t.title)) c.sections.here; others = λ y n. ap (option_map (λ (t : Titled). t.title)) (c.sections.others y n) }) s.titles;
      texts = λ y. elim (cases_id y id) [
        | inl d ↦ subst (λ z. IfSome (section_at new z) (λ (t : Titled). Lists (within z) (op ∷ h) t.text)) (sym d)
            (subst (λ o. IfSome o (λ (t : Titled). Lists (within id) (op ∷ h) t.text)) (sym c.sections.here) (no_text op h id w (unheld op h id refl w) (λ e. cc)))
        | inr n ↦ subst (λ o. IfSome o (λ (t : Titled). Lists (within y) (op ∷ h) t.text)) (sym (c.sections.others y n))
            (if_some (section_at old y) (λ (t : Titled). Lists (within y) h t.text) (λ (t : Titled). Lists (within y) (op ∷ h) t.text)
            (λ t l. elsewhere op h id refl w (within y) t.text (λ e. cc) l) (s.texts y))
      ];
      places = looked_up op h id refl w place_held (place_at old) (place_at new) (Some catalogue) refl c.places s.places;
    }

-- an element of a section came
pub text_stands : (old new : Contents) (h : List Op) (id section : Identifier) (left right : Option Identifier) (ch : ℕ)
    → Represents old h → verdict h (Text id section left right ch) ≡ Ready → AddsText old new section (record { id = id; left = left; right = right }) ch
    → Represents new (Text id section left right ch ∷ h)
text_stands old new h id section left right ch s ready c =
    let op : Op = Text id section left right ch in
    let w : Lawful (op ∷ h) = (ready, s.lawful) in
    let grow : Titled → Titled = λ t. record t { text = with_element (record { id = id; left = left; right = right }) ch t.text } in
    record {
      lawful = w;
      sections = subst (Lists catalogue (op ∷ h)) (sym c.listed) (elsewhere op h id refl w catalogue old.catalogue (λ e. cc) s.sections);
      titles = λ y. titles_stay (section_at old) (section_at new) section grow c.sections (λ t. refl) y ∙ s.titles y ∙ same_before op h id refl w title_held refl y;
      texts = each_text (section_at old) (section_at new) section grow c.sections (λ y t. Lists (within y) h t.text) (λ y t. Lists (within y) (op ∷ h) t.text)
          (λ t l. at_home op h id refl w (within section) ch t.text refl refl refl l)
          (λ y t n l. elsewhere op h id refl w (within y) t.text (λ e. let d : section ≡ y = cc in n (sym d)) l) s.texts;
      places = looked_up op h id refl w place_held (place_at old) (place_at new) (Some (within section)) refl c.places s.places;
    }

-- a note came: it stands in no place
pub note_stands : (m : Contents) (h : List Op) (id : Identifier) (named : List Identifier) (code : ℕ) (body : List ℕ)
    → Represents m h → verdict h (Note id named code body) ≡ Ready → Represents m (Note id named code body ∷ h)
note_stands m h id named code body s ready =
    let op : Op = Note id named code body in
    let w : Lawful (op ∷ h) = (ready, s.lawful) in
    record {
      lawful = w;
      sections = elsewhere op h id refl w catalogue m.catalogue (λ e. cc) s.sections;
      titles = λ y. s.titles y ∙ same_before op h id refl w title_held refl y;
      texts = λ y. if_some (section_at m y) (λ (t : Titled). Lists (within y) h t.text) (λ (t : Titled). Lists (within y) (op ∷ h) t.text)
          (λ t l. elsewhere op h id refl w (within y) t.text (λ e. cc) l) (s.texts y);
      places = λ y. s.places y ∙ same_before op h id refl w place_held refl y;
    }
