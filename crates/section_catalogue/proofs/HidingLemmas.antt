-- A manuscript that stands for a history stands for it with one element hidden.
use Rattle.std.proofs.Common.{List, ap, false, inl, inr, refl, subst, sym, true, ◌∙◌, ◌∷◌, ◌≡◌, ◌≢◌, ◌||◌}
use Rattle.std.specs.Prelude.{if◌then◌else◌, IfSome, None, Some, is_some, option_map}
use Rattle.std.proofs.lemmas.Bool.{cases_Bool}
use Rattle.fugue_ids.specs.Identifiers.{Identifier, id_eq}
use Rattle.fugue_ids.proofs.IdentifierLemmas.{cases_id, eq-id_eq, ne-id_eq}
use Rattle.fugue_ids.specs.declared.op.Op.{Op}
use Rattle.fugue_ids.specs.declared.op.Op.TheVariants.{Delete}
use Rattle.origin_model.specs.sides.Node.{nodes}
use Rattle.origin_model.specs.operations.History.{holder, holds, place}
use Rattle.origin_model.specs.order.Order.{order}
use Rattle.origin_model.specs.order.Printed.{is_hidden}
use Rattle.origin_model.specs.operations.Verdict.{Lawful, verdict}
use Rattle.origin_model.specs.declared.operations.Verdict.TheVariants.{Ready}
use Rattle.origin_model.specs.declared.operations.Place.{Place}
use Rattle.origin_model.specs.declared.operations.Place.TheVariants.{Catalogue as catalogue, Section as within}
use Rattle.run_store.specs.Cells.{cell_hiding}
use Rattle.run_store.specs.declared.cell.Cell.{Cell}
use Rattle.section_list.specs.SectionList.{Listing, with_hidden}
use Rattle.section_catalogue.specs.declared.tables.Section.{Section as Titled}
use Rattle.section_catalogue.specs.Changes.{HidesAt, HidesSection, HidesText}
use Rattle.section_catalogue.specs.Contents.{Contents, place_at, section_at}
use Rattle.section_catalogue.specs.Place.{IsCellIn, Lists, place_held, scalar_held, title_held}
use Rattle.section_catalogue.specs.Manuscript.{Hides, Represents, once_hidden}
use Rattle.origin_model.proofs.SharedLemmas.{shown_can_go, target_is_shown}
use Rattle.section_catalogue.proofs.HolderLemmas.{has_holder, nodes-other, order-other}
use Rattle.section_catalogue.proofs.ListingLemmas.{hidden, unmoved}
use Rattle.section_catalogue.proofs.TextLemmas.{each_text, if_some, titles_stay}

-- the history is as before, but for x, which is hidden
record IsHiding (x : Identifier) (h now : List Op) : Type 0 where
  lawful : Lawful now
  holders : (y : Identifier) → holder now y ≡ holder h y
  nodes : (q : Place) → nodes q now ≡ nodes q h
  orders : (q : Place) → order q now ≡ order q h
  hides : (y : Identifier) → is_hidden now y ≡ (id_eq x y || is_hidden h y)

-- where x is hidden already
already : (x : Identifier) (h : List Op) → Lawful h → is_hidden h x ≡ true → IsHiding x h h
already x h w e =
    record {
      lawful = w;
      holders = λ y. refl;
      nodes = λ q. refl;
      orders = λ q. refl;
      hides = λ y. elim (cases_id x y) [
        | inl d ↦ ap (is_hidden h) (sym d) ∙ e ∙ sym (ap (λ b. b || is_hidden h y) (eq-id_eq x y d))
        | inr n ↦ sym (ap (λ b. b || is_hidden h y) (ne-id_eq x y n))
      ];
    }

-- a Delete stands nowhere
nowhere : (x : Identifier) (q : Place) → place (Delete x) ≢ Some q
nowhere x q e = cc

-- where a Delete of x comes
newly : (x : Identifier) (h : List Op) → Lawful h → holds h x ≡ true → is_hidden h x ≡ false → IsHiding x h (Delete x ∷ h)
newly x h w k e =
    record {
      lawful = (shown_can_go h x k e, w);
      holders = λ y. refl;
      nodes = λ q. nodes-other q (Delete x) h (nowhere x q);
      orders = λ q. order-other q (Delete x) h (nowhere x q);
      hides = λ y. refl;
    }

-- the history with x hidden once
once : (x : Identifier) (h : List Op) → Lawful h → holds h x ≡ true → IsHiding x h (once_hidden x h)
once x h w k =
    elim (cases_Bool (is_hidden h x)) [
      | inl e ↦ subst (IsHiding x h) (sym (ap (λ b. if b then h else Delete x ∷ h) e)) (already x h w e)
      | inr e ↦ subst (IsHiding x h) (sym (ap (λ b. if b then h else Delete x ∷ h) e)) (newly x h w k e)
    ]

module _ (x : Identifier) (h now : List Op) (k : IsHiding x h now) where
  -- another cell stays
  cell-other : (c : Cell) → c.id ≢ x → IsCellIn h c → IsCellIn now c
  cell-other c n o = record {
    ch = o.ch ∙ ap scalar_held (sym (k.holders c.id));
    hidden = o.hidden ∙ sym (k.hides c.id ∙ ap (λ b. b || is_hidden h c.id) (ne-id_eq x c.id (λ d. n (sym d))));
  }

  -- each cell, and the one of x hidden
  cell-hidden : (c : Cell) → IsCellIn h c → IsCellIn now (cell_hiding x c)
  cell-hidden c o =
      elim (cases_id c.id x) [
        | inl d ↦ subst (λ b. IsCellIn now (if b then record c { hidden = true } else c)) (sym (eq-id_eq c.id x d)) (record {
          ch = o.ch ∙ ap scalar_held (sym (k.holders c.id));
          hidden = sym (k.hides c.id ∙ ap (λ b. b || is_hidden h c.id) (eq-id_eq x c.id (sym d)));
        })
        | inr n ↦ subst (λ b. IsCellIn now (if b then record c { hidden = true } else c)) (sym (ne-id_eq c.id x n)) (cell-other c n o)
      ]

  -- the place of x
  at_home : (p : Place) (s : Listing) → Lists p h s → Lists p now (with_hidden x s)
  at_home p s l = hidden p h now x s l (k.nodes p) (k.orders p) cell-hidden

  -- another place
  elsewhere : (q : Place) (s : Listing) → Lawful h → place_held (holder h x) ≢ Some q → Lists q h s → Lists q now s
  elsewhere q s w n l = unmoved q h now x s w l n (k.nodes q) (k.orders q) cell-other

  -- where the place of x is the catalogue
  section_hidden : (old new : Contents) → Represents old h → place_held (holder h x) ≡ Some catalogue → HidesSection old new x → Represents new now
  section_hidden old new s p c =
      record {
        lawful = k.lawful;
        sections = subst (Lists catalogue now) (sym c.listed) (at_home catalogue old.catalogue s.sections);
        titles = λ y. ap (option_map (λ (t : Titled). t.title)) (c.sections y) ∙ s.titles y ∙ ap title_held (sym (k.holders y));
        texts = λ y. subst (λ o. IfSome o (λ (t : Titled). Lists (within y) now t.text)) (sym (c.sections y))
            (if_some (section_at old y) (λ (t : Titled). Lists (within y) h t.text) (λ (t : Titled). Lists (within y) now t.text)
            (λ t l. elsewhere (within y) t.text s.lawful (λ e. cc) l) (s.texts y));
        places = λ y. c.places y ∙ s.places y ∙ ap place_held (sym (k.holders y));
      }

  -- where it is a section
  text_hidden : (old new : Contents) (section : Identifier) → Represents old h → place_held (holder h x) ≡ Some (within section) → HidesText old new section x → Represents new now
  text_hidden old new section s p c =
      let hide : Titled → Titled = λ t. record t { text = with_hidden x t.text } in
      record {
        lawful = k.lawful;
        sections = subst (Lists catalogue now) (sym c.listed) (elsewhere catalogue old.catalogue s.lawful (λ e. cc) s.sections);
        titles = λ y. titles_stay (section_at old) (section_at new) section hide c.sections (λ t. refl) y ∙ s.titles y ∙ ap title_held (sym (k.holders y));
        texts = each_text (section_at old) (section_at new) section hide c.sections (λ y t. Lists (within y) h t.text) (λ y t. Lists (within y) now t.text)
            (λ t l. at_home (within section) t.text l)
            (λ y t n l. elsewhere (within y) t.text s.lawful (λ e. let d : section ≡ y = cc in n (sym d)) l) s.texts;
        places = λ y. c.places y ∙ s.places y ∙ ap place_held (sym (k.holders y));
      }

-- an element is hidden in its place
pub stands_hidden : (old new : Contents) (p : Place) (x : Identifier) → place_at old x ≡ Some p → HidesAt old new p x → Hides old new x
stands_hidden old new catalogue x e c h s =
    let p : place_held (holder h x) ≡ Some catalogue = sym (s.places x) ∙ e in
    section_hidden x h (once_hidden x h) (once x h s.lawful (ap is_some ((has_holder catalogue (holder h x) p).1))) old new s p c
stands_hidden old new (within section) x e c h s =
    let p : place_held (holder h x) ≡ Some (within section) = sym (s.places x) ∙ e in
    text_hidden x h (once_hidden x h) (once x h s.lawful (ap is_some ((has_holder (within section) (holder h x) p).1))) old new section s p c

-- a Delete of what stands in no place hides nothing
pub stands_withdrawn : (m : Contents) (x : Identifier) (h : List Op) → place_at m x ≡ None → Represents m h → verdict h (Delete x) ≡ Ready → Represents m (Delete x ∷ h)
stands_withdrawn m x h e s ready =
    let t = target_is_shown h x ready in
    let now : List Op = Delete x ∷ h in
    let k : IsHiding x h now = newly x h s.lawful t.0 t.1 in
    let none : place_held (holder h x) ≡ None = sym (s.places x) ∙ e in
    let apart : (q : Place) → place_held (holder h x) ≢ Some q = λ q d. cc (none, d) in
    record {
      lawful = k.lawful;
      sections = elsewhere x h now k catalogue m.catalogue s.lawful (apart catalogue) s.sections;
      titles = λ y. s.titles y ∙ ap title_held (sym (k.holders y));
      texts = λ y. if_some (section_at m y) (λ (t : Titled). Lists (within y) h t.text) (λ (t : Titled). Lists (within y) now t.text)
          (λ t l. elsewhere x h now k (within y) t.text s.lawful (apart (within y)) l) (s.texts y);
      places = λ y. s.places y ∙ ap place_held (sym (k.holders y));
    }
