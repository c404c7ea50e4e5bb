-- What the steps of a manuscript ask, from a history that it stands for.
use Rattle.std.proofs.Common.{List, [], ap, false, inl, inr, refl, subst, sym, true, ℕ, ◌∙◌, ◌∷◌, ◌≡◌}
use Rattle.std.specs.Prelude.{IsSome, None, Option, Some, is_some, option_map}
use Rattle.std.proofs.lemmas.Bool.{cases_Bool, true≢false}
use Rattle.fugue_ids.specs.Identifiers.{Identifier}
use Rattle.fugue_ids.specs.Ops.{id_of, key_of}
use Rattle.fugue_ids.specs.declared.op.OpKey.TheVariants.{Target}
use Rattle.fugue_ids.proofs.IdentifierLemmas.{origin_eq-true}
use Rattle.fugue_ids.specs.declared.op.Op.{Op}
use Rattle.fugue_ids.specs.declared.op.Op.TheVariants.{Text, Delete}
use Rattle.origin_model.specs.order.Laws.{IsIn}
use Rattle.origin_model.specs.sides.Node.{IsNew, has_node, nodes}
use Rattle.origin_model.specs.operations.History.{holder, holds, is_own, place}
use Rattle.origin_model.specs.operations.Verdict.{Lawful, verdict}
use Rattle.origin_model.specs.declared.operations.Place.{Place}
use Rattle.origin_model.specs.declared.operations.Place.TheVariants.{Catalogue as catalogue, Section as within}
use Rattle.origin_model.specs.declared.operations.Verdict.TheVariants.{Ready}
use Rattle.section_list.specs.SectionList.{Listing}
use Rattle.section_catalogue.specs.declared.tables.Section.{Section as Titled}
use Rattle.section_catalogue.specs.Changes.{IsElementAt}
use Rattle.section_catalogue.specs.Contents.{Contents, place_at, section_at}
use Rattle.section_catalogue.specs.Place.{Lists, place_held, title_held}
use Rattle.section_catalogue.specs.Manuscript.{IsReadyOn, Represents}
use Rattle.origin_model.proofs.SharedLemmas.{holder-other, holder-own, order_by_nodes, ready_is_new, section_first, stands_element}
use Rattle.section_catalogue.proofs.HolderLemmas.{is_in, none_held}
use Rattle.section_catalogue.proofs.ListingLemmas.{is_new, node_alike, node_of}
use Rattle.section_catalogue.proofs.ShownLemmas.{titled}
use Rattle.section_catalogue.proofs.TextLemmas.{if_some}

-- a section stays in the catalogue
stays_in : (op : Op) (older : List Op) (s : Identifier) → Lawful (op ∷ older) → IsIn catalogue older s → IsIn catalogue (op ∷ older) s
stays_in op older s w i =
    elim (cases_Bool (is_own s op)) [
      | inl k ↦ absurd (true≢false (sym (ap is_some i.held) ∙ ready_is_new older op s w.0 (origin_eq-true (id_of op) (Some s) k)))
      | inr k ↦ record { op = i.op; held = holder-other op older s k ∙ i.held; place = i.place }
    ]

-- the section of each element is in the catalogue
section_there : (h : List Op) (x s : Identifier) → Lawful h → place_held (holder h x) ≡ Some (within s) → IsIn catalogue h s
section_there [] x s w e = cc
section_there (op ∷ older) x s w e =
    elim (cases_Bool (is_own x op)) [
      | inl k ↦
          let here : holder (op ∷ older) x ≡ Some op = holder-own op older x k in
          stays_in op older s w (section_first older op s w.0 (sym (ap place_held here) ∙ e))
      | inr k ↦
          let past : holder (op ∷ older) x ≡ holder older x = holder-other op older x k in
          stays_in op older s w (section_there older x s w.1 (sym (ap place_held past) ∙ e))
    ]

-- what has a title is there
is_there : (o : Option Titled) (t : List ℕ) → option_map (λ (e : Titled). e.title) o ≡ Some t → IsSome o
is_there None t e = cc
is_there (Some x) t e = refl

-- what has no title is not there
not_there : (o : Option Titled) → option_map (λ (e : Titled). e.title) o ≡ None → o ≡ None
not_there None e = refl
not_there (Some x) e = cc

-- a section of the catalogue is there
entry_there : (m : Contents) (h : List Op) (s : Identifier) → Represents m h → IsIn catalogue h s → IsSome (section_at m s)
entry_there m h s k i =
    let n = titled i.op s i.place in
    is_there (section_at m s) n.0 (k.titles s ∙ ap title_held i.held ∙ n.1)

-- a place holds the elements that it has
pub held_at : (m : Contents) (h : List Op) (p : Place) (x : Identifier) → Represents m h → place_at m x ≡ Some p → IsElementAt m p x
held_at m h catalogue x k e =
    node_alike m.catalogue.nodes (nodes catalogue h) k.sections.same_nodes x
    ∙ ((order_by_nodes catalogue h k.lawful).same_members x).0 (is_in catalogue h x (sym (k.places x) ∙ e))
held_at m h (within s) x k e =
    let p : place_held (holder h x) ≡ Some (within s) = sym (k.places x) ∙ e in
    let member : has_node (nodes (within s) h) x ≡ true = ((order_by_nodes (within s) h k.lawful).same_members x).0 (is_in (within s) h x p) in
    record {
      there = entry_there m h s k (section_there h x s k.lawful p);
      held = if_some (section_at m s) (λ (t : Titled). Lists (within s) h t.text) (λ (t : Titled). has_node t.text.nodes x ≡ true)
          (λ t l. node_alike t.text.nodes (nodes (within s) h) l.same_nodes x ∙ member) (k.texts s);
    }

-- the condition, of what the manuscript keeps and of the operation's case
pub ready_here : (old now : Contents) (op o : Op) → old ≡ now → op ≡ o → IsReadyOn now op → IsReadyOn old o
ready_here old now op o v e r = record {
  history = r.history;
  represents = subst (λ m. Represents m r.history) (sym v) r.represents;
  ready = subst (λ z. verdict r.history z ≡ Ready) e r.ready;
}

-- an operation that is Ready
module _ (m : Contents) (op : Op) (x : Identifier) (own : id_of op ≡ Some x) (r : IsReadyOn m op) where
  unheld : holds r.history x ≡ false
  unheld = ready_is_new r.history op x r.ready own

  -- its element has no section
  pub no_entry : section_at m x ≡ None
  no_entry = not_there (section_at m x) (r.represents.titles x ∙ ap title_held (none_held (holder r.history x) unheld))

  -- nor a place
  pub no_place : place_at m x ≡ None
  no_place = r.represents.places x ∙ ap place_held (none_held (holder r.history x) unheld)

  -- and its node is new in its place
  pub new_in : (p : Place) (s : Listing) → place op ≡ Some p → Lists p r.history s → IsNew s.nodes (node_of op x)
  new_in p s e l = is_new p op r.history x s (r.ready, r.represents.lawful) (stands_element p op e ∙ own) l

-- the section of a Text that is Ready is there
pub section_of : (m : Contents) (id section : Identifier) (left right : Option Identifier) (ch : ℕ) → IsReadyOn m (Text id section left right ch) → IsSome (section_at m section)
section_of m id section left right ch r = entry_there m r.history section r.represents (section_first r.history (Text id section left right ch) section r.ready refl)

-- an operation with the target x is the Delete of x
pub target_delete : (op : Op) (x : Identifier) → key_of op ≡ Target x → op ≡ Delete x
target_delete (Delete y) x e = let same : y ≡ x = cc in ap Delete same
target_delete _ x e = cc

-- a manuscript has a place for each element of the histories that it stands for, so it can hide each
pub held_has_place : (m : Contents) (h : List Op) (x : Identifier) (op : Op) → Represents m h → holder h x ≡ Some op → IsSome (place op) → IsSome (place_at m x)
held_has_place m h x op s held placed = subst IsSome (sym (s.places x ∙ ap place_held held)) placed
