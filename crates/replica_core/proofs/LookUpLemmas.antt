-- What is shown of a section is there, and an element stands in the list of its place.
use Rattle.std.proofs.Common.{◌≡◌, ◌∙◌, subst, sym, ℕ, List}
use Rattle.std.specs.Prelude.{Option, Some, None, IfNone, IfSome, IsSome, option_map, slice_get}
use Rattle.fugue_ids.specs.Identifiers.{Identifier}
use Rattle.fugue_ids.specs.declared.op.Op.{Op}
use Rattle.origin_model.specs.order.Printed.{shown}
use Rattle.origin_model.specs.declared.operations.Place.TheVariants.{Catalogue as catalogue, Section as within}
use Rattle.origin_model.proofs.edits.PutLemmas.{shown_in}
use Rattle.section_list.specs.SectionList.{Listing}
use Rattle.section_catalogue.specs.Contents.{Contents, place_at, section_at, text_at}
use Rattle.section_catalogue.specs.Manuscript.{IsTextOf, Represents}
use Rattle.section_catalogue.specs.declared.tables.Section.{Section as Titled}
use Rattle.section_catalogue.proofs.ConditionLemmas.{held_at}
use Rattle.section_catalogue.proofs.HolderLemmas.{is_in}
use Rattle.section_catalogue.proofs.ShownLemmas.{look_ups_agree}
use Rattle.replica_core.specs.Withdrawn.{StandsIn}

-- what has an image is there
pub some_from_map : {X Y : Type 0} (f : X → Y) (o : Option X) → IsSome (option_map f o) → IsSome o
some_from_map f None there = there
some_from_map f (Some x) there = there

-- a section that is shown has a text
pub shown_has_text : {X : Type 0} (m : Contents) (h : List Op) (k : ℕ) (s : Identifier) (f : X → Listing) (found : Option X) → Represents m h
    → slice_get (shown catalogue h) k ≡ Some s → option_map f found ≡ text_at m s → IsSome found
shown_has_text m h k s f found represents at is =
    some_from_map f found (subst (λ (o : Option Listing). IsSome o) (sym is) (((look_ups_agree m h represents).there s).1 (shown_in catalogue h k s represents.lawful at)))

-- which is that of the definitions
pub text_found : (m : Contents) (h : List Op) (s : Identifier) (text : Listing) → Represents m h → Some text ≡ text_at m s → IsTextOf s h text
text_found m h s text represents is = subst (λ (o : Option Listing). IfSome o (IsTextOf s h)) (sym is) ((look_ups_agree m h represents).section_is s)

-- an element of the catalogue stands in its list
pub stands_in_catalogue : (m : Contents) (h : List Op) (x : Identifier) → Represents m h → place_at m x ≡ Some catalogue → StandsIn h x m.catalogue
stands_in_catalogue m h x represents at =
    record { place = catalogue; inside = is_in catalogue h x (sym (represents.places x) ∙ at); listed = (look_ups_agree m h represents).catalogue_is }

-- one of a section in the list of that
module _ {X : Type 0} (m : Contents) (h : List Op) (x s : Identifier) (f : X → Listing) (represents : Represents m h) (at : place_at m x ≡ Some (within s)) where
  pub stands_in_section : (found : Option X) → option_map f found ≡ text_at m s → IfSome found (λ l. StandsIn h x (f l))
  stands_in_section None is = tt
  stands_in_section (Some l) is =
      record { place = within s; inside = is_in (within s) h x (sym (represents.places x) ∙ at); listed = (text_found m h s (f l) represents is).place }

  -- which is there
  pub never_without : (Q : Type 0) (found : Option X) → option_map f found ≡ text_at m s → IfNone found Q
  never_without Q None is = none_there (section_at m s) (held_at m h (within s) x represents at).there is
    where
      none_there : (o : Option Titled) → IsSome o → None ≡ option_map (λ (e : Titled). e.text) o → Q
      none_there None there is = cc
      none_there (Some e) there is = cc
  never_without Q (Some l) is = tt
