-- No place has more elements than the history has operations.
use Rattle.std.proofs.Common.{List, ap, arith, length, ◌≤◌}
use Rattle.std.specs.Prelude.{None, Option, Some, IfSome, option_map}
use Rattle.std.proofs.lemmas.List.{length-map}
use Rattle.fugue_ids.specs.Identifiers.{Identifier}
use Rattle.fugue_ids.specs.declared.op.Op.{Op}
use Rattle.origin_model.specs.operations.History.{place}
use Rattle.origin_model.specs.declared.operations.Place.{Place}
use Rattle.origin_model.specs.declared.operations.Place.TheVariants.{Catalogue as catalogue, Section as within}
use Rattle.run_store.specs.declared.cell.Cell.{Cell}
use Rattle.section_list.specs.SectionList.{Listing}
use Rattle.section_catalogue.specs.declared.tables.Section.{Section as Titled}
use Rattle.section_catalogue.specs.Contents.{Contents, section_count_at, listed_count, place_count, section_at}
use Rattle.section_catalogue.specs.Place.{Lists}
use Rattle.origin_model.proofs.SharedLemmas.{order_bounded}
use Rattle.section_catalogue.specs.Manuscript.{Represents}

-- what lists a place has at most one member for each operation
listed_bounded : (p : Place) (h : List Op) (s : Listing) → Lists p h s → length s.cells ≤ length h
listed_bounded p h s l = omega (arith, ap length l.listed, length-map s.cells (λ (c : Cell). c.id), order_bounded p h)

-- a text that may be there
text_bounded : (s : Identifier) (h : List Op) (o : Option Titled) → IfSome o (λ (e : Titled). Lists (within s) h e.text)
    → listed_count (option_map (λ (e : Titled). e.text) o) ≤ length h
text_bounded s h None l = omega arith
text_bounded s h (Some e) l = listed_bounded (within s) h e.text l

-- no place has more elements than the history has operations, so where the history has room, each place has
pub places_bounded : (m : Contents) (h : List Op) (op : Op) → Represents m h → place_count m op ≤ length h
places_bounded m h op s = by_place (place op)
  where
    by_place : (o : Option Place) → (elim o [ None ↦ 0 | Some p ↦ section_count_at m p ]) ≤ length h
    by_place None = omega arith
    by_place (Some catalogue) = listed_bounded catalogue h m.catalogue s.sections
    by_place (Some (within x)) = text_bounded x h (section_at m x) (s.texts x)
