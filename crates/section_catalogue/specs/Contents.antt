-- A manuscript as contracts see it, and look-ups in it.
use Rattle.std.specs.Prelude.{Option, Some, None, ℕ, List, length, map, option_map}
use Rattle.std.specs.BTreeMap.{is_at}
use Rattle.std.specs.FinMap.{FinMap, entries}
use Rattle.std.specs.Map.{lookup}
use Rattle.fugue_ids.specs.Identifiers.{Identifier, id_cmp}
use Rattle.fugue_ids.specs.declared.op.Op.{Op}
use Rattle.origin_model.specs.operations.History.{place}
use Rattle.origin_model.specs.declared.operations.Place.{Place}
use Rattle.origin_model.specs.declared.operations.Place.TheVariants.{Catalogue as catalogue, Section as within}
use Rattle.section_list.specs.SectionList.{Listing}
use Rattle.section_catalogue.specs.declared.homes.Home.{Home}
use Rattle.section_catalogue.specs.declared.tables.Section.{Section as Titled}
use Rattle.section_catalogue.specs.declared.tables.Tables.{Tables}

-- what contracts see of a manuscript
pub record Contents : Type 0 where
  -- the sections in order, each with a space for its scalar
  pub catalogue : Listing
  -- the title and the text of each section
  pub sections : List (Identifier × Titled)
  -- the place of each element
  pub places : List (Identifier × Place)

-- the places of elements, by their identifiers
abbrev pub places_of : FinMap id_cmp Home → List (Identifier × Place)
places_of homes = map (λ e. (e.0, e.1.place)) (entries homes)

-- what the tables keep
abbrev pub contents_of : Tables → Contents
contents_of t = record { catalogue = t.catalogue; sections = t.sections.entries; places = places_of t.places.values }

-- what entries have at an identifier
abbrev pub entry_at : {X : Type 0} → List (Identifier × X) → Identifier → Option X
entry_at entries x = lookup (is_at (id_cmp x)) entries

-- the title and the text of a section
abbrev pub section_at : Contents → Identifier → Option Titled
section_at m s = entry_at m.sections s

-- the text of a section
abbrev pub text_at : Contents → Identifier → Option Listing
text_at m s = option_map (λ (e : Titled). e.text) (section_at m s)

-- the place of an element
abbrev pub place_at : Contents → Identifier → Option Place
place_at m x = entry_at m.places x

-- how many elements a text that may be there has, hidden ones too
abbrev pub listed_count : Option Listing → ℕ
listed_count None = 0
listed_count (Some s) = length s.cells

-- how many elements a place has, hidden ones too
abbrev pub section_count_at : Contents → Place → ℕ
section_count_at m catalogue = length m.catalogue.cells
section_count_at m (within s) = listed_count (text_at m s)

-- how many elements the place of an operation's element has
abbrev pub place_count : Contents → Op → ℕ
place_count m op = elim (place op) [ None ↦ 0 | Some p ↦ section_count_at m p ]
