-- The shown sections listed as they are arranged.
use Rattle.std.specs.Prelude.{◌≡◌, Some, List, map, slice_get, string_bytes}
use Rattle.std.specs.List.{All}
use Rattle.std.specs.Str.{encode_utf8_all}
use Rattle.fugue_ids.specs.Identifiers.{Identifier}
use Rattle.fugue_ids.specs.declared.op.Op.{Op}
use Rattle.origin_model.specs.declared.operations.Place.TheVariants.{Catalogue as catalogue}
use Rattle.origin_model.specs.order.Printed.{shown}
use Rattle.catalogue_notes.specs.Arranged.{arranged, heading}
use Rattle.catalogue_notes.specs.declared.entry.Entry.{Entry}

-- an entry has its section's number in the catalogue, from 0, and its heading in UTF-8
pub record IsEntry (h : List Op) (e : Entry) : Type 0 where
  pub numbered : slice_get (shown catalogue h) e.number ≡ Some e.section
  pub headed : string_bytes e.heading ≡ encode_utf8_all (heading h e.section)

-- the sections of entries, in order
abbrev pub entry_sections : List Entry → List Identifier
entry_sections entries = map (λ (e : Entry). e.section) entries

-- the sections have one entry each, in their order
pub record AreEntries (h : List Op) (sections : List Identifier) (entries : List Entry) : Type 0 where
  pub listed : entry_sections entries ≡ sections
  pub each : All (IsEntry h) entries

-- each shown section has one entry, and they stand in the order of the arrangement
abbrev pub IsOutline : List Op → List Entry → Type 0
IsOutline h entries = AreEntries h (arranged h) entries
