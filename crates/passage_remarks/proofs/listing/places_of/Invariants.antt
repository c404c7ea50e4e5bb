use Rattle.std.proofs.Common.{take, ◌≡◌}
use Rattle.std.specs.BTreeMap.{get}
use Rattle.fugue_ids.specs.Identifiers.{Identifier, id_cmp}
use Rattle.catalogue_notes.specs.Outlining.{entry_sections}
use Rattle.margin_notes.specs.Listing.{number_from}
use Rattle.passage_remarks.proofs.listing.places_of.Given as goal

-- the sections that were passed have their places
abbrev pub invariant-sections : goal.invariant-sections
invariant-sections l = (s : Identifier) → get id_cmp l.places s ≡ number_from 1 (take l.at (entry_sections l.sections)) s
