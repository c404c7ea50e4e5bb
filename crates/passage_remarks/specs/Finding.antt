-- Where a passage stands in the arranged sections: each place is a section, and a byte of its text. Sections count from 0 in the catalogue.
use Rattle.std.specs.Prelude.{◌≡◌, ℕ, ◌+◌, ◌-◌, ◌^◌, min, Some, List, [], ◌∷◌, flat_map, length, map, slice_get}
use Rattle.std.specs.Str.{encode_utf8_all}
use Rattle.fugue_ids.specs.Identifiers.{Identifier}
use Rattle.fugue_ids.specs.declared.op.Op.{Op}
use Rattle.origin_model.specs.declared.operations.Place.TheVariants.{Catalogue as catalogue}
use Rattle.origin_model.specs.order.Printed.{shown, text}
use Rattle.catalogue_notes.specs.Arranged.{arranged}
use Rattle.cluster_text.specs.Clusters.{clusters}
use Rattle.margin_notes.specs.Commenting.{clusters_of}
use Rattle.passage_search.specs.Places.{places}
use Rattle.passage_search.specs.Spans.{clusters_spanned}
use Rattle.passage_search.specs.declared.span.Span.{Span}
use Rattle.passage_remarks.specs.declared.finding.Found.{Found}
use Rattle.passage_remarks.specs.declared.finding.Found.TheVariants.{Nowhere, Once, Often}
use Rattle.passage_remarks.specs.declared.finding.Spot.{Spot}

-- the places of a passage in a section, in order: they may overlap
abbrev pub section_places : List Op → (passage : List ℕ) → Identifier → List (Identifier × ℕ)
section_places h passage s = map (λ at. (s, at)) (places (encode_utf8_all (text h s)) passage)

-- the places in the sections, as these are arranged
abbrev pub passage_places : List Op → (passage : List ℕ) → List (Identifier × ℕ)
passage_places h passage = flat_map (section_places h passage) (arranged h)

-- the clusters that have bytes of the passage at a place
abbrev pub passage_span : List Op → (passage : List ℕ) → Identifier × ℕ → Span
passage_span h passage place = clusters_spanned (clusters_of h place.0) place.1 (place.1 + length passage)

-- how many there are, or the greatest number of 32 bits where they are more
abbrev pub reported_count : ℕ → ℕ
reported_count n = min n (2 ^ 32 - 1)

-- the place by the number of its section, and in clusters
pub record IsPassageSpot (h : List Op) (passage : List ℕ) (place : Identifier × ℕ) (spot : Spot) : Type 0 where
  pub numbered : slice_get (shown catalogue h) spot.section ≡ Some place.0
  pub spanned : spot.span ≡ passage_span h passage place

-- what is found, where those are the places
abbrev pub AreFoundAt : List Op → (passage : List ℕ) → List (Identifier × ℕ) → Found → Type 0
AreFoundAt h passage [] found = found ≡ Nowhere
AreFoundAt h passage (place ∷ []) found = (spot : Spot) × (found ≡ Once spot) × IsPassageSpot h passage place spot
AreFoundAt h passage (place ∷ next ∷ more) found = found ≡ Often (reported_count (length (place ∷ next ∷ more)))

-- what is found in the text of the section with this number, by the places in it
abbrev pub found_in_section : (section : ℕ) → (text passage : List ℕ) → List ℕ → Found
found_in_section section text passage [] = Nowhere
found_in_section section text passage (at ∷ []) =
    Once (record { section = section; span = clusters_spanned (clusters text) at (at + length passage) })
found_in_section section text passage (at ∷ next ∷ more) = Often (reported_count (length (at ∷ next ∷ more)))

-- how many times a passage was found
abbrev pub found_count : Found → ℕ
found_count Nowhere = 0
found_count (Once spot) = 1
found_count (Often count) = count

-- what is found in two parts
abbrev pub found_together : Found → Found → Found
found_together Nowhere b = b
found_together (Once spot) Nowhere = Once spot
found_together (Often count) Nowhere = Often count
found_together (Once spot) (Once next) = Often (reported_count 2)
found_together (Once spot) (Often more) = Often (reported_count (1 + more))
found_together (Often count) (Once next) = Often (reported_count (count + 1))
found_together (Often count) (Often more) = Often (reported_count (count + more))
