-- Who wrote the shown letters of each section, as it is arranged.
use Rattle.std.specs.Prelude.{ℕ, suc, List, [], ◌∷◌, ◌++◌, codes, decimal, flat_map, length}
use Rattle.fugue_ids.specs.Identifiers.{Identifier}
use Rattle.fugue_ids.specs.declared.op.Op.{Op}
use Rattle.origin_model.specs.declared.operations.Place.TheVariants.{Section as within}
use Rattle.origin_model.specs.order.Printed.{shown}
use Rattle.catalogue_notes.specs.Arranged.{arranged}
use Rattle.change_marks.specs.Stretches.{Stretch, by_replica}

-- the longest runs of shown letters that one replica made
abbrev pub passages : List Op → Identifier → List (Stretch ℕ)
passages h s = by_replica (shown (within s) h)

-- two spaces, the replica, a space, how many letters there are, LF
abbrev pub passage_line : (replica count : ℕ) → List ℕ
passage_line replica count = codes "  " ++ decimal replica ++ 32 ∷ decimal count ++ 10 ∷ []

-- the line of a passage that one author wrote
abbrev pub author_line : Stretch ℕ → List ℕ
author_line passage = passage_line passage.key (length passage.elements)

-- the place of a section, a space, its identifier, LF
abbrev pub section_line : (place : ℕ) → Identifier → List ℕ
section_line place s = decimal place ++ 32 ∷ decimal s.replica ++ codes "." ++ decimal s.counter ++ 10 ∷ []

-- what is reported of a section
abbrev pub section_authors : List Op → (place : ℕ) → Identifier → List ℕ
section_authors h place s = section_line place s ++ flat_map author_line (passages h s)

-- what is reported of sections, of which the first stands at the place
abbrev pub authors_from : List Op → (place : ℕ) → List Identifier → List ℕ
authors_from h place [] = []
authors_from h place (s ∷ ss) = section_authors h place s ++ authors_from h (suc place) ss

-- the lines of the authors of all sections, as they are printed
abbrev pub authors_text : List Op → List ℕ
authors_text h = authors_from h 1 (arranged h)
