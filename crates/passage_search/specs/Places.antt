-- The places at which a passage stands in a text, in bytes.
use Rattle.std.specs.Prelude.{◌≡◌, ℕ, ◌<◌, List, filter, get_or, length}
use Rattle.std.specs.List.{range_with_len}
use Rattle.memchr.specs.Find.{occurs_at}
use Rattle.passage_search.specs.declared.places.Places.{Places}

-- the places of the text at which the passage stands, in order: they may overlap
abbrev pub places : (text passage : List ℕ) → List ℕ
places text passage = filter (occurs_at text passage) (range_with_len 0 (length text))

-- how many there are, and the first of them
pub record ArePlaces (text passage : List ℕ) (found : Places) : Type 0 where
  pub count_is : found.count ≡ length (places text passage)
  pub first_is : 0 < found.count → found.first ≡ get_or (places text passage) 0 0
