-- How a passage is spelled in a word, in bytes: `\n` stands for LF, and `\\` for a backslash.
use Rattle.std.specs.Prelude.{◌≡◌, ◌≢◌, ℕ, nat_eq, if◌then◌else◌, List, [], ◌∷◌, codes, flat_map}

-- how a byte of a passage is written in a word
abbrev pub escaped_byte : ℕ → List ℕ
escaped_byte byte = if nat_eq byte 10 then codes "\\n" else if nat_eq byte 92 then codes "\\\\" else byte ∷ []

-- how a passage is written in a word
abbrev pub word_of_passage : (passage : List ℕ) → List ℕ
word_of_passage passage = flat_map escaped_byte passage

-- the word spells a passage that is not empty
pub record IsSpelled (word : List ℕ) : Type 0 where
  pub passage : List ℕ
  pub some : passage ≢ []
  pub word_is : word ≡ word_of_passage passage

-- the passage that a word spells: after a backslash an `n` stands for LF, and another byte for itself
unfoldable pub passage_of : (word : List ℕ) → List ℕ
passage_of [] = []
passage_of (byte ∷ []) = byte ∷ []
passage_of (byte ∷ next ∷ more) =
    if nat_eq byte 92 then (if nat_eq next 110 then 10 else next) ∷ passage_of more
    else byte ∷ passage_of (next ∷ more)
