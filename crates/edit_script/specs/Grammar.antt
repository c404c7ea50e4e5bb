-- The lines of a script, and what each asks for.
use Rattle.std.specs.Prelude.{◌≡◌, ◌≢◌, ◌⊎◌, ℕ, ◌+◌, ◌<◌, ◌^◌, ◌==◌, true, Option, Some, None, length, List, [], ◌∷◌, ◌++◌, All, codes}
use Rattle.std.specs.Prelude.{decimal, encode_utf8, encode_utf8_all, if◌then◌else◌}
use Rattle.std.specs.List.{flat_map, join_with_byte, slice_split}
use Rattle.std.specs.Str.{IsUtf8, all_scalars}
use Rattle.fugue_ids.specs.Titles.{IsTitleText}
use Rattle.origin_model.specs.edits.Edits.{Command, Put, Cut, Add, DropSection}

-- the lines of a script: what stands between its LFs. After a last LF stands an empty line, which asks for nothing
abbrev pub lines : List ℕ → List (List ℕ)
lines script = slice_split (λ byte. byte == 10) script

-- the first line of a script, and what stands after its LF, where it has one
abbrev pub BeginsWith : (script line : List ℕ) → Option (List ℕ) → Type 0
BeginsWith script line None = lines script ≡ line ∷ []
BeginsWith script line (Some behind) = (lines script ≡ line ∷ lines behind) × (length script ≡ length line + 1 + length behind)

-- words with one space between them
abbrev pub with_single_spaces : List (List ℕ) → List ℕ
with_single_spaces words = join_with_byte 32 words

-- a word
abbrev pub HasNoSpace : List ℕ → Type 0
HasNoSpace word = All (λ byte. byte ≢ 32) word

-- a line that asks for nothing: it is empty, or begins with a hash sign
pub record IsNote (line : List ℕ) : Type 0 where
  pub utf8 : IsUtf8 line
  pub begins : (line ≡ []) ⊎ ((rest : List ℕ) × (line ≡ codes "#" ++ rest))

-- a scalar as a text has it: LF is `\n`, and a backslash is two
abbrev pub escaped_scalar : ℕ → List ℕ
escaped_scalar ch = if ch == 10 then codes "\\n" else if ch == 92 then codes "\\\\" else encode_utf8 ch

-- the line that asks for an edit by places in clusters. Sections count from 1 there, and so does the place of an add
abbrev pub command_line : Command → List ℕ
command_line (Add at title) = with_single_spaces (codes "add" ∷ decimal (at + 1) ∷ encode_utf8_all title ∷ [])
command_line (Put k at new) = with_single_spaces (codes "put" ∷ decimal (k + 1) ∷ decimal at ∷ flat_map escaped_scalar new ∷ [])
command_line (Cut k at n) = with_single_spaces (codes "cut" ∷ decimal (k + 1) ∷ decimal at ∷ decimal n ∷ [])
command_line (DropSection k) = with_single_spaces (codes "drop" ∷ decimal (k + 1) ∷ [])

-- the edit can be written: its line's numbers are at most 4,294,967,295, its title is one, and its text has scalars, one at least
abbrev pub IsWritable : Command → Type 0
IsWritable (Add at title) = (at + 1 < 2 ^ 32) × (all_scalars title ≡ true) × IsTitleText (encode_utf8_all title)
IsWritable (Put k at new) = (k + 1 < 2 ^ 32) × (at < 2 ^ 32) × (all_scalars new ≡ true) × (new ≢ [])
IsWritable (Cut k at n) = (k + 1 < 2 ^ 32) × (at < 2 ^ 32) × (n < 2 ^ 32)
IsWritable (DropSection k) = k + 1 < 2 ^ 32

-- the line asks for the edit
pub record Asks (line : List ℕ) (command : Command) : Type 0 where
  pub writable : IsWritable command
  pub line_is : line ≡ command_line command

-- the line is no note line, and asks for no edit
pub record IsFaultyLine (line : List ℕ) : Type 0 where
  pub no_note : ¬ (IsNote line)
  pub no_edit : (command : Command) → ¬ (Asks line command)
