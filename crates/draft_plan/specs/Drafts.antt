-- What a draft says: a list of parts, each a title and a text. A draft, its lines, titles and texts are lists of bytes.
use Rattle.std.specs.Prelude.{ℕ, ◌+◌, nat_eq, Bool, false, if◌then◌else◌, not, ◌&&◌, ◌||◌, Option, Some, None, Result, Ok, Err, List, []}
use Rattle.std.specs.Prelude.{◌∷◌, ◌++◌, drop, flat_map, codes}
use Rattle.std.specs.List.{join_with_byte, list_any, onto_first, slice_split, starts_with}
use Rattle.std.specs.Str.{is_utf8}
use Rattle.catalogue_notes.specs.Claims.{is_title}

-- the text ends in LF
abbrev pub ends_in_line_feed : List ℕ → Bool
ends_in_line_feed [] = false
ends_in_line_feed (b ∷ []) = nat_eq b 10
ends_in_line_feed (b ∷ c ∷ bs) = ends_in_line_feed (c ∷ bs)

-- d where d is empty or ends in LF, and d with LF after it otherwise
abbrev pub with_last_line_end : List ℕ → List ℕ
with_last_line_end [] = []
with_last_line_end (b ∷ bs) = if ends_in_line_feed (b ∷ bs) then b ∷ bs else (b ∷ bs) ++ 10 ∷ []

-- a byte in front of the first line: LF ends an empty line
abbrev pub add_byte : ℕ → List (List ℕ) → List (List ℕ)
add_byte b lines = if nat_eq b 10 then [] ∷ lines else onto_first b lines

-- the pieces of a text up to and without each LF; after its last LF is one more where anything is left
abbrev pub pieces : List ℕ → List (List ℕ)
pieces [] = []
pieces (b ∷ bs) = add_byte b (pieces bs)

-- the lines of a draft
abbrev pub draft_lines : List ℕ → List (List ℕ)
draft_lines d = pieces (with_last_line_end d)

-- the line begins with a hash sign and a space
abbrev pub is_heading : List ℕ → Bool
is_heading line = starts_with nat_eq line (codes "# ")

-- what follows these two bytes
abbrev pub heading_title : List ℕ → List ℕ
heading_title line = drop 2 line

-- the line is not UTF-8, or it is a heading whose title is no Title
abbrev pub is_bad : List ℕ → Bool
is_bad line = not (is_utf8 line) || (is_heading line && not (is_title (heading_title line)))

-- the line of this number, from 1, is bad, or it is the first one and no heading
abbrev pub is_bad_at : ℕ → List ℕ → Bool
is_bad_at n line = is_bad line || (nat_eq n 1 && not (is_heading line))

-- the number of the first such line, where the first of these lines has the number n
abbrev pub first_bad : (n : ℕ) → List (List ℕ) → Option ℕ
first_bad n [] = None
first_bad n (line ∷ lines) = if is_bad_at n line then Some n else first_bad (n + 1) lines

-- a title, and the text under it
pub record Part : Type 0 where
  pub title : List ℕ
  pub text : List ℕ

-- the lines up to the next heading
abbrev pub before_heading : List (List ℕ) → List (List ℕ)
before_heading [] = []
before_heading (line ∷ lines) = if is_heading line then [] else line ∷ before_heading lines

-- a heading, and the lines after it up to the next heading, joined by LF
abbrev pub part_under : (heading : List ℕ) → (behind : List (List ℕ)) → Part
part_under heading behind = record { title = heading_title heading; text = join_with_byte 10 (before_heading behind) }

-- a line in front of others, of which the parts are known: each heading begins a part
abbrev pub add_line : (line : List ℕ) → (behind : List (List ℕ)) → List Part → List Part
add_line line behind parts = if is_heading line then part_under line behind ∷ parts else parts

-- the parts that the headings among these lines begin
abbrev pub parts_of : List (List ℕ) → List Part
parts_of [] = []
parts_of (line ∷ lines) = add_line line lines (parts_of lines)

-- what a draft says: its parts, or at which line it is bad
abbrev pub parts : List ℕ → Result (List Part) ℕ
parts d = elim (first_bad 1 (draft_lines d)) [ None ↦ Ok (parts_of (draft_lines d)) | Some line ↦ Err line ]

-- a hash sign, a space, the title, LF, the text, LF
abbrev pub part_form : Part → List ℕ
part_form p = codes "# " ++ p.title ++ 10 ∷ p.text ++ 10 ∷ []

-- the draft of a list of parts
abbrev pub form : List Part → List ℕ
form ps = flat_map part_form ps

-- a line of the text is a heading
abbrev pub has_heading : List ℕ → Bool
has_heading text = list_any is_heading (slice_split (λ b. nat_eq b 10) text)
