-- Which operations are comments that are listed, and the line of each: by look-ups, one operation after the other.
use Rattle.std.specs.Prelude.{◌≡◌, ◌≤◌, ℕ, suc, length, Option, Some, None, if◌then◌else◌, Result, Ok, Err, List, [], ◌∷◌, ◌++◌, decimal}
use Rattle.std.specs.Prelude.{flat_map, map, option_map, option_to_list, slice_get}
use Rattle.fugue_ids.specs.Identifiers.{Identifier, id_eq}
use Rattle.fugue_ids.specs.declared.limits.TheConstants.{MOST_OPERATIONS}
use Rattle.fugue_ids.specs.Outs.{OutView, WritesBytes}
use Rattle.fugue_ids.specs.declared.op.Op.{Op}
use Rattle.fugue_ids.specs.declared.op.Op.TheVariants.{Section, Text, Delete, Note}
use Rattle.fugue_ids.specs.declared.out.Failed.{Failed}
use Rattle.origin_model.specs.declared.operations.Place.TheVariants.{Catalogue as catalogue}
use Rattle.origin_model.specs.operations.History.{holder}
use Rattle.origin_model.specs.order.Printed.{is_withdrawn, shown}
use Rattle.section_catalogue.specs.Contents.{Contents}
use Rattle.section_catalogue.specs.Manuscript.{Represents}
use Rattle.margin_notes.specs.Comments.{Comment, by_id, comment_in, comments_in, is_in_section}
use Rattle.margin_notes.specs.Margins.{comment_line}
use Rattle.margin_notes.specs.declared.listing.Entry.{Entry}
use Rattle.margin_notes.specs.declared.printing.MarginFault.{MarginFault}
use Rattle.margin_notes.specs.declared.printing.MarginFault.TheVariants.{SinkFault, NoMemory}
use Rattle.margin_notes.specs.declared.reading.Anchors.{Anchors}

-- a comment without its text
abbrev pub anchors_of : Comment → Anchors
anchors_of c = record { id = c.id; first = c.first; last = c.last }

-- the section of a Text
abbrev pub text_section : Option Op → Option Identifier
text_section (Some (Text id section left right ch)) = Some section
text_section _ = None

-- the section that has a comment
abbrev pub commented_section : List Op → Comment → Option Identifier
commented_section h c = elim (text_section (holder h c.first)) [ None ↦ None | Some s ↦ if is_in_section h s c then Some s else None ]

-- a manuscript of no more operations than there may be
pub record HasFew (m : Contents) : Type 0 where
  pub history : List Op
  pub represents : Represents m history
  pub few : length history ≤ MOST_OPERATIONS

-- the number of a section among some, of which the first has the number k
abbrev pub number_from : ℕ → List Identifier → Identifier → Option ℕ
number_from k [] s = None
number_from k (x ∷ xs) s = if id_eq x s then Some k else number_from (suc k) xs s

-- the number of a shown section, from 1
abbrev pub section_number : List Op → Identifier → Option ℕ
section_number h s = number_from 1 (shown catalogue h) s

-- a line that is written: the number of its section, the identifier of its comment, and its bytes
pub record CommentLine : Type 0 where
  pub number : ℕ
  pub id : Identifier
  pub bytes : List ℕ

-- the line of a comment in the section with the number k
abbrev pub line_of_comment : List Op → ℕ → Identifier → Comment → CommentLine
line_of_comment h k s c = record { number = k; id = c.id; bytes = comment_line h k s c }

-- the line of a comment that is not withdrawn, where its section is shown
abbrev pub line_for : List Op → Comment → Option CommentLine
line_for h c = elim (commented_section h c) [ None ↦ None | Some s ↦ option_map (λ k. line_of_comment h k s c) (section_number h s) ]

-- the line of an operation, where it is a comment that is listed
abbrev pub listed_line : List Op → Op → Option CommentLine
listed_line h op = elim (comment_in op) [ None ↦ None | Some c ↦ if is_withdrawn h c.id then None else line_for h c ]

-- those of some operations
abbrev pub lines_in : List Op → List Op → List CommentLine
lines_in h ops = flat_map (λ op. option_to_list (listed_line h op)) ops

-- the lines of some sections, of which the first has the number k
abbrev pub listed_from : List Op → ℕ → List Identifier → List CommentLine
listed_from h k [] = []
listed_from h k (s ∷ ss) = map (line_of_comment h k s) (by_id (comments_in h s)) ++ listed_from h (suc k) ss

-- the lines of the shown sections
abbrev pub listed_comments : List Op → List CommentLine
listed_comments h = listed_from h 1 (shown catalogue h)

-- the body of a note
abbrev pub body_in : Op → List ℕ
body_in (Section id left right title) = []
body_in (Text id section left right ch) = []
body_in (Delete target) = []
body_in (Note id named code body) = body

-- the body of the Note, where the operation is one
abbrev pub body_of : Option Op → List ℕ
body_of None = []
body_of (Some op) = body_in op

-- the bytes of an entry: the text stands in the operation at its position
abbrev pub entry_bytes : List Op → Entry → List ℕ
entry_bytes ops e = decimal e.number ++ 32 ∷ decimal e.from ++ 32 ∷ decimal e.to ++ 32 ∷ body_of (slice_get ops e.at) ++ 10 ∷ []

-- the line that an entry stands for
abbrev pub line_of_entry : List Op → Entry → CommentLine
line_of_entry ops e = record { number = e.number; id = e.id; bytes = entry_bytes ops e }

-- the text goes out, or the output fails with a front of it gone out, or memory runs out and nothing went out
abbrev pub WritesMargins : OutView → OutView → Result (Unit {0}) MarginFault → List ℕ → Type 0
WritesMargins old new (Ok done) text = WritesBytes {E = Failed} {T = Unit {0}} old new (Ok done) text
WritesMargins old new (Err SinkFault) text = WritesBytes {E = Failed} {T = Unit {0}} old new (Err (record {})) text
WritesMargins old new (Err NoMemory) text = new ≡ old
