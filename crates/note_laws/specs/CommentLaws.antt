-- Laws of comments: by the set of the operations; in a lawful part of a history, as an older state of a file is, or
-- another author's file that was merged; and by sections.
use Rattle.std.specs.Prelude.{◌≡◌, ◌↔◌, Some, Bool, true, false, not, List, filter}
use Rattle.std.specs.List.{Contains}
use Rattle.fugue_ids.specs.Identifiers.{Identifier}
use Rattle.fugue_ids.specs.declared.op.Op.{Op}
use Rattle.origin_model.specs.declared.operations.Place.{Place}
use Rattle.origin_model.specs.operations.History.{has_op, holds}
use Rattle.origin_model.specs.operations.Verdict.{Lawful}
use Rattle.origin_model.specs.order.Laws.{IsIn, IsPartOf, SameOps}
use Rattle.origin_model.specs.order.Printed.{is_hidden, is_withdrawn}
use Rattle.margin_notes.specs.Comments.{Comment, by_id, comment_in, comments_in, is_in_section}
use Rattle.margin_notes.specs.Listing.{commented_section}
use Rattle.margin_notes.specs.Margins.{margins, passage, margin_span}
use Rattle.passage_remarks.specs.Remarks.{remarks, remarks_text}

-- the same comments, in the same sections, with the same spans; and the same is written of them
pub record HasSameComments (a b : List Op) : Type 0 where
  pub same_sections : (s : Identifier) (c : Comment) → is_in_section a s c ≡ is_in_section b s c
  pub same_comments : (s : Identifier) → by_id (comments_in a s) ≡ by_id (comments_in b s)
  pub same_spans : (s : Identifier) (c : Comment) → is_in_section a s c ≡ true
      → margin_span a s c.first c.last ≡ margin_span b s c.first c.last
  pub same_margins : margins a ≡ margins b
  pub same_remarks : remarks a ≡ remarks b
  pub same_text : remarks_text a ≡ remarks_text b

-- the set of the operations fixes all of them
abbrev pub CommentsBySet : Type 0
CommentsBySet = (a b : List Op) → Lawful a → Lawful b → SameOps a b → HasSameComments a b

-- the elements from a to b in a part are those in the whole, less what the part lacks
abbrev pub PassageInPart : Type 0
PassageInPart =
    (p : Place) (part whole : List Op) (a b : Identifier) → Lawful part → Lawful whole → IsPartOf part whole → IsIn p part a → IsIn p part b
    → passage p part a b ≡ filter (holds part) (passage p whole a b)

-- x is visible
abbrev pub is_visible : List Op → Identifier → Bool
is_visible h x = not (is_hidden h x)

-- and what the part shows of them is what the whole shows of them, but for what is deleted in the whole alone
abbrev pub ShownInPart : Type 0
ShownInPart =
    (p : Place) (part whole : List Op) (a b : Identifier) → Lawful part → Lawful whole → IsPartOf part whole → IsIn p part a → IsIn p part b
    → filter (is_visible whole) (filter (is_visible part) (passage p part a b))
    ≡ filter (holds part) (filter (is_visible whole) (passage p whole a b))

-- a comment of a part is one of a section there exactly where it is one in the whole
abbrev pub CommentInPart : Type 0
CommentInPart =
    (s : Identifier) (c : Comment) (op : Op) (part whole : List Op) → Lawful part → Lawful whole → IsPartOf part whole
    → has_op part op ≡ true → comment_in op ≡ Some c → is_in_section part s c ≡ is_in_section whole s c

-- the whole lists a comment of a part exactly where the part does, unless a Delete of the whole withdraws it
abbrev pub ListedInPart : Type 0
ListedInPart =
    (s : Identifier) (c : Comment) (op : Op) (part whole : List Op) → Lawful part → Lawful whole → IsPartOf part whole
    → has_op part op ≡ true → comment_in op ≡ Some c
    → Contains (comments_in whole s) c ↔ (Contains (comments_in part s) c × (is_withdrawn whole c.id ≡ false))

-- exactly one section has the comment
pub record HasOneSection (h : List Op) (c : Comment) : Type 0 where
  pub section : Identifier
  pub has : is_in_section h section c ≡ true
  pub only : (s : Identifier) → is_in_section h s c ≡ true → s ≡ section

-- a comment is valid where a section has it; then exactly one has it
abbrev pub OneSection : Type 0
OneSection = (h : List Op) (s : Identifier) (c : Comment) → is_in_section h s c ≡ true → HasOneSection h c

-- it is the one that the first anchor leads to; where that leads to none, no section has the comment
abbrev pub SectionLookedUp : Type 0
SectionLookedUp = (h : List Op) (s : Identifier) (c : Comment) → (commented_section h c ≡ Some s) ↔ (is_in_section h s c ≡ true)

-- comments with one identifier that are listed are one comment, listed in one section
abbrev pub ListedOnce : Type 0
ListedOnce =
    (h : List Op) (s t : Identifier) (c d : Comment) → Lawful h → Contains (comments_in h s) c → Contains (comments_in h t) d → c.id ≡ d.id
    → (s ≡ t) × (c ≡ d)
