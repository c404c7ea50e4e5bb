-- Laws of comments.
use Rattle.std.specs.Prelude.{◌≡◌, ◌≢◌, ◌↔◌, ◌-◌, length, AllPairs, Contains, Some, true, not, drop, filter, List, ◌∷◌, ◌++◌, take}
use Rattle.fugue_ids.specs.Identifiers.{Identifier, id_lt}
use Rattle.fugue_ids.specs.declared.op.Op.{Op}
use Rattle.origin_model.specs.declared.operations.Place.{Place}
use Rattle.origin_model.specs.declared.operations.Place.TheVariants.{Section as within}
use Rattle.origin_model.specs.operations.History.{holds}
use Rattle.origin_model.specs.operations.Verdict.{Lawful}
use Rattle.origin_model.specs.order.Laws.{IsIn}
use Rattle.origin_model.specs.order.Printed.{is_hidden, shown}
use Rattle.margin_notes.specs.Comments.{Comment, by_id, comment_in, comments_in, is_in_section}
use Rattle.margin_notes.specs.Margins.{passage, margin_span}

-- the comments of a section by identifier are its comments, each once
pub record CommentsById : Type 0 where
  pub members : (h : List Op) (s : Identifier) (c : Comment) → Contains (by_id (comments_in h s)) c ↔ Contains (comments_in h s) c
  pub ordered : (h : List Op) (s : Identifier) → Lawful h → AllPairs (λ c d. id_lt c.id d.id ≡ true) (by_id (comments_in h s))
  pub once : (h : List Op) (s : Identifier) → Lawful h → AllPairs (λ c d. c ≢ d) (by_id (comments_in h s))
  pub count : (h : List Op) (s : Identifier) → length (by_id (comments_in h s)) ≡ length (comments_in h s)

-- whatever comes later, the old elements from a to b are the same
abbrev pub SpanStays : Type 0
SpanStays = (p : Place) (new h : List Op) (a b : Identifier) → Lawful (new ++ h) → IsIn p h a → IsIn p h b
    → passage p h a b ≡ filter (holds h) (passage p (new ++ h) a b)

-- a comment is one of a section for the operations before it, or never: what comes later changes nothing of it
abbrev pub CommentsStay : Type 0
CommentsStay = (s : Identifier) (c : Comment) (op : Op) (new h : List Op) → Lawful (new ++ op ∷ h) → comment_in op ≡ Some c
    → is_in_section (new ++ op ∷ h) s c ≡ is_in_section h s c

-- the span of a comment cuts the shown elements of its passage out of those of the section
abbrev pub SpanIsPassage : Type 0
SpanIsPassage = (h : List Op) (s : Identifier) (c : Comment) → Lawful h → is_in_section h s c ≡ true
    → take ((margin_span h s c.first c.last).to - (margin_span h s c.first c.last).from)
    (drop (margin_span h s c.first c.last).from (shown (within s) h))
    ≡ filter (λ x. not (is_hidden h x)) (passage (within s) h c.first c.last)
