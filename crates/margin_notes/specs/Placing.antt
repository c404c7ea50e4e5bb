-- Where the comments of a history stand: the section and the span of each, whether the section is shown or not.
use Rattle.std.specs.Prelude.{ℕ, Option, Some, None, if◌then◌else◌, List, flat_map, option_map, option_to_list, reverse, slice_get}
use Rattle.fugue_ids.specs.Identifiers.{Identifier}
use Rattle.fugue_ids.specs.declared.op.Op.{Op}
use Rattle.origin_model.specs.order.Printed.{is_withdrawn}
use Rattle.margin_notes.specs.Comments.{Comment, comment_in}
use Rattle.margin_notes.specs.Listing.{body_of, commented_section}
use Rattle.margin_notes.specs.Margins.{margin_span}
use Rattle.margin_notes.specs.declared.placing.CommentPlace.{CommentPlace}

-- a comment with its section and its span
pub record PlacedComment : Type 0 where
  pub section : Identifier
  pub id : Identifier
  pub from : ℕ
  pub to : ℕ
  pub text : List ℕ

-- a comment with its section and its place there
abbrev pub placed_comment : List Op → Comment → Identifier → PlacedComment
placed_comment h c s = record {
  section = s;
  id = c.id;
  from = (margin_span h s c.first c.last).from;
  to = (margin_span h s c.first c.last).to;
  text = c.text;
}

-- where a section has it
abbrev pub placed_in_section : List Op → Comment → Option PlacedComment
placed_in_section h c = option_map (placed_comment h c) (commented_section h c)

-- where an operation stands, if it is a comment that no Delete names
abbrev pub placed_in : List Op → Op → Option PlacedComment
placed_in h op = elim (comment_in op) [ None ↦ None | Some c ↦ if is_withdrawn h c.id then None else placed_in_section h c ]

-- those of a history, as they were accepted
abbrev pub placed_comments : List Op → List PlacedComment
placed_comments h = flat_map (λ op. option_to_list (placed_in h op)) (reverse h)

-- what a place tells, by the operations: the text stands in the one at its position
abbrev pub comment_placed : List Op → CommentPlace → PlacedComment
comment_placed ops p = record { section = p.section; id = p.id; from = p.from; to = p.to; text = body_of (slice_get ops p.at) }
