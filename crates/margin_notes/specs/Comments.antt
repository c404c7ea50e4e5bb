-- Comments on passages: notes of code 3, which name the first and the last scalar of what they are about. A history is newest first.
use Rattle.std.specs.Prelude.{ℕ, nat_eq, Option, Some, None, Bool, false, if◌then◌else◌, not, ◌&&◌, ◌||◌, List, [], ◌∷◌, filter, flat_map}
use Rattle.std.specs.Prelude.{option_to_list}
use Rattle.fugue_ids.specs.Identifiers.{Identifier, id_eq, id_lt}
use Rattle.fugue_ids.specs.Titles.{is_line}
use Rattle.fugue_ids.specs.declared.limits.TheConstants.{LONGEST_BODY}
use Rattle.fugue_ids.specs.declared.op.Op.{Op}
use Rattle.fugue_ids.specs.declared.op.Op.TheVariants.{Note}
use Rattle.origin_model.specs.declared.operations.Place.TheVariants.{Section as within}
use Rattle.origin_model.specs.operations.History.{holder, stands_at}
use Rattle.origin_model.specs.order.Order.{before}
use Rattle.origin_model.specs.order.Printed.{is_withdrawn}
use Rattle.margin_notes.specs.declared.limits.TheConstants.{COMMENT_CODE}

-- what a comment says: its identifier, its anchors, and its text in UTF-8
pub record Comment : Type 0 where
  pub id : Identifier
  pub first : Identifier
  pub last : Identifier
  pub text : List ℕ

-- the bytes are a comment's text: UTF-8 of 1 to 1,024 bytes without LF and CR
abbrev pub is_text : List ℕ → Bool
is_text bytes = is_line LONGEST_BODY bytes

-- what a note of this code says by its names and its body, where it has the shape of a comment
abbrev pub comment_of : Identifier → List Identifier → List ℕ → Option Comment
comment_of id (a ∷ b ∷ []) body = if is_text body then Some (record { id = id; first = a; last = b; text = body }) else None
comment_of _ _ _ = None

-- what an operation says, where it has the shape of a comment
abbrev pub comment_in : Op → Option Comment
comment_in (Note id named code body) = if nat_eq code COMMENT_CODE then comment_of id named body else None
comment_in _ = None

-- x is held by a Text of the section
abbrev pub is_text_of : List Op → Identifier → Identifier → Bool
is_text_of history s x = elim (holder history x) [ None ↦ false | Some op ↦ stands_at (within s) op ]

-- the anchors are Texts of the section, and the first is the last or stands before it
abbrev pub is_in_section : List Op → Identifier → Comment → Bool
is_in_section history s c =
    is_text_of history s c.first && is_text_of history s c.last && (id_eq c.first c.last || before (within s) history c.first c.last)

-- the comments of a history, the newest first
abbrev pub comments : List Op → List Comment
comments history = flat_map (λ op. option_to_list (comment_in op)) history

-- those of a section that no Delete names
abbrev pub comments_in : List Op → Identifier → List Comment
comments_in history s = filter (λ c. is_in_section history s c && not (is_withdrawn history c.id)) (comments history)

-- a comment put among others that stand by identifier
abbrev pub put_by_id : Comment → List Comment → List Comment
put_by_id c [] = c ∷ []
put_by_id c (d ∷ ds) = if id_lt c.id d.id then c ∷ d ∷ ds else d ∷ put_by_id c ds

-- the same comments, by identifier
abbrev pub by_id : List Comment → List Comment
by_id [] = []
by_id (c ∷ cs) = put_by_id c (by_id cs)
