-- Where the passages of comments stand in what is shown, and the lines that are written of them.
use Rattle.std.specs.Prelude.{ℕ, suc, Bool, ◌&&◌, ◌||◌, List, [], ◌∷◌, ◌++◌, count_by, decimal, filter, flat_map}
use Rattle.fugue_ids.specs.Identifiers.{Identifier, id_eq}
use Rattle.fugue_ids.specs.declared.op.Op.{Op}
use Rattle.origin_model.specs.declared.operations.Place.{Place}
use Rattle.origin_model.specs.declared.operations.Place.TheVariants.{Catalogue as catalogue, Section as within}
use Rattle.origin_model.specs.order.Order.{before, order}
use Rattle.origin_model.specs.order.Printed.{shown}
use Rattle.margin_notes.specs.Comments.{Comment, by_id, comments_in}

-- two numbers: how many shown elements of the section stand before the first anchor, and how many stand before the last one or are it
pub record Span : Type 0 where
  pub from : ℕ
  pub to : ℕ

-- the shown scalars of a comment's passage, by their places in the section
abbrev pub margin_span : List Op → (s first last : Identifier) → Span
margin_span history s first last = record {
  from = count_by (λ x. before (within s) history x first) (shown (within s) history);
  to = count_by (λ x. id_eq x last || before (within s) history x last) (shown (within s) history);
}

-- x is a or b, or stands between them
abbrev pub stands_between : Place → List Op → (a b x : Identifier) → Bool
stands_between p history a b x = (id_eq a x || before p history a x) && (id_eq x b || before p history x b)

-- the elements from a to b, hidden ones too, in order
abbrev pub passage : Place → List Op → (a b : Identifier) → List Identifier
passage p history a b = filter (stands_between p history a b) (order p history)

-- the line of a comment in the section with the number k: the number, the two ends of its span, its text, LF
abbrev pub comment_line : List Op → (k : ℕ) → Identifier → Comment → List ℕ
comment_line history k s c =
    let where_it_is = margin_span history s c.first c.last in
    decimal k ++ 32 ∷ decimal where_it_is.from ++ 32 ∷ decimal where_it_is.to ++ 32 ∷ c.text ++ 10 ∷ []

-- the lines of the comments of some sections, of which the first has the number k
abbrev pub comment_lines : List Op → ℕ → List Identifier → List ℕ
comment_lines history k [] = []
comment_lines history k (s ∷ ss) = flat_map (comment_line history k s) (by_id (comments_in history s)) ++ comment_lines history (suc k) ss

-- the comments of the shown sections, which are numbered from 1
abbrev pub margins : List Op → List ℕ
margins history = comment_lines history 1 (shown catalogue history)
