-- Laws of drafts.
use Rattle.std.specs.Prelude.{◌≡◌, ℕ, true, false, Bool, if◌then◌else◌, ◌&&◌, Ok, List, [], ◌∷◌, ◌++◌, All, flat_map}
use Rattle.std.specs.Str.{is_utf8}
use Rattle.fugue_ids.specs.Identifiers.{Identifier}
use Rattle.fugue_ids.specs.declared.op.Op.{Op}
use Rattle.fugue_ids.specs.declared.op.Op.TheVariants.{Delete}
use Rattle.origin_model.specs.operations.History.{has_op, holds}
use Rattle.origin_model.specs.operations.Verdict.{Lawful}
use Rattle.origin_model.specs.order.Laws.{IsPartOf}
use Rattle.origin_model.specs.order.Printed.{is_hidden}
use Rattle.catalogue_notes.specs.Claims.{is_title}
use Rattle.draft_plan.specs.Drafts.{Part, with_last_line_end, form, has_heading, is_heading, draft_lines, parts}

-- no line is left up to the next heading
abbrev pub ends_part : List (List ℕ) → Bool
ends_part [] = true
ends_part (line ∷ lines) = is_heading line

-- an empty line is after a heading that has no line after it
abbrev pub with_empty : (line : List ℕ) → (behind filled : List (List ℕ)) → List (List ℕ)
with_empty line behind filled = if is_heading line && ends_part behind then line ∷ [] ∷ filled else line ∷ filled

-- the lines, with an empty line after each heading that has no line after it
abbrev pub with_empty_lines : List (List ℕ) → List (List ℕ)
with_empty_lines [] = []
with_empty_lines (line ∷ lines) = with_empty line lines (with_empty_lines lines)

-- each line, and LF after it
abbrev pub ended_lines : List (List ℕ) → List ℕ
ended_lines lines = flat_map (λ line. line ++ 10 ∷ []) lines

-- the form of a draft's parts is the closed draft, but for an empty line after each heading that had none
pub record IsReformed (d : List ℕ) (ps : List Part) : Type 0 where
  pub draft : with_last_line_end d ≡ ended_lines (draft_lines d)
  pub form_is : form ps ≡ ended_lines (with_empty_lines (draft_lines d))

-- a draft is the form of its parts, but for empty lines at their ends
abbrev pub FormOfParts : Type 0
FormOfParts = (d : List ℕ) (ps : List Part) → parts d ≡ Ok ps → IsReformed d ps

-- the title is one, and the text is in UTF-8 and has no heading
pub record IsPart (p : Part) : Type 0 where
  pub title : is_title p.title ≡ true
  pub text : is_utf8 p.text ≡ true
  pub no_heading : has_heading p.text ≡ false

-- a list of parts reads back from its form
abbrev pub PartsOfForm : Type 0
PartsOfForm = (ps : List Part) → All IsPart ps → parts (form ps) ≡ Ok ps

-- A history that has another one as a part, whichever operations it has besides, hides nothing that this part lacks, unless
-- a Delete of its own names it. So a revision hides nothing that others wrote: the part is what it left, and its Deletes
-- name what it showed.
abbrev pub OthersAreSpared : Type 0
OthersAreSpared = (part whole : List Op) (x : Identifier) → Lawful part → Lawful whole → IsPartOf part whole → holds part x ≡ false
    → (has_op whole (Delete x) ≡ true → has_op part (Delete x) ≡ true) → is_hidden whole x ≡ false
