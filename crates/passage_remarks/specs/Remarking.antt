-- A comment on the one place of a passage: which one is made, and why there is none.
use Rattle.std.specs.Prelude.{◌≡◌, ◌≢◌, ◌⊎◌, ℕ, Option, Some, IfSome, Result, Err, List, [], ◌∷◌, length, option_map}
use Rattle.fugue_ids.specs.Identifiers.{Identifier}
use Rattle.fugue_ids.specs.declared.op.Op.{Op}
use Rattle.origin_model.specs.declared.edit_fault.EditFault.{EditFault}
use Rattle.origin_model.specs.declared.edit_fault.EditFault.TheVariants as edit
use Rattle.origin_model.specs.edits.Noting.{note_refusal}
use Rattle.origin_model.specs.edits.Refusal.{section_shown}
use Rattle.origin_model.specs.edits.State.{State}
use Rattle.margin_notes.specs.Commenting.{IsCommentMade, IsCommented}
use Rattle.margin_notes.specs.declared.commenting.CommentFault.{CommentFault}
use Rattle.margin_notes.specs.declared.commenting.CommentFault.TheVariants as comment
use Rattle.passage_remarks.specs.Finding.{IsPassageSpot, passage_places, passage_span, reported_count}
use Rattle.passage_remarks.specs.declared.finding.Spot.{Spot}
use Rattle.passage_remarks.specs.declared.remarking.RemarkFault.{RemarkFault}
use Rattle.passage_remarks.specs.declared.remarking.RemarkFault.TheVariants.{NotFound, FoundOften, IdsSpent, TooMany, NoMemory}

-- the fault of a note as that of a remark; a note has neither NoSection nor OutOfRange
abbrev pub as_remark_fault : EditFault → RemarkFault
as_remark_fault (edit.IdsSpent greatest) = IdsSpent greatest
as_remark_fault (edit.TooMany held) = TooMany held
as_remark_fault edit.NoSection = NoMemory
as_remark_fault edit.OutOfRange = NoMemory
as_remark_fault edit.NoMemory = NoMemory

-- why no comment is made, by the places of the passage: there is none, the note is refused, or there are several
abbrev pub refusal_at : State → List (Identifier × ℕ) → Option RemarkFault
refusal_at s [] = Some NotFound
refusal_at s (place ∷ []) = option_map as_remark_fault (note_refusal s)
refusal_at s (place ∷ next ∷ more) = Some (FoundOften (reported_count (length (place ∷ next ∷ more))))

-- why no remark is made of the passage, if none is
abbrev pub remark_refusal : State → (passage : List ℕ) → Option RemarkFault
remark_refusal s passage = refusal_at s (passage_places s.held.history passage)

-- a comment was made on the clusters that have bytes of the passage at its one place, and nothing else
pub record IsRemarked (old new : State) (passage body : List ℕ) : Type 0 where
  pub place : Identifier × ℕ
  pub once : passage_places old.held.history passage ≡ place ∷ []
  pub section : ℕ
  pub numbered : section_shown old section ≡ Some place.0
  pub made : IsCommentMade old new section (passage_span old.held.history passage place).first
      (passage_span old.held.history passage place).count body 1
  pub spanned : IsCommented old new section (passage_span old.held.history passage place).first
      (passage_span old.held.history passage place).count body

-- a refusal comes only with its cause, and where there is a cause, its refusal comes, or memory runs out
pub record Refuses (cause : Option RemarkFault) (result : Result (Unit {0}) RemarkFault) : Type 0 where
  pub only : (fault : RemarkFault) → fault ≢ NoMemory → result ≡ Err fault → cause ≡ Some fault
  pub always : IfSome cause (λ fault. (result ≡ Err fault) ⊎ (result ≡ Err NoMemory))

-- the one place of the passage
pub record IsOnly (h : List Op) (passage : List ℕ) (spot : Spot) : Type 0 where
  pub place : Identifier × ℕ
  pub once : passage_places h passage ≡ place ∷ []
  pub there : IsPassageSpot h passage place spot

-- the fault of a comment as that of a remark; on clusters that are there, neither NoSection nor OutOfRange occurs
abbrev pub of_comment_fault : CommentFault → RemarkFault
of_comment_fault (comment.IdsSpent greatest) = IdsSpent greatest
of_comment_fault (comment.TooMany held) = TooMany held
of_comment_fault comment.NoSection = NoMemory
of_comment_fault comment.OutOfRange = NoMemory
of_comment_fault comment.NoMemory = NoMemory
