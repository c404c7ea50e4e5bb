-- Laws of remarks.
use Rattle.std.specs.Prelude.{◌≡◌, ◌≢◌, ◌↔◌, Some, true, List, ◌∷◌, AllPairs, Contains}
use Rattle.fugue_ids.specs.Identifiers.{Identifier}
use Rattle.fugue_ids.specs.declared.op.Op.{Op}
use Rattle.fugue_ids.specs.declared.op.Op.TheVariants.{Delete}
use Rattle.origin_model.specs.operations.Verdict.{Lawful}
use Rattle.margin_notes.specs.Comments.{Comment, comments_in}
use Rattle.margin_notes.specs.Placing.{placed_comment}
use Rattle.passage_remarks.specs.Remarks.{Remark, is_before, remark_at, remarks, section_place}

-- the remark is a comment of a section that is not withdrawn, at the place of the section in the arrangement
pub record IsRemark (h : List Op) (r : Remark) : Type 0 where
  pub comment : Comment
  pub listed : Contains (comments_in h r.section) comment
  pub placed : section_place h r.section ≡ Some r.place
  pub says : r ≡ remark_at (placed_comment h comment r.section) r.place

-- those are all remarks; they stand in order, and no two are of one comment
pub record AreComments (h : List Op) : Type 0 where
  pub members : (r : Remark) → Contains (remarks h) r ↔ IsRemark h r
  pub ordered : AllPairs (λ a b. is_before a b ≡ true) (remarks h)
  pub apart : AllPairs (λ a b. a.id ≢ b.id) (remarks h)

-- the remarks of a lawful history are the comments of its arranged sections, each once, in order
abbrev pub RemarksAreComments : Type 0
RemarksAreComments = (h : List Op) → Lawful h → AreComments h

-- a comment that a Delete names is no remark any more
abbrev pub WithdrawnIsGone : Type 0
WithdrawnIsGone = (h : List Op) (x : Identifier) (r : Remark) → Contains (remarks (Delete x ∷ h)) r → r.id ≢ x
