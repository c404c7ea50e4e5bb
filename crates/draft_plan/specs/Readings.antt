-- What is read of a draft, from the front to the end.
use Rattle.std.specs.Prelude.{◌≡◌, ◌⊎◌, ℕ, ◌<◌, ◌≤◌, nat_eq, true, false, List, [], ◌∷◌, ◌++◌, All, length}
use Rattle.std.specs.List.{join_with_byte}
use Rattle.draft_plan.specs.Drafts.{Part, before_heading, is_bad, pieces}
use Rattle.draft_plan.specs.Laws.{ends_part}
use Rattle.section_plan.specs.declared.part.Part.{Part as ReadPart}

-- a part that was read
abbrev pub seen_part : ReadPart → Part
seen_part p = record { title = p.title.now; text = p.text.now }

-- the first line of a text, without its LF, and what is after it
pub record IsFirstLine (text line rest : List ℕ) : Type 0 where
  pub one_line : All (λ b. nat_eq b 10 ≡ false) line
  pub split : (text ≡ line ++ 10 ∷ rest) ⊎ ((text ≡ line) × (rest ≡ []))
  pub pieces_are : pieces text ≡ line ∷ pieces rest
  pub shorter : length rest < length text

-- the text up to the next heading, and what is left from that on
pub record IsFirstText (draft text rest : List ℕ) : Type 0 where
  pub text_is : text ≡ join_with_byte 10 (before_heading (pieces draft))
  pub pieces_are : pieces draft ≡ before_heading (pieces draft) ++ pieces rest
  pub at_heading : ends_part (pieces rest) ≡ true
  pub shorter : length rest ≤ length draft

-- what is left of a draft begins with a heading, if anything is left, and has no bad line
pub record IsGood (rest : List ℕ) : Type 0 where
  pub at_heading : ends_part (pieces rest) ≡ true
  pub good : All (λ line. is_bad line ≡ false) (pieces rest)
