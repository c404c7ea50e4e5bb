-- The clusters that are kept of sections while a script runs.
use Rattle.std.specs.Prelude.{◌≡◌, ℕ, ◌+◌, ◌≤◌, Some, List, length, IfSome, encode_utf8_all}
use Rattle.std.specs.List.{splice}
use Rattle.std.specs.Str.{IsUtf8, chars}
use Rattle.fugue_ids.specs.Identifiers.{Identifier}
use Rattle.origin_model.specs.operations.Verdict.{Lawful}
use Rattle.origin_model.specs.order.Printed.{text}
use Rattle.origin_model.specs.edits.Refusal.{section_shown}
use Rattle.origin_model.specs.edits.State.{State}
use Rattle.section_catalogue.specs.Contents.{entry_at}
use Rattle.edit_script.specs.Lines.{IsSpan}

-- what is shown of a section, in UTF-8
abbrev pub shown_text_in : State → Identifier → List ℕ
shown_text_in s section = encode_utf8_all (text s.held.history section)

-- the texts in which clusters are looked up are those of their sections
abbrev pub AreShownTexts : List (Identifier × List ℕ) → State → Type 0
AreShownTexts texts s = (section : Identifier) → IfSome (entry_at texts section) (λ kept. kept ≡ shown_text_in s section)

-- n clusters of a shown section from the cluster `at` on: the section, its text, and the place and the number of their scalars
pub record IsClusterPassage (s : State) (k at n : ℕ) (section : Identifier) (kept : List ℕ) (span : ℕ × ℕ) : Type 0 where
  pub shown : section_shown s k ≡ Some section
  pub kept_is : kept ≡ shown_text_in s section
  pub utf8 : IsUtf8 kept
  pub fits : span.0 + span.1 ≤ length (chars kept)
  pub spans : IsSpan s k at n span
  pub lawful : Lawful s.held.history

-- a text in which scalars give way to others
abbrev pub with_replaced : List ℕ → (at n : ℕ) → List ℕ → List ℕ
with_replaced kept at n new = encode_utf8_all (splice (chars kept) at (at + n) new)
