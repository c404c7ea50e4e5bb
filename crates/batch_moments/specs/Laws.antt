-- The law of the lines of moments: added up, they count all operations.
use Rattle.std.specs.Prelude.{◌≡◌, ℕ, ◌<◌, ◌^◌, nat_eq, if◌then◌else◌, List, flat_map, length, map, sum_by}
use Rattle.fugue_ids.specs.declared.op.Op.{Op}
use Rattle.batch_moments.specs.Counts.{count, is_delete, is_note, is_section_operation, is_letter_by}
use Rattle.batch_moments.specs.Lines.{Line, RiseTo, moment_lines}
use Rattle.batch_moments.specs.declared.part.Part.{Part}
use Rattle.batch_moments.specs.declared.part.Part.TheVariants.{Texts, Deletes, Sections, Notes}

-- how many operations of a kind a part tells of
abbrev pub texts_reported : (replica : ℕ) → Part → ℕ
texts_reported replica (Texts r n) = if nat_eq r replica then n else 0
texts_reported replica _ = 0

-- how many Deletes a part of a line tells of
abbrev pub deletes_reported : Part → ℕ
deletes_reported (Deletes n) = n
deletes_reported _ = 0

-- how many Sections a part of a line tells of
abbrev pub sections_reported : Part → ℕ
sections_reported (Sections n) = n
sections_reported _ = 0

-- how many Notes a part of a line tells of
abbrev pub notes_reported : Part → ℕ
notes_reported (Notes n) = n
notes_reported _ = 0

-- the sum of what the lines tell
abbrev pub sum_reported : (Part → ℕ) → List Line → ℕ
sum_reported reported ls = sum_by reported (flat_map (λ (line : Line). line.parts) ls)

-- each moment has its line, and the lines tell of all operations, each once
pub record TellAll (moments : List ℕ) (ops : List Op) : Type 0 where
  pub each : map (λ (line : Line). line.moment) (moment_lines moments ops) ≡ moments
  pub texts : (replica : ℕ) → replica < 2 ^ 32
      → sum_reported (texts_reported replica) (moment_lines moments ops) ≡ count (is_letter_by replica) ops
  pub deletes : sum_reported deletes_reported (moment_lines moments ops) ≡ count is_delete ops
  pub sections : sum_reported sections_reported (moment_lines moments ops) ≡ count is_section_operation ops
  pub notes : sum_reported notes_reported (moment_lines moments ops) ≡ count is_note ops

-- where moments rise to the number of the operations, their lines tell of all of them
abbrev pub MomentsTellAll : Type 0
MomentsTellAll = (moments : List ℕ) (ops : List Op) → RiseTo 0 moments (length ops) → TellAll moments ops
