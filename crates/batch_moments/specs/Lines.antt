-- The lines that tell what came when. A moment is the number of operations that were accepted then.
use Rattle.std.specs.Prelude.{◌≡◌, ℕ, ◌<◌, List, [], ◌∷◌, ◌++◌, codes, decimal, flat_map}
use Rattle.std.specs.List.{slice_range}
use Rattle.fugue_ids.specs.declared.op.Op.{Op}
use Rattle.batch_moments.specs.Counts.{reported_parts}
use Rattle.batch_moments.specs.declared.part.Part.{Part}
use Rattle.batch_moments.specs.declared.part.Part.TheVariants.{Texts, Deletes, Sections, Notes}

-- the moments rise above the first number, and the last of them is the other one
abbrev pub RiseTo : (from : ℕ) → List ℕ → (to : ℕ) → Type 0
RiseTo from [] to = from ≡ to
RiseTo from (moment ∷ moments) to = (from < moment) × RiseTo moment moments to

-- a moment, and what came until then since the one before it
pub record Line : Type 0 where
  pub moment : ℕ
  pub parts : List Part

-- the operations between two moments
abbrev pub ops_between : (from to : ℕ) → List Op → List Op
ops_between from to ops = slice_range ops from to

-- a line for each moment
abbrev pub lines_of_moments : (from : ℕ) → List ℕ → List Op → List Line
lines_of_moments from [] ops = []
lines_of_moments from (moment ∷ moments) ops =
    record { moment = moment; parts = reported_parts (ops_between from moment ops) } ∷ lines_of_moments moment moments ops

-- a line for each moment: what came between the moment before it and this one
abbrev pub moment_lines : List ℕ → List Op → List Line
moment_lines moments ops = lines_of_moments 0 moments ops

-- how a part is written: letters of a replica, Deletes, Sections or Notes
abbrev pub part_text : Part → List ℕ
part_text (Texts replica n) = decimal replica ++ codes " +" ++ decimal n
part_text (Deletes n) = codes "-" ++ decimal n
part_text (Sections n) = decimal n ++ codes " sections"
part_text (Notes n) = decimal n ++ codes " notes"

-- the parts, with a comma and a space between each two
abbrev pub with_commas : List Part → List ℕ
with_commas [] = []
with_commas (part ∷ parts) = part_text part ++ flat_map (λ next. codes ", " ++ part_text next) parts

-- the moment, a colon and a space, the parts, LF
abbrev pub line_text : Line → List ℕ
line_text line = decimal line.moment ++ codes ": " ++ with_commas line.parts ++ 10 ∷ []

-- the lines of the moments, as they are printed
unfoldable pub moments_text : List ℕ → List Op → List ℕ
moments_text moments ops = flat_map line_text (moment_lines moments ops)
