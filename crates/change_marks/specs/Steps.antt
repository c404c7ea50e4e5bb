-- A list written element by element, where a run is open or none is.
use Rattle.std.specs.Prelude.{ℕ, ◌+◌, nat_eq, Option, Some, None, Bool, false, not, if◌then◌else◌, List, [], ◌∷◌, ◌++◌}
use Rattle.std.specs.Str.{encode_utf8_all}
use Rattle.fugue_ids.specs.Identifiers.{Identifier}
use Rattle.fugue_ids.specs.declared.op.Op.{Op}
use Rattle.change_marks.specs.Authors.{passage_line}
use Rattle.origin_model.specs.order.Printed.{is_hidden}
use Rattle.change_marks.specs.Changes.{dropped_changes}
use Rattle.change_marks.specs.Marks.{closing_mark, letter_of, mark_eq, opening}
use Rattle.change_marks.specs.declared.mark.Mark.{Mark}
use Rattle.change_marks.specs.declared.mark.Mark.TheVariants.{Kept}
use Rattle.change_marks.specs.declared.passages.Passage.{Passage}

-- the open run has this mark
abbrev pub is_open : Option Mark → Mark → Bool
is_open None mark = false
is_open (Some begun) mark = mark_eq begun mark

-- what ends the open run
abbrev pub closing_of : Option Mark → List ℕ
closing_of None = []
closing_of (Some begun) = closing_mark begun

-- the end of the open run and the start of the next one, unless they have one mark
abbrev pub turn_of_run : Option Mark → Mark → List ℕ
turn_of_run begun mark = if is_open begun mark then [] else closing_of begun ++ opening mark

-- what an element adds, by its mark
abbrev pub element_part : List Op → Option Mark → Option Mark → Identifier → List ℕ
element_part h begun None x = []
element_part h begun (Some mark) x = turn_of_run begun mark ++ encode_utf8_all (letter_of h x)

-- the run that is open after it
abbrev pub open_after : {K : Type 0} → Option K → Option K → Option K
open_after begun None = begun
open_after begun (Some mark) = Some mark

-- what elements add, and the end of the last run
abbrev pub parts_from : List Op → (Identifier → Option Mark) → Option Mark → List Identifier → List ℕ
parts_from h key begun [] = closing_of begun
parts_from h key begun (x ∷ xs) = element_part h begun (key x) x ++ parts_from h key (open_after begun (key x)) xs

-- the line of the open passage, where the next letter is of another replica
abbrev pub passage_end : Option Passage → List ℕ
passage_end None = []
passage_end (Some p) = passage_line p.replica p.count

-- the next letter is of the open passage
abbrev pub continues_passage : Option Passage → Identifier → Bool
continues_passage None x = false
continues_passage (Some p) x = nat_eq p.replica x.replica

-- how many letters it has
abbrev pub count_in : Option Passage → ℕ
count_in None = 0
count_in (Some p) = p.count

-- how many letters of the passage of a letter stand before it
abbrev pub letters_before : Option Passage → Identifier → ℕ
letters_before begun x = if continues_passage begun x then count_in begun else 0

-- the passage that is open after a letter
abbrev pub passage_after : Option Passage → Identifier → Passage
passage_after begun x = record { replica = x.replica; count = letters_before begun x + 1 }

-- the line of a passage that a letter ends
abbrev pub line_before : Option Passage → Identifier → List ℕ
line_before begun x = if continues_passage begun x then [] else passage_end begun

-- the lines of letters, where a passage is begun
abbrev pub passage_lines : Option Passage → List Identifier → List ℕ
passage_lines begun [] = passage_end begun
passage_lines begun (x ∷ xs) = line_before begun x ++ passage_lines (Some (passage_after begun x)) xs

-- the element is in a run that has marks around it
abbrev pub is_changed_element : Option Mark → Bool
is_changed_element None = false
is_changed_element (Some mark) = not (mark_eq mark Kept)

-- what is reported of a section of f where h hides it
abbrev pub dropped_part : (f h : List Op) → Identifier → List ℕ
dropped_part f h s = if is_hidden h s then dropped_changes f h s else []
