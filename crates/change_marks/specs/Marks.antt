-- What became of the elements of a section. Of two histories f is the one of a moment, and h has it as its older part.
use Rattle.std.specs.Prelude.{ℕ, nat_eq, Option, Some, None, Bool, true, false, List, [], ◌++◌, codes, decimal, flat_map, option_map}
use Rattle.std.specs.Str.{encode_utf8_all}
use Rattle.fugue_ids.specs.Identifiers.{Identifier}
use Rattle.fugue_ids.specs.declared.op.Op.{Op}
use Rattle.origin_model.specs.declared.operations.Place.TheVariants.{Section as within}
use Rattle.origin_model.specs.operations.History.{holder, holds}
use Rattle.origin_model.specs.order.Order.{order}
use Rattle.origin_model.specs.order.Printed.{is_hidden, scalar_of}
use Rattle.change_marks.specs.Stretches.{Stretch, stretches}
use Rattle.change_marks.specs.declared.mark.Mark.{Mark}
use Rattle.change_marks.specs.declared.mark.Mark.TheVariants.{Kept, New, Gone}

-- the same mark
abbrev pub mark_eq : Mark → Mark → Bool
mark_eq Kept Kept = true
mark_eq (New a) (New b) = nat_eq a b
mark_eq Gone Gone = true
mark_eq _ _ = false

-- kept where both show it, new where h alone has it and shows it, gone where f shows it and h does not; otherwise it counts for nothing
abbrev pub marked_as : (had was_hidden is_hidden : Bool) → (replica : ℕ) → Option Mark
marked_as false was_hidden false replica = Some (New replica)
marked_as false was_hidden true replica = None
marked_as true false false replica = Some Kept
marked_as true false true replica = Some Gone
marked_as true true is_hidden replica = None

-- the mark of an element that h has
abbrev pub mark_of : (f h : List Op) → Identifier → Option Mark
mark_of f h x = marked_as (holds f x) (is_hidden f x) (is_hidden h x) x.replica

-- in a section that was dropped, what is kept is gone with it
abbrev pub as_dropped : Mark → Mark
as_dropped Kept = Gone
as_dropped (New replica) = New replica
as_dropped Gone = Gone

-- the mark of an element as it is printed, by whether its section was dropped
abbrev pub printed_mark : Bool → (f h : List Op) → Identifier → Option Mark
printed_mark false f h x = mark_of f h x
printed_mark true f h x = option_map as_dropped (mark_of f h x)

-- the runs of a section's elements
abbrev pub runs : Bool → (f h : List Op) → Identifier → List (Stretch Mark)
runs is_dropped f h s = stretches mark_eq (printed_mark is_dropped f h) (order (within s) h)

-- what begins a run, and what ends it
abbrev pub opening : Mark → List ℕ
opening Kept = []
opening (New replica) = codes "{++"
opening Gone = codes "{--"

-- what ends a run of letters with this mark
abbrev pub closing_mark : Mark → List ℕ
closing_mark Kept = []
closing_mark (New replica) = codes "++}{>>" ++ decimal replica ++ codes "<<}"
closing_mark Gone = codes "--}"

-- the letter of an element
abbrev pub letter_of : List Op → Identifier → List ℕ
letter_of h x = scalar_of (holder h x)

-- the letters of a run
abbrev pub run_letters : List Op → Stretch Mark → List ℕ
run_letters h run = flat_map (letter_of h) run.elements

-- a run in its marks
abbrev pub marked_run : List Op → Stretch Mark → List ℕ
marked_run h run = opening run.key ++ encode_utf8_all (run_letters h run) ++ closing_mark run.key

-- the runs with their marks
abbrev pub text_with_marks : List Op → List (Stretch Mark) → List ℕ
text_with_marks h rs = flat_map (marked_run h) rs
