-- Small drafts, computed from the definitions.
use Rattle.std.proofs.Common.{List, [], refl, ℕ, ◌++◌, ◌∷◌, ◌≡◌}
use Rattle.std.specs.Prelude.{codes, Ok, Err, true, false}
use Rattle.std.specs.Str.{chars, is_utf8}
use lib.Utf8.{encode}
use Rattle.draft_plan.specs.Drafts.{Part, with_last_line_end, form, has_heading, draft_lines, parts}

abbrev part : List ℕ → List ℕ → Part
part title text = record { title = title; text = text }

-- the sections A and B
abbrev printed : List ℕ
printed = codes "# A\none two\n# B\nthree\n"

-- as printed, and without the last LF
printed_parts :
    (parts printed ≡ Ok (part (codes "A") (codes "one two") ∷ part (codes "B") (codes "three") ∷ []))
    × (parts (codes "# A\none two\n# B\nthree") ≡ parts printed) × (with_last_line_end (codes "# A\none two\n# B\nthree") ≡ printed)
    × (form (part (codes "A") (codes "one two") ∷ part (codes "B") (codes "three") ∷ []) ≡ printed)
unfolding is_utf8 chars encode
printed_parts = (refl, refl, refl, refl)

-- a heading as the last line: the form has an empty line more
abbrev added : List ℕ
added = codes "# A\none two\n# B\nthree\n# N\n"

last_heading :
    (parts added ≡ Ok (part (codes "A") (codes "one two") ∷ part (codes "B") (codes "three") ∷ part (codes "N") [] ∷ []))
    × (form (part (codes "A") (codes "one two") ∷ part (codes "B") (codes "three") ∷ part (codes "N") [] ∷ []) ≡ added ++ 10 ∷ [])
unfolding is_utf8 chars encode
last_heading = (refl, refl)

-- a first line that is no heading, headings without a title, and a byte that is not UTF-8
bad_lines :
    (parts (codes "hello\n# A\n") ≡ Err 1) × (parts (codes "# A\none\n# \n") ≡ Err 3) × (parts (codes "# A\rB\n") ≡ Err 1)
    × (parts (codes "# A\n" ++ 255 ∷ 10 ∷ codes "# \n") ≡ Err 2) × (parts (10 ∷ []) ≡ Err 1)
unfolding is_utf8 chars encode
bad_lines = (refl, refl, refl, refl, refl)

-- the empty draft has no parts, and is no line
nothing : (parts [] ≡ Ok []) × (draft_lines [] ≡ []) × (with_last_line_end [] ≡ []) × (form [] ≡ [])
nothing = (refl, refl, refl, refl)

-- a text that ends in LF has an empty last line, and one of one empty line is empty
empty_lines :
    (parts (codes "# A\none\n\n") ≡ Ok (part (codes "A") (codes "one\n") ∷ [])) × (parts (codes "# A\n\n") ≡ Ok (part (codes "A") [] ∷ []))
    × (draft_lines (codes "# A\none\n\n") ≡ codes "# A" ∷ codes "one" ∷ [] ∷ [])
unfolding is_utf8 chars encode
empty_lines = (refl, refl, refl)

-- which texts have a heading: a hash sign and a space at the begin of a line
headings_in : (has_heading (codes "one\n# two") ≡ true) × (has_heading (codes "# one") ≡ true) × (has_heading (codes "one # two\n#three") ≡ false) × (has_heading [] ≡ false)
headings_in = (refl, refl, refl, refl)
