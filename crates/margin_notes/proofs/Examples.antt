-- Comments on small manuscripts, computed from the definitions. Histories are newest first.
use Rattle.margin_notes.proofs.Words.{Bool, Delete, Identifier, List, Note, Op, [], before, chain, chars, codes, false, is_utf8, order, refl, repeat, true, ℕ, ◌++◌, ◌∷◌, ◌≡◌}
use lib.Utf8.{encode}
unfoldable use Rattle.std.specs.Fmt.{digits}
use Rattle.origin_model.specs.edits.Edits.{Add, Command, Cut, DropSection, Put, history_with, made}
use Rattle.margin_notes.specs.Comments.{Comment, by_id, comments, comments_in, is_text}
use Rattle.margin_notes.specs.Margins.{Span, margins, margin_span}

-- the history after edits of replica 1, one after another, where nothing waits
abbrev edited : List Op → List Command → List Op
edited h [] = h
edited h (c ∷ cs) = edited (history_with h (made 1 h [] c)) cs

abbrev id : ℕ → ℕ → Identifier
id replica counter = record { replica = replica; counter = counter }

-- the section, whose texts A to E are (1,1) to (1,5)
abbrev section : Identifier
section = id 1 0

-- a comment of replica 1
abbrev note : ℕ → (a b : Identifier) → List ℕ → Op
note counter a b body = Note (id 1 counter) (a ∷ b ∷ []) 3 body

-- ABCDE is shown, and `comment F 1 1 3 check` is on BCD
abbrev written : List Op
written = note 6 (id 1 2) (id 1 4) (codes "check") ∷ edited [] (Add 0 (codes "T") ∷ Put 0 0 (codes "ABCDE") ∷ [])

-- then `cut 1 1 1` and `put 1 0 xy`: xyACDE is shown, and B is hidden
abbrev moved : List Op
moved = edited written (Cut 0 1 1 ∷ Put 0 0 (codes "xy") ∷ [])

-- then `cut 1 3 2`: xyAE is shown, and all of the passage is hidden
abbrev emptied : List Op
emptied = edited moved (Cut 0 3 2 ∷ [])

-- the span of the comment
abbrev on_it : List Op → Span
on_it history = margin_span history section (id 1 2) (id 1 4)

abbrev spans_are : ℕ → ℕ → Span
spans_are from to = record { from = from; to = to }

spans : (on_it written ≡ spans_are 1 4) × (on_it moved ≡ spans_are 3 5) × (on_it emptied ≡ spans_are 3 3)
unfolding order before chain
spans = (refl, refl, refl)

-- the comment, as it is printed
abbrev check : Comment
check = record { id = id 1 6; first = id 1 2; last = id 1 4; text = codes "check" }

-- it is listed also where its span is empty, and not once it is withdrawn
listed :
    (comments_in written section ≡ check ∷ []) × (comments_in emptied section ≡ check ∷ []) × (comments_in (Delete (id 1 6) ∷ written) section ≡ [])
unfolding order before chain is_utf8 chars encode
listed = (refl, refl, refl)

-- the lines that are written: the section's number, the span, the text
lines : (margins written ≡ codes "1 1 4 check" ++ 10 ∷ []) × (margins moved ≡ codes "1 3 5 check" ++ 10 ∷ []) × (margins emptied ≡ codes "1 3 3 check" ++ 10 ∷ [])
unfolding order before chain is_utf8 chars encode digits
lines = (refl, refl, refl)

-- a section that is not shown has no lines
not_shown : (margins (edited written (DropSection 0 ∷ [])) ≡ []) × (comments_in (edited written (DropSection 0 ∷ [])) section ≡ check ∷ [])
unfolding order before chain is_utf8 chars encode
not_shown = (refl, refl)

-- one shown scalar, whose span has it alone; a comment on a scalar that was hidden before is on nothing
single :
    (margin_span written section (id 1 1) (id 1 1) ≡ spans_are 0 1) × (margin_span written section (id 1 5) (id 1 5) ≡ spans_are 4 5)
    × (margin_span moved section (id 1 2) (id 1 2) ≡ spans_are 3 3)
unfolding order before chain
single = (refl, refl, refl)

-- a second section with a text of its own, (1,7) and (1,8)
abbrev two_sections : List Op
two_sections = edited written (Add 1 (codes "U") ∷ Put 1 0 (codes "F") ∷ [])

-- whether a note is a comment of one of the sections, of which the first is not the second
abbrev is_listed : Op → Bool
is_listed op = elim (comments_in (op ∷ two_sections) section) [ [] ↦ false | c ∷ [] ↦ false | c ∷ d ∷ cs ↦ true ]

-- the wrong way round, of two sections, a Section among the names, one name, three names, and another code: no comment
ignored :
    (is_listed (note 9 (id 1 2) (id 1 4) (codes "a")) ≡ true) × (is_listed (note 9 (id 1 2) (id 1 2) (codes "a")) ≡ true)
    × (is_listed (note 9 (id 1 4) (id 1 2) (codes "a")) ≡ false)
    × (is_listed (note 9 (id 1 2) (id 1 8) (codes "a")) ≡ false) × (is_listed (note 9 (id 1 0) (id 1 2) (codes "a")) ≡ false)
    × (is_listed (note 9 (id 1 2) (id 1 7) (codes "a")) ≡ false)
    × (is_listed (Note (id 1 9) (id 1 2 ∷ []) 3 (codes "a")) ≡ false) × (is_listed (Note (id 1 9) (id 1 2 ∷ id 1 3 ∷ id 1 4 ∷ []) 3 (codes "a")) ≡ false)
    × (is_listed (Note (id 1 9) (id 1 2 ∷ id 1 4 ∷ []) 4 (codes "a")) ≡ false) × (is_listed (note 9 (id 1 6) (id 1 6) (codes "a")) ≡ false)
unfolding order before chain is_utf8 chars encode
ignored = (refl, refl, refl, refl, refl, refl, refl, refl, refl, refl)

-- a comment on the second section is listed there
in_second : comments_in (note 9 (id 1 8) (id 1 8) (codes "a") ∷ two_sections) (id 1 7) ≡ record { id = id 1 9; first = id 1 8; last = id 1 8; text = codes "a" } ∷ []
unfolding order before chain is_utf8 chars encode
in_second = refl

-- texts have 1 to 1,024 bytes of UTF-8 and no line end
are_texts :
    (is_text (codes "a b") ≡ true) × (is_text (repeat 1024 (97 ∷ [])) ≡ true) × (is_text (repeat 1025 (97 ∷ [])) ≡ false) × (is_text [] ≡ false)
    × (is_text (codes "a" ++ 10 ∷ []) ≡ false) × (is_text (13 ∷ codes "a") ≡ false) × (is_text (0xFF ∷ []) ≡ false) × (is_text (0xE2 ∷ 0x82 ∷ 0xAC ∷ []) ≡ true)
unfolding is_utf8 chars encode
are_texts = (refl, refl, refl, refl, refl, refl, refl, refl)

-- comments stand by identifier, whichever came first
sorted : by_id (comments (note 6 (id 1 2) (id 1 4) (codes "b") ∷ Note (id 2 0) (id 1 1 ∷ id 1 1 ∷ []) 3 (codes "c") ∷ note 5 (id 1 1) (id 1 1) (codes "a") ∷ []))
    ≡ record { id = id 1 5; first = id 1 1; last = id 1 1; text = codes "a" } ∷ record { id = id 1 6; first = id 1 2; last = id 1 4; text = codes "b" }
    ∷ record { id = id 2 0; first = id 1 1; last = id 1 1; text = codes "c" } ∷ []
unfolding is_utf8 chars encode
sorted = refl
