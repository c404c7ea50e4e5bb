-- Small histories with moves and retitles, computed from the definitions. Each is written in order of arrival.
use Rattle.std.proofs.Common.{List, [], refl, reverse, ℕ, ◌++◌, ◌∷◌, ◌≡◌}
use Rattle.std.specs.Prelude.{None, Some, codes, zero, suc, true, false}
use Rattle.std.specs.Str.{chars, is_utf8}
use lib.Utf8.{encode}
use Rattle.fugue_ids.specs.Identifiers.{Identifier}
use Rattle.fugue_ids.specs.declared.op.Op.{Op}
use Rattle.fugue_ids.specs.declared.op.Op.TheVariants.{Delete, Note, Section, Text}
use Rattle.origin_model.specs.operations.Verdict.{Lawful, verdict}
use Rattle.origin_model.specs.order.Order.{chain, order}
use Rattle.catalogue_notes.specs.Arranged.{arranged, arranged_text, heading}
use Rattle.catalogue_notes.specs.Claims.{is_title}
use Rattle.catalogue_notes.specs.Lift.{claims, lift, stamp}
use Rattle.catalogue_notes.specs.Making.{move_of_member, retitled}

abbrev pub id : ℕ → ℕ → Identifier
id replica counter = record { replica = replica; counter = counter }

-- the sections A, B and C
abbrev pub a : Identifier
a = id 1 0

abbrev pub b : Identifier
b = id 1 1

abbrev pub c : Identifier
c = id 1 2

abbrev pub three : List Op
three = Section a None None (codes "A") ∷ Section b (Some a) None (codes "B") ∷ Section c (Some b) None (codes "C") ∷ []

abbrev seen : List Op → List Identifier
seen ops = arranged (reverse ops)

-- the third section to the front, as it is made, and as its bytes are
abbrev third_first : Op
third_first = Note (id 1 3) (c ∷ a ∷ []) 1 (0 ∷ 0 ∷ 0 ∷ 1 ∷ 2 ∷ [])

-- at the same time another author moves it to the second place
abbrev third_second : Op
third_second = Note (id 2 0) (c ∷ a ∷ b ∷ []) 1 (0 ∷ 0 ∷ 0 ∷ 1 ∷ 3 ∷ [])

made_moves : (move_of_member (reverse three) (id 1 3) c 2 0 ≡ third_first) × (move_of_member (reverse three) (id 2 0) c 2 1 ≡ third_second)
unfolding lift claims order chain
made_moves = (refl, refl)

-- all of them are accepted
moves_are_lawful : Lawful (reverse (three ++ third_first ∷ third_second ∷ Delete (id 2 0) ∷ []))
unfolding verdict
moves_are_lawful = (refl, (refl, (refl, (refl, (refl, (refl, tt))))))

-- of two moves of one section with equal stamps the greater identifier wins, in either order of arrival
concurrent_moves :
    (seen three ≡ a ∷ b ∷ c ∷ []) × (seen (three ++ third_first ∷ []) ≡ c ∷ a ∷ b ∷ [])
    × (seen (three ++ third_first ∷ third_second ∷ []) ≡ a ∷ c ∷ b ∷ []) × (seen (three ++ third_second ∷ third_first ∷ []) ≡ a ∷ c ∷ b ∷ [])
unfolding lift claims order chain
concurrent_moves = (refl, refl, refl, refl)

-- the greater stamp wins, whatever the identifiers are and whichever comes last
abbrev third_later : Op
third_later = Note (id 1 3) (c ∷ a ∷ []) 1 (0 ∷ 0 ∷ 1 ∷ 0 ∷ 2 ∷ [])

greater_stamps :
    (seen (three ++ third_later ∷ third_second ∷ []) ≡ c ∷ a ∷ b ∷ []) × (seen (three ++ third_second ∷ third_later ∷ []) ≡ c ∷ a ∷ b ∷ [])
    × (stamp (reverse (three ++ third_later ∷ third_second ∷ [])) ≡ 256)
unfolding lift claims order chain
greater_stamps = (refl, refl, refl)

-- a withdrawn move no longer wins: the one before it does, or the section's own element
withdrawn_moves :
    (seen (three ++ third_first ∷ third_second ∷ Delete (id 2 0) ∷ []) ≡ c ∷ a ∷ b ∷ [])
    × (seen (three ++ third_first ∷ Delete (id 1 3) ∷ []) ≡ a ∷ b ∷ c ∷ [])
unfolding lift claims order chain
withdrawn_moves = (refl, refl)

-- B after the withdrawn move of C: it stands where that move's element is, at the front
abbrev after_withdrawn : List Op
after_withdrawn = three ++ third_first ∷ Delete (id 1 3) ∷ Note (id 1 4) (b ∷ id 1 3 ∷ a ∷ []) 1 (0 ∷ 0 ∷ 0 ∷ 2 ∷ 3 ∷ []) ∷ []

withdrawn_origins : (seen after_withdrawn ≡ b ∷ a ∷ c ∷ []) × (stamp (reverse after_withdrawn) ≡ 2)
unfolding lift claims order chain
withdrawn_origins = (refl, refl)

-- a move of a dropped section counts for its stamp and its element, and shows nothing
dropped_sections :
    (seen (three ++ Delete c ∷ third_first ∷ []) ≡ a ∷ b ∷ []) × (seen (three ++ third_first ∷ Delete c ∷ []) ≡ a ∷ b ∷ [])
    × (stamp (reverse (three ++ Delete c ∷ third_first ∷ [])) ≡ 1)
unfolding lift claims order chain
dropped_sections = (refl, refl, refl)

-- a history with one note of code 1 after the three sections
abbrev with_note : List Identifier → List ℕ → List Op
with_note named body = three ++ Note (id 1 3) named 1 body ∷ []

-- bodies of 4 and of 6 bytes, a form of 4, too few names and too many: none is a move
no_moves :
    (seen (with_note (c ∷ a ∷ []) (0 ∷ 0 ∷ 0 ∷ 1 ∷ [])) ≡ a ∷ b ∷ c ∷ [])
    × (seen (with_note (c ∷ a ∷ []) (0 ∷ 0 ∷ 0 ∷ 1 ∷ 2 ∷ 0 ∷ [])) ≡ a ∷ b ∷ c ∷ [])
    × (seen (with_note (c ∷ a ∷ []) (0 ∷ 0 ∷ 0 ∷ 1 ∷ 4 ∷ [])) ≡ a ∷ b ∷ c ∷ [])
    × (seen (with_note (c ∷ a ∷ []) (0 ∷ 0 ∷ 0 ∷ 1 ∷ 3 ∷ [])) ≡ a ∷ b ∷ c ∷ [])
    × (seen (with_note (c ∷ a ∷ b ∷ []) (0 ∷ 0 ∷ 0 ∷ 1 ∷ 2 ∷ [])) ≡ a ∷ b ∷ c ∷ [])
    × (stamp (reverse (with_note (c ∷ a ∷ []) (0 ∷ 0 ∷ 0 ∷ 1 ∷ []))) ≡ 0)
unfolding lift claims order chain
no_moves = (refl, refl, refl, refl, refl, refl)

-- they are accepted all the same
no_moves_are_accepted : Lawful (reverse (with_note (c ∷ a ∷ b ∷ []) (0 ∷ 0 ∷ 0 ∷ 1 ∷ 2 ∷ []))) × Lawful (reverse (with_note [] []))
unfolding verdict
no_moves_are_accepted = ((refl, (refl, (refl, (refl, tt)))), (refl, (refl, (refl, (refl, tt)))))

-- nor is one with a Text in the place of the section, or of an origin
abbrev letter : Op
letter = Text (id 1 9) c None None 65

abbrev moves_letter : List Op
moves_letter = three ++ letter ∷ Note (id 1 3) (id 1 9 ∷ a ∷ []) 1 (0 ∷ 0 ∷ 0 ∷ 1 ∷ 2 ∷ []) ∷ []

no_text_moves :
    (seen moves_letter ≡ a ∷ b ∷ c ∷ []) × (seen (three ++ letter ∷ Note (id 1 3) (c ∷ id 1 9 ∷ []) 1 (0 ∷ 0 ∷ 0 ∷ 1 ∷ 2 ∷ []) ∷ []) ≡ a ∷ b ∷ c ∷ [])
    × Lawful (reverse moves_letter)
unfolding lift claims order chain verdict
no_text_moves = (refl, refl, (refl, (refl, (refl, (refl, (refl, tt))))))

-- a note that is no valid move is no origin of one either: the second note is valid only where the first is
invalid_origins :
    (seen (three ++ Note (id 1 3) (c ∷ a ∷ []) 1 (0 ∷ 0 ∷ 0 ∷ 1 ∷ 4 ∷ []) ∷ Note (id 1 4) (b ∷ id 1 3 ∷ []) 1 (0 ∷ 0 ∷ 0 ∷ 2 ∷ 2 ∷ []) ∷ []) ≡ a ∷ b ∷ c ∷ [])
    × (seen (three ++ third_first ∷ Note (id 1 4) (b ∷ id 1 3 ∷ []) 1 (0 ∷ 0 ∷ 0 ∷ 2 ∷ 2 ∷ []) ∷ []) ≡ b ∷ c ∷ a ∷ [])
unfolding lift claims order chain
invalid_origins = (refl, refl)

-- A after B and, at the same time, B after A: nothing goes in a circle, since each goes after an element and not after a section
abbrev first_crossed : Op
first_crossed = Note (id 1 3) (a ∷ b ∷ c ∷ []) 1 (0 ∷ 0 ∷ 0 ∷ 1 ∷ 3 ∷ [])

abbrev second_crossed : Op
second_crossed = Note (id 2 0) (b ∷ a ∷ b ∷ []) 1 (0 ∷ 0 ∷ 0 ∷ 1 ∷ 3 ∷ [])

crossed_moves :
    (seen (three ++ first_crossed ∷ second_crossed ∷ []) ≡ b ∷ a ∷ c ∷ []) × (seen (three ++ second_crossed ∷ first_crossed ∷ []) ≡ b ∷ a ∷ c ∷ [])
unfolding lift claims order chain
crossed_moves = (refl, refl)

-- a section that is added after A in the catalogue stands where A's own element is, wherever A was moved
added_after_moved :
    seen (three ++ Note (id 1 3) (a ∷ c ∷ []) 1 (0 ∷ 0 ∷ 0 ∷ 1 ∷ 1 ∷ []) ∷ Section (id 1 4) (Some a) (Some b) (codes "D") ∷ []) ≡ id 1 4 ∷ b ∷ c ∷ a ∷ []
unfolding lift claims order chain
added_after_moved = refl

-- a retitle, as it is made, and as its bytes are; its stamp is above that of the move
abbrev third_new : Op
third_new = Note (id 1 4) (c ∷ []) 2 (0 ∷ 0 ∷ 0 ∷ 2 ∷ codes "New")

made_retitle : retitled (reverse (three ++ third_first ∷ [])) (id 1 4) c (codes "New") ≡ third_new
unfolding lift claims
made_retitle = refl

-- the sections are printed as they are arranged, under their headings
abbrev titled : List Op
titled = three ++ third_first ∷ third_new ∷ []

printed :
    arranged_text (reverse titled) ≡ codes "# New" ++ 10 ∷ 10 ∷ codes "# A" ++ 10 ∷ 10 ∷ codes "# B" ++ 10 ∷ 10 ∷ []
unfolding arranged_text lift claims order chain is_utf8 chars encode
printed = refl

-- one without a title, one with two names, and one of a Text are none; a withdrawn one no longer wins, and its stamp counts
retitles_count :
    (heading (reverse (titled ++ Note (id 1 5) (a ∷ []) 2 (0 ∷ 0 ∷ 0 ∷ 9 ∷ []) ∷ [])) a ≡ codes "A")
    × (heading (reverse (titled ++ Note (id 1 5) (a ∷ b ∷ []) 2 (0 ∷ 0 ∷ 0 ∷ 9 ∷ codes "X") ∷ [])) a ≡ codes "A")
    × (stamp (reverse (titled ++ letter ∷ Note (id 1 5) (id 1 9 ∷ []) 2 (0 ∷ 0 ∷ 0 ∷ 9 ∷ codes "X") ∷ [])) ≡ 2)
    × (heading (reverse (titled ++ Delete (id 1 4) ∷ [])) c ≡ codes "C") × (stamp (reverse (titled ++ Delete (id 1 4) ∷ [])) ≡ 2)
unfolding lift claims is_utf8 chars encode
retitles_count = (refl, refl, refl, refl, refl)

-- so many letters x
abbrev letters : ℕ → List ℕ
letters zero = []
letters (suc n) = 120 ∷ letters n

-- a title has at most 480 bytes
long_titles : (is_title (letters 480) ≡ true) × (is_title (letters 481) ≡ false)
unfolding is_utf8 encode chars
long_titles = (refl, refl)
