-- Small manuscripts and streams, computed from the definitions. Each is written in order of arrival.
use Rattle.origin_model.proofs.Words.{Delete, Identifier, Lawful, List, None, Op, Option, Section, Some, Text, [], chain, codes, manuscript, order, refl, reverse, text, verdict, ℕ}
use Rattle.origin_model.proofs.Words.{◌++◌, ◌∷◌, ◌≡◌}
use lib.Utf8.{encode}
use Rattle.origin_model.specs.taking.Closure.{answers}
use Rattle.origin_model.specs.taking.Taking.{Again, Stray, TooMany, Accepted, Full, Waits, closure, held, settle, tally}
use Rattle.origin_model.specs.declared.taking.Tally.{Tally}

abbrev id : ℕ → ℕ → Identifier
id replica counter = record { replica = replica; counter = counter }

abbrev at : ℕ → ℕ → Option Identifier
at replica counter = Some (id replica counter)

-- the section of all texts here
abbrev section : Op
section = Section (id 9 0) None None (codes "T")

abbrev letter : Identifier → Option Identifier → Option Identifier → ℕ → Op
letter name left right ch = Text name (id 9 0) left right ch

-- B at the end of the text; A and D before B; X and Y after A, X before B and Y before D
abbrev concurrent : List Op
concurrent =
    section ∷ letter (id 1 0) None None 66 ∷ letter (id 1 1) None (at 1 0) 65 ∷ letter (id 2 0) None (at 1 0) 68
    ∷ letter (id 3 0) (at 1 1) (at 1 0) 88 ∷ letter (id 2 1) (at 1 1) (at 2 0) 89 ∷ []

-- its operations are lawful
concurrent_is_lawful : Lawful (reverse concurrent)
unfolding verdict
concurrent_is_lawful = (refl, (refl, (refl, (refl, (refl, (refl, tt))))))

-- what is read in the section of operations that came in this order
abbrev read : List Op → List ℕ
read ops = text (reverse ops) (id 9 0)

-- where B, with a right origin of its own, was deleted before C was put between A and B
abbrev before_deleted_one : List Op
before_deleted_one = section ∷ letter (id 1 0) None None 65 ∷ letter (id 1 1) (at 1 0) None 66 ∷ Delete (id 1 1) ∷ letter (id 1 2) (at 1 0) (at 1 1) 67 ∷ []

-- where the right origin of Z stands before its left origin
abbrev backwards : List Op
backwards = section ∷ letter (id 1 0) None None 80 ∷ letter (id 1 1) (at 1 0) None 81 ∷ letter (id 2 0) (at 1 1) (at 1 0) 90 ∷ letter (id 3 0) (at 1 1) None 86 ∷ []

small_texts :
    (read concurrent ≡ codes "AXYDB") × (read (concurrent ++ Delete (id 2 0) ∷ Delete (id 1 0) ∷ []) ≡ codes "AXY")
    × (read before_deleted_one ≡ codes "AC") × (read backwards ≡ codes "PQVZ")
unfolding order chain
small_texts = (refl, refl, refl, refl)

small_manuscripts : (manuscript [] ≡ []) × (manuscript (reverse concurrent) ≡ codes "# T" ++ 10 ∷ codes "AXYDB" ++ 10 ∷ [])
unfolding order chain manuscript encode
small_manuscripts = (refl, refl)

-- in the opposite order of arrival all are accepted too, and the same is read; the closure has all
any_order_reads_the_same :
    (text (held 65536 4194304 (reverse concurrent)).history (id 9 0) ≡ codes "AXYDB") × (text (closure (reverse concurrent)) (id 9 0) ≡ codes "AXYDB")
unfolding settle closure verdict order chain
any_order_reads_the_same = (refl, refl)

-- two letters of the section, the second after the first, and a letter of a section that is a letter
abbrev first : Op
first = letter (id 1 0) None None 97

abbrev second : Op
second = letter (id 1 1) (at 1 0) None 98

abbrev misfit : Op
misfit = Text (id 2 0) (id 1 0) None None 120

-- with room for one that waits, the second finds none until the first has settled;
-- where as many are held as may be, only what is there, in conflict or stray is answered otherwise
small_answers :
    (answers 1 4194304 (first ∷ second ∷ section ∷ second ∷ []) ≡ Waits ∷ Full ∷ Accepted ∷ Accepted ∷ [])
    × (answers 1 2 (section ∷ first ∷ second ∷ section ∷ misfit ∷ []) ≡ Accepted ∷ Accepted ∷ TooMany ∷ Again ∷ Stray (id 1 0) ∷ [])
unfolding settle verdict
small_answers = (refl, refl)

-- so both are printed
full_ones_print_later : manuscript (held 1 4194304 (first ∷ second ∷ section ∷ second ∷ [])).history ≡ codes "# T" ++ 10 ∷ codes "ab" ++ 10 ∷ []
unfolding settle verdict order chain manuscript encode
full_ones_print_later = refl

abbrev tallied : (accepted repeated conflict stray full : ℕ) → Tally
tallied accepted repeated conflict stray full = record { accepted = accepted; repeated = repeated; conflict = conflict; stray = stray; full = full }

-- with room for one that waits: one joins while settling; what was full and does not come again is left out; causes first need no room
tallies_with_little_room :
    (tally 1 4194304 (first ∷ second ∷ section ∷ second ∷ []) ≡ tallied 3 0 0 0 1) × (tally 1 4194304 (first ∷ second ∷ section ∷ []) ≡ tallied 2 0 0 0 1)
    × (tally 1 4194304 (section ∷ first ∷ second ∷ []) ≡ tallied 3 0 0 0 0)
unfolding settle verdict
tallies_with_little_room = (refl, refl, refl)

-- with room for all: what came in the opposite order; a repeat and a conflict; a stray that is one when it comes, and when it settles
abbrev roomy : List Op → Tally
roomy ops = tally 65536 4194304 ops

tallies_with_room :
    (roomy (reverse concurrent) ≡ tallied 6 0 0 0 0) × (roomy (section ∷ first ∷ first ∷ letter (id 1 0) None None 122 ∷ []) ≡ tallied 2 1 1 0 0)
    × (roomy (section ∷ first ∷ misfit ∷ []) ≡ tallied 2 0 0 1 0) × (roomy (misfit ∷ section ∷ first ∷ []) ≡ tallied 2 0 0 1 0)
unfolding settle verdict
tallies_with_room = (refl, refl, refl, refl)
