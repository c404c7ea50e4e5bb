-- Notes, by value: their frames, how they are taken in, and the one that a replica makes next. Operations are written in order of arrival.
use Rattle.origin_model.proofs.Words.{Delete, Identifier, List, None, Note, Op, Section, Text, [], codes, manuscript, order, refl, verdict, ℕ, ◌∷◌, ◌≡◌, chain}
use lib.Utf8.{encode}
use Rattle.origin_model.specs.edits.Edits.{noted}
use Rattle.origin_model.specs.frames.Frames.{frame}
use Rattle.origin_model.specs.operations.History.{place}
use Rattle.origin_model.specs.taking.Closure.{answers}
use Rattle.origin_model.specs.taking.Taking.{Accepted, Again as Repeated, Conflict as Clashes, Answer, Stray, Waits, held, settle}

abbrev id : ℕ → ℕ → Identifier
id replica counter = record { replica = replica; counter = counter }

-- the note 7 of replica 1, which names nothing and says "hi"
abbrev note : Op
note = Note (id 1 0) [] 7 (codes "hi")

abbrev section : Op
section = Section (id 9 0) None None (codes "T")

-- a note that names the section, and one that names itself
abbrev on_section : Op
on_section = Note (id 2 0) (id 9 0 ∷ []) 7 []

abbrev on_itself : Op
on_itself = Note (id 3 0) (id 3 0 ∷ []) 7 []

-- a text whose section is the note, and one with the note's identifier
abbrev in_note : Op
in_note = Text (id 2 0) (id 1 0) None None 97

abbrev as_note : Op
as_note = Text (id 1 0) (id 9 0) None None 97

note_frames :
    (frame note ≡ 5 ∷ 0 ∷ 0 ∷ 0 ∷ 1 ∷ 0 ∷ 0 ∷ 0 ∷ 0 ∷ 0 ∷ 7 ∷ 0 ∷ 2 ∷ 0x68 ∷ 0x69 ∷ [])
    × (frame on_section ≡ 5 ∷ 0 ∷ 0 ∷ 0 ∷ 2 ∷ 0 ∷ 0 ∷ 0 ∷ 0 ∷ 1 ∷ 0 ∷ 0 ∷ 0 ∷ 9 ∷ 0 ∷ 0 ∷ 0 ∷ 0 ∷ 7 ∷ 0 ∷ 0 ∷ [])
note_frames = (refl, refl)

-- a note stands nowhere
no_place : place note ≡ None
no_place = refl

abbrev answered : List Op → List Answer
answered ops = answers 65536 4194304 ops

note_answers :
    (answered (note ∷ note ∷ []) ≡ Accepted ∷ Repeated ∷ []) × (answered (note ∷ Delete (id 1 0) ∷ note ∷ []) ≡ Accepted ∷ Accepted ∷ Repeated ∷ [])
    × (answered (note ∷ in_note ∷ []) ≡ Accepted ∷ Stray (id 1 0) ∷ []) × (answered (on_section ∷ section ∷ []) ≡ Waits ∷ Accepted ∷ [])
    × (answered (section ∷ note ∷ as_note ∷ []) ≡ Accepted ∷ Accepted ∷ Clashes ∷ []) × (answered (section ∷ as_note ∷ note ∷ []) ≡ Accepted ∷ Accepted ∷ Clashes ∷ [])
    × (answered (on_section ∷ in_note ∷ []) ≡ Waits ∷ Clashes ∷ []) × (answered (on_itself ∷ []) ≡ Waits ∷ [])
unfolding settle verdict
note_answers = (refl, refl, refl, refl, refl, refl, refl, refl)

-- what waits for a name joins after it; what names a note joins whatever the note's kind
note_histories :
    ((held 65536 4194304 (on_section ∷ section ∷ [])).history ≡ on_section ∷ section ∷ [])
    × ((held 65536 4194304 (note ∷ Delete (id 1 0) ∷ [])).history ≡ Delete (id 1 0) ∷ note ∷ [])
unfolding settle verdict
note_histories = (refl, refl)

-- a note is never printed, and a Delete of it hides nothing that is shown
note_manuscripts :
    (manuscript (note ∷ []) ≡ []) × (manuscript (Delete (id 1 0) ∷ note ∷ section ∷ []) ≡ manuscript (section ∷ []))
unfolding order chain manuscript encode
note_manuscripts = (refl, refl)

-- the next counter counts notes and what notes name, also those that wait
next_notes :
    (noted [] [] 1 [] 7 [] ≡ Note (id 1 0) [] 7 []) × (noted (note ∷ []) [] 1 [] 7 [] ≡ Note (id 1 1) [] 7 [])
    × (noted (note ∷ []) (Note (id 2 0) (id 1 5 ∷ []) 7 [] ∷ []) 1 (id 1 0 ∷ []) 3 (codes "x") ≡ Note (id 1 6) (id 1 0 ∷ []) 3 (codes "x"))
next_notes = (refl, refl, refl)
