-- Small worlds with notes, computed from the definitions: the replicas 1 and 2 of the other examples.
use Rattle.std.proofs.Common.{List, [], refl, ◌++◌, ◌-◌, ◌^◌, ◌∷◌, ◌≡◌}
use Rattle.std.specs.Prelude.{None, Some, codes}
use Rattle.fugue_ids.specs.Identifiers.{Identifier}
use Rattle.fugue_ids.specs.declared.op.Op.{Op}
use Rattle.fugue_ids.specs.declared.op.Op.TheVariants.{Delete, Note, Section, Text}
use Rattle.origin_model.specs.declared.operations.Verdict.TheVariants.{Missing, Ready, Stray}
use Rattle.origin_model.specs.operations.Verdict.{verdict}
use Rattle.origin_model.specs.order.Order.{chain, order}
use Rattle.origin_model.specs.taking.Taking.{settle}
use Rattle.origin_model.specs.edits.Edits.{Add, Put, id_at}
use Rattle.origin_model.specs.edits.State.{State}
use Rattle.list_spec.specs.Worlds.{Deliver, Edit, Event, Noting, World, replica_after_note, replica_after_delivery, world}
use Rattle.list_spec.proofs.Examples.{both, replica, section, texts, the_section}

abbrev with_held : State → (history waiting : List Op) → State
with_held s history waiting = record s { held = record { history = history; waiting = waiting } }

abbrev note_id : Identifier
note_id = id_at 1 1

abbrev the_note : Op
the_note = Note note_id (section ∷ []) 7 (codes "hi")

-- replica 1 adds a section and makes a note of it: both operations are accepted and in the pool
abbrev noting : List Event
noting = Edit 1 (Add 0 (codes "T")) ∷ Noting 1 (section ∷ []) 7 (codes "hi") ∷ []

abbrev after_noting : World
after_noting = record { replicas = with_held (replica 1) (the_note ∷ the_section ∷ []) [] ∷ replica 2 ∷ []; pool = the_note ∷ the_section ∷ [] }

note_made : world both noting ≡ after_noting
unfolding order
note_made = refl

-- names may be none, and one may be given twice
any_names : world both (Edit 1 (Add 0 (codes "T")) ∷ Noting 1 [] 0 [] ∷ Noting 1 (section ∷ section ∷ []) 0 [] ∷ [])
    ≡ (let h : List Op = Note (id_at 1 2) (section ∷ section ∷ []) 0 [] ∷ Note note_id [] 0 [] ∷ the_section ∷ [] in
    record { replicas = with_held (replica 1) h [] ∷ replica 2 ∷ []; pool = h })
unfolding order
any_names = refl

-- where one of the names is not held, nothing changes: replica 2 lacks the section, and no note names itself
name_lacking : world both (noting ++ Noting 2 (section ∷ []) 7 (codes "hi") ∷ Noting 1 (section ∷ id_at 1 2 ∷ []) 7 [] ∷ []) ≡ world both noting
unfolding order
name_lacking = refl

-- nor does anything change where no operation more may be accepted, or no counter is left
abbrev full : State
full = record (with_held (replica 1) (the_section ∷ []) []) { most = 1 }

abbrev spent : State
spent = with_held (replica 1) (Section (id_at 1 (2 ^ 32 - 1)) None None (codes "T") ∷ []) []

refused : (replica_after_note [] 0 [] full ≡ full) × (replica_after_note [] 0 [] spent ≡ spent)
refused = (refl, refl)

-- replica 2 hears of the note before what it names: it waits, and is accepted after the section
abbrev early : List Event
early = noting ++ Deliver 2 the_note ∷ []

waits : world both early ≡ record after_noting { replicas = with_held (replica 1) (the_note ∷ the_section ∷ []) [] ∷ with_held (replica 2) [] (the_note ∷ []) ∷ [] }
unfolding order verdict settle
waits = refl

accepted_after : world both (early ++ Deliver 2 the_section ∷ [])
    ≡ record after_noting { replicas = with_held (replica 1) (the_note ∷ the_section ∷ []) [] ∷ with_held (replica 2) (the_note ∷ the_section ∷ []) [] ∷ [] }
unfolding order verdict settle
accepted_after = refl

-- what is typed next has the counter after the note's, and shows as if there were no note
typed_next : (world both (noting ++ Edit 1 (Put 0 0 (codes "a")) ∷ [])).pool ≡ Text (id_at 1 2) section None None 97 ∷ the_note ∷ the_section ∷ []
unfolding order
typed_next = refl

shown_as_ever : texts (world both (noting ++ Edit 1 (Put 0 0 (codes "a")) ∷ Noting 1 (id_at 1 2 ∷ []) 0 [] ∷ [])) ≡ codes "a" ∷ [] ∷ []
unfolding order chain
shown_as_ever = refl

-- the counter that replica 2 takes is after those that notes name too
abbrev with_name : State
with_name = with_held (replica 2) [] (Note (id_at 1 5) (id_at 2 8 ∷ []) 0 [] ∷ [])

named_counter : replica_after_note [] 0 [] with_name ≡ with_held (replica 2) (Note (id_at 2 9) [] 0 [] ∷ []) (Note (id_at 1 5) (id_at 2 8 ∷ []) 0 [] ∷ [])
named_counter = refl

-- a Delete of a note is accepted, and the note stays in the history; where the note is not held, the Delete waits
abbrev withdrawal : Op
withdrawal = Delete note_id

withdrawn : replica_after_delivery withdrawal (with_held (replica 2) (the_note ∷ the_section ∷ []) []) ≡ with_held (replica 2) (withdrawal ∷ the_note ∷ the_section ∷ []) []
unfolding verdict settle
withdrawn = refl

withdrawn_early : replica_after_delivery withdrawal (with_held (replica 2) (the_section ∷ []) []) ≡ with_held (replica 2) (the_section ∷ []) (withdrawal ∷ [])
unfolding verdict settle
withdrawn_early = refl

-- no event of a world makes one: it is delivered to nobody
withdrawn_nowhere : world both (noting ++ Deliver 1 withdrawal ∷ []) ≡ world both noting
unfolding order
withdrawn_nowhere = refl

-- a Text whose section is a note, and one whose left origin is, are Stray; what names the note is Ready
names_note :
    (verdict (the_note ∷ the_section ∷ []) (Text (id_at 2 0) note_id None None 97) ≡ Stray note_id)
    × (verdict (the_note ∷ the_section ∷ []) (Text (id_at 2 0) section (Some note_id) None 97) ≡ Stray note_id)
    × (verdict (the_note ∷ the_section ∷ []) (Note (id_at 2 0) (note_id ∷ section ∷ []) 0 []) ≡ Ready)
    × (verdict (the_note ∷ the_section ∷ []) (Note (id_at 2 0) (note_id ∷ id_at 2 0 ∷ []) 0 []) ≡ Missing (id_at 2 0))
unfolding verdict
names_note = (refl, refl, refl, refl)
