-- The world of a bulk manuscript: two replicas edit one section by turns, without hearing of each other, and then each
-- hears what the other made.
use Rattle.std.specs.Prelude.{◌≡◌, ◌%◌, ℕ, zero, suc, nat_eq, if◌then◌else◌, Some, None, List, [], ◌∷◌, ◌++◌, length, map, codes}
use Rattle.fugue_ids.specs.declared.op.Op.{Op}
use Rattle.fugue_ids.specs.declared.op.Op.TheVariants.{Section}
use Rattle.origin_model.specs.order.Printed.{text}
use Rattle.origin_model.specs.taking.Taking.{nothing_held}
use Rattle.origin_model.specs.edits.Edits.{Add, id_at}
use Rattle.origin_model.specs.edits.State.{State}
use Rattle.origin_model.specs.edits.Refusal.{section_shown}
use Rattle.list_spec.specs.Worlds.{Deliver, Edit, Event, Noting, World, after_event, after_events, effect, made_at, note_effect, world}
use Rattle.bulk_world.specs.Generator.{drawn_command, next}
use Rattle.bulk_world.specs.declared.making.TheConstants.{HOLD}
use Rattle.fugue_ids.specs.declared.limits.TheConstants.{MOST_OPERATIONS}

-- a replica that holds nothing
abbrev pub author : ℕ → State
author number = record { number = number; hold = HOLD; most = MOST_OPERATIONS; held = nothing_held }

-- the two authors, with nothing accepted
abbrev pub authors : List State
authors = author 1 ∷ author 2 ∷ []

-- the replica with this number, as it is in a world
abbrev pub numbered_replica : ℕ → List State → State
numbered_replica n [] = author n
numbered_replica n (s ∷ ss) = if nat_eq s.number n then s else numbered_replica n ss

-- the scalars that a replica shows of its first section
abbrev pub first_text : State → List ℕ
first_text s = elim (section_shown s 0) [ None ↦ [] | Some x ↦ text s.held.history x ]

-- the operations that the replica with this number makes in events
abbrev pub made_in : ℕ → World → Event → List Op
made_in n w (Edit number command) = if nat_eq number n then made_at number (λ (s : State). effect s command) w.replicas else []
made_in n w (Noting number named code body) =
    if nat_eq number n then made_at number (λ (s : State). note_effect s named code body) w.replicas else []
made_in n w (Deliver number op) = []

-- the operations that events make one after another at the replica n
abbrev pub made_over : ℕ → World → List Event → List Op
made_over n w [] = []
made_over n w (event ∷ events) = made_in n w event ++ made_over n (after_event w event) events

-- each of the operations is delivered to the replica with this number
abbrev pub delivers : ℕ → List Op → List Event
delivers n ops = map (λ op. Deliver n op) ops

-- replica 1 adds the section, and replica 2 hears of it
abbrev pub first_section : List Event
first_section = Edit 1 (Add 0 (codes "B")) ∷ []

-- the first section, which both authors have before they part
abbrev pub opening_turn : List Event
opening_turn = first_section ++ delivers 2 (made_over 1 (world authors []) first_section)

-- whose turn i is: that of replica 1 where i is odd
abbrev pub turn_of : ℕ → ℕ
turn_of i = if nat_eq (i % 2) 1 then 1 else 2

-- the turn i, by the number x
abbrev pub turn : World → (i x : ℕ) → Event
turn w i x = Edit (turn_of i) (drawn_command x (length (first_text (numbered_replica (turn_of i) w.replicas))))

-- so many turns from the turn i on, by the numbers after x
abbrev pub turns : World → (count i x : ℕ) → List Event
turns w zero i x = []
turns w (suc count) i x = let event = turn w i (next x) in event ∷ turns (after_event w event) count (suc i) (next x)

-- two replicas, and what was made so far
abbrev pub among : (pool : List Op) → State → State → World
among pool one two = record { replicas = one ∷ two ∷ []; pool = pool }

-- a replica of the world, with whatever it holds
abbrev pub IsAuthor : ℕ → State → Type 0
IsAuthor n s = s ≡ record (author n) { held = s.held }

-- what both begin with
abbrev pub two_begin : ℕ → State
two_begin n = record (author n) { held = record { history = Section (id_at 1 0) None None (codes "B") ∷ []; waiting = [] } }

-- so many turns from the turn i on, by the numbers after x, lead from two replicas to two others
abbrev pub TurnsLead : (count i x : ℕ) → (one two one' two' : State) → Type 0
TurnsLead count i x one two one' two' =
    (pool : List Op) → (after_events (among pool one two) (turns (among pool one two) count i x)).replicas ≡ one' ∷ two' ∷ []

-- after events, each replica hears what the other made in them
abbrev pub hearing : World → List Event → List Event
hearing w events = delivers 2 (made_over 1 w events) ++ delivers 1 (made_over 2 w events)

-- the turns that a seed leads to
abbrev pub all_turns : (seed count : ℕ) → List Event
all_turns seed count = turns (world authors opening_turn) count 1 seed

-- all that happens
abbrev pub events : (seed count : ℕ) → List Event
events seed count = opening_turn ++ (all_turns seed count ++ hearing (world authors opening_turn) (all_turns seed count))

-- the world of a bulk manuscript
abbrev pub bulk_world : (seed count : ℕ) → World
bulk_world seed count = world authors (events seed count)
