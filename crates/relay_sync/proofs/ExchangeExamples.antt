-- Sessions that are interleaved, in worked rows: which events are those of two sessions, and of two with one number.
use Rattle.std.proofs.Common.{List, [], arith, nat_eq, refl, ℕ, ◌∷◌, ◌≡◌}
use Rattle.std.specs.Prelude.{flat_map}
use Rattle.std.specs.List.{filter}
use Rattle.std.proofs.lemmas.List.Elements.{All-nil}
use Rattle.origin_model.specs.declared.relay.Event.{Event}
use Rattle.origin_model.specs.declared.relay.Event.TheVariants.{Gone, Opened, Piece}
use Rattle.origin_model.specs.frames.Frames.{HasFrame}
use Rattle.origin_model.specs.taking.Closure.{Taker}
use Rattle.relay_sync.specs.Exchanges.{AreInterleaved, IsHonestRequest, Sending, events_of, session_of}

-- a replica that holds nothing: its request is a greeting and the closing byte
abbrev new_replica : Taker
new_replica = record { hold = 1; most = 1; ops = [] }

abbrev first_bytes : List ℕ
first_bytes = 0x48 ∷ 0 ∷ 0 ∷ []

abbrev last_bytes : List ℕ
last_bytes = 0 ∷ 0 ∷ 0x44 ∷ []

abbrev sending : ℕ → Sending
sending n = record { number = n; cursor = 0; replica = new_replica; pieces = first_bytes ∷ last_bytes ∷ []; unsent = [] }

sends_whole : (n : ℕ) → IsHonestRequest (sending n)
sends_whole n = record { cursor_fits = omega arith; have_frames = All-nil HasFrame; joined = refl }

-- the events of one number are its sessions
abbrev IsRow : ℕ → List Sending → List Event → Type 0
IsRow n sendings events = filter (λ event. nat_eq (session_of event) n) events ≡ flat_map events_of (filter (λ (s : Sending). nat_eq s.number n) sendings)

abbrev turns : List Event
turns = Opened 1 ∷ Opened 2 ∷ Piece 2 first_bytes ∷ Piece 1 first_bytes ∷ Piece 2 last_bytes ∷ Piece 1 last_bytes ∷ []

-- pieces of two sessions take turns
taking_turns : IsRow 0 (sending 1 ∷ sending 2 ∷ []) turns × IsRow 1 (sending 1 ∷ sending 2 ∷ []) turns × IsRow 2 (sending 1 ∷ sending 2 ∷ []) turns
    × IsRow 3 (sending 1 ∷ sending 2 ∷ []) turns
taking_turns = (refl, refl, refl, refl)

-- a number is used again once its session is over
number_again : IsRow 1 (sending 1 ∷ sending 1 ∷ []) (Opened 1 ∷ Piece 1 first_bytes ∷ Piece 1 last_bytes ∷ Opened 1 ∷ Piece 1 first_bytes ∷ Piece 1 last_bytes ∷ [])
number_again = refl

-- pieces in another order are no session
out_of_order : AreInterleaved (sending 1 ∷ []) (Opened 1 ∷ Piece 1 last_bytes ∷ Piece 1 first_bytes ∷ []) → ⊥
out_of_order each = cc (each 1)

-- nor is a whole session one whose peer goes in its midst
cut_short : AreInterleaved (sending 1 ∷ []) (Opened 1 ∷ Piece 1 first_bytes ∷ Gone 1 ∷ []) → ⊥
cut_short each = cc (each 1)

-- that one breaks off, and sends again
abbrev broken_off : ℕ → Sending
broken_off n = record { number = n; cursor = 0; replica = new_replica; pieces = first_bytes ∷ []; unsent = last_bytes }

breaks_off : (n : ℕ) → IsHonestRequest (broken_off n)
breaks_off n = record { cursor_fits = omega arith; have_frames = All-nil HasFrame; joined = refl }

sends_again : IsRow 1 (broken_off 1 ∷ sending 1 ∷ []) (Opened 1 ∷ Piece 1 first_bytes ∷ Gone 1 ∷ Opened 1 ∷ Piece 1 first_bytes ∷ Piece 1 last_bytes ∷ [])
sends_again = refl
