-- Small runs of a relay: the frames of a section S and of a text A come in two sessions, and others are refused, each
-- at the byte that shows it.
use Rattle.origin_model.proofs.Words.{◌<◌, All-cons, All-nil, Delete, Note, Identifier, List, None, Op, Option, Section, Some, Text, [], ap, append-nil, arith, codes, drop, length}
use Rattle.origin_model.proofs.Words.{refl, sym, take, true, ℕ, ◌++◌, ◌∙◌, ◌∷◌, ◌≡◌, ◌≢◌}
use Rattle.std.specs.Char.{IsScalar}
use Rattle.std.specs.Int.{from_be_bytes, w32}
use lib.Utf8.{encode}
use Rattle.std.specs.FinMap as finite
use Rattle.std.specs.FinMap.{gets}
use Rattle.std.proofs.lemmas.Nat.{from_be_bytes-to_be_bytes_4}
use Rattle.origin_model.specs.declared.relay.Event.{Event}
use Rattle.origin_model.specs.declared.relay.Event.TheVariants.{Gone, Opened, Piece}
use Rattle.origin_model.specs.declared.relay.Reply.{Reply}
use Rattle.origin_model.specs.declared.grammar.Grammar.TheVariants.{Version2}
use Rattle.origin_model.specs.frames.Frames.{Framed, HasFrame, IsFrame, IsItem, Item, Run, Single, Typed, frame, item_bytes, run_frame, run_ops}
use Rattle.origin_model.proofs.frames.SingleLemmas.{framed_is, framed_of}
use Rattle.origin_model.specs.relay.Relay.{Relay, RelayRuns, Sessions, RelaySteps, new_relay, reply_of}
use Rattle.origin_model.specs.relay.Session.{reply_from, Closes, Goes, SessionReading, IsKind, Neither, Taken, TakesAll, closing, session_goes_on, greeting_read, refusal_message}
use Rattle.origin_model.specs.relay.Session.{session_refused, unread}
use Rattle.origin_model.proofs.relay.OneOutcomeLemmas.{begins_low, first}
use Rattle.origin_model.proofs.relay.RunLemmas.{after_piece, open_stays, opened_steps, unknown_steps, piece_steps, follows_runs}
use Rattle.origin_model.proofs.relay.TextLemmas.{closing_takes, hello, hello_takes, closed_takes, frame_takes, front_takes, partly, takes-append}

abbrev id : ℕ → ℕ → Identifier
id replica counter = record { replica = replica; counter = counter }

abbrev S : Op
S = Section (id 9 0) None None (codes "T")

abbrev A : Op
A = Text (id 1 0) (id 9 0) None None 97

-- both have frames
S_has : HasFrame S
unfolding encode
S_has = (
  record { some_replica = omega arith; replica_fits = omega arith; counter_fits = omega arith },
  tt,
  tt,
  record { scalars = All-cons IsScalar 84 [] refl (All-nil IsScalar); text = record { some = omega arith; short = omega arith; one_line = refl } },
)

A_has : HasFrame A
A_has = (
  record { some_replica = omega arith; replica_fits = omega arith; counter_fits = omega arith },
  record { some_replica = omega arith; replica_fits = omega arith; counter_fits = omega arith },
  tt,
  tt,
  refl,
)

-- what two sessions bring: each begins at the start of the log, 1 brings A and 0 brings S, and both are answered
abbrev two_sessions : List Event
two_sessions =
    Opened 0 ∷ Opened 1 ∷ Piece 0 (hello 0) ∷ Piece 1 (hello 0 ++ frame A) ∷ Piece 0 (frame S) ∷ Piece 1 closing ∷ Piece 0 closing ∷ []

abbrev reply : ℕ → List ℕ → Option Reply
reply n bytes = Some (record { session = n; bytes = bytes; closes = true })

abbrev both : List (List ℕ)
both = frame A ∷ frame S ∷ []

abbrev all_frames : List ℕ
all_frames = frame A ++ frame S ++ 0x55 ∷ 0 ∷ 0 ∷ 0 ∷ 2 ∷ []

abbrev many : ℕ
many = 1048576

abbrev behind : ℕ → SessionReading
behind cursor = record { cursor = Some cursor; rest = [] }

abbrev relay : List (List ℕ) → Sessions → Relay
relay log sessions = record { limit = many; log = log; sessions = sessions }

-- both were opened, their greetings and a frame of each were read, and both are closed
abbrev both_closed : Sessions
both_closed =
    let open_two = finite.insert (finite.insert finite.empty 0 unread) 1 unread in
    finite.remove (finite.remove (finite.insert (finite.insert (finite.insert open_two 0 (behind 0)) 1 (behind 0)) 0 (behind 0)) 1) 0

-- the log has both frames, in the order in which they came, and each session is answered both
two_sessions_run : RelayRuns (new_relay many) two_sessions (relay both both_closed) (None ∷ None ∷ None ∷ None ∷ None ∷ reply 1 all_frames ∷ reply 0 all_frames ∷ [])
unfolding encode
two_sessions_run =
    let a : Sessions = finite.insert finite.empty 0 unread in
    let b : Sessions = finite.insert a 1 unread in
    let c : Sessions = finite.insert b 0 (behind 0) in
    let d : Sessions = finite.insert c 1 (behind 0) in
    let e : Sessions = finite.insert d 0 (behind 0) in
    let f : Sessions = finite.remove e 1 in
    let hello_0 = hello_takes many [] 0 (omega arith) in
    let hello_1 = takes-append many (hello 0) (frame A) (record { log = []; next = Goes unread }) (session_goes_on [] 0) (session_goes_on (frame A ∷ []) 0) hello_0
    (frame_takes (framed_of A) (framed_is Version2 A A_has) many 0 []) in
    let closes : Taken = record { log = both; next = Closes (reply_from both 0) } in
    let s = opened_steps (new_relay many) 0 (simp gets refl) in
    let t = opened_steps (relay [] a) 1 (simp gets refl) in
    let u = piece_steps (relay [] b) 0 unread (hello 0) (session_goes_on [] 0) (simp gets refl) hello_0 in
    let v = piece_steps (relay [] c) 1 unread (hello 0 ++ frame A) (session_goes_on (frame A ∷ []) 0) (simp gets refl) hello_1 in
    let w = piece_steps (relay (frame A ∷ []) d) 0 (behind 0) (frame S) (session_goes_on both 0) (simp gets refl)
    (frame_takes (framed_of S) (framed_is Version2 S S_has) many 0 (frame A ∷ [])) in
    let x = piece_steps (relay both e) 1 (behind 0) closing closes (simp gets refl) (closing_takes many 0 both) in
    let y = piece_steps (relay both f) 0 (behind 0) closing closes (simp gets refl) (closing_takes many 0 both) in
    follows_runs (new_relay many)
    ((Opened 0, relay [] a, None) ∷ (Opened 1, relay [] b, None) ∷ (Piece 0 (hello 0), relay [] c, None) ∷ (Piece 1 (hello 0 ++ frame A), relay (frame A ∷ []) d, None)
    ∷ (Piece 0 (frame S), relay both e, None)
    ∷ (Piece 1 closing, relay both f, reply 1 all_frames) ∷ (Piece 0 closing, relay both both_closed, reply 0 all_frames) ∷ [])
    (s, (t, (u, (v, (w, (x, (y, tt)))))))

-- a session that one byte follows the other begins at the second frame, and is answered that one
abbrev byte_by_byte : List Event
byte_by_byte = Piece 2 (0x48 ∷ []) ∷ Piece 2 (0 ∷ []) ∷ Piece 2 (0 ∷ []) ∷ Piece 2 (0 ∷ []) ∷ Piece 2 (1 ∷ []) ∷ Piece 2 (0x44 ∷ []) ∷ []

-- how far its greeting was read
abbrev greets : List ℕ → SessionReading
greets bytes = record { cursor = None; rest = bytes }

abbrev second_frame : List ℕ
second_frame = frame S ++ 0x55 ∷ 0 ∷ 0 ∷ 0 ∷ 2 ∷ []

-- session 2 as it greets, byte by byte
abbrev greeting_2 : Sessions → List (List ℕ) → Sessions
greeting_2 sessions [] = sessions
greeting_2 sessions (bytes ∷ more) = greeting_2 (finite.insert sessions 2 (greets bytes)) more

module _ (others : Sessions) where
  abbrev greeted_2 : Sessions
  greeted_2 = greeting_2 others ((0x48 ∷ []) ∷ (0x48 ∷ 0 ∷ []) ∷ (0x48 ∷ 0 ∷ 0 ∷ []) ∷ (0x48 ∷ 0 ∷ 0 ∷ 0 ∷ []) ∷ [])

  abbrev closed_2 : Sessions
  closed_2 = finite.remove (finite.insert greeted_2 2 (behind 1)) 2

  byte_by_byte_run : finite.get others 2 ≡ Some unread
      → RelayRuns (relay both others) byte_by_byte (relay both closed_2) (None ∷ None ∷ None ∷ None ∷ None ∷ reply 2 second_frame ∷ [])
  unfolding encode
  byte_by_byte_run found =
      let a : Sessions = finite.insert others 2 (greets (0x48 ∷ [])) in
      let b : Sessions = finite.insert a 2 (greets (0x48 ∷ 0 ∷ [])) in
      let c : Sessions = finite.insert b 2 (greets (0x48 ∷ 0 ∷ 0 ∷ [])) in
      let d : Sessions = finite.insert c 2 (greets (0x48 ∷ 0 ∷ 0 ∷ 0 ∷ [])) in
      let e : Sessions = finite.insert d 2 (behind 1) in
      let more : (old : Sessions) (bytes : List ℕ) (byte : ℕ) → finite.get old 2 ≡ Some (greets bytes)
      → RelaySteps (relay both old) (Piece 2 (byte ∷ [])) (after_piece (relay both old) 2 (greeting_read both (bytes ++ byte ∷ [])))
      (reply_of 2 (greeting_read both (bytes ++ byte ∷ [])).next) = λ old bytes byte g.
      piece_steps (relay both old) 2 (greets bytes) (byte ∷ []) (greeting_read both (bytes ++ byte ∷ [])) g (greeting_read both (bytes ++ byte ∷ []), refl, refl) in
      let s = more others [] 0x48 found in
      let t = more a (0x48 ∷ []) 0 (simp gets refl) in
      let u = more b (0x48 ∷ 0 ∷ []) 0 (simp gets refl) in
      let v = more c (0x48 ∷ 0 ∷ 0 ∷ []) 0 (simp gets refl) in
      let w = more d (0x48 ∷ 0 ∷ 0 ∷ 0 ∷ []) 1 (simp gets refl) in
      let x = piece_steps (relay both e) 2 (behind 1) closing (record { log = both; next = Closes (reply_from both 1) }) (simp gets refl) (closing_takes many 1 both) in
      follows_runs (relay both others)
      ((Piece 2 (0x48 ∷ []), relay both a, None) ∷ (Piece 2 (0 ∷ []), relay both b, None) ∷ (Piece 2 (0 ∷ []), relay both c, None) ∷ (Piece 2 (0 ∷ []), relay both d, None)
      ∷ (Piece 2 (1 ∷ []), relay both e, None) ∷ (Piece 2 (0x44 ∷ []), relay both closed_2, reply 2 second_frame) ∷ []) (s, (t, (u, (v, (w, (x, tt))))))

-- an answer with both frames has 41 bytes, and one with the second alone 19
answers_have_41_and_19_bytes : (length all_frames ≡ 41) × (length second_frame ≡ 19)
unfolding encode
answers_have_41_and_19_bytes = (refl, refl)

-- a cursor of 3 is beyond a log of two frames: the session is refused at the fourth byte of the cursor, and what the
-- piece brings after it counts for nothing
cursor_beyond : TakesAll many (hello 3 ++ frame A) (record { log = both; next = Goes unread }) (session_refused both 3)
cursor_beyond = takes-append many (hello 3) (frame A) (record { log = both; next = Goes unread }) (session_refused both 3) (session_refused both 3)
    (hello_takes many both 3 (omega arith)) (closed_takes many (frame A) both (refusal_message 3))

-- a log of one frame that may have no more takes that frame again, and refuses another at its last byte; the log stays
full_log : TakesAll 1 (hello 0 ++ (frame S ++ (frame S ++ (frame A ++ closing)))) (record { log = []; next = Goes unread }) (session_refused (frame S ∷ []) 2)
unfolding encode
full_log =
    takes-append 1 (hello 0) (frame S ++ (frame S ++ (frame A ++ closing))) (record { log = []; next = Goes unread }) (session_goes_on [] 0) (session_refused (frame S ∷ []) 2)
    (hello_takes 1 [] 0 (omega arith))
    (takes-append 1 (frame S) (frame S ++ (frame A ++ closing)) (session_goes_on [] 0) (session_goes_on (frame S ∷ []) 0) (session_refused (frame S ∷ []) 2)
    (frame_takes (framed_of S) (framed_is Version2 S S_has) 1 0 [])
    (takes-append 1 (frame S) (frame A ++ closing) (session_goes_on (frame S ∷ []) 0) (session_goes_on (frame S ∷ []) 0) (session_refused (frame S ∷ []) 2)
    (frame_takes (framed_of S) (framed_is Version2 S S_has) 1 0 (frame S ∷ []))
    (takes-append 1 (frame A) closing (session_goes_on (frame S ∷ []) 0) (session_refused (frame S ∷ []) 2) (session_refused (frame S ∷ []) 2)
    (frame_takes (framed_of A) (framed_is Version2 A A_has) 1 0 (frame S ∷ []))
    (closed_takes 1 closing (frame S ∷ []) (refusal_message 2)))))

-- three letters typed in a row, as a run
abbrev abc : Run
abc = record { id = id 1 0; section = id 9 0; left = None; right = None; text = 97 ∷ 98 ∷ 99 ∷ [] }

abbrev abc_framed : Framed
abc_framed = record { bytes = run_frame abc; ops = run_ops abc }

abc_is : IsFrame Version2 abc_framed
abc_is = record {
  item = Typed abc;
  is_item = record {
    id = A_has.0;
    section = A_has.1;
    left = tt;
    right = tt;
    text = record {
      some = omega arith;
      short = omega arith;
      scalars = All-cons IsScalar 97 (98 ∷ 99 ∷ []) refl (All-cons IsScalar 98 (99 ∷ []) refl (All-cons IsScalar 99 [] refl (All-nil IsScalar)));
    };
    counters_fit = omega arith;
  };
  bytes_are = refl;
  ops_are = refl;
}

-- of a run that finds the log full at its second letter the first one stays
run_in_full_log : TakesAll 2 (hello 0 ++ (frame S ++ (run_frame abc ++ closing))) (record { log = []; next = Goes unread }) (session_refused (frame S ∷ frame A ∷ []) 2)
unfolding encode
run_in_full_log =
    takes-append 2 (hello 0) (frame S ++ (run_frame abc ++ closing)) (record { log = []; next = Goes unread }) (session_goes_on [] 0) (session_refused (frame S ∷ frame A ∷ []) 2)
    (hello_takes 2 [] 0 (omega arith))
    (takes-append 2 (frame S) (run_frame abc ++ closing) (session_goes_on [] 0) (session_goes_on (frame S ∷ []) 0) (session_refused (frame S ∷ frame A ∷ []) 2)
    (frame_takes (framed_of S) (framed_is Version2 S S_has) 2 0 [])
    (takes-append 2 (run_frame abc) closing (session_goes_on (frame S ∷ []) 0) (session_refused (frame S ∷ frame A ∷ []) 2) (session_refused (frame S ∷ frame A ∷ []) 2)
    (frame_takes abc_framed abc_is 2 0 (frame S ∷ [])) (closed_takes 2 closing (frame S ∷ frame A ∷ []) (refusal_message 2))))

-- a text that does not begin with 48 is refused at its first byte, also one that begins with the closing byte
no_greeting : TakesAll many (0x47 ∷ 0x48 ∷ []) (record { log = []; next = Goes unread }) (session_refused [] 1)
    × TakesAll many (0x44 ∷ 0x48 ∷ []) (record { log = []; next = Goes unread }) (session_refused [] 1)
no_greeting = (
  (session_refused [] 1, refl, closed_takes many (0x48 ∷ []) [] (refusal_message 1)),
  (session_refused [] 1, refl, closed_takes many (0x48 ∷ []) [] (refusal_message 1)),
)

-- the four bytes after the first
next_four : List ℕ → List ℕ
next_four bytes = take 4 (drop 1 bytes)

-- no frame begins with 6
no_frame_with_6 : (item : Item) (more : List ℕ) → item_bytes item ≡ 6 ∷ more → ⊥
no_frame_with_6 item more e = let l : 6 < 6 = begins_low item 6 more e in omega (arith, l)

-- nor has a text the replica 0
no_replica_0 : (item : Item) (more : List ℕ) → IsItem Version2 item → item_bytes item ≡ 2 ∷ 0 ∷ 0 ∷ 0 ∷ 0 ∷ more → ⊥
unfolding first next_four
no_replica_0 (Single (Section id left right title)) more h e = let d : 1 ≡ 2 = ap first e in omega (arith, d)
no_replica_0 (Single (Text id section left right ch)) more h e =
    let zero : id.replica ≡ 0 = sym (from_be_bytes-to_be_bytes_4 id.replica h.0.replica_fits) ∙ ap (from_be_bytes w32) (ap next_four e) in
    omega (arith, zero, h.0.some_replica)
no_replica_0 (Single (Delete target)) more h e = let d : 3 ≡ 2 = ap first e in omega (arith, d)
no_replica_0 (Single (Note id named code body)) more h e = let d : 5 ≡ 2 = ap first e in omega (arith, d)
no_replica_0 (Typed run) more h e = let d : 4 ≡ 2 = ap first e in omega (arith, d)

-- bytes after a whole message that no frame begins with are none of a message
no_message : (bytes : List ℕ) → ((item : Item) (more : List ℕ) → IsItem Version2 item → item_bytes item ≡ bytes ++ more → ⊥) → bytes ≢ closing → IsKind Neither bytes
no_message bytes none apart = (
  λ ops f. none f.item [] f.is_item (sym f.bytes_are ∙ sym (append-nil bytes)),
  λ p. none p.is_frame.item p.more p.is_frame.is_item (sym p.is_frame.bytes_are ∙ p.front),
  apart,
)

-- a byte that begins no message is refused, and what the piece brings after it counts for nothing
no_such_message : TakesAll many (6 ∷ closing) (session_goes_on both 0) (session_refused both 1)
no_such_message =
    (session_refused both 1, (Neither, no_message (6 ∷ []) (λ item more h e. no_frame_with_6 item more e) (λ e. cc e), refl), closed_takes many closing both (refusal_message 1))

-- a text of replica 0 is refused at the fourth byte of the replica
replica_0 : TakesAll many ((2 ∷ 0 ∷ 0 ∷ 0 ∷ []) ++ 0 ∷ closing) (session_goes_on both 0) (session_refused both 1)
replica_0 =
    takes-append many (2 ∷ 0 ∷ 0 ∷ 0 ∷ []) (0 ∷ closing) (session_goes_on both 0) (partly both 0 (2 ∷ 0 ∷ 0 ∷ 0 ∷ [])) (session_refused both 1)
    (front_takes (framed_of A) (framed_is Version2 A A_has) many 0 both [] (2 ∷ 0 ∷ 0 ∷ 0 ∷ []) 1 (drop 5 (frame A)) refl)
    (session_refused both 1, (Neither, no_message (2 ∷ 0 ∷ 0 ∷ 0 ∷ 0 ∷ []) no_replica_0 (λ e. cc e), refl), closed_takes many closing both (refusal_message 1))

-- a number that is opened while it is open goes on; one that is gone is unknown; one that is opened again begins an empty text
abbrev reopened : List Event
reopened = Opened 1 ∷ Piece 1 (0x48 ∷ []) ∷ Opened 1 ∷ Piece 1 (0 ∷ []) ∷ Gone 1 ∷ Piece 1 (5 ∷ []) ∷ Gone 1 ∷ Opened 1 ∷ Piece 1 (0 ∷ 0x48 ∷ []) ∷ []

abbrev opened_anew : Sessions
opened_anew =
    let gone = finite.remove (finite.insert (finite.insert (finite.insert finite.empty 1 unread) 1 (greets (0x48 ∷ []))) 1 (greets (0x48 ∷ 0 ∷ []))) 1 in
    finite.insert (finite.remove gone 1) 1 unread

reopened_run : RelayRuns (new_relay many) reopened (relay [] (finite.remove opened_anew 1))
    (None ∷ None ∷ None ∷ None ∷ None ∷ None ∷ None ∷ None ∷ reply 1 (refusal_message 1) ∷ [])
reopened_run =
    let a : Sessions = finite.insert finite.empty 1 unread in
    let b : Sessions = finite.insert a 1 (greets (0x48 ∷ [])) in
    let c : Sessions = finite.insert b 1 (greets (0x48 ∷ 0 ∷ [])) in
    let gone : Sessions = finite.remove c 1 in
    let more : (old : Sessions) (bytes : List ℕ) (byte : ℕ) → finite.get old 1 ≡ Some (greets bytes)
    → RelaySteps (relay [] old) (Piece 1 (byte ∷ [])) (after_piece (relay [] old) 1 (greeting_read [] (bytes ++ byte ∷ [])))
    (reply_of 1 (greeting_read [] (bytes ++ byte ∷ [])).next) = λ old bytes byte g.
    piece_steps (relay [] old) 1 (greets bytes) (byte ∷ []) (greeting_read [] (bytes ++ byte ∷ [])) g (greeting_read [] (bytes ++ byte ∷ []), refl, refl) in
    let n = opened_steps (new_relay many) 1 (simp gets refl) in
    let o = more a [] 0x48 (simp gets refl) in
    let p = open_stays (relay [] b) 1 (greets (0x48 ∷ [])) (simp gets refl) in
    let q = more b (0x48 ∷ []) 0 (simp gets refl) in
    let r = unknown_steps (relay [] gone) 1 (5 ∷ []) (simp gets refl) in
    let s = opened_steps (relay [] (finite.remove gone 1)) 1 (simp gets refl) in
    let t = piece_steps (relay [] opened_anew) 1 unread (0 ∷ 0x48 ∷ []) (session_refused [] 1) (simp gets refl)
    (session_refused [] 1, refl, closed_takes many (0x48 ∷ []) [] (refusal_message 1)) in
    follows_runs (new_relay many)
    ((Opened 1, relay [] a, None) ∷ (Piece 1 (0x48 ∷ []), relay [] b, None) ∷ (Opened 1, relay [] b, None) ∷ (Piece 1 (0 ∷ []), relay [] c, None) ∷ (Gone 1, relay [] gone, None)
    ∷ (Piece 1 (5 ∷ []), relay [] gone, None)
    ∷ (Gone 1, relay [] (finite.remove gone 1), None) ∷ (Opened 1, relay [] opened_anew, None)
    ∷ (Piece 1 (0 ∷ 0x48 ∷ []), relay [] (finite.remove opened_anew 1), reply 1 (refusal_message 1)) ∷ [])
    (n, (o, (p, (q, ((refl, refl), (r, ((refl, refl), (s, (t, tt)))))))))
