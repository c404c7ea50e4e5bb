-- Small texts of sessions, and what they say: each row has the limit, the log, the text that came, the bytes that come,
-- the log after them, and the answer.
use Rattle.std.proofs.Common.{[], List, ap, arith, drop, inl, inr, refl, sym, take, ℕ, ◌++◌, ◌-◌, ◌<◌, ◌∷◌, ◌≡◌}
use Rattle.std.specs.Prelude.{None, Some}
use Rattle.std.specs.Char.{IsScalar}
use Rattle.std.proofs.lemmas.List.{append-nil}
use Rattle.std.proofs.lemmas.List.Elements.{All-cons, All-nil}
use Rattle.fugue_ids.specs.Identifiers.{Identifier}
use Rattle.fugue_ids.specs.declared.op.Op.{Op}
use Rattle.fugue_ids.specs.declared.op.Op.TheVariants.{Delete, Text}
use Rattle.origin_model.specs.declared.grammar.Grammar.TheVariants.{Version2}
use Rattle.origin_model.specs.frames.Frames.{Framed, HasFrame, IsFrame, IsIdentifier, IsPartial, Run, Starts, Typed, frame, run_frame}
use Rattle.origin_model.specs.relay.Session.{closing}
use Rattle.origin_model.proofs.SharedLemmas.{framed_is, framed_of}
use Rattle.relay_core.specs.Texts.{Beyond, Closed, ComesToText, NoGreeting, OneTooMany, SaysCursor, Speaks, log_with_ops}
use Rattle.relay_core.proofs.TextLemmas.{none_starts}
use Rattle.op_frame.proofs.ReadingLemmas.{no_bytes_are_partial}

abbrev id : ℕ → ℕ → Identifier
id replica counter = record { replica = replica; counter = counter }

abbrev A : Op
A = Delete (id 1 0)

abbrev B : Op
B = Delete (id 2 7)

A_has : HasFrame A
A_has = record { some_replica = omega arith; replica_fits = omega arith; counter_fits = omega arith }

B_has : HasFrame B
B_has = record { some_replica = omega arith; replica_fits = omega arith; counter_fits = omega arith }

abbrev hello : List ℕ
hello = 0x48 ∷ 0 ∷ 0 ∷ 0 ∷ 0 ∷ []

-- one frame stands at the front
starts_one : (framed : Framed) (rest : List ℕ) → IsFrame Version2 framed → Starts Version2 (framed.bytes ++ rest) framed.ops rest
starts_one framed rest is = record {
  found = framed ∷ [];
  are_frames = All-cons (IsFrame Version2) framed [] is (All-nil (IsFrame Version2));
  ops_are = sym (append-nil framed.ops);
  split = ap (λ (bytes : List ℕ). bytes ++ rest) (sym (append-nil framed.bytes));
}

-- a text that greets with the cursor 0
says : (messages : List ℕ) (ops : List Op) (rest : List ℕ) → Starts Version2 messages ops rest → SaysCursor (hello ++ messages) 0 ops rest
says messages ops rest starts = record { number = 0 ∷ 0 ∷ 0 ∷ 0 ∷ []; four_bytes = refl; cursor_is = refl; messages = messages; starts = starts; text_is = refl }

-- the text is closed within the bytes that come: A joins the log and is answered, with the length of the log
closes : ComesToText 1 [] (0x48 ∷ 0 ∷ []) (0 ∷ 0 ∷ 0 ∷ (frame A ++ closing)) (frame A ∷ []) (Some (frame A ++ 0x55 ∷ 0 ∷ 0 ∷ 0 ∷ 1 ∷ []))
closes = record {
  before = [];
  has_come = inl ((refl, omega arith), refl);
  session_text = Speaks 0 (A ∷ []) closing Closed;
  is_session_text = (says (frame A ++ closing) (A ∷ []) closing (starts_one (framed_of A) closing (framed_is Version2 A A_has)), omega arith, omega arith, ([], refl));
  log_is = refl;
  answer_is = refl;
}

-- the cursor 1 is beyond an empty log, and what comes after it counts for nothing
goes_beyond : ComesToText 1 [] (0x48 ∷ 0 ∷ 0 ∷ []) (0 ∷ 1 ∷ frame A) [] (Some (0x58 ∷ 3 ∷ []))
goes_beyond = record {
  before = [];
  has_come = inl ((refl, omega arith), refl);
  session_text = Beyond;
  is_session_text = (
    1,
    frame A,
    record { number = 0 ∷ 0 ∷ 0 ∷ 1 ∷ []; four_bytes = refl; cursor_is = refl; messages = frame A; starts = none_starts (frame A); text_is = refl },
    omega arith,
  );
  log_is = refl;
  answer_is = refl;
}

-- a log of one operation that may have no more takes its frame again, and refuses another
is_full : ComesToText 1 (frame A ∷ []) hello (frame A ++ (frame B ++ closing)) (frame A ∷ []) (Some (0x58 ∷ 2 ∷ []))
is_full = record {
  before = [];
  has_come = inr (0, [], says [] [] [] (none_starts []), no_bytes_are_partial Version2);
  session_text = Speaks 0 (A ∷ []) (frame B ++ closing) (OneTooMany []);
  is_session_text = (
    says (frame A ++ (frame B ++ closing)) (A ∷ []) (frame B ++ closing) (starts_one (framed_of A) (frame B ++ closing) (framed_is Version2 A A_has)),
    omega arith,
    omega arith,
    (B, [], frame B, closing, framed_is Version2 B B_has, refl, refl, refl),
  );
  log_is = refl;
  answer_is = refl;
}

-- another first byte than 48, also the closing one
no_greeting : ComesToText 1 [] [] (0x44 ∷ 0x48 ∷ []) [] (Some (0x58 ∷ 1 ∷ []))
no_greeting = record {
  before = [];
  has_come = inl (tt, refl);
  session_text = NoGreeting;
  is_session_text = (0x44, 0x48 ∷ [], (λ same. omega (arith, same)), refl);
  log_is = refl;
  answer_is = refl;
}

-- five letters typed in a row
abbrev letters : Run
letters = record { id = id 1 0; section = id 9 0; left = None; right = None; text = 97 ∷ 98 ∷ 99 ∷ 100 ∷ 101 ∷ [] }

abbrev letter : ℕ → ℕ → Op
letter counter ch = Text (id 1 counter) (id 9 0) (Some (id 1 (counter - 1))) None ch

abbrev first_letter : Op
first_letter = Text (id 1 0) (id 9 0) None None 97

-- the first three, and all of them
abbrev three : List Op
three = first_letter ∷ letter 1 98 ∷ letter 2 99 ∷ []

abbrev five : List Op
five = first_letter ∷ letter 1 98 ∷ letter 2 99 ∷ letter 3 100 ∷ letter 4 101 ∷ []

abbrev letters_framed : Framed
letters_framed = record { bytes = run_frame letters; ops = five }

is_identifier : (replica counter : ℕ) → 0 < replica → replica < 10 → counter < 10 → IsIdentifier (id replica counter)
is_identifier replica counter some few low = record { some_replica = some; replica_fits = omega (arith, few); counter_fits = omega (arith, low) }

letters_are : IsFrame Version2 letters_framed
letters_are = record {
  item = Typed letters;
  is_item = record {
    id = is_identifier 1 0 (omega arith) (omega arith) (omega arith);
    section = is_identifier 9 0 (omega arith) (omega arith) (omega arith);
    left = tt;
    right = tt;
    text = record {
      some = omega arith;
      short = omega arith;
      scalars = All-cons IsScalar 97 (98 ∷ 99 ∷ 100 ∷ 101 ∷ []) refl
          (All-cons IsScalar 98 (99 ∷ 100 ∷ 101 ∷ []) refl (All-cons IsScalar 99 (100 ∷ 101 ∷ []) refl (All-cons IsScalar 100 (101 ∷ []) refl
          (All-cons IsScalar 101 [] refl (All-nil IsScalar)))));
    };
    counters_fit = omega arith;
  };
  bytes_are = refl;
  ops_are = refl;
}

-- of five letters a log that takes three keeps the first three, and the session is refused at the last byte of their frame
three_stay : ComesToText 3 [] hello (run_frame letters ++ closing) (log_with_ops [] three) (Some (0x58 ∷ 2 ∷ []))
three_stay = record {
  before = [];
  has_come = inr (0, [], says [] [] [] (none_starts []), no_bytes_are_partial Version2);
  session_text = Speaks 0 [] (run_frame letters ++ closing) (OneTooMany three);
  is_session_text = (
    says (run_frame letters ++ closing) [] (run_frame letters ++ closing) (none_starts (run_frame letters ++ closing)),
    omega arith,
    omega arith,
    (letter 3 100, letter 4 101 ∷ [], run_frame letters, closing, letters_are, refl, refl, refl),
  );
  log_is = refl;
  answer_is = refl;
}

-- the log has the letters' own frames
three_logged : log_with_ops [] three ≡ frame first_letter ∷ frame (letter 1 98) ∷ frame (letter 2 99) ∷ []
three_logged = refl

-- half of the run came, and with the other half all five join
both_halves : ComesToText 5 [] (hello ++ take 20 (run_frame letters)) (drop 20 (run_frame letters) ++ closing) (log_with_ops [] five)
    (Some (frame first_letter ++ frame (letter 1 98) ++ frame (letter 2 99) ++ frame (letter 3 100) ++ frame (letter 4 101) ++ 0x55 ∷ 0 ∷ 0 ∷ 0 ∷ 5 ∷ []))
both_halves = record {
  before = [];
  has_come = inr (0, take 20 (run_frame letters), says (take 20 (run_frame letters)) [] (take 20 (run_frame letters)) (none_starts (take 20 (run_frame letters))), half);
  session_text = Speaks 0 five closing Closed;
  is_session_text = (says (run_frame letters ++ closing) five closing (starts_one letters_framed closing letters_are), omega arith, omega arith, ([], refl));
  log_is = refl;
  answer_is = refl;
}
  where
    half : IsPartial Version2 (take 20 (run_frame letters))
    half = record { framed = letters_framed; is_frame = letters_are; more = drop 20 (run_frame letters); lacks = omega arith; front = refl }
