-- Events as they are told by whole texts: a relay that reads byte by byte and one that reads whole texts take the same steps.
use Rattle.std.proofs.Common.{[], List, ap, append_assoc, arith, inl, inr, length, length-append, refl, subst, sym, ℕ, ◌+◌, ◌++◌, ◌<◌, ◌∙◌, ◌∷◌, ◌≡◌, ◌≤◌, ◌⊎◌}
use Rattle.std.specs.Prelude.{All, None, Some}
use Rattle.std.specs.Int.{from_be_bytes, w32}
use Rattle.std.proofs.lemmas.Grind.{flat_map-append}
use Rattle.std.proofs.lemmas.List.{append_cancel_left}
use Rattle.std.proofs.lemmas.List.Elements.{All-append, All-head, All-tail}
use Rattle.fugue_ids.specs.declared.op.Op.{Op}
use Rattle.origin_model.specs.declared.grammar.Grammar.TheVariants.{Version2}
use Rattle.origin_model.specs.frames.Frames.{Framed, IsFrame, IsItem, IsPartial, Item, Single, Starts, Typed, item_ops}
use Rattle.origin_model.specs.relay.Session.{Closes, Goes, Next, SessionReading, Taken, TakesAll, session_goes_on, greeting, unread}
use Rattle.origin_model.proofs.SharedLemmas.{all_once, bytes_of, length-run, ops_of, partly, takes-append}
use Rattle.op_frame.proofs.CodeLemmas.{same_fronts}
use Rattle.op_frame.proofs.ReadingLemmas.{frames_once, common_prefix}
use Rattle.relay_core.specs.Texts.{Beyond, Closed, SessionText, Foreign, Greets, HasCome, IsSessionText, IsGreetingFront, NoGreeting, OneTooMany, SaysCursor, Speaks, Unfinished}
use Rattle.relay_core.specs.Texts.{reply_to_text, log_after, log_with_ops}
use Rattle.relay_core.proofs.SessionTextLemmas.{outcome_found, outcome_takes, greeting_goes, reading_by, taken_by}
use Rattle.relay_core.proofs.JoiningLemmas.{grown}
use Rattle.relay_core.proofs.TextLemmas.{Reads, behind, front_goes, outcome, reads, rest_takes, starts_take}

-- a text goes on with frames
says_more : (text bytes : List ℕ) (cursor : ℕ) (before new : List Op) (rest next : List ℕ) → SaysCursor text cursor before rest → Starts Version2 (rest ++ bytes) new next
    → SaysCursor (text ++ bytes) cursor (before ++ new) next
says_more text bytes cursor before new rest next says more =
    let first : List Framed = says.starts.found in
    record {
      number = says.number;
      four_bytes = says.four_bytes;
      cursor_is = says.cursor_is;
      messages = says.messages ++ bytes;
      starts = record {
        found = first ++ more.found;
        are_frames = All-append (IsFrame Version2) first more.found says.starts.are_frames more.are_frames;
        ops_are = (λ i. says.starts.ops_are i ++ more.ops_are i) ∙ sym (flat_map-append (λ (f : Framed). f.ops) first more.found);
        split = ap (λ (t : List ℕ). t ++ bytes) says.starts.split ∙ append_assoc (bytes_of first) rest bytes ∙ ap (λ (t : List ℕ). bytes_of first ++ t) more.split
            ∙ sym (append_assoc (bytes_of first) (bytes_of more.found) next) ∙ ap (λ (t : List ℕ). t ++ next) (sym (flat_map-append (λ (f : Framed). f.bytes) first more.found));
      };
      text_is = ap (λ (t : List ℕ). t ++ bytes) says.text_is ∙ ap (λ t. greeting ∷ t) (append_assoc says.number says.messages bytes);
    }

-- the same greeting stands at the front of both
record SameGreeting (cursor other : ℕ) (behind next : List ℕ) : Type 0 where
  cursor_is : other ≡ cursor
  behind_is : behind ≡ next

same_greeting : (text bytes : List ℕ) (cursor other : ℕ) (before all : List Op) (rest next : List ℕ) → (a : SaysCursor text cursor before rest)
    → (b : SaysCursor (text ++ bytes) other all next) → SameGreeting cursor other (a.messages ++ bytes) b.messages
same_greeting text bytes cursor other before all rest next a b =
    let whole : greeting ∷ (a.number ++ (a.messages ++ bytes)) ≡ greeting ∷ (b.number ++ b.messages)
    = ap (λ t. greeting ∷ t) (sym (append_assoc a.number a.messages bytes)) ∙ ap (λ (t : List ℕ). t ++ bytes) (sym a.text_is) ∙ b.text_is in
    let tails : a.number ++ (a.messages ++ bytes) ≡ b.number ++ b.messages = cc whole in
    let both = same_fronts a.number b.number (a.messages ++ bytes) b.messages (a.four_bytes ∙ sym b.four_bytes) tails in
    record { cursor_is = b.cursor_is ∙ ap (from_be_bytes w32) (sym both.0) ∙ sym a.cursor_is; behind_is = both.1 }

-- and that of the same text twice
same_messages : (text : List ℕ) (cursor other : ℕ) (before all : List Op) (rest next : List ℕ) → (a : SaysCursor text cursor before rest) → (b : SaysCursor text other all next)
    → a.messages ≡ b.messages
same_messages text cursor other before all rest next a b =
    let tails : a.number ++ a.messages ≡ b.number ++ b.messages =
    cc (sym a.text_is ∙ b.text_is) in (same_fronts a.number b.number a.messages b.messages (a.four_bytes ∙ sym b.four_bytes) tails).1

-- each frame stands for some operation
some_ops : (f : Framed) → IsFrame Version2 f → 0 < length f.ops
some_ops f is = omega (arith, by is.item is.is_item, ap length is.ops_are)
  where
    by : (item : Item) → IsItem Version2 item → 0 < length (item_ops item)
    by (Single op) has = omega arith
    by (Typed run) has = omega (arith, length-run run, has.text.some)

-- what was not said before is new
new_frames : (fs hs : List Framed) (rest next : List ℕ) (new : List Op) → All (IsFrame Version2) fs → All (IsFrame Version2) hs → bytes_of fs ++ rest ≡ bytes_of hs ++ next
    → ops_of fs ++ new ≡ ops_of hs → Starts Version2 rest new next
new_frames [] hs rest next new p q same ops = record { found = hs; are_frames = q; ops_are = ops; split = same }
new_frames (f ∷ fs) [] rest next new p q same ops =
    absurd (omega (arith, some_ops f (All-head (IsFrame Version2) f fs p), ap length ops, length-append (f.ops ++ ops_of fs) new, length-append f.ops (ops_of fs)))
new_frames (f ∷ fs) (h ∷ hs) rest next new p q same ops =
    let first = common_prefix Version2 f h (bytes_of fs ++ rest) (bytes_of hs ++ next) (All-head (IsFrame Version2) f fs p) (All-head (IsFrame Version2) h hs q)
    (sym (append_assoc f.bytes (bytes_of fs) rest) ∙ same ∙ append_assoc h.bytes (bytes_of hs) next) in
    new_frames fs hs rest next new (All-tail (IsFrame Version2) f fs p) (All-tail (IsFrame Version2) h hs q) first.rest
    (append_cancel_left f.ops (ops_of fs ++ new) (ops_of hs) (sym (append_assoc f.ops (ops_of fs) new) ∙ ops ∙ ap (λ (l : List Op). l ++ ops_of hs) (sym first.ops)))

says_new : (text bytes : List ℕ) (cursor other : ℕ) (before new : List Op) (rest next : List ℕ) → SaysCursor text cursor before rest
    → SaysCursor (text ++ bytes) other (before ++ new) next → Starts Version2 (rest ++ bytes) new next
says_new text bytes cursor other before new rest next a b =
    let same = same_greeting text bytes cursor other before (before ++ new) rest next a b in
    new_frames a.starts.found b.starts.found (rest ++ bytes) next new a.starts.are_frames b.starts.are_frames
    (sym (append_assoc (bytes_of a.starts.found) rest bytes) ∙ ap (λ (t : List ℕ). t ++ bytes) (sym a.starts.split) ∙ same.behind_is ∙ b.starts.split)
    (ap (λ (l : List Op). l ++ new) (sym a.starts.ops_are) ∙ b.starts.ops_are)

-- the bytes after the last whole message
unfoldable rest_of : Next → List ℕ
rest_of (Goes reading) = reading.rest
rest_of (Closes reply) = reply

one_rest : (messages : List ℕ) (a b : List Op) (r s : List ℕ) → Starts Version2 messages a r → Starts Version2 messages b s → IsPartial Version2 r → IsPartial Version2 s → r ≡ s
unfolding rest_of
one_rest messages a b r s h i p q =
    let limit : ℕ = length (log_with_ops [] a) + length (log_with_ops [] b) in
    let x : TakesAll limit messages (session_goes_on [] 0) (partly (log_with_ops [] a) 0 r)
    = starts_take limit 0 a [] messages r (partly (log_with_ops [] a) 0 r) h (omega arith) (front_goes limit 0 (log_with_ops [] a) r p) in
    let y : TakesAll limit messages (session_goes_on [] 0) (partly (log_with_ops [] b) 0 s)
    = starts_take limit 0 b [] messages s (partly (log_with_ops [] b) 0 s) i (omega arith) (front_goes limit 0 (log_with_ops [] b) s q) in
    ap (λ (t : Taken). rest_of t.next) (all_once frames_once limit messages (session_goes_on [] 0) (partly (log_with_ops [] a) 0 r) (partly (log_with_ops [] b) 0 s) x y)

-- how far an open session was read is what its text says
pub record Spoken (log : List (List ℕ)) (text : List ℕ) (reading : SessionReading) : Type 0 where
  pub cursor : ℕ
  pub ops : List Op
  pub rest : List ℕ
  pub says : SaysCursor text cursor ops rest
  pub partial : IsPartial Version2 rest
  pub within : cursor ≤ length log
  pub reading_is : reading ≡ record { cursor = Some cursor; rest = rest }

abbrev pub ReadSo : List (List ℕ) → List ℕ → SessionReading → Type 0
ReadSo log text reading = (IsGreetingFront text × (reading ≡ record { cursor = None; rest = text })) ⊎ Spoken log text reading

-- a text with a whole greeting is no front of one
not_both : (text bytes : List ℕ) (cursor : ℕ) (ops : List Op) (rest : List ℕ) → SaysCursor text cursor ops rest → IsGreetingFront (text ++ bytes) → ⊥
not_both text bytes cursor ops rest says front =
    let few : length ((says.number ++ says.messages) ++ bytes) < 4 = (subst (λ (t : List ℕ). IsGreetingFront (t ++ bytes)) says.text_is front).1 in
    omega (arith, few, says.four_bytes, length-append says.number says.messages, length-append (says.number ++ says.messages) bytes)

front_not_said : (text : List ℕ) (cursor : ℕ) (ops : List Op) (rest : List ℕ) → SaysCursor text cursor ops rest → IsGreetingFront text → ⊥
front_not_said text cursor ops rest says front =
    let few : length (says.number ++ says.messages) < 4 =
    (subst IsGreetingFront says.text_is front).1 in omega (arith, few, says.four_bytes, length-append says.number says.messages)

-- bytes that came to an open session, by the text before and with them
pub record Read (limit : ℕ) (log : List (List ℕ)) (text bytes : List ℕ) (after : Taken) : Type 0 where
  pub before : List Op
  pub has_come : HasCome text before
  pub session_text : SessionText
  pub is_session_text : IsSessionText session_text limit log before (text ++ bytes)
  pub after_is : after ≡ taken_by session_text log (text ++ bytes)

pub read_on : (limit : ℕ) (log : List (List ℕ)) (text bytes : List ℕ) (reading : SessionReading) (after : Taken) → length log ≤ limit → ReadSo log text reading
    → TakesAll limit bytes (record { log = log; next = Goes reading }) after → Read limit log text bytes after
read_on limit log text bytes reading after room (inl front) h =
    let start : Taken = record { log = log; next = Goes unread } in
    let before : Taken = record { log = log; next = Goes (record { cursor = None; rest = text }) } in
    let whole : TakesAll limit (text ++ bytes) start after
    = takes-append limit text bytes start before after (greeting_goes limit log text front.0)
    (subst (λ (r : SessionReading). TakesAll limit bytes (record { log = log; next = Goes r }) after) front.1 h) in
    let found = outcome_found limit log (text ++ bytes) after room whole in
    record {
      before = [];
      has_come = inl (front.0, refl);
      session_text = found.0;
      is_session_text = found.1;
      after_is = all_once frames_once limit (text ++ bytes) start after (taken_by found.0 log (text ++ bytes)) whole (outcome_takes found.0 limit log (text ++ bytes) found.1);
    }
read_on limit log text bytes reading after room (inr s) h =
    let r : Reads limit s.cursor log (s.rest ++ bytes) after
    = reads limit s.cursor after bytes log s.rest room s.partial
    (subst (λ (r : SessionReading). TakesAll limit bytes (record { log = log; next = Goes r }) after) s.reading_is h) in
    record {
      before = s.ops;
      has_come = inr (s.cursor, s.rest, s.says, s.partial);
      session_text = Speaks s.cursor r.new r.rest r.follows;
      is_session_text = (says_more text bytes s.cursor s.ops r.new s.rest r.rest s.says r.starts, s.within, r.room, r.stands);
      after_is = r.after_is;
    }

-- the machine comes to what the form says
spoken_takes : (session_text : SessionText) (limit : ℕ) (log : List (List ℕ)) (text bytes : List ℕ) (reading : SessionReading) (before : List Op) (rest : List ℕ) (cursor : ℕ)
    → Spoken log text reading → SaysCursor text cursor before rest → IsPartial Version2 rest
    → IsSessionText session_text limit log before (text ++ bytes) → TakesAll limit bytes (record { log = log; next = Goes reading }) (taken_by session_text log (text ++ bytes))
spoken_takes Greets limit log text bytes reading before rest cursor s says partial is = absurd (not_both text bytes cursor before rest says is)
spoken_takes NoGreeting limit log text bytes reading before rest cursor s says partial is =
    let first : greeting ∷ (says.number ++ says.messages ++ bytes) ≡ is.0 ∷ is.1 = ap (λ (t : List ℕ). t ++ bytes) (sym says.text_is) ∙ is.3 in
    absurd (is.2 (sym (cc first)))
spoken_takes Beyond limit log text bytes reading before rest cursor s says partial is =
    let same = same_greeting text bytes s.cursor is.0 s.ops [] s.rest is.1 s.says is.2 in
    absurd (omega (arith, is.3, s.within, same.cursor_is))
spoken_takes (Speaks other new next follows) limit log text bytes reading before rest cursor s says partial is =
    let same = same_greeting text bytes s.cursor other s.ops (before ++ new) s.rest next s.says is.0 in
    let one = same_messages text cursor s.cursor before s.ops rest s.rest says s.says in
    let rests : rest ≡ s.rest =
    one_rest s.says.messages before s.ops rest s.rest (subst (λ (t : List ℕ). Starts Version2 t before rest) one says.starts) s.says.starts partial s.partial in
    let starts : Starts Version2 (s.rest ++ bytes) new next =
    subst (λ (t : List ℕ). Starts Version2 (t ++ bytes) new next) rests (says_new text bytes cursor other before new rest next says is.0) in
    let after : Taken = outcome follows other (log_with_ops log new) next in
    let all : TakesAll limit (s.rest ++ bytes) (session_goes_on log other) after
    = starts_take limit other new log (s.rest ++ bytes) next after starts is.2 (rest_takes follows limit other (log_with_ops log new) next is.3) in
    subst (λ (r : SessionReading). TakesAll limit bytes (record { log = log; next = Goes r }) after)
    (ap (λ c. record { cursor = Some c; rest = s.rest }) same.cursor_is ∙ sym s.reading_is)
    (behind limit s.rest bytes (session_goes_on log other) (partly log other s.rest) after all (front_goes limit other log s.rest s.partial))

pub read_takes : (limit : ℕ) (log : List (List ℕ)) (text bytes : List ℕ) (reading : SessionReading) (before : List Op) (session_text : SessionText) → ReadSo log text reading
    → HasCome text before
    → IsSessionText session_text limit log before (text ++ bytes) → TakesAll limit bytes (record { log = log; next = Goes reading }) (taken_by session_text log (text ++ bytes))
read_takes limit log text bytes reading before session_text (inl front) (inl come) is =
    let start : Taken = record { log = log; next = Goes unread } in
    let is : IsSessionText session_text limit log [] (text ++ bytes) = subst (λ (b : List Op). IsSessionText session_text limit log b (text ++ bytes)) come.1 is in
    subst (λ (r : SessionReading). TakesAll limit bytes (record { log = log; next = Goes r }) (taken_by session_text log (text ++ bytes))) (sym front.1)
    (behind limit text bytes start (record { log = log; next = Goes (record { cursor = None; rest = text }) }) (taken_by session_text log (text ++ bytes))
    (outcome_takes session_text limit log (text ++ bytes) is) (greeting_goes limit log text front.0))
read_takes limit log text bytes reading before session_text (inl front) (inr said) is = absurd (front_not_said text said.0 before said.1 said.2 front.0)
read_takes limit log text bytes reading before session_text (inr s) (inl come) is = absurd (front_not_said text s.cursor s.ops s.rest s.says come.0)
read_takes limit log text bytes reading before session_text (inr s) (inr said) is = spoken_takes session_text limit log text bytes reading before said.1 said.0 s said.2 said.3 is

-- a session that goes on was read so
pub still_read : (session_text : SessionText) (limit : ℕ) (log : List (List ℕ)) (before : List Op) (text : List ℕ) → IsSessionText session_text limit log before text
    → reply_to_text session_text log ≡ None → ReadSo (log_after session_text log) text (reading_by session_text text)
still_read Greets limit log before text is none = inl (is, refl)
still_read NoGreeting limit log before text is none = absurd (cc none)
still_read Beyond limit log before text is none = absurd (cc none)
still_read (Speaks cursor new rest Unfinished) limit log before text is none =
    inr (record { cursor = cursor; ops = before ++ new; rest = rest; says = is.0; partial = is.3; within = omega (arith, is.1, grown log new); reading_is = refl })
still_read (Speaks cursor new rest Closed) limit log before text is none = absurd (cc none)
still_read (Speaks cursor new rest Foreign) limit log before text is none = absurd (cc none)
still_read (Speaks cursor new rest (OneTooMany joined)) limit log before text is none = absurd (cc none)
