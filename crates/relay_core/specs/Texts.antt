-- A relay by the whole texts of its sessions. The text of a session is the bytes of its pieces joined, from its opening
-- until a reply closes it or it is gone.
use Rattle.std.specs.Prelude.{◌≡◌, ◌≢◌, ◌⊎◌, ℕ, ◌<◌, ◌≤◌, false, true, List, [], ◌∷◌, ◌++◌, length, Option, Some, None, if◌then◌else◌}
use Rattle.std.specs.Prelude.{option_map}
use Rattle.std.specs.FinMap as finite
use Rattle.std.specs.Int.{from_be_bytes, w32}
use Rattle.std.specs.Ordering.{nat_cmp}
use Rattle.fugue_ids.specs.declared.op.Op.{Op}
use Rattle.origin_model.specs.declared.relay.Event.{Event}
use Rattle.origin_model.specs.declared.relay.Event.TheVariants.{Gone, Opened, Piece}
use Rattle.origin_model.specs.declared.relay.Reply.{Reply}
use Rattle.origin_model.specs.declared.grammar.Grammar.TheVariants.{Version2}
use Rattle.origin_model.specs.frames.Frames.{IsFrame, IsPartial, Starts, frame}
use Rattle.origin_model.specs.relay.Session.{IsKind, Neither, closing, greeting, is_logged, refusal_message, reply_from}

-- the log with an operation, where it lacks that one
abbrev pub with_op : List (List ℕ) → Op → List (List ℕ)
with_op log op = if is_logged log (frame op) then log else log ++ frame op ∷ []

-- the log with the distinct new ones of the operations, in order of arrival
abbrev pub log_with_ops : List (List ℕ) → List Op → List (List ℕ)
log_with_ops log [] = log
log_with_ops log (op ∷ ops) = log_with_ops (with_op log op) ops

-- the text is 48 and a cursor, then frames of the operations, and then the rest
pub record SaysCursor (text : List ℕ) (cursor : ℕ) (ops : List Op) (rest : List ℕ) : Type 0 where
  pub number : List ℕ
  pub four_bytes : length number ≡ 4
  pub cursor_is : cursor ≡ from_be_bytes w32 number
  pub messages : List ℕ
  pub starts : Starts Version2 messages ops rest
  pub text_is : text ≡ greeting ∷ number ++ messages

-- the text is nothing yet, or 48 and some bytes of a cursor
abbrev pub IsGreetingFront : List ℕ → Type 0
IsGreetingFront [] = Unit {0}
IsGreetingFront (first ∷ number) = (first ≡ greeting) × (length number < 4)

-- with their last byte the bytes became neither the closing byte, nor a frame, nor a front of one
pub record IsForeign (bytes : List ℕ) : Type 0 where
  pub before : List ℕ
  pub byte : ℕ
  pub bytes_are : bytes ≡ before ++ byte ∷ []
  pub was_front : IsPartial Version2 before
  pub is_none : IsKind Neither bytes

-- what follows the frames of a text: nothing or a proper front of a frame, the closing byte, bytes that are no message
-- and begin none, or a frame of which these operations joined, and the next one was one too many
pub data FollowsFrames : Type 0 where
  Unfinished : FollowsFrames
  Closed : FollowsFrames
  Foreign : FollowsFrames
  OneTooMany : (joined : List Op) → FollowsFrames

-- what stands after the byte that shows it counts for nothing
abbrev pub StandsInText : FollowsFrames → (limit : ℕ) → List (List ℕ) → List ℕ → Type 0
StandsInText Unfinished limit log rest = IsPartial Version2 rest
StandsInText Closed limit log rest = (behind : List ℕ) × (rest ≡ closing ++ behind)
StandsInText Foreign limit log rest = (shown : List ℕ) × (behind : List ℕ) × IsForeign shown × (rest ≡ shown ++ behind)
StandsInText (OneTooMany joined) limit log rest =
    (op : Op) × (later : List Op) × (bytes : List ℕ) × (behind : List ℕ)
    × IsFrame Version2 (record { bytes = bytes; ops = joined ++ op ∷ later }) × (rest ≡ bytes ++ behind)
    × (is_logged (log_with_ops log joined) (frame op) ≡ false) × (length (log_with_ops log joined) ≡ limit)

-- what the text of a session is: a front of its greeting, one that does not begin with 48, one whose cursor is beyond
-- the log, or one that says operations
pub data SessionText : Type 0 where
  Greets : SessionText
  NoGreeting : SessionText
  Beyond : SessionText
  Speaks : (cursor : ℕ) → (new : List Op) → (rest : List ℕ) → FollowsFrames → SessionText

-- The text has frames of the operations before, and of new ones that came to this log. Its cursor was compared with the
-- log as its fourth byte came.
abbrev pub IsSessionText : SessionText → (limit : ℕ) → (log : List (List ℕ)) → (before : List Op) → (text : List ℕ) → Type 0
IsSessionText Greets limit log before text = IsGreetingFront text
IsSessionText NoGreeting limit log before text = (first : ℕ) × (behind : List ℕ) × (first ≢ greeting) × (text ≡ first ∷ behind)
IsSessionText Beyond limit log before text = (cursor : ℕ) × (behind : List ℕ) × SaysCursor text cursor [] behind × (length log < cursor)
IsSessionText (Speaks cursor new rest follows) limit log before text =
    SaysCursor text cursor (before ++ new) rest × (cursor ≤ length log) × (length (log_with_ops log new) ≤ limit)
    × StandsInText follows limit (log_with_ops log new) rest

-- what joined of the frame with an operation too many stays
abbrev pub joined_after : FollowsFrames → List Op
joined_after (OneTooMany joined) = joined
joined_after follows = []

-- the log gains the new operations
abbrev pub log_after : SessionText → List (List ℕ) → List (List ℕ)
log_after (Speaks cursor new rest follows) log = log_with_ops (log_with_ops log new) (joined_after follows)
log_after session_text log = log

-- the bytes with which a reply closes the session, where one does
abbrev pub closing_bytes : FollowsFrames → List (List ℕ) → (cursor : ℕ) → Option (List ℕ)
closing_bytes Unfinished log cursor = None
closing_bytes Closed log cursor = Some (reply_from log cursor)
closing_bytes Foreign log cursor = Some (refusal_message 1)
closing_bytes (OneTooMany joined) log cursor = Some (refusal_message 2)

-- the bytes with which a session's text is answered, if it is
abbrev pub reply_to_text : SessionText → List (List ℕ) → Option (List ℕ)
reply_to_text Greets log = None
reply_to_text NoGreeting log = Some (refusal_message 1)
reply_to_text Beyond log = Some (refusal_message 3)
reply_to_text (Speaks cursor new rest follows) log = closing_bytes follows (log_with_ops log new) cursor

-- the text of an open session, and the operations that its frames stand for
abbrev pub HasCome : (text : List ℕ) → List Op → Type 0
HasCome text before = (IsGreetingFront text × (before ≡ []))
    ⊎ ((cursor : ℕ) × (rest : List ℕ) × SaysCursor text cursor before rest × IsPartial Version2 rest)

-- bytes come to the text of an open session: the log after them, and the bytes with which the session is closed, where it is
pub record ComesToText (limit : ℕ) (log : List (List ℕ)) (text bytes : List ℕ) (new_log : List (List ℕ))
    (answer : Option (List ℕ)) : Type 0 where
  pub before : List Op
  pub has_come : HasCome text before
  pub session_text : SessionText
  pub is_session_text : IsSessionText session_text limit log before (text ++ bytes)
  pub log_is : new_log ≡ log_after session_text log
  pub answer_is : answer ≡ reply_to_text session_text log

-- the texts of the open sessions by their numbers
abbrev pub OpenTexts : Type 0
OpenTexts = finite.FinMap nat_cmp (List ℕ)

-- a log, and the texts that came
pub record LogWithTexts : Type 0 where
  pub log : List (List ℕ)
  pub texts : OpenTexts

-- before any event
abbrev pub no_log_texts : LogWithTexts
no_log_texts = record { log = []; texts = finite.empty }

-- an open session stays as it is; any other begins an empty text
abbrev pub text_opened : ℕ → OpenTexts → OpenTexts
text_opened n texts = if finite.contains_key texts n then texts else finite.insert texts n []

-- the texts after a piece: the one that goes on has its bytes, and the one that is closed is gone
abbrev pub texts_after : ℕ → OpenTexts → (text : List ℕ) → Option (List ℕ) → OpenTexts
texts_after n texts text None = finite.insert texts n text
texts_after n texts text (Some answer) = finite.remove texts n

-- the reply to a session that is closed with these bytes
abbrev pub reply_with : ℕ → Option (List ℕ) → Option Reply
reply_with n answer = option_map (λ bytes. record { session = n; bytes = bytes; closes = true }) answer

-- a piece of an open session
pub record TellsPiece (limit : ℕ) (old : LogWithTexts) (n : ℕ) (text bytes : List ℕ) (new : LogWithTexts)
    (reply : Option Reply) : Type 0 where
  pub answer : Option (List ℕ)
  pub comes : ComesToText limit old.log text bytes new.log answer
  pub texts_are : new.texts ≡ texts_after n old.texts (text ++ bytes) answer
  pub reply_is : reply ≡ reply_with n answer

-- a piece of a session that is unknown or closed changes nothing, and has no reply
abbrev pub TellsTo : (limit : ℕ) → (old : LogWithTexts) → (n : ℕ) → Option (List ℕ) → (bytes : List ℕ) → (new : LogWithTexts)
    → Option Reply → Type 0
TellsTo limit old n None bytes new reply = (new ≡ old) × (reply ≡ None)
TellsTo limit old n (Some text) bytes new reply = TellsPiece limit old n text bytes new reply

-- what an event does to the log and the texts, and the reply to it
abbrev pub Tells : (limit : ℕ) → (old : LogWithTexts) → Event → (new : LogWithTexts) → Option Reply → Type 0
Tells limit old (Opened n) new reply = (new ≡ record { log = old.log; texts = text_opened n old.texts }) × (reply ≡ None)
Tells limit old (Piece n bytes) new reply = TellsTo limit old n (finite.get old.texts n) bytes new reply
Tells limit old (Gone n) new reply = (new ≡ record { log = old.log; texts = finite.remove old.texts n }) × (reply ≡ None)

-- events one after another, and the reply to each, where there is one
abbrev pub TellsAll : (limit : ℕ) → (old : LogWithTexts) → List Event → (new : LogWithTexts) → List (Option Reply) → Type 0
TellsAll limit old [] new replies = (new ≡ old) × (replies ≡ [])
TellsAll limit old (event ∷ events) new replies =
    (middle : LogWithTexts) × (reply : Option Reply) × (rest : List (Option Reply)) × Tells limit old event middle reply
    × TellsAll limit middle events new rest × (replies ≡ reply ∷ rest)
