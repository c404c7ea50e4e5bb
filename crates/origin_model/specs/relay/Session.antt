-- How the text of a session is read, byte by byte: 48 and a cursor, then frames, then 44. Numbers are big-endian.
use Rattle.std.specs.Prelude.{◌≡◌, ◌≢◌, ℕ, nat_eq, nat_lt, Bool, Option, Some, None, List, [], ◌∷◌, ◌++◌, length, drop, flat_map}
use Rattle.std.specs.Prelude.{if◌then◌else◌}
use Rattle.std.specs.List.{list_any}
use Rattle.std.specs.Cmp.Lexicographic.{pointwise}
use Rattle.std.specs.Int.{from_be_bytes, to_be_bytes, w32}
use Rattle.fugue_ids.specs.declared.op.Op.{Op}
use Rattle.origin_model.specs.declared.grammar.Grammar.TheVariants.{Version2}
use Rattle.origin_model.specs.frames.Frames.{IsFrame, IsPartial, frame}

-- the message that begins a text, with a cursor after it, and the one that ends it
abbrev pub greeting : ℕ
greeting = 0x48

-- the message that closes a session: the byte `D`
abbrev pub closing : List ℕ
closing = 0x44 ∷ []

-- how far the text of a session was read: its cursor, where that was read, and the bytes since its last whole message
pub record SessionReading : Type 0 where
  pub cursor : Option ℕ
  pub rest : List ℕ

-- a text of which nothing came
abbrev pub unread : SessionReading
unread = record { cursor = None; rest = [] }

-- the session goes on, or is closed with these bytes as its reply
pub data Next : Type 0 where
  Goes : SessionReading → Next
  Closes : List ℕ → Next

-- the log after some bytes, which has the own frame of each of its operations, and what becomes of the session
pub record Taken : Type 0 where
  pub log : List (List ℕ)
  pub next : Next

-- the session goes on after a whole message
abbrev pub session_goes_on : List (List ℕ) → (cursor : ℕ) → Taken
session_goes_on log cursor = record { log = log; next = Goes (record { cursor = Some cursor; rest = [] }) }

-- 58 and a code: 1 for a message outside the grammar, 2 for an operation that a full log lacks, 3 for a cursor beyond the log
abbrev pub refusal_message : ℕ → List ℕ
refusal_message code = 0x58 ∷ code ∷ []

-- the session closes with a code, and the log stays
abbrev pub session_refused : List (List ℕ) → (code : ℕ) → Taken
session_refused log code = record { log = log; next = Closes (refusal_message code) }

-- the frames of the log from the cursor on, then 55 and the log's length
abbrev pub reply_from : List (List ℕ) → (cursor : ℕ) → List ℕ
reply_from log cursor = flat_map (λ frame. frame) (drop cursor log) ++ 0x55 ∷ to_be_bytes w32 (length log)

-- the frame is in the log
abbrev pub is_logged : List (List ℕ) → List ℕ → Bool
is_logged log frame = list_any (pointwise nat_eq frame) log

-- the cursor is compared as its last byte comes
abbrev pub at_cursor : List (List ℕ) → (cursor : ℕ) → Taken
at_cursor log cursor = if nat_lt (length log) cursor then session_refused log 3 else session_goes_on log cursor

-- the first bytes of a text
abbrev pub greeting_read : List (List ℕ) → List ℕ → Taken
greeting_read log [] = record { log = log; next = Goes unread }
greeting_read log (first ∷ number) =
    if nat_eq first greeting
    then if nat_lt (length number) 4 then record { log = log; next = Goes (record { cursor = None; rest = first ∷ number }) } else
    at_cursor log (from_be_bytes w32 number)
    else session_refused log 1

-- operations join the log in order, each once; at the first one that the log lacks and is too full for the session is refused
abbrev pub log_joined : (limit : ℕ) → List (List ℕ) → (cursor : ℕ) → List Op → Taken
log_joined limit log cursor [] = session_goes_on log cursor
log_joined limit log cursor (op ∷ ops) =
    if is_logged log (frame op) then log_joined limit log cursor ops
    else if nat_eq (length log) limit then session_refused log 2
    else log_joined limit (log ++ frame op ∷ []) cursor ops

-- what the bytes since the last whole message are: a frame of these operations, the closing byte, a proper front of a
-- frame, or none of them
pub data Kind : Type 0 where
  Frame : List Op → Kind
  Closing : Kind
  Front : Kind
  Neither : Kind

-- what the bytes since the last whole message of a session are
abbrev pub IsKind : Kind → List ℕ → Type 0
IsKind (Frame ops) bytes = IsFrame Version2 (record { bytes = bytes; ops = ops })
IsKind Closing bytes = bytes ≡ closing
IsKind Front bytes = IsPartial Version2 bytes
IsKind Neither bytes = ((ops : List Op) → IsFrame Version2 (record { bytes = bytes; ops = ops }) → ⊥) × (IsPartial Version2 bytes → ⊥)
    × (bytes ≢ closing)

-- and what they do
abbrev pub handled : Kind → (limit : ℕ) → List (List ℕ) → (cursor : ℕ) → List ℕ → Taken
handled (Frame ops) limit log cursor bytes = log_joined limit log cursor ops
handled Closing limit log cursor bytes = record { log = log; next = Closes (reply_from log cursor) }
handled Front limit log cursor bytes = record { log = log; next = Goes (record { cursor = Some cursor; rest = bytes }) }
handled Neither limit log cursor bytes = session_refused log 1

-- the bytes since the last whole message, with one that came
abbrev pub TakesByte : (limit : ℕ) → List (List ℕ) → (cursor : Option ℕ) → List ℕ → Taken → Type 0
TakesByte limit log None bytes after = after ≡ greeting_read log bytes
TakesByte limit log (Some cursor) bytes after = (kind : Kind) × IsKind kind bytes × (after ≡ handled kind limit log cursor bytes)

-- one byte more of a text; it counts for nothing after the one that closed the session
abbrev pub TakesOne : (limit byte : ℕ) → List (List ℕ) → Next → Taken → Type 0
TakesOne limit byte log (Goes reading) after = TakesByte limit log reading.cursor (reading.rest ++ byte ∷ []) after
TakesOne limit byte log (Closes reply) after = after ≡ record { log = log; next = Closes reply }

-- bytes of a text, one after another
abbrev pub TakesAll : (limit : ℕ) → List ℕ → Taken → Taken → Type 0
TakesAll limit [] before after = after ≡ before
TakesAll limit (byte ∷ bytes) before after =
    (middle : Taken) × TakesOne limit byte before.log before.next middle × TakesAll limit bytes middle after
