-- What takes bytes, as contracts see it, and what a write does to it.
use Rattle.std.specs.Prelude.{◌≡◌, ℕ, ◌<◌, ◌≤◌, ◌-◌, List, length, take, Option, Some, None, Result, IfSome, IfOk, IsSome, OnOk, OnErr}
use Rattle.std.specs.Io.KnownBytes.{append_known}
use Rattle.fugue_ids.specs.Causes.{HasCause}

-- what contracts see of an output
pub record OutView : Type 0 where
  -- what was written, where the object tells it
  pub written : Option (List ℕ)
  -- how often a call failed
  pub faults : ℕ
  -- how many bytes still fit, where writes are sure
  pub room : Option ℕ

-- it tells what was written
abbrev pub OutIsSpecified : OutView → Type 0
OutIsSpecified out = IsSome out.written

-- the room that n bytes leave
abbrev pub room_after : ℕ → Option ℕ → Option ℕ
room_after n None = None
room_after n (Some room) = Some (room - n)

-- these bytes went out
pub record Took (old new : OutView) (bytes : List ℕ) : Type 0 where
  pub written : new.written ≡ append_known old.written bytes
  pub room : new.room ≡ room_after (length bytes) old.room

-- some front of the bytes went out
pub record TookFront (old new : OutView) (bytes : List ℕ) : Type 0 where
  pub count : ℕ
  pub within : count ≤ length bytes
  pub took : Took old new (take count bytes)

-- where writes are sure, n bytes that fit go out, and the count rises only with a failure
pub record IsSure {E T : Type 0} (room n before now : ℕ) (result : Result T E) : Type 0 where
  pub fits : n ≤ room → OnErr result ⊥
  pub within : OnOk result (n ≤ room)
  pub counts_no_fault : OnOk result (now ≡ before)

-- One call: a front of the piece goes out, at least one byte of a piece that is not empty; nothing at an error. Where the
-- object tells, the count rises only with an error.
pub record WritesSome {E : Type 0} (old new : OutView) (result : Result ℕ E) (piece : List ℕ) : Type 0 where
  pub bound : IfOk result (λ n. n ≤ length piece)
  pub some : IfOk result (λ n. 0 < length piece → 0 < n)
  pub took : IfOk result (λ n. Took old new (take n piece))
  pub none : OnErr result (Took old new (take 0 piece))
  pub cause : HasCause old.faults new.faults result
  pub full : IfSome old.room (λ room. OnErr result ((0 < length piece) × (room ≡ 0)))
  pub within : IfSome old.room (λ room. IfOk result (λ n. n ≤ room))
  pub counts_no_fault : IfSome old.room (λ room. OnOk result (new.faults ≡ old.faults))
  pub specified_no_fault : OutIsSpecified old → OnOk result (new.faults ≡ old.faults)

-- A whole text: it goes out, or an error comes with a front of it gone out. Where the object tells, the count rises only
-- with an error: no call that failed is made once more.
pub record WritesBytes {E T : Type 0} (old new : OutView) (result : Result T E) (text : List ℕ) : Type 0 where
  pub ok : OnOk result (Took old new text)
  pub err : OnErr result (TookFront old new text)
  pub cause : HasCause old.faults new.faults result
  pub sure : IfSome old.room (λ room. IsSure room (length text) old.faults new.faults result)
  pub specified_no_fault : OutIsSpecified old → OnOk result (new.faults ≡ old.faults)
