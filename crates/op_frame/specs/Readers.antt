-- What a reader of frames holds, and what its answers mean.
use Rattle.std.specs.Prelude.{◌≡◌, ◌≢◌, ◌↔◌, ℕ, ◌+◌, ◌-◌, ◌*◌, ◌<◌, ◌≤◌, All, List, [], ◌∷◌, ◌++◌, length, take, flat_map, Option, Some}
use Rattle.std.specs.Prelude.{None, Result, Ok, Err, IfSome, IfOk, IsErrOf}
use Rattle.std.specs.Io.KnownBytes.{prepend_known}
use Rattle.fugue_ids.specs.declared.op.Op.{Op}
use Rattle.outer_ports.specs.Sources.{SourceView}
use Rattle.origin_model.specs.declared.grammar.Grammar.{Grammar}
use Rattle.origin_model.specs.frames.Frames.{Framed, IsFrame, IsPartial, IsBad, End, Whole, CutShort as EndsCutShort}
use Rattle.origin_model.specs.frames.Frames.{BadFrame as EndsInBadFrame, Reads}
use Rattle.op_frame.specs.declared.fault.FrameFault.{FrameFault}
use Rattle.op_frame.specs.declared.fault.FrameFault.TheVariants.{BadFrame, CutShort, ReadFault, TooLong, NoMemory}
use Rattle.op_frame.specs.IntakeOutcomes.{EndsWholeOrCutShort}
use Rattle.op_frame.specs.FrameFronts.{AsksMemory}

-- a reader of frames over its source
pub record FrameReading : Type 0 where
  -- by which frames it reads
  pub grammar : Grammar
  -- how many bytes the reader takes of its source in all
  pub limit : ℕ
  -- the operations not yet given of the frame that was last read
  pub todo : List Op
  -- the bytes taken and not yet read
  pub unread : List ℕ
  -- the offset of the first of them
  pub offset : ℕ
  -- the offset of the frame whose operation was last given
  pub last : ℕ
  -- the fault that is answered for good
  pub fault : Option FrameFault

-- a reader that took nothing yet
abbrev pub fresh_reading : Grammar → ℕ → FrameReading
fresh_reading grammar limit = record { grammar = grammar; limit = limit; todo = []; unread = []; offset = 0; last = 0; fault = None }

-- the bytes that are still to be read, where they are specified
abbrev pub to_give : FrameReading → Option (List ℕ) → Option (List ℕ)
to_give r left = prepend_known r.unread left

-- a frame is a front of the bytes, whole within the first `room`, and this is its first operation
pub record StartsWithin (grammar : Grammar) (op : Op) (room : ℕ) (bytes : List ℕ) : Type 0 where
  pub framed : Framed
  pub is_frame : IsFrame grammar framed
  pub others : List Op
  pub first : framed.ops ≡ op ∷ others
  pub within : length framed.bytes ≤ room
  pub rest : List ℕ
  pub split : bytes ≡ framed.bytes ++ rest

-- where which answer comes with no operation held back, by the offset of the first unread byte, what the limit leaves
-- from there on, and the bytes to read
abbrev pub ReadingAnswerIs : Grammar → Result (Option Op) FrameFault → (offset room : ℕ) → List ℕ → Type 0
ReadingAnswerIs grammar (Ok (Some op)) offset room bytes = StartsWithin grammar op room bytes
ReadingAnswerIs grammar (Ok None) offset room bytes = bytes ≡ []
ReadingAnswerIs grammar (Err (BadFrame k)) offset room bytes = (k ≡ offset) × IsBad grammar (take room bytes)
ReadingAnswerIs grammar (Err (CutShort k)) offset room bytes = (k ≡ offset) × (bytes ≢ []) × (length bytes ≤ room) × IsPartial grammar bytes
ReadingAnswerIs grammar (Err TooLong) offset room bytes = (room < length bytes) × IsPartial grammar (take room bytes)
ReadingAnswerIs grammar (Err ReadFault) offset room bytes = Unit {0}
ReadingAnswerIs grammar (Err NoMemory) offset room bytes = AsksMemory bytes

-- the bytes decide such an answer: it is no fault of the source, and no allocation failure
abbrev pub IsReadByBytes : Result (Option Op) FrameFault → Type 0
IsReadByBytes (Err ReadFault) = ⊥
IsReadByBytes (Err NoMemory) = ⊥
IsReadByBytes result = Unit {0}

-- each answer comes exactly where the bytes to read say so, but for a fault of the source and an allocation failure
pub record AnswersBy (grammar : Grammar) (result : Result (Option Op) FrameFault) (offset room : ℕ) (bytes : List ℕ) : Type 0 where
  pub exactly : IsReadByBytes result → (answer : Result (Option Op) FrameFault) → IsReadByBytes answer
      → (result ≡ answer) ↔ ReadingAnswerIs grammar answer offset room bytes
  pub memory : IsErrOf result NoMemory → AsksMemory bytes

-- the offset that a fault carries
abbrev pub CarriesOffset : Result (Option Op) FrameFault → ℕ → Type 0
CarriesOffset (Err (BadFrame k)) offset = k ≡ offset
CarriesOffset (Err (CutShort k)) offset = k ≡ offset
CarriesOffset result offset = Unit {0}

-- the fault is answered for good, but for lack of memory
abbrev pub kept_fault : FrameFault → Option FrameFault
kept_fault NoMemory = None
kept_fault (BadFrame k) = Some (BadFrame k)
kept_fault (CutShort k) = Some (CutShort k)
kept_fault ReadFault = Some ReadFault
kept_fault TooLong = Some TooLong

-- what an answer that is no operation did to the unread bytes and to those that the source has left
abbrev pub Moves : Result (Option Op) FrameFault → (old new : List ℕ) → (before after : Option (List ℕ)) → Type 0
Moves (Ok (Some op)) old new before after = Unit {0}
Moves (Ok None) old new before after = (new ≡ []) × IfSome after (λ left. left ≡ []) × (prepend_known old before ≡ prepend_known new after)
Moves (Err (CutShort k)) old new before after = (prepend_known old before ≡ prepend_known new after) × IfSome after (λ left. left ≡ [])
Moves (Err TooLong) old new before after = (byte : ℕ) × (prepend_known old before ≡ prepend_known (new ++ byte ∷ []) after)
Moves (Err e) old new before after = prepend_known old before ≡ prepend_known new after

-- An operation is given: the first of those held back, or the first of the frame that is read, whose others are held
-- back from then on.
pub data GivesOperation (op : Op) (old new : FrameReading) (before after : Option (List ℕ)) : Type 0 where
  held : old.todo ≡ op ∷ new.todo → new.unread ≡ old.unread → new.offset ≡ old.offset → new.last ≡ old.last → after ≡ before
      → GivesOperation op old new before after
  read : old.todo ≡ [] → (framed : Framed) → IsFrame old.grammar framed → framed.ops ≡ op ∷ new.todo
      → to_give old before ≡ prepend_known framed.bytes (to_give new after)
      → new.offset ≡ old.offset + length framed.bytes → new.last ≡ old.offset → GivesOperation op old new before after

-- no operation is held back, and the reader stands where it stood
pub record StandsStill (old new : FrameReading) : Type 0 where
  pub none_before : old.todo ≡ []
  pub none_after : new.todo ≡ []
  pub offset : new.offset ≡ old.offset
  pub last : new.last ≡ old.last

-- an answer that is no operation comes with none held back, and leaves the reader where it stood
abbrev pub StillWith : Result (Option Op) FrameFault → (old new : FrameReading) → Type 0
StillWith (Ok (Some op)) old new = Unit {0}
StillWith (Ok None) old new = StandsStill old new
StillWith (Err e) old new = StandsStill old new

-- the fault that is kept
abbrev pub fault_after : Result (Option Op) FrameFault → Option FrameFault
fault_after (Ok given) = None
fault_after (Err e) = kept_fault e

-- what a call of `next` did to the reader, where no fault was kept
pub record Advances (old new : FrameReading) (result : Result (Option Op) FrameFault) : Type 0 where
  pub grammar : new.grammar ≡ old.grammar
  pub limit : new.limit ≡ old.limit
  pub inside : old.offset + length old.unread ≤ old.limit
  pub within : new.offset + length new.unread ≤ new.limit
  pub full : IsErrOf result TooLong → new.offset + length new.unread ≡ new.limit
  pub stays : StillWith result old new
  pub fault : new.fault ≡ fault_after result

-- the place, less three for each operation held back, rises by three at least
abbrev pub RisesByThree : FrameReading → FrameReading → Type 0
RisesByThree old new = old.offset + 3 * length new.todo + 3 ≤ new.offset + 3 * length old.todo

-- one call of `next` where no fault was kept
pub record Nexts (old new : FrameReading) (before after : SourceView) (result : Result (Option Op) FrameFault) : Type 0 where
  pub answer : old.todo ≡ [] → IfSome (to_give old before.left) (AnswersBy old.grammar result old.offset (old.limit - old.offset))
  pub at : CarriesOffset result old.offset
  pub gives : IfOk result (λ given. IfSome given (λ op. GivesOperation op old new before.left after.left))
  pub moves : Moves result old.unread new.unread before.left after.left
  pub advances : Advances old new result

-- the end of bytes after a front of so many
abbrev pub raised_end : ℕ → End → End
raised_end n Whole = Whole
raised_end n (EndsCutShort k) = EndsCutShort (n + k)
raised_end n (EndsInBadFrame k) = EndsInBadFrame (n + k)

-- of these bytes to read, the operations still to be given are these, those held back first, and the bytes end so
pub record HasTodo (r : FrameReading) (bytes : List ℕ) (todo : List Op) (end : End) : Type 0 where
  pub behind : List Op
  pub reads : Reads r.grammar bytes behind end
  pub todo_is : todo ≡ r.todo ++ behind

-- The operation was the first still to be given. Afterwards the rest are, and the end is the same, but for the bytes
-- that were read.
pub record GaveFirst (op : Op) (old new : FrameReading) (left : Option (List ℕ)) (bytes : List ℕ) : Type 0 where
  -- the bytes that were read, and those after them
  pub front : List ℕ
  pub rest : List ℕ
  pub split : bytes ≡ front ++ rest
  pub to_give_is : to_give new left ≡ Some rest
  pub first : (todo : List Op) (end : End) → HasTodo old bytes todo end → (later : List Op) (ends : End) → HasTodo new rest later ends
      → (todo ≡ op ∷ later) × (end ≡ raised_end (length front) ends)

-- the answer by the operations still to be given and the end of the bytes, at a place
abbrev pub answer_of_rest : ℕ → List Op → End → Result (Option Op) FrameFault
answer_of_rest offset (op ∷ later) end = Ok (Some op)
answer_of_rest offset [] Whole = Ok None
answer_of_rest offset [] (EndsCutShort k) = Err (CutShort (offset + k))
answer_of_rest offset [] (EndsInBadFrame k) = Err (BadFrame (offset + k))

-- the reading decides such an answer: it is no fault of the source, no allocation failure, and within the limit
abbrev pub IsByReading : Result (Option Op) FrameFault → Type 0
IsByReading (Err ReadFault) = ⊥
IsByReading (Err NoMemory) = ⊥
IsByReading (Err TooLong) = ⊥
IsByReading result = Unit {0}

-- what one call of `next`, where no fault was kept, says of all that is still to be given
pub record GivesInOrder (old new : FrameReading) (before after : SourceView) (result : Result (Option Op) FrameFault) : Type 0 where
  pub first : IfOk result (λ given. IfSome given (λ op. IfSome (to_give old before.left) (GaveFirst op old new after.left)))
  pub rises : IfOk result (λ given. IfSome given (λ op. RisesByThree old new))
  pub exactly : IsByReading result → IfSome (to_give old before.left)
      (λ bytes. (todo : List Op) (end : End) → HasTodo old bytes todo end → result ≡ answer_of_rest old.offset todo end)
  pub over : result ≡ Ok None → IfSome after.left (λ left. left ≡ [])
  pub memory : IsErrOf result NoMemory → (old.todo ≡ []) × IfSome (to_give old before.left) AsksMemory

-- Of the bytes that were specified the reader gave these operations. With those held back they are those of the frames at
-- the front, and it stands after these frames.
pub record Gave (specified : Option (List ℕ)) (ops : List Op) (reader : FrameReading) (left : Option (List ℕ)) : Type 0 where
  pub found : List Framed
  pub are_frames : All (IsFrame reader.grammar) found
  pub ops_are : ops ++ reader.todo ≡ flat_map (λ framed. framed.ops) found
  pub split : specified ≡ prepend_known (flat_map (λ framed. framed.bytes) found) (to_give reader left)
  pub offset : reader.offset ≡ length (flat_map (λ framed. framed.bytes) found)

-- the operations given until now, with that of the answer
abbrev pub given_with : List Op → Result (Option Op) FrameFault → List Op
given_with ops (Ok (Some op)) = ops ++ op ∷ []
given_with ops result = ops

-- the operations are the first ones of the bytes' reading
abbrev pub AreFirst : Grammar → List Op → List ℕ → Type 0
AreFirst grammar ops bytes = (all : List Op) (end : End) → Reads grammar bytes all end → (more : List Op) × (all ≡ ops ++ more)

-- how the bytes are read whose operations were given, by the answer after these
abbrev pub EndsBy : Grammar → (limit : ℕ) (ops : List Op) → Result (Option Op) FrameFault → List ℕ → Type 0
EndsBy grammar limit ops (Ok None) bytes = (length bytes ≤ limit) × Reads grammar bytes ops Whole
EndsBy grammar limit ops (Err (CutShort k)) bytes = (length bytes ≤ limit) × Reads grammar bytes ops (EndsCutShort k)
EndsBy grammar limit ops (Err (BadFrame k)) bytes =
    Reads grammar (take limit bytes) ops (EndsInBadFrame k) × Reads grammar bytes ops (EndsInBadFrame k)
EndsBy grammar limit ops (Err TooLong) bytes = (limit < length bytes) × EndsWholeOrCutShort grammar (take limit bytes) ops
EndsBy grammar limit ops result bytes = Unit {0}

-- what an answer adds, after operations that were given of the bytes that were specified
pub record Follows (specified : Option (List ℕ)) (ops : List Op) (old new : FrameReading) (after : SourceView)
    (result : Result (Option Op) FrameFault) : Type 0 where
  pub gave : (IsErrOf result TooLong → ⊥) → Gave specified (given_with ops result) new after.left
  pub first : IfSome specified (AreFirst old.grammar (given_with ops result))
  pub ends : IfSome specified (EndsBy old.grammar old.limit ops result)

-- the chain of a reader's answers
abbrev pub Chains : (old new : FrameReading) (before after : SourceView) → Result (Option Op) FrameFault → Type 0
Chains old new before after result = (specified : Option (List ℕ)) (ops : List Op) → Gave specified ops old before.left
    → Follows specified ops old new after result
