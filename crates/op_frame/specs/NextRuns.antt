-- What `next_run` gives: operations that `next` gives too, one call after another.
use Rattle.std.specs.Prelude.{◌≡◌, ◌⊎◌, ℕ, ◌+◌, ◌-◌, ◌<◌, ◌≤◌, ◌^◌, ◌*◌, Bool, true, false, List, [], ◌∷◌, ◌++◌, length, take, drop, Option}
use Rattle.std.specs.Prelude.{Some, None, Result, Ok, Err}
use Rattle.fugue_ids.specs.Identifiers.{Identifier}
use Rattle.fugue_ids.specs.Runs.{id_after, run_from, start_after, text_by}
use Rattle.fugue_ids.specs.declared.limits.TheConstants.{BUFFER}
use Rattle.fugue_ids.specs.declared.op.Op.{Op}
use Rattle.fugue_ids.specs.declared.op.Op.TheVariants.{Delete}
use Rattle.fugue_ids.specs.declared.run.RunStart.{RunStart}
use Rattle.op_runs.specs.Deletions.{deletes_up}
use Rattle.op_runs.specs.Parts.{IsOther}
use Rattle.outer_ports.specs.Sources.{SourceView}
use Rattle.origin_model.specs.declared.grammar.Grammar.{Grammar}
use Rattle.origin_model.specs.frames.Frames.{HasFrame, IsFrame, frame}
use Rattle.op_frame.specs.FrameFronts.{IsFrameOf}
use Rattle.op_frame.specs.Headers.{HeaderIs, text_scalars}
use Rattle.op_frame.specs.Readers.{FrameReading, Gave, Nexts, RisesByThree}
use Rattle.op_frame.specs.declared.fault.FrameFault.{FrameFault}
use Rattle.op_frame.specs.declared.fault.FrameFault.TheVariants.{NoMemory}
use Rattle.op_frame.specs.declared.header.RunHeader.{RunHeader}
use Rattle.op_frame.specs.declared.next_ops.NextOps.{NextOps}
use Rattle.op_frame.specs.declared.next_ops.NextOps.TheVariants.{Deletes, Run, Single}

-- the operations that are given at once, with the scalars of a run beside them
abbrev pub ops_given : NextOps → List ℕ → List Op
ops_given (Run start) text = run_from start text
ops_given (Deletes target count) text = deletes_up target count
ops_given (Single op) text = op ∷ []

-- the last identifier of a run or of a row of Deletes has 32 bits too, and what is given alone is neither a Text nor a Delete
abbrev pub AreSoundNextOps : NextOps → List ℕ → Type 0
AreSoundNextOps (Run start) text = start.id.counter + length text ≤ 2 ^ 32
AreSoundNextOps (Deletes target count) text = (target.counter + count ≤ 2 ^ 32) × (count ≤ BUFFER)
AreSoundNextOps (Single op) text = IsOther op

-- as many calls of `next` give these operations, one after another, of what the reader has: the source is left alone
abbrev pub GivesOn : (old new : FrameReading) → SourceView → List Op → Type 0
GivesOn old new source [] = new ≡ old
GivesOn old new source (op ∷ ops) = (mid : FrameReading) × Nexts old mid source source (Ok (Some op)) × GivesOn mid new source ops

-- as many calls of `next` give these operations, one after another, at least one: the first of them may take bytes of the source
abbrev pub GivesAll : (old new : FrameReading) → (before after : SourceView) → List Op → Type 0
GivesAll old new before after [] = ⊥
GivesAll old new before after (op ∷ ops) = (mid : FrameReading) × Nexts old mid before after (Ok (Some op)) × GivesOn mid new after ops

-- One call of `next_run`, where no fault was kept. Where nothing is given, it is a call of `next`, or there was no room
-- for a scalar, and then nothing was done.
abbrev pub NextsRun : (old new : FrameReading) → (before after : SourceView) → Result (Option NextOps) FrameFault → List ℕ → Type 0
NextsRun old new before after (Ok (Some given)) text = GivesAll old new before after (ops_given given text) × AreSoundNextOps given text
NextsRun old new before after (Ok None) text = Nexts old new before after (Ok None)
NextsRun old new before after (Err e) text = Nexts old new before after (Err e) ⊎ (e ≡ NoMemory) × (new ≡ old) × (after ≡ before)

-- these operations more were given, of whatever the reader gave before
abbrev pub GaveMore : (old new : FrameReading) → (before after : Option (List ℕ)) → List Op → Type 0
GaveMore old new before after more = (specified : Option (List ℕ)) (ops : List Op) → Gave specified ops old before
    → Gave specified (ops ++ more) new after

-- the place, less three for each operation held back, rises by three at least for each of so many
abbrev pub RisesBy : FrameReading → FrameReading → ℕ → Type 0
RisesBy old new n = old.offset + 3 * length new.todo + 3 * n ≤ new.offset + 3 * length old.todo

-- what giving these operations leaves of a reader
pub record GivesMany (old new : FrameReading) (before after : SourceView) (ops : List Op) : Type 0 where
  pub some : 0 < length ops
  pub gave : GaveMore old new before.left after.left ops
  pub rises : RisesBy old new (length ops)
  pub grammar : new.grammar ≡ old.grammar
  pub limit : new.limit ≡ old.limit
  pub within : new.offset ≤ new.limit
  pub no_fault : new.fault ≡ None

-- the same of one call of `next_run`
abbrev pub GivesManyBy : (old new : FrameReading) → (before after : SourceView) → Result (Option NextOps) FrameFault → List ℕ → Type 0
GivesManyBy old new before after (Ok (Some given)) text = GivesMany old new before after (ops_given given text)
GivesManyBy old new before after result text = Unit {0}

-- Of the operations that are given, one is reached after those before it: by a call of `next`, from a reader that gave
-- these.
pub record IsReachedOp (old : FrameReading) (before after : SourceView) (front : List Op) (op : Op) : Type 0 where
  pub at : FrameReading
  pub next : FrameReading
  pub seen : SourceView
  pub gave : GaveMore old at before.left seen.left front
  pub nexts : Nexts at next seen after (Ok (Some op))
  pub grammar : at.grammar ≡ old.grammar
  pub limit : at.limit ≡ old.limit

-- how many bytes are left in the buffer: the scalar of each operation held back, of three bytes, and the bytes not yet read
abbrev pub bytes_left : FrameReading → ℕ
bytes_left r = 3 * length r.todo + length r.unread

-- the operation was given, and with it those that were found to go on with it
pub record Gathers (first : Op) (given : NextOps) (text : List ℕ) (old new : FrameReading) : Type 0 where
  pub others : List Op
  pub ops_are : ops_given given text ≡ first ∷ others
  pub gives : (source : SourceView) → GivesOn old new source others
  pub sound : AreSoundNextOps given text
  -- a scalar takes three bytes, and that of the operation itself was taken before
  pub short : 3 * length text + bytes_left new ≤ bytes_left old + 3

-- so many Texts more of a run were given, and their scalars went after the text
pub record GathersTexts (start : RunStart) (old_text text : List ℕ) (old new : FrameReading) : Type 0 where
  pub more : List ℕ
  pub text_is : text ≡ old_text ++ more
  pub gives : (source : SourceView) → GivesOn old new source (run_from (start_after start (length old_text)) more)
  pub counters : start.id.counter + length text ≤ 2 ^ 32
  pub no_fault : new.fault ≡ None
  pub limit : new.limit ≡ old.limit
  pub short : 3 * length more + bytes_left new ≤ bytes_left old

-- the same, with at least one, or nothing was done
abbrev pub GathersMore : Bool → RunStart → (old_text text : List ℕ) → (old new : FrameReading) → Type 0
GathersMore true start old_text text old new = GathersTexts start old_text text old new × RisesByThree old new × (new.offset ≤ new.limit)
GathersMore false start old_text text old new = (text ≡ old_text) × (new ≡ old)

-- the Deletes after this one were given, so many with it
pub record GathersDeletes (target : Identifier) (count : ℕ) (old new : FrameReading) : Type 0 where
  pub some : 0 < count
  pub gives : (source : SourceView) → GivesOn old new source (deletes_up (id_after target 1) (count - 1))
  pub counters : target.counter + count ≤ 2 ^ 32
  pub few : count ≤ BUFFER
  pub no_fault : new.fault ≡ None
  pub short : bytes_left new ≤ bytes_left old

-- the Delete so many after this one was given
pub record GathersOne (target : Identifier) (count : ℕ) (old new : FrameReading) : Type 0 where
  pub gives : (source : SourceView) → GivesOn old new source (Delete (id_after target count) ∷ [])
  pub counters : target.counter + count < 2 ^ 32
  pub no_fault : new.fault ≡ None
  pub short : bytes_left new ≤ bytes_left old

-- the same, or nothing was done
abbrev pub GathersDelete : Bool → Identifier → ℕ → (old new : FrameReading) → Type 0
GathersDelete true target count old new = GathersOne target count old new
GathersDelete false target count old new = new ≡ old

-- what a run's frame says before its scalars
abbrev pub start_in : RunHeader → RunStart
start_in header = record { id = header.id; section = header.section; left = header.left; right = header.right }

-- the scalars of the Texts that are held back went after the text, or none of them
abbrev pub PutsScalars : Bool → RunHeader → (bytes old_text text : List ℕ) → Type 0
PutsScalars true header bytes old_text text = text ≡ old_text ++ text_scalars header.count bytes
PutsScalars false header bytes old_text text = text ≡ old_text

-- the scalars of the Texts that are held back went after the text, since these go on with the run, or nothing was done
abbrev pub TakesHeld : Bool → RunStart → RunHeader → (old_text text old new : List ℕ) → Type 0
TakesHeld true start header old_text text old new =
    (start_in header ≡ start_after start (length old_text)) × (text ≡ old_text ++ text_scalars header.count old)
    × (new ≡ drop (3 * header.count) old)
TakesHeld false start header old_text text old new = (text ≡ old_text) × (new ≡ old)

-- the frame at the front is that of the operation
pub record IsOpFront (op : Op) (len : ℕ) (bytes : List ℕ) : Type 0 where
  pub has_frame : HasFrame op
  pub rest : List ℕ
  pub split : bytes ≡ frame op ++ rest
  pub len_is : len + length rest ≡ length bytes

-- the frame at the front is of the Text that stands so many after the first of a run
abbrev pub IsTextAfter : (start : RunStart) (count ch len : ℕ) (bytes : List ℕ) → Type 0
IsTextAfter start count ch len bytes = (start.id.counter + count < 2 ^ 32) × IsOpFront (text_by (start_after start count) ch) len bytes

-- the frame at the front is that of the Delete, and it was taken off, or nothing was done
abbrev pub TakesDelete : (target : Identifier) → (old new : List ℕ) → Option ℕ → Type 0
TakesDelete target old new (Some len) = IsOpFront (Delete target) len old × (new ≡ drop len old)
TakesDelete target old new None = new ≡ old

-- the frame at the front is that of a run
pub record IsRunFront (grammar : Grammar) (header : RunHeader) (len : ℕ) (bytes : List ℕ) : Type 0 where
  pub within : len ≤ length bytes
  pub is_frame : IsFrameOf grammar (take len bytes)
  pub header_is : HeaderIs header (take len bytes)

-- the frame at the front is of Texts that go on with the run: their scalars went after the text, and it was taken off
pub record TakesTexts (grammar : Grammar) (start : RunStart) (old_text text old new : List ℕ) (len : ℕ) : Type 0 where
  pub more : List ℕ
  pub some : 0 < length more
  pub within : len ≤ length old
  pub is_frame : IsFrame grammar (record { bytes = take len old; ops = run_from (start_after start (length old_text)) more })
  pub text_is : text ≡ old_text ++ more
  pub rest : new ≡ drop len old
  pub counters : start.id.counter + length text ≤ 2 ^ 32

-- the same, or nothing was done
abbrev pub TakesFront : Grammar → RunStart → (old_text text old new : List ℕ) → Option ℕ → Type 0
TakesFront grammar start old_text text old new (Some len) = TakesTexts grammar start old_text text old new len
TakesFront grammar start old_text text old new None = (text ≡ old_text) × (new ≡ old)
