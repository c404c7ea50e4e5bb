-- What loading a file gives by the file's bytes: a replica and where its meaning ends, or why there is none.
use Rattle.std.specs.Prelude.{◌≡◌, ◌↔◌, ℕ, ◌+◌, ◌<◌, ◌≤◌, List, [], ◌∷◌, ◌++◌, length, drop, true, false, Contains, Result, Ok, Err}
use Rattle.fugue_ids.specs.declared.op.Op.{Op}
use Rattle.outer_ports.specs.disk.Disks.{RoomView}
use Rattle.origin_model.specs.declared.files.TheConstants.{LONGEST_BATCH}
use Rattle.origin_model.specs.declared.grammar.Grammar.{Grammar}
use Rattle.origin_model.specs.files.Image.{Batch, Content, EndsBadly, HasImage, Holds, OpenSlots, batch_ops, has_header, header_of}
use Rattle.origin_model.specs.files.Image.{last_slot, length_at, number_at, open_slots, slots_of, state, tag_of, word_tag}
use Rattle.origin_model.specs.taking.Taking.{MeetsNoLimit, TooMany as AnswersTooMany, answers_from, held, nothing_held}
use Rattle.origin_model.specs.edits.State.{State}
use Rattle.replica_file.specs.Wanting.{BeginsPiece, IsWanting, file_part}
use Rattle.replica_file.specs.declared.load_file.End.{End}
use Rattle.replica_file.specs.declared.load_file.LoadFault.{LoadFault}
use Rattle.replica_file.specs.declared.load_file.LoadFault.TheVariants.{NotReplica, BadBatch, DiskFault, TooMany, NoMemory}

-- the hold that a file's header says
abbrev pub hold_of : List ℕ → ℕ
hold_of bytes = number_at 9 (header_of bytes)

-- all of the operations can be taken in by a replica that holds nothing
abbrev pub FindPlace : (hold most : ℕ) → List Op → Type 0
FindPlace hold most ops = MeetsNoLimit hold most nothing_held ops

-- one of them is one too many
abbrev pub AreTooMany : (hold most : ℕ) → List Op → Type 0
AreTooMany hold most ops = Contains (answers_from hold most nothing_held ops) AnswersTooMany

-- the replica that took a file's content in
abbrev pub content_replica : Content → (most : ℕ) → State
content_replica content most = record { number = content.replica; hold = content.hold; most = most; held = state content }

-- the file holds a content that can all be taken in
pub record Loads (most : ℕ) (bytes : List ℕ) (replica : State) (end : End) : Type 0 where
  pub content : Content
  pub holds : HasImage bytes (Holds content)
  pub place : FindPlace content.hold most content.ops
  pub replica_is : replica ≡ content_replica content most
  pub end_is : end ≡ record { at = content.at; slots = content.slots }

-- the open slot of this number has no batch, and the operations of the slots before it can all be taken in
pub record FindsBadBatch (most : ℕ) (bytes : List ℕ) (slot : ℕ) : Type 0 where
  pub header : has_header bytes ≡ true
  pub ends : EndsBadly (slots_of bytes) slot
  pub place : FindPlace (hold_of bytes) most (batch_ops ends.batches)

-- an operation of an open slot with a batch is one too many, and those of the slots before it can all be taken in
pub record FindsTooMany (most : ℕ) (bytes : List ℕ) : Type 0 where
  pub header : has_header bytes ≡ true
  pub earlier : List Batch
  pub batch : Batch
  pub rest : List ℕ
  pub found : OpenSlots (slots_of bytes) (earlier ++ batch ∷ []) rest
  pub place : FindPlace (hold_of bytes) most (batch_ops earlier)
  pub refused : AreTooMany (hold_of bytes) most (batch_ops (earlier ++ batch ∷ []))

-- Memory ran out in an open slot, where a piece of its batch was to be read, or for the operation that comes next.
-- No byte in front of that place is at fault, and the operations of the slots before it can all be taken in.
pub record LacksMemory (most : ℕ) (bytes : List ℕ) : Type 0 where
  pub header : has_header bytes ≡ true
  pub earlier : List Batch
  pub at : ℕ
  pub at_is : at ≡ 13 + length (open_slots earlier)
  pub found : OpenSlots (slots_of bytes) earlier (1 ∷ drop (at + 1) bytes)
  pub few : length earlier < last_slot
  pub place : FindPlace (hold_of bytes) most (batch_ops earlier)
  pub grammar : Grammar
  pub tagged : word_tag (number_at (at + 1) bytes) ≡ tag_of grammar
  pub short : length_at (at + 1) bytes ≤ LONGEST_BATCH
  -- the operations of the slot that were taken in
  pub ops : List Op
  pub wants : IsWanting grammar (BeginsPiece grammar bytes (at + 5) (length_at (at + 1) bytes))
      (file_part bytes (at + 5) (length_at (at + 1) bytes)) ops (hold_of bytes) most
      (held (hold_of bytes) most (batch_ops earlier ++ ops)) (FindPlace (hold_of bytes) most (batch_ops earlier ++ ops))

-- the bytes decide such an answer: it is no fault of the disk, and no allocation failure
abbrev pub IsLoadByBytes : Result (State × End) LoadFault → Type 0
IsLoadByBytes (Err DiskFault) = ⊥
IsLoadByBytes (Err NoMemory) = ⊥
IsLoadByBytes result = Unit {0}

-- where which answer comes
abbrev pub LoadAnswerIs : (most : ℕ) → List ℕ → Result (State × End) LoadFault → Type 0
LoadAnswerIs most bytes (Ok loaded) = Loads most bytes loaded.0 loaded.1
LoadAnswerIs most bytes (Err NotReplica) = has_header bytes ≡ false
LoadAnswerIs most bytes (Err (BadBatch slot)) = FindsBadBatch most bytes slot
LoadAnswerIs most bytes (Err (TooMany count)) = (count ≡ most) × FindsTooMany most bytes
LoadAnswerIs most bytes (Err DiskFault) = Unit {0}
LoadAnswerIs most bytes (Err NoMemory) = LacksMemory most bytes

-- each answer comes exactly where the bytes say so, but for a fault of the disk and an allocation failure
abbrev pub LoadAnswersBy : Result (State × End) LoadFault → (most : ℕ) → List ℕ → Type 0
LoadAnswersBy result most bytes = IsLoadByBytes result → (answer : Result (State × End) LoadFault) → IsLoadByBytes answer
    → (result ≡ answer) ↔ LoadAnswerIs most bytes answer

-- the room lasts for the sync
abbrev pub LastsToLoad : RoomView → Type 0
LastsToLoad room = 0 < room.calls
