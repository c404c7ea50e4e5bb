-- The slots of a file, one after another, on their way into a replica.
use Rattle.std.specs.Prelude.{◌≡◌, ◌≢◌, ◌⊎◌, ℕ, ◌+◌, ◌<◌, ◌≤◌, List, [], ◌++◌, length, drop, Some, slice_get, Err, Bool, true, false}
use Rattle.fugue_ids.specs.declared.op.Op.{Op}
use Rattle.origin_model.specs.declared.files.TheConstants.{LONGEST_BATCH}
use Rattle.origin_model.specs.files.Image.{Batch, IsBatch, OpenSlots, batch_ops, has_header, header_of, is_header, length_at, number_at}
use Rattle.origin_model.specs.files.Image.{open_slots, slots_of, tag_of, word_tag}
use Rattle.origin_model.specs.declared.grammar.Grammar.{Grammar}
use Rattle.origin_model.specs.frames.Frames.{IsBad, IsPartial, Reads, Starts, Whole}
use Rattle.origin_model.specs.edits.State.{State}
use Rattle.replica_file.specs.Load.{LoadAnswerIs}
use Rattle.replica_file.specs.Loading.{AreIn, Feeds}
use Rattle.replica_file.specs.Pieces.{Lacks}
use Rattle.replica_file.specs.Wanting.{BeginsPiece, file_part}
use Rattle.replica_file.specs.declared.load_file.End.{End}
use Rattle.replica_file.specs.declared.header.Header.{Header}
use Rattle.replica_file.specs.declared.load_file.LoadFault.{LoadFault}
use Rattle.replica_file.specs.declared.gate.Gate.{Gate}
use Rattle.replica_file.specs.declared.slot.Word.{Word}

-- frames of the operations are the first so many bytes of a part, and they were taken in
pub record TakesInFrames (grammar : Grammar) (bytes : List ℕ) (at len taken : ℕ) (was : Bool) (old : State) (now : Bool)
    (new : State) : Type 0 where
  pub ops : List Op
  pub inside : taken ≤ length (file_part bytes at len)
  pub starts : Starts grammar (file_part bytes at len) ops (drop taken (file_part bytes at len))
  pub feeds : Feeds was old now new ops

-- the part is all there and whole frames, and they were taken in
pub record TakesFrames (grammar : Grammar) (bytes : List ℕ) (at len : ℕ) (was : Bool) (old : State) (now : Bool)
    (new : State) : Type 0 where
  pub ops : List Op
  pub long : length (file_part bytes at len) ≡ len
  pub reads : Reads grammar (file_part bytes at len) ops Whole
  pub feeds : Feeds was old now new ops

-- after some frames stand bytes that are no whole frame and begin none
pub record EndsOff (grammar : Grammar) (bytes : List ℕ) : Type 0 where
  pub ops : List Op
  pub rest : List ℕ
  pub starts : Starts grammar bytes ops rest
  pub ends : ((rest ≢ []) × IsPartial grammar rest) ⊎ IsBad grammar rest

-- the part is not all there, or it is not whole frames
abbrev pub HasNoFrames : Grammar → List ℕ → (at len : ℕ) → Type 0
HasNoFrames grammar bytes at len = (length (drop at bytes) < len) ⊎ EndsOff grammar (file_part bytes at len)

-- the word of the batch after a gate was read, and memory ran out for its frames
pub record LacksInSlot (bytes : List ℕ) (at : ℕ) (was : Bool) (old : State) : Type 0 where
  pub grammar : Grammar
  pub tagged : word_tag (number_at (at + 1) bytes) ≡ tag_of grammar
  pub short : length_at (at + 1) bytes ≤ LONGEST_BATCH
  pub lacks : Lacks grammar (BeginsPiece grammar bytes (at + 5) (length_at (at + 1) bytes))
      (file_part bytes (at + 5) (length_at (at + 1) bytes)) was old

-- the four bytes at an offset are a slot's word
pub record IsWord (bytes : List ℕ) (at : ℕ) (word : Word) : Type 0 where
  pub there : 4 ≤ length (drop at bytes)
  pub tagged : word_tag (number_at at bytes) ≡ tag_of word.grammar
  pub len_is : word.len ≡ length_at at bytes

-- the four bytes are not there, or their tag is that of no grammar, or their length is above the limit
abbrev pub HasNoWord : List ℕ → (at : ℕ) → Type 0
HasNoWord bytes at = (length (drop at bytes) < 4) ⊎ ((grammar : Grammar) → word_tag (number_at at bytes) ≢ tag_of grammar)
    ⊎ (LONGEST_BATCH < length_at at bytes)

-- a gate is open or not, as the byte at its place says
pub record IsGate (bytes : List ℕ) (gate : Gate) : Type 0 where
  pub byte : ℕ
  pub is : slice_get bytes gate.at ≡ Some byte
  pub opens : gate.open ≡ true → byte ≡ 1
  pub shuts : gate.open ≡ false → byte ≢ 1

-- the batch of an open slot was taken in, and the next gate found
pub record TakesSlot (bytes : List ℕ) (at : ℕ) (next : Gate) (was : Bool) (old : State) (now : Bool) (new : State) : Type 0 where
  pub batch : Batch
  pub is_batch : IsBatch batch
  pub split : drop (at + 1) bytes ≡ (batch.word ++ batch.bytes) ++ drop next.at bytes
  pub next_at : next.at ≡ at + 5 + length batch.bytes
  pub gate : IsGate bytes next
  pub feeds : Feeds was old now new batch.ops

-- the open slots up to a gate were all taken in
pub record Walked (bytes : List ℕ) (slots : ℕ) (gate : Gate) (replica : State) : Type 0 where
  pub header : has_header bytes ≡ true
  pub batches : List Batch
  pub found : OpenSlots (slots_of bytes) batches (drop gate.at bytes)
  pub number : slots ≡ length batches
  pub at : gate.at ≡ 13 + length (open_slots batches)
  pub is_gate : IsGate bytes gate
  pub fed : AreIn replica (batch_ops batches)
  pub replica_is : replica.number ≡ number_at 5 (header_of bytes)
  pub hold_is : replica.hold ≡ number_at 9 (header_of bytes)

-- the slots are over: the last gate is not open
pub record WalksOut (bytes : List ℕ) (end : End) (replica : State) : Type 0 where
  pub gate : Gate
  pub walked : Walked bytes end.slots gate replica
  pub shut : gate.open ≡ false
  pub at : end.at ≡ gate.at

-- the bytes are the cause of a fault
abbrev pub SlotStopsFor : (most : ℕ) → List ℕ → LoadFault → Type 0
SlotStopsFor most bytes fault = LoadAnswerIs most bytes (Err fault)

-- what a file's header says
pub record IsHeader (bytes : List ℕ) (header : Header) : Type 0 where
  pub is_header : is_header (header_of bytes) ≡ true
  pub replica_is : header.replica ≡ number_at 5 (header_of bytes)
  pub hold_is : header.hold ≡ number_at 9 (header_of bytes)

-- what stands in front of a file's slots, and the first gate
pub record IsFileFront (bytes : List ℕ) (header : Header) (gate : Gate) : Type 0 where
  pub has : has_header bytes ≡ true
  pub header_is : IsHeader bytes header
  pub is_gate : IsGate bytes gate
