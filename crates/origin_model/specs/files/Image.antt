-- What the bytes of a file mean: a header, and then slots, numbered from 0, each of which begins with its gate. A slot
-- whose gate is 1 is open; any other gate ends the meaning. Numbers are big-endian.
use Rattle.std.specs.Prelude.{◌≡◌, ◌≢◌, ℕ, ◌+◌, ◌*◌, ◌/◌, ◌%◌, ◌<◌, ◌≤◌, nat_le, nat_eq, Bool, true, false, ◌&&◌, List, [], ◌∷◌, ◌++◌}
use Rattle.std.specs.Prelude.{length, take, drop, slice_index_or, flat_map, All, codes}
use Rattle.std.specs.Cmp.Lexicographic.{pointwise}
use Rattle.std.specs.Int.{from_be_bytes, to_be_bytes, w32}
use Rattle.fugue_ids.specs.declared.limits.TheConstants.{GREATEST_HOLD, MOST_OPERATIONS}
use Rattle.fugue_ids.specs.declared.op.Op.{Op}
use Rattle.origin_model.specs.declared.files.TheConstants.{LONGEST_BATCH, TAG_UNIT}
use Rattle.origin_model.specs.declared.grammar.Grammar.{Grammar}
use Rattle.origin_model.specs.declared.grammar.Grammar.TheVariants.{Version1, Version2}
use Rattle.origin_model.specs.frames.Frames.{Reads, Whole}
use Rattle.origin_model.specs.taking.Taking.{Held, held}

-- the mark, version 2, the replica and its hold
abbrev pub header : (replica hold : ℕ) → List ℕ
header replica hold = codes "FGMX" ++ 2 ∷ to_be_bytes w32 replica ++ to_be_bytes w32 hold

-- a header, and a closed gate
abbrev pub new_file : (replica hold : ℕ) → List ℕ
new_file replica hold = header replica hold ++ 0 ∷ []

-- the number in four bytes from an offset on
abbrev pub number_at : ℕ → List ℕ → ℕ
number_at offset bytes = from_be_bytes w32 (take 4 (drop offset bytes))

-- a word has a tag in its upper three bits, and in the others the length of the slot's bytes
abbrev pub word_tag : ℕ → ℕ
word_tag word = word / TAG_UNIT

-- the length in a slot's word
abbrev pub word_length : ℕ → ℕ
word_length word = word % TAG_UNIT

-- which tag says by which grammar the slot's bytes are read
abbrev pub tag_of : Grammar → ℕ
tag_of Version1 = 0
tag_of Version2 = 1

-- the word of so many bytes that are read by the grammar
abbrev pub word_of : Grammar → ℕ → ℕ
word_of grammar length = tag_of grammar * TAG_UNIT + length

-- the length in the word that stands at an offset
abbrev pub length_at : ℕ → List ℕ → ℕ
length_at offset bytes = word_length (number_at offset bytes)

-- 13 bytes are a header: the mark, version 1 or 2, a replica other than 0, and a hold within its limits
abbrev pub is_header : List ℕ → Bool
is_header bytes =
    pointwise nat_eq (take 4 bytes) (codes "FGMX") && nat_le 1 (slice_index_or bytes 4 0) && nat_le (slice_index_or bytes 4 0) 2
    && nat_le 1 (number_at 5 bytes)
    && nat_le 1 (number_at 9 bytes) && nat_le (number_at 9 bytes) GREATEST_HOLD

-- the first 13 bytes of a file
abbrev pub header_of : List ℕ → List ℕ
header_of bytes = take 13 bytes

-- the bytes of a file after its header
abbrev pub slots_of : List ℕ → List ℕ
slots_of bytes = drop 13 bytes

-- the bytes begin with a header, and a byte stands after it
abbrev pub has_header : List ℕ → Bool
has_header bytes = nat_le 14 (length bytes) && is_header (header_of bytes)

-- a batch: the four bytes of its word, its bytes, the grammar by which they are read, and the operations that they stand for
pub record Batch : Type 0 where
  pub word : List ℕ
  pub bytes : List ℕ
  pub grammar : Grammar
  pub ops : List Op

-- the word has the tag and the length, and the bytes are whole frames
pub record IsBatch (batch : Batch) : Type 0 where
  pub four_bytes : length batch.word ≡ 4
  pub tagged : word_tag (from_be_bytes w32 batch.word) ≡ tag_of batch.grammar
  pub counts : word_length (from_be_bytes w32 batch.word) ≡ length batch.bytes
  pub short : length batch.bytes ≤ LONGEST_BATCH
  pub reads : Reads batch.grammar batch.bytes batch.ops Whole

-- the bytes of an open slot
abbrev pub open_slot : Batch → List ℕ
open_slot batch = 1 ∷ batch.word ++ batch.bytes

-- the bytes of the open slots of batches
abbrev pub open_slots : List Batch → List ℕ
open_slots batches = flat_map open_slot batches

-- the operations of batches
abbrev pub batch_ops : List Batch → List Op
batch_ops batches = flat_map (λ batch. batch.ops) batches

-- the greatest number of four bytes, which no open slot has
abbrev pub last_slot : ℕ
last_slot = 4294967295

-- open slots, each with a byte after it, and the bytes from the gate on that follows them
pub record OpenSlots (slots : List ℕ) (batches : List Batch) (rest : List ℕ) : Type 0 where
  pub batches_are : All IsBatch batches
  pub few : length batches ≤ last_slot
  pub split : slots ≡ open_slots batches ++ rest
  pub gate : rest ≢ []

-- why the bytes after the gate of an open slot are no batch with a byte after it
pub data IsNoBatch (slot : ℕ) (bytes : List ℕ) : Type 0 where
  -- the four bytes of the word are not all there
  NoWord : length bytes < 4 → IsNoBatch slot bytes
  -- the tag is that of no grammar
  NoTag : ((grammar : Grammar) → word_tag (number_at 0 bytes) ≢ tag_of grammar) → IsNoBatch slot bytes
  -- the length is above the limit, or more than the bytes that follow
  TooLong : LONGEST_BATCH < length_at 0 bytes → IsNoBatch slot bytes
  CutShort : length (drop 4 bytes) < length_at 0 bytes → IsNoBatch slot bytes
  -- the bytes are not whole frames of the tag's grammar
  NoFrames : (grammar : Grammar) → word_tag (number_at 0 bytes) ≡ tag_of grammar
      → ((ops : List Op) → Reads grammar (take (length_at 0 bytes) (drop 4 bytes)) ops Whole → ⊥) → IsNoBatch slot bytes
  -- no byte stands after the bytes of the slot
  NoGate : length (drop 4 bytes) ≡ length_at 0 bytes → IsNoBatch slot bytes
  -- the slot has the last number
  LastSlot : slot ≡ last_slot → IsNoBatch slot bytes

-- what a replica's file holds: its replica, its hold, the operations of the open slots in order, the offset of the gate
-- that ends the meaning, and the number of open slots before it
pub record Content : Type 0 where
  pub replica : ℕ
  pub hold : ℕ
  pub ops : List Op
  pub at : ℕ
  pub slots : ℕ

-- what the bytes of a file mean
pub data Image : Type 0 where
  NotReplica : Image
  BadBatch : (slot : ℕ) → Image
  Holds : Content → Image

-- open slots, and an open one that has no batch
pub record EndsBadly (slots : List ℕ) (slot : ℕ) : Type 0 where
  pub batches : List Batch
  pub rest : List ℕ
  pub found : OpenSlots slots batches (1 ∷ rest)
  pub number : slot ≡ length batches
  pub bad : IsNoBatch slot rest

-- what a header and open slots say
abbrev pub content_of : List ℕ → List Batch → Content
content_of bytes batches =
    record {
      replica = number_at 5 bytes;
      hold = number_at 9 bytes;
      ops = batch_ops batches;
      at = 13 + length (open_slots batches);
      slots = length batches;
    }

-- open slots, and a gate other than 1
pub record EndsWell (bytes : List ℕ) (content : Content) : Type 0 where
  pub batches : List Batch
  pub gate : ℕ
  pub rest : List ℕ
  pub found : OpenSlots (slots_of bytes) batches (gate ∷ rest)
  pub closed : gate ≢ 1
  pub content_is : content ≡ content_of (header_of bytes) batches

-- what the bytes of a file mean
abbrev pub HasImage : List ℕ → Image → Type 0
HasImage bytes NotReplica = has_header bytes ≡ false
HasImage bytes (BadBatch slot) = (has_header bytes ≡ true) × EndsBadly (slots_of bytes) slot
HasImage bytes (Holds content) = (has_header bytes ≡ true) × EndsWell bytes content

-- the state of a replica that takes in a file's operations
abbrev pub state : Content → Held
state content = held content.hold MOST_OPERATIONS content.ops
