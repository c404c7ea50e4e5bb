-- The bytes of operations, and the reading of a stream of them. Numbers are big-endian.
use Rattle.std.specs.Prelude.{◌≡◌, ◌≢◌, ℕ, ◌+◌, ◌<◌, ◌≤◌, ◌^◌, Option, Some, None, All, List, [], ◌∷◌, ◌++◌, length, drop, flat_map}
use Rattle.std.specs.Int.{to_be_bytes, w16, w32}
use Rattle.std.specs.Char.{IsScalar}
use Rattle.std.specs.Str.{encode_utf8_all}
use Rattle.fugue_ids.specs.Identifiers.{Identifier}
use Rattle.fugue_ids.specs.Runs.{run_from}
use Rattle.fugue_ids.specs.declared.run.RunStart.{RunStart}
use Rattle.fugue_ids.specs.Titles.{IsTitleText}
use Rattle.fugue_ids.specs.declared.limits.TheConstants.{LONGEST_BODY, MOST_NAMES}
use Rattle.fugue_ids.specs.declared.op.Op.{Op}
use Rattle.fugue_ids.specs.declared.op.Op.TheVariants.{Section, Text, Delete, Note}
use Rattle.origin_model.specs.declared.grammar.Grammar.{Grammar}
use Rattle.origin_model.specs.declared.grammar.Grammar.TheVariants.{Version1, Version2}

-- replica and counter
abbrev pub id_bytes : Identifier → List ℕ
id_bytes id = to_be_bytes w32 id.replica ++ to_be_bytes w32 id.counter

-- 0, or 1 and an identifier
abbrev pub origin_bytes : Option Identifier → List ℕ
origin_bytes None = 0 ∷ []
origin_bytes (Some id) = 1 ∷ id_bytes id

-- the length in two bytes, and the text
abbrev pub title_bytes : List ℕ → List ℕ
title_bytes title = to_be_bytes w16 (length (encode_utf8_all title)) ++ encode_utf8_all title

-- the scalar in three bytes
abbrev pub scalar_bytes : ℕ → List ℕ
scalar_bytes ch = drop 1 (to_be_bytes w32 ch)

-- how many names there are, in one byte, and the names
abbrev pub names_bytes : List Identifier → List ℕ
names_bytes named = length named ∷ flat_map id_bytes named

-- the length in two bytes, and the body
abbrev pub body_bytes : List ℕ → List ℕ
body_bytes body = to_be_bytes w16 (length body) ++ body

-- the bytes of one operation's own frame
abbrev pub frame : Op → List ℕ
frame (Section id left right title) = 1 ∷ [] ++ id_bytes id ++ origin_bytes left ++ origin_bytes right ++ title_bytes title
frame (Text id section left right ch) =
    2 ∷ [] ++ id_bytes id ++ id_bytes section ++ origin_bytes left ++ origin_bytes right ++ scalar_bytes ch
frame (Delete target) = 3 ∷ [] ++ id_bytes target
frame (Note id named code body) = 5 ∷ [] ++ id_bytes id ++ names_bytes named ++ code ∷ [] ++ body_bytes body

-- the operations' own frames, one after the other
abbrev pub single_frames : List Op → List ℕ
single_frames ops = flat_map frame ops

-- Texts that were typed in a row: what the first one says, and the scalars of all
pub record Run : Type 0 where
  pub id : Identifier
  pub section : Identifier
  pub left : Option Identifier
  pub right : Option Identifier
  pub text : List ℕ

-- what the first one says but for its scalar
abbrev pub start_of : Run → RunStart
start_of run = record { id = run.id; section = run.section; left = run.left; right = run.right }

-- its operations
abbrev pub run_ops : Run → List Op
run_ops run = run_from (start_of run) run.text

-- how many scalars there are in two bytes, and the scalars
abbrev pub text_bytes : List ℕ → List ℕ
text_bytes text = to_be_bytes w16 (length text) ++ flat_map scalar_bytes text

-- the bytes of a run
abbrev pub run_frame : Run → List ℕ
run_frame run = 4 ∷ [] ++ id_bytes run.id ++ id_bytes run.section ++ origin_bytes run.left ++ origin_bytes run.right ++ text_bytes run.text

-- the replica is not 0, and both numbers have 32 bits
pub record IsIdentifier (id : Identifier) : Type 0 where
  pub some_replica : 0 < id.replica
  pub replica_fits : id.replica < 2 ^ 32
  pub counter_fits : id.counter < 2 ^ 32

-- an origin that a frame can name
abbrev pub IsFrameOrigin : Option Identifier → Type 0
IsFrameOrigin None = Unit {0}
IsFrameOrigin (Some id) = IsIdentifier id

-- scalars whose UTF-8 has 1 to 480 bytes without LF and CR
pub record IsTitle (title : List ℕ) : Type 0 where
  pub scalars : All IsScalar title
  pub text : IsTitleText (encode_utf8_all title)

-- at most three identifiers
pub record AreNames (named : List Identifier) : Type 0 where
  pub few : length named ≤ MOST_NAMES
  pub identifiers : All IsIdentifier named

-- the number is a byte
abbrev pub IsByte : ℕ → Type 0
IsByte byte = byte < 256

-- at most 1,024 bytes
pub record IsBody (body : List ℕ) : Type 0 where
  pub short : length body ≤ LONGEST_BODY
  pub bytes : All IsByte body

-- the operation is one that a frame can stand for: each operation of the program is
abbrev pub HasFrame : Op → Type 0
HasFrame (Section id left right title) = IsIdentifier id × IsFrameOrigin left × IsFrameOrigin right × IsTitle title
HasFrame (Text id section left right ch) = IsIdentifier id × IsIdentifier section × IsFrameOrigin left × IsFrameOrigin right × IsScalar ch
HasFrame (Delete target) = IsIdentifier target
HasFrame (Note id named code body) = IsIdentifier id × AreNames named × IsByte code × IsBody body

-- 2 to 1,024 scalars
pub record IsRunText (text : List ℕ) : Type 0 where
  pub some : 2 ≤ length text
  pub short : length text ≤ 1024
  pub scalars : All IsScalar text

-- the run is one that a frame can stand for
pub record HasRunFrame (run : Run) : Type 0 where
  pub id : IsIdentifier run.id
  pub section : IsIdentifier run.section
  pub left : IsFrameOrigin run.left
  pub right : IsFrameOrigin run.right
  pub text : IsRunText run.text
  -- the last counter has 32 bits too
  pub counters_fit : run.id.counter + length run.text ≤ 2 ^ 32

-- what one frame stands for: an operation alone, or a run
pub data Item : Type 0 where
  Single : Op → Item
  Typed : Run → Item

-- the frame of an item
abbrev pub item_bytes : Item → List ℕ
item_bytes (Single op) = frame op
item_bytes (Typed run) = run_frame run

-- the operations of an item
abbrev pub item_ops : Item → List Op
item_ops (Single op) = op ∷ []
item_ops (Typed run) = run_ops run

-- version 1 knew the operation: it had no notes
abbrev pub IsOfVersion1 : Op → Type 0
IsOfVersion1 (Note id named code body) = ⊥
IsOfVersion1 op = Unit {0}

-- the grammar has a frame for it: version 1 has none for a run or a note
abbrev pub IsItem : Grammar → Item → Type 0
IsItem Version1 (Single op) = HasFrame op × IsOfVersion1 op
IsItem Version1 (Typed run) = ⊥
IsItem Version2 (Single op) = HasFrame op
IsItem Version2 (Typed run) = HasRunFrame run

-- some bytes, and the operations that they stand for
pub record Framed : Type 0 where
  pub bytes : List ℕ
  pub ops : List Op

-- a frame with the operations that it stands for
pub record IsFrame (grammar : Grammar) (framed : Framed) : Type 0 where
  pub item : Item
  pub is_item : IsItem grammar item
  pub bytes_are : framed.bytes ≡ item_bytes item
  pub ops_are : framed.ops ≡ item_ops item

-- a frame is a prefix of the bytes
pub record Begins (grammar : Grammar) (bytes : List ℕ) (framed : Framed) (rest : List ℕ) : Type 0 where
  pub is_frame : IsFrame grammar framed
  pub split : bytes ≡ framed.bytes ++ rest

-- the bytes are a proper prefix of some frame
pub record IsPartial (grammar : Grammar) (bytes : List ℕ) : Type 0 where
  pub framed : Framed
  pub is_frame : IsFrame grammar framed
  pub more : List ℕ
  pub lacks : 0 < length more
  pub front : framed.bytes ≡ bytes ++ more

-- no frame is a prefix of the bytes, and they are no prefix of a frame
pub record IsBad (grammar : Grammar) (bytes : List ℕ) : Type 0 where
  pub no_frame : (framed : Framed) (rest : List ℕ) → Begins grammar bytes framed rest → ⊥
  pub no_front : IsPartial grammar bytes → ⊥

-- how a stream ends, with the offset of what is no frame
pub data End : Type 0 where
  Whole : End
  CutShort : ℕ → End
  BadFrame : ℕ → End

-- how the rest after the frames ends the stream
abbrev pub EndsSo : Grammar → List ℕ → ℕ → End → Type 0
EndsSo grammar rest offset Whole = rest ≡ []
EndsSo grammar rest offset (CutShort k) = (k ≡ offset) × (rest ≢ []) × IsPartial grammar rest
EndsSo grammar rest offset (BadFrame k) = (k ≡ offset) × IsBad grammar rest

-- the operations of the bytes, and how the bytes end
pub record Reads (grammar : Grammar) (bytes : List ℕ) (ops : List Op) (end : End) : Type 0 where
  pub found : List Framed
  pub are_frames : All (IsFrame grammar) found
  pub ops_are : ops ≡ flat_map (λ framed. framed.ops) found
  pub rest : List ℕ
  pub split : bytes ≡ flat_map (λ framed. framed.bytes) found ++ rest
  pub ends : EndsSo grammar rest (length (flat_map (λ framed. framed.bytes) found)) end

-- frames of the operations stand at the front of the bytes, and then the rest
pub record Starts (grammar : Grammar) (bytes : List ℕ) (ops : List Op) (rest : List ℕ) : Type 0 where
  pub found : List Framed
  pub are_frames : All (IsFrame grammar) found
  pub ops_are : ops ≡ flat_map (λ framed. framed.ops) found
  pub split : bytes ≡ flat_map (λ framed. framed.bytes) found ++ rest
