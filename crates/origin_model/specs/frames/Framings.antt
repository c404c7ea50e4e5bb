-- How a list of operations is cut into frames: from the front, each frame stands for as many operations as one can.
use Rattle.std.specs.Prelude.{◌≡◌, ℕ, ◌≤◌, Option, Some, None, All, List, [], ◌∷◌, ◌++◌, length, flat_map}
use Rattle.std.specs.Prelude.{◌&&◌, nat_lt, if◌then◌else◌}
use Rattle.fugue_ids.specs.Runs.{start_after, text_by}
use Rattle.fugue_ids.specs.Ops.{op_eq}
use Rattle.fugue_ids.specs.declared.op.Op.{Op}
use Rattle.fugue_ids.specs.declared.op.Op.TheVariants.{Section, Text, Delete, Note}
use Rattle.origin_model.specs.declared.grammar.Grammar.TheVariants.{Version2}
use Rattle.origin_model.specs.frames.Frames.{Framed, IsFrame, Item, Single, Typed, item_bytes, Run, start_of}

-- some frames stand for the operations, and the bytes are theirs
pub record IsFraming (ops : List Op) (bytes : List ℕ) : Type 0 where
  pub found : List Framed
  pub are_frames : All (IsFrame Version2) found
  pub ops_are : ops ≡ flat_map (λ framed. framed.ops) found
  pub bytes_are : bytes ≡ flat_map (λ framed. framed.bytes) found

-- the frame's operations are the first ones, and no frame stands for more of these
abbrev pub IsLongest : Framed → List Op → Type 0
IsLongest framed ops = (other : Framed) (behind : List Op) → IsFrame Version2 other → ops ≡ other.ops ++ behind
    → length other.ops ≤ length framed.ops

-- each frame stands for as many of the operations as one can
abbrev pub AreLongest : List Framed → Type 0
AreLongest [] = Unit {0}
AreLongest (framed ∷ found) = IsLongest framed (framed.ops ++ flat_map (λ other. other.ops) found) × AreLongest found

-- the framing of the operations that is written
pub record IsWritten (ops : List Op) (bytes : List ℕ) : Type 0 where
  pub found : List Framed
  pub are_frames : All (IsFrame Version2) found
  pub ops_are : ops ≡ flat_map (λ framed. framed.ops) found
  pub bytes_are : bytes ≡ flat_map (λ framed. framed.bytes) found
  pub longest : AreLongest found

-- the scalar of a Text
abbrev pub scalar_in : Op → ℕ
scalar_in (Section id left right title) = 0
scalar_in (Text id section left right ch) = ch
scalar_in (Delete target) = 0
scalar_in (Note id named code body) = 0

-- the Text that would go on with the run
abbrev pub next_text : Run → ℕ → Op
next_text run ch = text_by (start_after (start_of run) (length run.text)) ch

-- a run with one letter more
abbrev pub run_more : Run → ℕ → Run
run_more run ch = record { id = run.id; section = run.section; left = run.left; right = run.right; text = run.text ++ ch ∷ [] }

-- the run with the operation after it, where it has room and the operation is the next one
abbrev pub longer : Run → Op → Option Item
longer run op = if nat_lt (length run.text) 1024
    && op_eq op (next_text run (scalar_in op)) then Some (Typed (run_more run (scalar_in op))) else None

-- one item that stands for those of an item and one operation more
abbrev pub item_with : Item → Op → Option Item
item_with (Single (Section id left right title)) op = None
item_with (Single (Text id section left right ch)) op =
    longer (record { id = id; section = section; left = left; right = right; text = ch ∷ [] }) op
item_with (Single (Delete target)) op = None
item_with (Single (Note id named code body)) op = None
item_with (Typed run) op = longer run op

-- the items of the operations, of which the first is begun
abbrev pub items_from : Item → List Op → List Item
items_from begun [] = begun ∷ []
items_from begun (op ∷ ops) = elim (item_with begun op) [
  | Some more ↦ items_from more ops
  | None ↦ begun ∷ items_from (Single op) ops
]

-- the operations parted into frames of version 2
abbrev pub items : List Op → List Item
items [] = []
items (op ∷ ops) = items_from (Single op) ops

-- the frames of the operations, one after the other: this is what `IsWritten` says
abbrev pub frames : List Op → List ℕ
frames ops = flat_map item_bytes (items ops)
