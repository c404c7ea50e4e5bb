-- Frames of runs whose scalars stay in bytes: what stands before the scalars, and the Texts that are held back.
use Rattle.std.specs.Prelude.{◌≡◌, ℕ, suc, ◌+◌, ◌*◌, ◌<◌, ◌≤◌, ◌^◌, Option, Some, None, IfSome, All, List, [], ◌∷◌, ◌++◌, length, drop}
use Rattle.std.specs.Prelude.{flat_map}
use Rattle.std.specs.Char.{IsScalar}
use Rattle.fugue_ids.specs.declared.op.Op.{Op}
use Rattle.fugue_ids.specs.Runs.{in_a_row, next_id}
use Rattle.origin_model.specs.frames.Frames.{HasRunFrame, Run, run_frame, scalar_bytes}
use Rattle.op_frame.specs.FrameFronts.{scalar_of_bytes}
use Rattle.op_frame.specs.declared.header.RunHeader.{RunHeader}

-- the run that begins so and has these scalars
abbrev pub run_at : RunHeader → List ℕ → Run
run_at header text = record { id = header.id; section = header.section; left = header.left; right = header.right; text = text }

-- the bytes are a run's frame that begins so
pub record HeaderIs (header : RunHeader) (frame : List ℕ) : Type 0 where
  pub text : List ℕ
  pub has_frame : HasRunFrame (run_at header text)
  pub count : length text ≡ header.count
  pub bytes_are : frame ≡ run_frame (run_at header text)

-- some Texts are held back, and their scalars stand at the front of the bytes
pub record IsHeld (bytes : List ℕ) (header : RunHeader) : Type 0 where
  pub text : List ℕ
  pub scalars : All IsScalar text
  pub count : length text ≡ header.count
  pub some : 0 < header.count
  pub counters_fit : header.id.counter + header.count ≤ 2 ^ 32
  pub rest : List ℕ
  pub split : bytes ≡ flat_map scalar_bytes text ++ rest

-- the scalars of so many Texts, at the front of the bytes
abbrev pub text_scalars : ℕ → List ℕ → List ℕ
text_scalars (suc n) (high ∷ middle ∷ low ∷ bytes) = scalar_of_bytes high middle low ∷ text_scalars n bytes
text_scalars n bytes = []

-- the operations that are held back
abbrev pub held_ops : Option RunHeader → List ℕ → List Op
held_ops None bytes = []
held_ops (Some header) bytes = in_a_row header.id header.section header.left header.right (text_scalars header.count bytes)

-- the bytes after their scalars
abbrev pub after_held : Option RunHeader → List ℕ → List ℕ
after_held None bytes = bytes
after_held (Some header) bytes = drop (3 * header.count) bytes

-- the header of the Texts after the first: the second one stands after the first
pub record IsHeaderAfter (header next : RunHeader) : Type 0 where
  pub count : header.count ≡ next.count + 1
  pub some : 0 < next.count
  pub id : next.id ≡ next_id header.id
  pub section : next.section ≡ header.section
  pub left : next.left ≡ Some header.id
  pub right : next.right ≡ header.right

-- what the header becomes once the first Text was given: none after the last Text
abbrev pub IsNextHeader : RunHeader → Option RunHeader → Type 0
IsNextHeader header None = header.count ≡ 1
IsNextHeader header (Some next) = IsHeaderAfter header next

-- the first of the operations held back is given, and the others are held back
pub record GivesHeld (header : RunHeader) (op : Op) (next : Option RunHeader) (bytes rest : List ℕ) : Type 0 where
  pub first : held_ops (Some header) bytes ≡ op ∷ held_ops next rest
  pub behind : after_held (Some header) bytes ≡ after_held next rest
  pub others : IfSome next (IsHeld rest)
