-- Where memory may run out while the frames of a batch are read.
use Rattle.std.specs.Prelude.{◌≡◌, ◌⊎◌, ℕ, ◌+◌, ◌-◌, ◌≤◌, min, List, [], ◌∷◌, ◌++◌, length, take, drop, true}
use Rattle.fugue_ids.specs.declared.op.Op.{Op}
use Rattle.origin_model.specs.declared.grammar.Grammar.{Grammar}
use Rattle.origin_model.specs.frames.Frames.{IsPartial, Starts}
use Rattle.origin_model.specs.taking.Taking.{Held, answer, is_kept}
use Rattle.op_frame.specs.FrameFronts.{AsksMemory}

-- the bytes of a file from an offset on, so many
abbrev pub file_part : List ℕ → (at len : ℕ) → List ℕ
file_part bytes at len = take len (drop at bytes)

-- frames of the operations are the first so many bytes, and after them there is at most the front of one more
pub record AreWholeFrames (grammar : Grammar) (bytes : List ℕ) (len : ℕ) (ops : List Op) : Type 0 where
  pub inside : len ≤ length bytes
  pub starts : Starts grammar bytes ops (drop len bytes)
  pub ends : (drop len bytes ≡ []) ⊎ IsPartial grammar (drop len bytes)

-- So many bytes of a part of a file are those of the whole frames of its pieces, the newest of which comes first.
-- A piece has up to 65,536 bytes, and begins where the whole frames of the one before it end.
abbrev pub AreFilePieces : Grammar → List ℕ → (at len : ℕ) → List ℕ → (taken : ℕ) → Type 0
AreFilePieces grammar bytes at len [] taken = taken ≡ 0
AreFilePieces grammar bytes at len (n ∷ ns) taken =
    (before : ℕ) × (taken ≡ before + n)
    × ((ops : List Op) × AreWholeFrames grammar (file_part bytes (at + before) (min (len - before) 65536)) n ops)
    × AreFilePieces grammar bytes at len ns before

-- the rest of a part of a file begins where a piece does
pub record BeginsPiece (grammar : Grammar) (bytes : List ℕ) (at len : ℕ) (rest : List ℕ) : Type 0 where
  pub taken : ℕ
  pub pieces : List ℕ
  pub are_pieces : AreFilePieces grammar bytes at len pieces taken
  pub rest_is : rest ≡ drop taken (file_part bytes at len)

-- Why memory ran out after these operations, which frames at the front of the bytes stand for: they are all taken in.
pub data IsWanting (grammar : Grammar) (Begins : List ℕ → Type 0) (bytes : List ℕ) (ops : List Op) (hold most : ℕ) (s : Held)
    (places : Type 0) : Type 0 where
  -- the rest was still to be read
  ForPiece : (rest : List ℕ) → Starts grammar bytes ops rest → Begins rest → IsWanting grammar Begins bytes ops hold most s places
  -- the next frame is a section's, which has a title, or a note's, which has a body
  ForContent : (rest : List ℕ) → Starts grammar bytes ops rest → AsksMemory rest → IsWanting grammar Begins bytes ops hold most s places
  -- all operations found their place, and the next one, of a frame that may stand for later ones too, would be kept
  ForOperation : (op : Op) (later : List Op) (behind : List ℕ) → Starts grammar bytes (ops ++ op ∷ later) behind → places
      → is_kept (answer hold most s op) ≡ true
      → IsWanting grammar Begins bytes ops hold most s places
