-- What the first frame of some bytes is, and what a whole frame says.
use Rattle.std.specs.Prelude.{◌≡◌, ◌↔◌, ℕ, ◌≤◌, List, ◌∷◌, length, take, drop}
use Rattle.fugue_ids.specs.declared.op.Op.{Op}
use Rattle.fugue_ids.specs.declared.op.Op.TheVariants.{Delete, Text}
use Rattle.origin_model.specs.declared.grammar.Grammar.{Grammar}
use Rattle.origin_model.specs.declared.grammar.Grammar.TheVariants.{Version2}
use Rattle.origin_model.specs.frames.Frames.{frame, Begins, HasFrame, IsBad, IsPartial}
use Rattle.op_frame.specs.FrameFronts.{IsFrameOf, Then}
use Rattle.op_frame.specs.declared.first.First.{First}
use Rattle.op_frame.specs.declared.first.First.TheVariants.{Whole, Prefix, Bad}
use Rattle.op_frame.specs.declared.front.Front.{Front}
use Rattle.op_frame.specs.declared.front.Front.TheVariants.{Frame as FrameThere, Prefix as PrefixThere, Bad as NoneThere}

-- the answer is a frame's operations, and its length
abbrev pub Carries : First → List Op → ℕ → Type 0
Carries (Whole ops len) them n = (ops.items ≡ them) × (len ≡ n)
Carries first them n = ⊥

-- a frame of n bytes with these operations is a front of the bytes
abbrev pub FrameOf : List Op → ℕ → List ℕ → Type 0
FrameOf ops n bytes = (n ≤ length bytes) × Begins Version2 bytes (record { bytes = take n bytes; ops = ops }) (drop n bytes)

-- what stands at the front of the bytes: exactly one of the three
pub record FirstIs (first : First) (bytes : List ℕ) : Type 0 where
  pub whole : (ops : List Op) (n : ℕ) → Carries first ops n ↔ FrameOf ops n bytes
  pub partial : (first ≡ Prefix) ↔ IsPartial Version2 bytes
  pub bad : (first ≡ Bad) ↔ IsBad Version2 bytes

-- a frame is a front of the bytes
abbrev pub HasFirstFrame : List ℕ → Type 0
HasFirstFrame bytes = (n : ℕ) × (n ≤ length bytes) × IsFrameOf Version2 (take n bytes)

-- what stands there, before anything is read of it
abbrev pub FrontIs : Front → Grammar → List ℕ → Type 0
FrontIs (FrameThere len) grammar bytes = (len ≤ length bytes) × IsFrameOf grammar (take len bytes)
FrontIs PrefixThere grammar bytes = IsPartial grammar bytes
FrontIs NoneThere grammar bytes = IsBad grammar bytes

-- the operation is a Text or a Delete, as nearly every one is
abbrev pub IsLetter : Op → Type 0
IsLetter (Text id section left right ch) = Unit {0}
IsLetter (Delete target) = Unit {0}
IsLetter op = ⊥

-- the bytes are the frame of a letter
abbrev pub IsLetterFrame : List ℕ → Type 0
IsLetterFrame bytes = (op : Op) × IsLetter op × HasFrame op × (bytes ≡ frame op)

-- a field, with anything after it
abbrev pub StartsWith : (List ℕ → Type 0) → List ℕ → Type 0
StartsWith Field bytes = Then Field (λ rest. Unit {0}) bytes

-- after its first byte, the bytes of the operation's frame
abbrev pub IsFrameAfter : ℕ → Op → List ℕ → Type 0
IsFrameAfter kind op rest = HasFrame op × (kind ∷ rest ≡ frame op)
