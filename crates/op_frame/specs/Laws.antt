-- Laws of the grammars, of what is written, and of what a stream comes to.
use Rattle.std.specs.Prelude.{◌≡◌, ◌≢◌, ◌≤◌, All, List, ℕ, ◌++◌, [], length}
use Rattle.fugue_ids.specs.declared.op.Op.{Op}
use Rattle.origin_model.specs.declared.grammar.Grammar.{Grammar}
use Rattle.origin_model.specs.declared.grammar.Grammar.TheVariants.{Version1, Version2}
use Rattle.origin_model.specs.frames.Frames.{End, BadFrame, HasFrame, IsItem, Item, Reads, Single, Whole, frame, item_bytes, single_frames}
use Rattle.origin_model.specs.frames.Framings.{IsFraming, IsWritten, frames}
use Rattle.origin_model.specs.taking.Taking.{Held}
use Rattle.op_frame.specs.IntakeOutcomes.{IntakeOutcome, Comes}

-- each item has one frame, each operation has one of its own, and no frame is a proper prefix of another
pub record OneFrame (grammar : Grammar) : Type 0 where
  pub one_item : (a b : Item) → IsItem grammar a → IsItem grammar b → item_bytes a ≡ item_bytes b → a ≡ b
  pub one_operation : (a b : Op) → HasFrame a → HasFrame b → frame a ≡ frame b → a ≡ b
  pub no_front : (a b : Item) (more : List ℕ) → IsItem grammar a → IsItem grammar b → item_bytes b ≡ item_bytes a ++ more → more ≡ []

-- all bytes are read, in one way
pub record ReadsOnce (grammar : Grammar) : Type 0 where
  pub one : (bytes : List ℕ) (ops others : List Op) (end other : End) → Reads grammar bytes ops end → Reads grammar bytes others other
      → (ops ≡ others) × (end ≡ other)
  pub some : (bytes : List ℕ) → (ops : List Op) × (end : End) × Reads grammar bytes ops end
  -- the own frames of operations that the grammar has are read as these operations, whole
  pub singles : (ops : List Op) → All (λ op. IsItem grammar (Single op)) ops → Reads grammar (single_frames ops) ops Whole

-- what is written of operations
pub record FramesAre : Type 0 where
  -- each frame from the front stands for as many operations as one can, and this is one list of bytes
  pub written : (ops : List Op) → All HasFrame ops → IsWritten ops (frames ops)
  pub one : (ops : List Op) (bytes others : List ℕ) → IsWritten ops bytes → IsWritten ops others → bytes ≡ others
  -- it is a framing: each is read as the operations, whole, and is no longer than their own frames
  pub framing : (ops : List Op) → All HasFrame ops → IsFraming ops (frames ops)
  pub read : (ops : List Op) (bytes : List ℕ) → IsFraming ops bytes → Reads Version2 bytes ops Whole
  pub short : (ops : List Op) (bytes : List ℕ) → IsFraming ops bytes → length bytes ≤ length (single_frames ops)
  -- what version 1 reads with another end than BadFrame version 2 reads the same
  pub version_1 : (bytes : List ℕ) (ops : List Op) (end : End) → ((offset : ℕ) → end ≢ BadFrame offset) → Reads Version1 bytes ops end
      → Reads Version2 bytes ops end

-- each stream comes to exactly one end
pub record ComesOnce (grammar : Grammar) : Type 0 where
  pub one : (hold most : ℕ) (start : Held) (limit : ℕ) (bytes : List ℕ) (ops others : List Op) (outcome other : IntakeOutcome)
      → Comes grammar hold most start limit bytes ops outcome → Comes grammar hold most start limit bytes others other
      → (ops ≡ others) × (outcome ≡ other)
  pub some : (hold most : ℕ) (start : Held) (limit : ℕ) (bytes : List ℕ)
      → (ops : List Op) × (outcome : IntakeOutcome) × Comes grammar hold most start limit bytes ops outcome
