-- What a stream comes to whose operations are taken in, from a state and within limits: how it ends, and what was taken in until then.
use Rattle.std.specs.Prelude.{◌≡◌, ◌⊎◌, ℕ, ◌<◌, ◌≤◌, List, ◌∷◌, ◌++◌, length, take}
use Rattle.fugue_ids.specs.declared.op.Op.{Op}
use Rattle.origin_model.specs.declared.grammar.Grammar.{Grammar}
use Rattle.origin_model.specs.frames.Frames.{End, Whole as EndsWhole, CutShort as EndsCutShort, BadFrame as EndsInBadFrame, Framed, Begins}
use Rattle.origin_model.specs.frames.Frames.{Starts, Reads}
use Rattle.origin_model.specs.taking.Taking.{Held, MeetsNoLimit, TooMany as AnswersTooMany, held_from, answer}

-- how taking in a stream ends
pub data IntakeOutcome : Type 0 where
  Whole : IntakeOutcome
  CutShort : ℕ → IntakeOutcome
  BadFrame : ℕ → IntakeOutcome
  -- the stream goes on past its limit, and up to there it has no fault
  TooLong : IntakeOutcome
  -- one operation more came than can be held
  TooMany : IntakeOutcome

-- the stream's frames end where it ends, or inside of one more
abbrev pub EndsWholeOrCutShort : Grammar → List ℕ → List Op → Type 0
EndsWholeOrCutShort grammar bytes ops =
    (end : End) × Reads grammar bytes ops end × ((end ≡ EndsWhole) ⊎ ((offset : ℕ) × (end ≡ EndsCutShort offset)))

-- the next frame brings operations of which one finds no place; those before it in this frame are taken in
pub record MeetsTooMany (grammar : Grammar) (hold most : ℕ) (start : Held) (bytes : List ℕ) (ops : List Op) : Type 0 where
  -- the operations of the frames before
  pub earlier : List Op
  pub rest : List ℕ
  pub starts : Starts grammar bytes earlier rest
  -- the frame
  pub framed : Framed
  pub behind : List ℕ
  pub begins : Begins grammar rest framed behind
  -- its operations: those taken in, the one that finds no place, and those after it
  pub front : List Op
  pub op : Op
  pub more : List Op
  pub brings : framed.ops ≡ front ++ op ∷ more
  pub taken : ops ≡ earlier ++ front
  pub refused : answer hold most (held_from hold most start ops) op ≡ AnswersTooMany

-- the bytes come to this end, and the operations were taken in before it
abbrev pub Ends : Grammar → (hold most : ℕ) (start : Held) (limit : ℕ) → List ℕ → List Op → IntakeOutcome → Type 0
Ends grammar hold most start limit bytes ops Whole = (length bytes ≤ limit) × Reads grammar bytes ops EndsWhole
Ends grammar hold most start limit bytes ops (CutShort offset) = (length bytes ≤ limit) × Reads grammar bytes ops (EndsCutShort offset)
Ends grammar hold most start limit bytes ops (BadFrame offset) = Reads grammar (take limit bytes) ops (EndsInBadFrame offset)
Ends grammar hold most start limit bytes ops TooLong = (limit < length bytes) × EndsWholeOrCutShort grammar (take limit bytes) ops
Ends grammar hold most start limit bytes ops TooMany = MeetsTooMany grammar hold most start (take limit bytes) ops

-- the bytes come to this end, and no operation met a limit
pub record Comes (grammar : Grammar) (hold most : ℕ) (start : Held) (limit : ℕ) (bytes : List ℕ) (ops : List Op)
    (outcome : IntakeOutcome) : Type 0 where
  pub has_place : MeetsNoLimit hold most start ops
  pub ends : Ends grammar hold most start limit bytes ops outcome
