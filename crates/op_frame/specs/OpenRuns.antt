-- Runs that are gathered until their frame is written.
use Rattle.std.specs.Prelude.{◌≡◌, ℕ, ◌+◌, ◌<◌, ◌≤◌, ◌^◌, Option, Some, None, All, List, [], ◌∷◌, ◌++◌, length}
use Rattle.fugue_ids.specs.Runs.{run_from, start_after, text_by}
use Rattle.fugue_ids.specs.declared.op.Op.{Op}
use Rattle.fugue_ids.specs.declared.run.RunStart.{RunStart}
use Rattle.origin_model.specs.frames.Frames.{HasFrame, Run}
use Rattle.origin_model.specs.frames.Framings.{frames}
use Rattle.op_frame.specs.declared.encoding.TheConstants.{LONGEST_RUN}

-- the run that begins so and has these scalars
abbrev pub run_of : RunStart → List ℕ → Run
run_of start text = record { id = start.id; section = start.section; left = start.left; right = start.right; text = text }

-- the operations of the open run
abbrev pub open_ops : Option RunStart → List ℕ → List Op
open_ops None text = []
open_ops (Some start) text = run_from start text

-- one frame has room for the Texts of the open run, and their counters fit
abbrev pub OpenRunFits : Option RunStart → List ℕ → Type 0
OpenRunFits None text = text ≡ []
OpenRunFits (Some start) text = (length text ≤ LONGEST_RUN) × (start.id.counter + length text ≤ 2 ^ 32)

-- a Text that says `next` goes on with the open run, and its frame has room for it
abbrev pub ContinuesRun : Option RunStart → List ℕ → RunStart → Type 0
ContinuesRun None text next = ⊥
ContinuesRun (Some start) text next = (next ≡ start_after start (length text)) × (length text < LONGEST_RUN)

-- the open run has all Texts of its frame: the first operation to come is not of it
abbrev pub IsCompleteRun : Option RunStart → List ℕ → List Op → Type 0
IsCompleteRun opened text ops = (next : RunStart) (ch : ℕ) (more : List Op) → ops ≡ text_by next ch ∷ more → ContinuesRun opened text next
    → ⊥

-- bytes went to the end, if any
abbrev pub Extends : (old new : List ℕ) → Type 0
Extends old new = (more : List ℕ) × (new ≡ old ++ more)

-- Operations were taken in: some of the frames were written, and what is open still has to be. Whatever operations come
-- after these, all frames are the same.
pub record TakesInOps (old_open new_open : List Op) (old new : List ℕ) (ops : List Op) : Type 0 where
  pub frames_are : (rest : List Op) → old ++ frames (old_open ++ (ops ++ rest)) ≡ new ++ frames (new_open ++ rest)
  pub have_frames : (rest : List Op) → All HasFrame (new_open ++ rest) → All HasFrame (old_open ++ (ops ++ rest))
  pub extends : Extends old new

-- the open run is one with which a Text that says `next` goes on; where it was not, its frame was written, and another begins
pub record MakesRoom (old_start : Option RunStart) (old_text : List ℕ) (new_start : Option RunStart) (new_text : List ℕ) (next : RunStart)
    (old new : List ℕ) : Type 0 where
  pub is_open : OpenRunFits new_start new_text
  pub goes_on : ContinuesRun new_start new_text next
  pub frames_are : (ch : ℕ) (rest : List Op)
      → old ++ frames (open_ops old_start old_text ++ text_by next ch ∷ rest) ≡ new
      ++ frames (open_ops new_start new_text ++ text_by next ch ∷ rest)
  pub have_frames : (rest : List Op) → All HasFrame (open_ops new_start new_text ++ rest)
      → All HasFrame (open_ops old_start old_text ++ rest)
  pub extends : Extends old new
