-- The past of a file in memory, from what it was at first and the steps since.
use Rattle.std.specs.Prelude.{ℕ, ◌+◌, List, [], ◌∷◌, take, drop}
use Rattle.outer_ports.specs.disk.States.{DiskState, at_rest, wrote, tried_state, durable}
use Rattle.outer_ports.specs.disk.Moments.{History, history_after_step}
use Rattle.memory_ports.specs.declared.disk.kept.Step.{Step}
use Rattle.memory_ports.specs.declared.disk.kept.Step.TheVariants.{Wrote, Tried, Synced}

-- what contracts see of a file in memory that keeps its past as steps
pub record KeptView : Type 0 where
  pub past : History
  -- how many bytes the next steps together write at most
  pub room : ℕ
  -- how many steps the next ones are at most
  pub calls : ℕ

-- how many bytes a step wrote
abbrev pub written_by : Step → ℕ
written_by (Wrote at n) = n
written_by (Tried at n) = 0
written_by Synced = 0

-- how many bytes the steps write
abbrev pub written_by_all : List Step → ℕ
written_by_all [] = 0
written_by_all (step ∷ steps) = written_by step + written_by_all steps

-- what a step did that wrote these bytes
abbrev pub step_of : Step → List ℕ → DiskState → DiskState
step_of (Wrote at n) bytes s = wrote at bytes s
step_of (Tried at n) bytes s = tried_state at n s
step_of Synced bytes s = durable s

-- the steps, the oldest first, with all bytes that they wrote one after the other
abbrev pub replayed_history : List Step → List ℕ → History → History
replayed_history [] written h = h
replayed_history (step ∷ steps) written h =
    replayed_history steps (drop (written_by step) written) (history_after_step (step_of step (take (written_by step) written)) h)

-- the states of a disk that began with these bytes and took these steps
abbrev pub past_after_steps : List ℕ → List Step → List ℕ → History
past_after_steps first steps written = replayed_history steps written (record { last = at_rest first; before = [] })
