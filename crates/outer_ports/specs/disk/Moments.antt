-- The moments of a file on a disk, and what a crash may have left at them.
use Rattle.std.specs.Prelude.{◌≡◌, ◌⊎◌, ℕ, ◌-◌, ◌<◌, ◌≤◌, List, ◌∷◌, ◌++◌, length, Option, Some, None, IfSome, All, slice_index_or}
use Rattle.outer_ports.specs.disk.States.{DiskState, IsCrashImage, torn_state, SameOutside}

-- the state that stands, and those before it, the newest first
pub record History : Type 0 where
  pub last : DiskState
  pub before : List DiskState

-- the states of a disk, the newest first
abbrev pub moments : History → List DiskState
moments h = h.last ∷ h.before

-- the number of the moment that stands: they are counted from 0
abbrev pub moment_number : History → ℕ
moment_number h = length h.before

-- the state that stood at a moment
abbrev pub state_at : History → ℕ → DiskState
state_at h m = slice_index_or (moments h) (moment_number h - m) h.last

-- a step was taken
abbrev pub history_after_step : (DiskState → DiskState) → History → History
history_after_step f h = record { last = f h.last; before = h.last ∷ h.before }

-- a disk's states with one more, where they are specified
abbrev pub past_after_step : (DiskState → DiskState) → Option History → Option History
past_after_step f None = None
past_after_step f (Some h) = Some (history_after_step f h)

-- a crash may leave it now
abbrev pub MayLeave : History → List ℕ → Type 0
MayLeave h image = IsCrashImage h.last image

-- a crash at moment t, or at one since, may have left it
pub record LeftSince (h : History) (t : ℕ) (image : List ℕ) : Type 0 where
  pub m : ℕ
  pub since : t ≤ m
  pub until : m ≤ moment_number h
  pub left : IsCrashImage (state_at h m) image

-- a crash at moment t, or at one since and before u, may have left it
pub record LeftBetween (h : History) (t u : ℕ) (image : List ℕ) : Type 0 where
  pub m : ℕ
  pub since : t ≤ m
  pub below : m < u
  pub until : m ≤ moment_number h
  pub left : IsCrashImage (state_at h m) image

-- From an earlier history to a later one, each image of each state that came has P.
pub record LeavesOnly (old new : History) (P : List ℕ → Type 0) : Type 0 where
  -- the states that came, the newest first
  pub recent : List DiskState
  pub grows : moments new ≡ recent ++ moments old
  pub each : All (λ s. (image : List ℕ) → IsCrashImage s image → P image) recent

-- the same, to a later history where one is specified
abbrev pub LeavesOnlyTo : History → Option History → (List ℕ → Type 0) → Type 0
LeavesOnlyTo old None P = ⊥
LeavesOnlyTo old (Some new) P = LeavesOnly old new P

-- a write that failed: nothing was done, or n bytes from an offset on may be anything
abbrev pub MayHaveWritten : ℕ → ℕ → Option History → Option History → Type 0
MayHaveWritten at n old new = (new ≡ old)
    ⊎ ((seen : List ℕ) × (new ≡ past_after_step (torn_state at n seen) old) × IfSome old (λ h. SameOutside at n h.last.seen seen))
