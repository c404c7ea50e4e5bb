-- A file on a disk at one moment, and what a crash may leave of it then.
use Rattle.std.specs.Prelude.{◌≡◌, ◌⊎◌, ℕ, ◌+◌, ◌<◌, ◌≤◌, max, List, [], ◌∷◌, ◌++◌, length, take, drop, slice_index, All}

-- a state of a disk: what a read gives, and what a crash may leave
pub record DiskState : Type 0 where
  -- what a read gives
  pub seen : List ℕ
  -- what stood at the last sync
  pub base : List ℕ
  -- the offset and the length of each write since, the oldest first
  pub ranges : List (ℕ × ℕ)
  -- the longest length since
  pub longest : ℕ

-- an offset is in none of the ranges
abbrev pub IsFree : List (ℕ × ℕ) → ℕ → Type 0
IsFree ranges i = All (λ range. (i < range.0) ⊎ (range.0 + range.1 ≤ i)) ranges

-- what a crash may leave: any bytes in the ranges and past the old end, an end between the old one and the longest
pub record IsCrashImage (s : DiskState) (image : List ℕ) : Type 0 where
  pub no_shorter : length s.base ≤ length image
  pub no_longer : length image ≤ max (length s.base) s.longest
  pub same : (i : ℕ) → i < length s.base → IsFree s.ranges i → slice_index image i ≡ slice_index s.base i

-- what a read gives is one of the images
abbrev pub IsHonest : DiskState → Type 0
IsHonest s = IsCrashImage s s.seen

-- these bytes stand, and a crash leaves nothing else
abbrev pub at_rest : List ℕ → DiskState
at_rest bytes = record { seen = bytes; base = bytes; ranges = []; longest = length bytes }

-- old with these bytes at this offset
abbrev pub overwritten : List ℕ → ℕ → List ℕ → List ℕ
overwritten old at bytes = take at old ++ bytes ++ drop (at + length bytes) old

-- n bytes from an offset on may be anything after a crash, and a read gives this
abbrev pub torn_state : ℕ → ℕ → List ℕ → DiskState → DiskState
torn_state at n seen s = record { seen = seen; base = s.base; ranges = s.ranges ++ (at, n) ∷ []; longest = max s.longest (at + n) }

-- the state after a write that was not synced
abbrev pub wrote : ℕ → List ℕ → DiskState → DiskState
wrote at bytes s = torn_state at (length bytes) (overwritten s.seen at bytes) s

-- a write that failed, after which a read gives what it gave
abbrev pub tried_state : ℕ → ℕ → DiskState → DiskState
tried_state at n s = torn_state at n s.seen s

-- the state after a sync
abbrev pub durable : DiskState → DiskState
durable s = at_rest s.seen

-- nothing but n bytes from an offset on differs, and the end is the old one or at most where these bytes end
pub record SameOutside (at n : ℕ) (old new : List ℕ) : Type 0 where
  pub front : take at new ≡ take at old
  pub behind : drop (at + n) new ≡ drop (at + n) old
  pub no_shorter : length old ≤ length new
  pub no_longer : length new ≤ max (length old) (at + n)
