-- What a crash may leave of a replica's file while a command runs, and at its end.
use Rattle.std.specs.Prelude.{◌≡◌, ◌⊎◌, ℕ, List, [], ◌++◌, Option, Some, IfSome}
use Rattle.fugue_ids.specs.declared.op.Op.{Op}
use Rattle.outer_ports.specs.disk.Disks.{DiskView}
use Rattle.outer_ports.specs.disk.Moments.{History, LeavesOnly, LeavesOnlyTo}
use Rattle.outer_ports.specs.disk.States.{DiskState, IsHonest, IsCrashImage}
use Rattle.command_kinds.specs.Files.{HasOps, HasOpsOr, Header}
use Rattle.command_kinds.specs.Changes.{Change}
use Rattle.command_kinds.specs.declared.status.Status.{Status}
use Rattle.command_kinds.specs.declared.status.Status.TheVariants.{Done, Partial}

-- the command did all
abbrev pub IsFinished : Status → Type 0
IsFinished end = (end ≡ Done) ⊎ (end ≡ Partial)

-- whatever a crash leaves, it has this header, and one list of operations or this with another after it; a read gives such a one too
pub record IsSafe (header : Header) (ops more : List Op) (s : DiskState) : Type 0 where
  pub honest : IsHonest s
  pub leaves : (image : List ℕ) → IsCrashImage s image → HasOpsOr header ops more image

-- a safe file, while a command ran that gave these operations to be saved, and at its end
pub record StaysSafe (header : Header) (ops more gave : List Op) (h : History) (new : Option History) (end : Status) : Type 0 where
  -- what the file had at entry
  pub had : List Op
  pub has : HasOps header had h.last.seen
  -- until it was loaded, a crash left what it could leave at entry
  pub loaded : History
  pub loads : LeavesOnly h loaded (HasOpsOr header ops more)
  -- and since then what the file had, or this with all that was given
  pub saves : LeavesOnlyTo loaded new (HasOpsOr header had gave)
  -- where the command did all, what was given is in the file
  pub finished : IsFinished end → IfSome new (λ k. IsSafe header (had ++ gave) [] k.last)
  -- and the file is safe again in any case
  pub again : IfSome new (λ k. (first : List Op) × (second : List Op) × IsSafe header first second k.last)

-- no crash spoils a safe file: it has all of what a command gave to be saved, or none
abbrev pub NeverTorn : (Gave : List Op → Type 0) → Change DiskView → Status → Type 0
NeverTorn Gave file end =
    (header : Header) (ops more : List Op) (h : History) → file.old.past ≡ Some h → IsSafe header ops more h.last
    → (gave : List Op) × Gave gave × StaysSafe header ops more gave h file.new.past end
