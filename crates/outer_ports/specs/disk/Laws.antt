-- The laws of what a crash may leave.
use Rattle.std.specs.Prelude.{◌⊎◌, ◌↔◌, ℕ, ◌≤◌, List, length, Result, IfSome}
use Rattle.fugue_ids.specs.declared.out.Failed.{Failed}
use Rattle.outer_ports.specs.disk.States.{DiskState, IsCrashImage, IsHonest, at_rest, durable}
use Rattle.outer_ports.specs.disk.Moments.{History, moment_number, MayLeave, LeftSince, LeftBetween}
use Rattle.outer_ports.specs.disk.Disks.{DiskView, ReadsAt, Sizes, Syncs, WritesAt}

-- An image of the moments since t is one of the moments from t to u, or one of the moments since u.
abbrev pub SpansJoin : Type 0
SpansJoin = (h : History) (t u : ℕ) (image : List ℕ) → t ≤ u → LeftSince h t image ↔ (LeftBetween h t u image ⊎ LeftSince h u image)

-- An image of the moments since the one that stands is one that a crash may leave now.
abbrev pub SinceNow : Type 0
SinceNow = (h : History) (image : List ℕ) → LeftSince h (moment_number h) image ↔ MayLeave h image

-- A sync that answers Ok brings no image.
abbrev pub SyncBringsNone : Type 0
SyncBringsNone = (s : DiskState) (image : List ℕ) → IsHonest s → IsCrashImage (durable s) image → IsCrashImage s image

-- where the disk tells its states, what a read gives is one of the images
abbrev pub IsHonestDisk : DiskView → Type 0
IsHonestDisk disk = IfSome disk.past (λ h. IsHonest h.last)

-- Bytes at rest are honest.
abbrev pub RestIsHonest : Type 0
RestIsHonest = (bytes : List ℕ) → IsHonest (at_rest bytes)

-- A disk that is asked for its size stays honest, whatever it answers.
abbrev pub SizesStayHonest : Type 0
SizesStayHonest = (old new : DiskView) (result : Result ℕ Failed) → Sizes old new result → IsHonestDisk old → IsHonestDisk new

-- So does one that is read.
abbrev pub ReadsStayHonest : Type 0
ReadsStayHonest = (old new : DiskView) (result : Result ℕ Failed) (at : ℕ) (buf : List ℕ) → ReadsAt old new result at buf
    → IsHonestDisk old → IsHonestDisk new

-- So does one that is written to, also where the write failed and left its range torn.
abbrev pub WritesStayHonest : Type 0
WritesStayHonest = (old new : DiskView) (result : Result (Unit {0}) Failed) (at : ℕ) (bytes : List ℕ)
    → IfSome old.past (λ h. at ≤ length h.last.seen) → WritesAt old new result at bytes → IsHonestDisk old → IsHonestDisk new

-- So does one that is synced.
abbrev pub SyncsStayHonest : Type 0
SyncsStayHonest = (old new : DiskView) (result : Result (Unit {0}) Failed) → Syncs old new result → IsHonestDisk old → IsHonestDisk new
