-- Calls that only read a disk: what they give, and what they leave as it was.
use Rattle.std.specs.Prelude.{◌≡◌, ℕ, ◌+◌, ◌-◌, ◌≤◌, max, List, ◌++◌, length, take, Option, Some, None, Result, IfSome}
use Rattle.fugue_ids.specs.Causes.{Faulted}
use Rattle.outer_ports.specs.disk.Disks.{DiskIsSpecified, DiskView, ReadsAt}

-- how far a disk was read grew to this offset at most, where it is specified
abbrev pub ReachesTo : (offset : ℕ) → (old new : Option ℕ) → Type 0
ReachesTo offset None new = Unit {0}
ReachesTo offset (Some before) None = ⊥
ReachesTo offset (Some before) (Some now) = now ≤ max before offset

-- no byte at or after this offset was asked for
abbrev pub ReadsNoFurther : (offset : ℕ) → (old new : DiskView) → Type 0
ReadsNoFurther offset old new = ReachesTo offset old.reach new.reach

-- Nothing was done but to read, and the size was not asked for: a failure raised the count, nothing else did where the disk
-- is specified, and where calls are sure there is none.
pub record LooksOnly (old new : DiskView) (failed : Type 0) : Type 0 where
  pub past : new.past ≡ old.past
  pub room : new.room ≡ old.room
  pub sizes : new.sizes ≡ old.sizes
  pub later : old.faults ≤ new.faults
  pub faulted : failed → Faulted old.faults new.faults
  pub sure : IfSome old.room (λ room. failed → ⊥)
  pub counts_no_fault : IfSome old.room (λ room. new.faults ≡ old.faults)
  pub specified_no_fault : DiskIsSpecified old → (failed → ⊥) → new.faults ≡ old.faults

-- a read into what is left of a buffer
pub record ReadsMore {E : Type 0} (old new : DiskView) (result : Result ℕ E) (at filled : ℕ) (before after : List ℕ) : Type 0 where
  pub part : List ℕ
  pub long : length part ≡ length before - filled
  pub items : after ≡ take filled before ++ part
  pub read : ReadsAt old new result (at + filled) part
