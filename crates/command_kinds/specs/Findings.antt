-- The finding of a command: a refusal, or the work that it does, as its file and its words decide; and the exit status.
use Rattle.std.specs.Prelude.{◌≡◌, ◌⊎◌}
use Rattle.command_kinds.specs.declared.refusal.Refusal.{Refusal}
use Rattle.command_kinds.specs.declared.status.Status.{Status}
use Rattle.command_kinds.specs.declared.status.Status.TheVariants.{OutsideFault, NoMemory}

-- a refusal, or what the command does
pub data Finding (T : Type 0) : Type 0 where
  Refuses : Refusal → Finding T
  Does : T → Finding T

-- the command ends with this status, unless memory runs out or an object in use fails
abbrev pub IsDecided : (status : Status) (failed : Type 0) → Status → Type 0
IsDecided status failed end = (end ≡ status) ⊎ (end ≡ NoMemory) ⊎ ((end ≡ OutsideFault) × failed)

-- what decides a command before it notes anything: its objects
pub record Basis (T : Type 0) : Type 1 where
  -- they are specified
  pub Specified : Type 0
  -- and lead to this
  pub Leads : Finding T → Type 0
  -- a call on one of those in use failed, where they lead to this
  pub Failed : Finding T → Type 0
  -- no call on them fails then
  pub Sure : Finding T → Type 0

-- this holds of whatever the objects lead to, where they are specified
abbrev pub WhereSpecified : {T : Type 0} → Basis T → (Finding T → Type 0) → Type 0
WhereSpecified basis Holds = basis.Specified → (found : Finding _) → basis.Leads found → Holds found

-- a call failed: the first one, or a later one, which comes only where something is done
abbrev pub EitherFails : {T : Type 0} → (first later : Type 0) → Finding T → Type 0
EitherFails first later (Refuses why) = first
EitherFails first later (Does done) = first ⊎ later
