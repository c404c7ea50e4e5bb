-- What passes on the connection of a session.
use Rattle.std.specs.Prelude.{◌≡◌, ◌⊎◌, ℕ, List, length, take, Option, Some, None, Result, Ok}
use Rattle.std.specs.Io.KnownBytes.{Consumes, IsAtEnd}
use Rattle.outer_ports.specs.Calls.{risen}
use Rattle.outer_ports.specs.wire.Streams.{Says}
use Rattle.outer_ports.specs.declared.dock.DockStep.{DockStep}
use Rattle.outer_ports.specs.declared.dock.DockStep.TheVariants as given

-- there is a connection, or it was lost by a fault
abbrev pub Accepts : {S : Type 0} → Option S → ℕ → ℕ → Type 0
Accepts None before now = now ≡ risen before
Accepts (Some new) before now = now ≡ before

-- these bytes come from the connection, which stays
abbrev pub GaveBytes : {S : Type 0} → (S → Option (List ℕ)) → Option S → Option S → List ℕ → Type 0
GaveBytes remaining None new bytes = ⊥
GaveBytes remaining (Some old) None bytes = ⊥
GaveBytes remaining (Some old) (Some new) bytes = Consumes (remaining old) (remaining new) bytes

-- the connection gives nothing more, or is lost by a fault
abbrev pub Leaves : {S : Type 0} → (S → Option (List ℕ)) → Option S → ℕ → ℕ → Type 0
Leaves remaining None before now = now ≡ before
Leaves remaining (Some old) before now = IsAtEnd (remaining old) × (now ≡ before) ⊎ (now ≡ risen before)

-- what a step says of the connection: it is there, gives bytes, or is gone
abbrev pub Brings : {S : Type 0} → (S → Option (List ℕ)) → DockStep → Option S → Option S → ℕ → ℕ → List ℕ → Type 0
Brings remaining (given.Opened session) old new before now buf = Accepts new before now
Brings remaining (given.Bytes session count) old new before now buf = GaveBytes remaining old new (take count buf) × (now ≡ before)
Brings remaining (given.Gone session) old new before now buf = (new ≡ None) × Leaves remaining old before now

-- all of a piece counts as sent, and nothing was done
pub record GoesNowhere {S E : Type 0} (old new : Option S) (before now : ℕ) (result : Result ℕ E) (piece : List ℕ) : Type 0 where
  pub all : result ≡ Ok (length piece)
  pub stream : new ≡ old
  pub faults : now ≡ before

-- the connection takes the bytes, or is lost by a fault, and then they go nowhere
abbrev pub Reaches : {S E : Type 0} → (S → Option (List ℕ)) → Option S → Option S → ℕ → ℕ → Result ℕ E → List ℕ → Type 0
Reaches contents None new before now result piece = GoesNowhere None new before now result piece
Reaches contents (Some old) None before now result piece = (result ≡ Ok (length piece)) × (now ≡ risen before)
Reaches contents (Some old) (Some new) before now result piece = Says contents (Some old) (Some new) result piece × (now ≡ before)

-- the connection stays, or is lost by a fault
abbrev pub Stays : {S : Type 0} → Option S → Option S → ℕ → ℕ → Type 0
Stays None new before now = (new ≡ None) × (now ≡ before)
Stays (Some old) None before now = now ≡ risen before
Stays (Some old) (Some new) before now = (new ≡ old) × (now ≡ before)
