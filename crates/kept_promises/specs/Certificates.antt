-- What `why` prints passes `check`.
use Rattle.std.specs.Prelude.{◌≡◌, ℕ, Some, codes, List, [], ◌∷◌, ◌++◌}
use Rattle.fugue_ids.specs.Identifiers.{Identifier}
use Rattle.fugue_ids.specs.Outs.{Took}
use Rattle.outer_ports.specs.disk.States.{DiskState}
use Rattle.origin_model.specs.edits.State.{State as Replica}
use Rattle.origin_model.specs.order.Laws.{IsPartOf}
use Rattle.order_proof.specs.Readings.{IsValidText}
use Rattle.manuscript_cli.specs.Runs.{CommandRun, DidAll, FollowEachOther}
use Rattle.manuscript_cli.specs.Why.{IsWhy}
use Rattle.manuscript_cli.specs.declared.command.Command.TheVariants.{Check, Why}
use Rattle.kept_promises.specs.Keeping.{Became, IsFileOf, PrintedBytes}

-- A certificate that is printed of a file is read as a valid one in each file, of whichever replica, that has accepted
-- the operations of the first.
abbrev pub CertificatesPass : Type 0
CertificatesPass =
    (mine other : Replica) (first second : List ℕ) → IsFileOf mine first → IsFileOf other second
    → IsPartOf mine.held.history other.held.history
    → (x y : Identifier) (text : List ℕ) → IsWhy mine.held.history x y text → IsValidText other.held.history text

-- so it is in the same file, whatever runs on it
abbrev pub FileCertificatesStay : Type 0
FileCertificatesStay =
    (was now : Replica) (runs : List CommandRun) → Became was runs now
    → (x y : Identifier) (text : List ℕ) → IsWhy was.held.history x y text → IsValidText now.held.history text

-- What `why` printed, read by a later `check` of the same file that ends well, is answered `yes`.
abbrev pub WhyPassesCheck : Type 0
WhyPassesCheck =
    (why check : CommandRun) (between : List CommandRun) (s t : DiskState) (k p q : ℕ) (text : List ℕ)
    → FollowEachOther (why ∷ between ++ check ∷ []) s t
    → why.command ≡ Some (Why k p q) → PrintedBytes why text
    → check.command ≡ Some Check → check.old.streams.input.left ≡ Some text → DidAll check
    → Took check.old.streams.output check.new.streams.output (codes "yes" ++ 10 ∷ [])
