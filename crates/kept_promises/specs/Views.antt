-- What `view` prints of a version stays.
use Rattle.std.specs.Prelude.{◌≡◌, ◌≢◌, ℕ, All, Option, Some, false, List, [], ◌∷◌, ◌++◌}
use Rattle.fugue_ids.specs.declared.op.Op.{Op}
use Rattle.outer_ports.specs.disk.States.{DiskState}
use Rattle.origin_model.specs.edits.State.{State as Replica}
use Rattle.replica_file.specs.declared.load_file.End.{End}
use Rattle.version_views.specs.Laws.{view_named}
use Rattle.version_views.specs.Versions.{name_given, withdraws}
use Rattle.command_kinds.specs.Files.{FileHolds}
use Rattle.manuscript_cli.specs.Command.{last_word}
use Rattle.manuscript_cli.specs.Runs.{AllBrought, CommandRun, FollowEachOther}
use Rattle.manuscript_cli.specs.declared.command.Command.TheVariants.{View}
use Rattle.kept_promises.specs.Keeping.{Became, PrintedBytes}

-- the operation does not give the name in a file of the replica, and does not withdraw the version that has it
pub record LeavesName (replica : Replica) (name : List ℕ) (op : Op) : Type 0 where
  pub gives_not : name_given replica.number op ≢ Some name
  pub withdraws_not : withdraws replica.held.history replica.number name op ≡ false

-- what is written for a name
abbrev pub written_for : List ℕ → Replica → Option (List ℕ)
written_for name replica = view_named replica.held.history replica.number name

-- runs of which no operation gives a name or withdraws its version leave what is written for the name, or that nothing is
abbrev pub ViewsStay : Type 0
ViewsStay =
    (was now : Replica) (runs : List CommandRun) → Became was runs now
    → (brought : List Op) × AllBrought runs brought
    × ((name : List ℕ) → All (LeavesName was name) brought → written_for name now ≡ written_for name was)

-- the run is of `view` with this name
pub record IsViewRun (run : CommandRun) (name : List ℕ) : Type 0 where
  pub command : run.command ≡ Some View
  pub named : last_word run.words ≡ name

-- so two runs of `view` with one name print the same, whatever runs between them bring but that
abbrev pub ViewsPrintTheSame : Type 0
ViewsPrintTheSame =
    (first later : CommandRun) (between : List CommandRun) (s t : DiskState) (name one other : List ℕ)
    → FollowEachOther (first ∷ between ++ later ∷ []) s t
    → IsViewRun first name → PrintedBytes first one → IsViewRun later name → PrintedBytes later other
    → (was : Replica) × (at : End) × FileHolds first.old.home was at
    × (brought : List Op) × AllBrought between brought × (All (LeavesName was name) brought → other ≡ one)
