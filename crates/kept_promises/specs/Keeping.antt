-- What a file keeps while commands run on it, one after another, and crashes come as they may.
use Rattle.std.specs.Prelude.{◌≡◌, ℕ, List, ◌++◌, None}
use Rattle.fugue_ids.specs.Outs.{OutIsSpecified, Took}
use Rattle.fugue_ids.specs.declared.limits.TheConstants.{MOST_OPERATIONS}
use Rattle.fugue_ids.specs.declared.op.Op.{Op}
use Rattle.outer_ports.specs.disk.States.{DiskState, IsCrashImage, IsHonest, at_rest}
use Rattle.origin_model.specs.edits.State.{State as Replica}
use Rattle.replica_file.specs.Load.{Loads}
use Rattle.replica_file.specs.declared.load_file.End.{End}
use Rattle.command_kinds.specs.Files.{HasOps, Header}
use Rattle.command_kinds.specs.declared.status.Status.TheVariants.{Done}
use Rattle.manuscript_cli.specs.Runs.{AllBrought, CommandRun, FollowEachOther}

-- Whatever runs leave of a file that lay still, also by a crash, it has the header and the operations that it had, and
-- after these what the runs brought.
abbrev pub FilesKeepOperations : Type 0
FilesKeepOperations =
    (header : Header) (ops : List Op) (image : List ℕ) (runs : List CommandRun) (last : DiskState)
    → HasOps header ops image → FollowEachOther runs (at_rest image) last
    → IsHonest last
    × ((left : List ℕ) → IsCrashImage last left → (brought : List Op) × AllBrought runs brought × HasOps header (ops ++ brought) left)

-- the bytes of a file are loaded as this replica
abbrev pub IsFileOf : Replica → List ℕ → Type 0
IsFileOf replica bytes = (end : End) × Loads MOST_OPERATIONS bytes replica end

-- a file lay still and was that of one replica; runs came, and what they leave, also by a crash, is that of another
pub record Became (was : Replica) (runs : List CommandRun) (now : Replica) : Type 0 where
  pub image : List ℕ
  pub began : IsFileOf was image
  pub last : DiskState
  pub follow : FollowEachOther runs (at_rest image) last
  pub left : List ℕ
  pub may_be : IsCrashImage last left
  pub ended : IsFileOf now left

-- the run ended with Done, and these bytes went to an output that tells what it got
pub record PrintedBytes (run : CommandRun) (text : List ℕ) : Type 0 where
  pub no_crash : run.crash ≡ None
  pub done : run.end ≡ Done
  pub specified : OutIsSpecified run.old.streams.output
  pub took : Took run.old.streams.output run.new.streams.output text
