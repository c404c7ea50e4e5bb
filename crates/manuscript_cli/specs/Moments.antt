-- `moments`: what came when.
use Rattle.std.specs.Prelude.{◌≡◌, ℕ, List, IfSome, length}
use Rattle.fugue_ids.specs.declared.limits.TheConstants.{MOST_OPERATIONS}
use Rattle.fugue_ids.specs.Outs.{OutView}
use Rattle.origin_model.specs.edits.State.{State as Replica}
use Rattle.origin_model.specs.operations.History.{accepted}
use Rattle.outer_ports.specs.disk.Disks.{DiskView}
use Rattle.replica_file.specs.Moments.{HasMoments}
use Rattle.replica_file.specs.declared.load_file.End.{End}
use Rattle.replica_file.specs.Load.{Loads}
use Rattle.batch_moments.specs.Laws.{TellAll}
use Rattle.batch_moments.specs.Lines.{RiseTo, moments_text}
use Rattle.command_kinds.specs.Changes.{Change}
use Rattle.command_kinds.specs.Files.{FileHolds}
use Rattle.command_kinds.specs.Findings.{Does}
use Rattle.command_kinds.specs.Report.{Reports, ReportText}
use Rattle.command_kinds.specs.declared.status.Status.{Status}

-- what moments tell of the operations that a replica accepted
abbrev pub moments_reports : List ℕ → ReportText
moments_reports moments replica found = found ≡ Does (moments_text moments (accepted replica.held.history))

-- where the file is specified and holds a replica, these are its moments
abbrev pub AreMomentsOf : DiskView → List ℕ → Type 0
AreMomentsOf file moments = (replica : Replica) (end : End) → FileHolds file replica end
    → IfSome file.past (λ h. HasMoments h.last.seen moments)

-- the command `moments`: the moments of the file are reported
pub record ReportsMoments (file : Change DiskView) (output notes : Change OutView) (end : Status) : Type 0 where
  pub moments : List ℕ
  pub are : AreMomentsOf file.old moments
  pub reports : Reports (moments_reports moments) file output notes end

-- the moments of a file rise, the last one is the number of operations that its replica accepted, and what is reported of
-- them adds up to all of these
pub record AreAllReported (moments : List ℕ) (replica : Replica) : Type 0 where
  pub rise : RiseTo 0 moments (length (accepted replica.held.history))
  pub tell : TellAll moments (accepted replica.held.history)

-- the moments of a file tell of all of its operations
abbrev pub MomentsTellFile : Type 0
MomentsTellFile = (bytes moments : List ℕ) (replica : Replica) (end : End) → Loads MOST_OPERATIONS bytes replica end
    → HasMoments bytes moments → AreAllReported moments replica
