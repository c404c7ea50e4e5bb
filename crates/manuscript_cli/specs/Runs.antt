-- Commands on one home file, one after another, and what a crash after the last of them leaves of it.
use Rattle.std.specs.Prelude.{◌≡◌, ◌⊎◌, ℕ, List, [], ◌∷◌, ◌++◌, Option, Some, None}
use Rattle.fugue_ids.specs.declared.op.Op.{Op}
use Rattle.outer_ports.specs.disk.Moments.{History, LeftSince, moment_number}
use Rattle.outer_ports.specs.disk.States.{DiskState, IsHonest, IsCrashImage, at_rest}
use Rattle.command_kinds.specs.Crashes.{IsFinished}
use Rattle.command_kinds.specs.Files.{HasOps}
use Rattle.command_kinds.specs.Findings.{Finding}
use Rattle.manuscript_cli.specs.Run.{Choosing, Family, Meets, Saving, family}
use Rattle.manuscript_cli.specs.Savers.{RunsSaving}
use Rattle.command_kinds.specs.Saving.{GaveOutcome, Outcome}
use Rattle.manuscript_cli.specs.Touched.{Touched}
use Rattle.manuscript_cli.specs.declared.command.Command.{Command}
use Rattle.manuscript_cli.specs.declared.command.Command.TheVariants.{New}
use Rattle.command_kinds.specs.declared.status.Status.{Status}
use Rattle.command_kinds.specs.declared.status.Status.TheVariants.{Done}

-- what a command gave to be saved in its home file: but for one that saves, nothing
abbrev pub GaveAs : Family → Touched → Touched → Status → List Op → Type 0
GaveAs (Saving saver) old new end ops = GaveOutcome (saver old new).ops_source old.home end ops
GaveAs (Choosing saver) old new end ops =
    (finding : Finding Outcome) × RunsSaving (saver finding old new) old new end
    × GaveOutcome (saver finding old new).ops_source old.home end ops
GaveAs _ old new end ops = ops ≡ []

-- the operations that the run of a command gave to be saved
abbrev pub GaveBy : List (List ℕ) → Option Command → Touched → Touched → Status → List Op → Type 0
GaveBy words command = GaveAs (family words command)

-- One run of the program, as `run` promises it: it ended with its status, or a crash came at one of its moments, and
-- left these bytes in the home file.
pub record CommandRun : Type 0 where
  pub words : List (List ℕ)
  pub command : Option Command
  pub old : Touched
  pub new : Touched
  pub end : Status
  pub meets : Meets words command old new end
  pub crash : Option (List ℕ)

-- it ended, with Done or Partial
abbrev pub DidAll : CommandRun → Type 0
DidAll run = (run.crash ≡ None) × IsFinished run.end

-- what a run brought into the file: all that it gave to be saved, or nothing where it did not do all
pub record Brought (run : CommandRun) (ops : List Op) : Type 0 where
  pub gave : List Op
  pub given : GaveBy run.words run.command run.old run.new run.end gave
  pub all_or_none : (ops ≡ gave) ⊎ ((DidAll run → ⊥) × (ops ≡ []))

-- what runs brought, one after another
abbrev pub AllBrought : List CommandRun → List Op → Type 0
AllBrought [] ops = ops ≡ []
AllBrought (run ∷ runs) ops = (first : List Op) × (others : List Op) × Brought run first × AllBrought runs others × (ops ≡ first ++ others)

-- the file after a run: as it stood at the end, or at rest with what a crash at a moment since the beginning left
abbrev pub StandsAfterRun : Option (List ℕ) → (began stood : History) → DiskState → Type 0
StandsAfterRun None began stood s = s ≡ stood.last
StandsAfterRun (Some image) began stood s = LeftSince stood (moment_number began) image × (s ≡ at_rest image)

-- a run finds the file in one state, and leaves it in another
pub record LeadsFrom (run : CommandRun) (s t : DiskState) : Type 0 where
  pub began : History
  pub began_is : run.old.home.past ≡ Some began
  pub begins : began.last ≡ s
  pub stood : History
  pub stood_is : run.new.home.past ≡ Some stood
  pub behind : StandsAfterRun run.crash began stood t

-- between two runs nothing happens to the file, or a crash
abbrev pub IsMeanwhile : DiskState → DiskState → Type 0
IsMeanwhile s t = (t ≡ s) ⊎ ((image : List ℕ) × IsCrashImage s image × (t ≡ at_rest image))

-- runs one after another lead the file from one state to another, and nobody else writes it
abbrev pub FollowEachOther : List CommandRun → DiskState → DiskState → Type 0
FollowEachOther [] s t = t ≡ s
FollowEachOther (run ∷ runs) s t =
    (found : DiskState) × (left : DiskState) × IsMeanwhile s found × LeadsFrom run found left × FollowEachOther runs left t

-- From a `new` that did all on, whatever a crash after the runs leaves has the header that `new` wrote, and its
-- operations are in order those that each finished command gave, and of each other one all or none; what a read gives
-- is one of these.
abbrev pub EachFinishedIsIn : Type 0
EachFinishedIsIn =
    (words : List (List ℕ)) (replica hold : ℕ) (old new : Touched) (made : History) (runs : List CommandRun) (last : DiskState)
    → Meets words (Some (New replica hold)) old new Done → new.home.past ≡ Some made → FollowEachOther runs made.last last
    → IsHonest last
    × ((image : List ℕ) → IsCrashImage last image
    → (ops : List Op) × AllBrought runs ops × HasOps (record { replica = replica; hold = hold }) ops image)
