-- `version`, `versions` and `view`.
use Rattle.std.specs.Prelude.{◌≡◌, ℕ, Option, Some, None, List, [], option_map}
use Rattle.origin_model.specs.declared.edit_fault.EditFault.{EditFault}
use Rattle.origin_model.specs.declared.edit_fault.EditFault.TheVariants as fault
use Rattle.origin_model.specs.edits.Noting.{note_by, note_refusal}
use Rattle.origin_model.specs.edits.State.{State as Replica}
use Rattle.version_views.specs.Versions.{version_with}
use Rattle.version_views.specs.Views.{versions_text, view}
use Rattle.version_views.specs.declared.limits.TheConstants.{VERSION_CODE}
use Rattle.version_views.specs.declared.naming.VersionFault.{VersionFault}
use Rattle.version_views.specs.declared.naming.VersionFault.TheVariants as version_fault
use Rattle.command_kinds.specs.Findings.{Finding, Refuses, Does}
use Rattle.command_kinds.specs.Notes.{NoteOn, unless_refused}
use Rattle.command_kinds.specs.Refusal.{kept_name}
use Rattle.command_kinds.specs.Report.{ReportText}
use Rattle.command_kinds.specs.declared.refusal.Refusal.{Refusal}
use Rattle.command_kinds.specs.declared.refusal.Refusal.TheVariants as refusal

-- the fault of a note as a refusal: one is of no section and of no place
abbrev pub note_refused : EditFault → Refusal
note_refused (fault.IdsSpent counter) = refusal.IdsSpent counter
note_refused (fault.TooMany held) = refusal.TooMany held
note_refused _ = refusal.NoMemory

-- the refusal of a version that was not named
abbrev pub version_refused : VersionFault → Refusal
version_refused (version_fault.IdsSpent counter) = refusal.IdsSpent counter
version_refused (version_fault.TooMany held) = refusal.TooMany held
version_refused version_fault.NoMemory = refusal.NoMemory

-- `version`: a note that names nothing
abbrev pub version_on : List ℕ → NoteOn
version_on name replica = unless_refused (option_map note_refused (note_refusal replica)) (note_by replica [] VERSION_CODE name)

-- `versions` reports the names, each with how many operations it has
abbrev pub versions_reports : ReportText
versions_reports replica found = found ≡ Does (versions_text replica.held.history replica.number)

-- the manuscript of so many operations, where there is a version with the name
abbrev pub version_text : List ℕ → Replica → Option ℕ → Finding (List ℕ)
version_text name replica None = Refuses (refusal.NoVersion (kept_name name))
version_text name replica (Some n) = Does (view replica.held.history n)

-- `view` reports the manuscript of a version
abbrev pub view_reports : List ℕ → ReportText
view_reports name replica found = found ≡ version_text name replica (version_with replica.held.history replica.number name)
