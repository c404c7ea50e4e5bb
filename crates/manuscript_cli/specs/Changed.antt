-- `changes` and `authors`: what changed since a moment, and who wrote what.
use Rattle.std.specs.Prelude.{◌≡◌, ℕ, List, nat_lt, if◌then◌else◌, length}
use Rattle.fugue_ids.specs.declared.op.Op.{Op}
use Rattle.version_views.specs.Views.{first_ops}
use Rattle.change_marks.specs.Authors.{authors_text}
use Rattle.change_marks.specs.Changes.{changes_text}
use Rattle.command_kinds.specs.Findings.{Finding, Refuses, Does}
use Rattle.command_kinds.specs.Report.{ReportText}
use Rattle.command_kinds.specs.declared.refusal.Refusal.TheVariants.{NoMoment}

-- what changed since n operations were accepted, where so many were
abbrev pub changes_of : ℕ → List Op → Finding (List ℕ)
changes_of n history = if nat_lt (length history) n then Refuses (NoMoment n) else Does (changes_text (first_ops n history) history)

-- `changes` reports what came since the first n operations
abbrev pub changes_reports : ℕ → ReportText
changes_reports n replica found = found ≡ changes_of n replica.held.history

-- who wrote what is shown
abbrev pub authors_reports : ReportText
authors_reports replica found = found ≡ Does (authors_text replica.held.history)
