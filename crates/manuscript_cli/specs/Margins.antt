-- `comment` and `comments`. Sections count from 1 in words, and clusters from 0.
use Rattle.std.specs.Prelude.{◌≡◌, ℕ, ◌+◌, ◌-◌, Some, None, List, [], ◌++◌, option_map, option_to_list, slice_get}
use Rattle.fugue_ids.specs.Identifiers.{Identifier}
use Rattle.origin_model.specs.declared.operations.Place.TheVariants.{Section as within}
use Rattle.origin_model.specs.edits.Noting.{note_by}
use Rattle.origin_model.specs.edits.Refusal.{section_shown}
use Rattle.origin_model.specs.edits.State.{State as Replica}
use Rattle.origin_model.specs.order.Printed.{shown}
use Rattle.margin_notes.specs.Commenting.{comment_refusal, range_of}
use Rattle.margin_notes.specs.Margins.{margins}
use Rattle.margin_notes.specs.declared.commenting.CommentFault.{CommentFault}
use Rattle.margin_notes.specs.declared.commenting.CommentFault.TheVariants as fault
use Rattle.margin_notes.specs.declared.limits.TheConstants.{COMMENT_CODE}
use Rattle.command_kinds.specs.Findings.{Does}
use Rattle.command_kinds.specs.Notes.{NoteOn, unless_refused}
use Rattle.command_kinds.specs.Report.{ReportText}
use Rattle.command_kinds.specs.declared.refusal.Refusal.{Refusal}
use Rattle.command_kinds.specs.declared.refusal.Refusal.TheVariants as refusal

-- a fault as a refusal, by the number of the section in the words
abbrev pub comment_refused : ℕ → CommentFault → Refusal
comment_refused k fault.NoSection = refusal.NoSection k
comment_refused k fault.OutOfRange = refusal.OutOfRange
comment_refused k (fault.IdsSpent counter) = refusal.IdsSpent counter
comment_refused k (fault.TooMany held) = refusal.TooMany held
comment_refused k fault.NoMemory = refusal.NoMemory

-- the first and the last of so many scalars of a section, after so many others that are shown
abbrev pub ends_of : Replica → Identifier → ℕ × ℕ → List Identifier
ends_of replica s range =
    let scalars = shown (within s) replica.held.history in
    option_to_list (slice_get scalars range.0) ++ option_to_list (slice_get scalars (range.0 + range.1 - 1))

-- what a comment on n clusters names, from the cluster p on of the section with k shown ones before it
abbrev pub passage_names : Replica → (k p n : ℕ) → List Identifier
passage_names replica k p n =
    elim (section_shown replica k) [ None ↦ [] | Some s ↦ ends_of replica s (range_of replica.held.history s p n) ]

-- `comment`: on n clusters of section k, from the cluster p on
abbrev pub comment_on : (k p n : ℕ) → List ℕ → NoteOn
comment_on k p n text replica =
    unless_refused (option_map (comment_refused k) (comment_refusal replica (k - 1) p n))
    (note_by replica (passage_names replica (k - 1) p n) COMMENT_CODE text)

-- `comments` reports where the comments stand, and what they say
abbrev pub comments_reports : ReportText
comments_reports replica found = found ≡ Does (margins replica.held.history)
