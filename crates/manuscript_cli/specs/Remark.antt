-- `remark`: a comment on a passage, which is named by its text.
use Rattle.std.specs.Prelude.{ℕ, List, [], ◌∷◌, option_map}
use Rattle.fugue_ids.specs.Identifiers.{Identifier}
use Rattle.origin_model.specs.edits.Noting.{note_by}
use Rattle.origin_model.specs.edits.State.{State as Replica}
use Rattle.margin_notes.specs.Commenting.{range_of}
use Rattle.margin_notes.specs.declared.limits.TheConstants.{COMMENT_CODE}
use Rattle.passage_search.specs.declared.span.Span.{Span}
use Rattle.passage_remarks.specs.Finding.{passage_places, passage_span}
use Rattle.passage_remarks.specs.Remarking.{remark_refusal}
use Rattle.passage_remarks.specs.declared.remarking.RemarkFault.{RemarkFault}
use Rattle.passage_remarks.specs.declared.remarking.RemarkFault.TheVariants as fault
use Rattle.command_kinds.specs.Notes.{NoteOn, unless_refused}
use Rattle.command_kinds.specs.declared.refusal.Refusal.{Refusal}
use Rattle.command_kinds.specs.declared.refusal.Refusal.TheVariants as refusal
use Rattle.manuscript_cli.specs.Margins.{ends_of}

-- a fault as a refusal
abbrev pub remark_refused : RemarkFault → Refusal
remark_refused fault.NotFound = refusal.PassageNotFound
remark_refused (fault.FoundOften count) = refusal.FoundOften count
remark_refused (fault.IdsSpent counter) = refusal.IdsSpent counter
remark_refused (fault.TooMany held) = refusal.TooMany held
remark_refused fault.NoMemory = refusal.NoMemory

-- what a comment names on clusters of a section: the first and the last of their scalars
abbrev pub span_names : Replica → Identifier → Span → List Identifier
span_names replica s span = ends_of replica s (range_of replica.held.history s span.first span.count)

-- what a comment names on the clusters that have bytes of the passage at the first of these places
abbrev pub place_names : Replica → (passage : List ℕ) → List (Identifier × ℕ) → List Identifier
place_names replica passage [] = []
place_names replica passage (place ∷ more) = span_names replica place.0 (passage_span replica.held.history passage place)

-- `remark`: on the one place of the passage in the arranged sections
abbrev pub remark_on : (passage text : List ℕ) → NoteOn
remark_on passage text replica =
    unless_refused (option_map remark_refused (remark_refusal replica passage))
    (note_by replica (place_names replica passage (passage_places replica.held.history passage)) COMMENT_CODE text)
