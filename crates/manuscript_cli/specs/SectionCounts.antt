-- How many of the operations that a draft took add, drop, move or retitle a section.
use Rattle.std.specs.Prelude.{ℕ, nat_eq, true, false, Bool, List, filter, length}
use Rattle.fugue_ids.specs.declared.op.Op.{Op}
use Rattle.fugue_ids.specs.declared.op.Op.TheVariants.{Section, Delete, Note}
use Rattle.catalogue_notes.specs.Lift.{is_section}
use Rattle.catalogue_notes.specs.declared.limits.TheConstants.{MOVE_CODE, RETITLE_CODE}
use Rattle.command_kinds.specs.declared.counts.SectionCounts.{SectionCounts}
use Rattle.manuscript_cli.specs.declared.section_counts.SectionChange.{SectionChange}
use Rattle.manuscript_cli.specs.declared.section_counts.SectionChange.TheVariants.{Adds, Drops, Moves, Retitles}

-- what an operation does to a section: a Section adds one, a Delete that names one drops it, and notes of two codes move
-- and retitle one
abbrev pub changes_section : List Op → SectionChange → Op → Bool
changes_section h Adds (Section id left right title) = true
changes_section h Drops (Delete target) = is_section h target
changes_section h Moves (Note id named code body) = nat_eq code MOVE_CODE
changes_section h Retitles (Note id named code body) = nat_eq code RETITLE_CODE
changes_section h _ _ = false

-- how many of the operations do that
abbrev pub count_of_kind : List Op → List Op → SectionChange → ℕ
count_of_kind h ops change = length (filter (changes_section h change) ops)

-- how many add, drop, move and retitle a section of a history
abbrev pub section_counts : List Op → List Op → SectionCounts
section_counts h ops = record {
  added = count_of_kind h ops Adds;
  dropped = count_of_kind h ops Drops;
  moved = count_of_kind h ops Moves;
  retitled = count_of_kind h ops Retitles;
}
