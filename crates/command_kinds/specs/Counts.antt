-- The lines of notes that say what became of operations, and the status that they lead to.
use Rattle.std.specs.Prelude.{ℕ, Bool, List, [], ◌∷◌, ◌++◌, Option, Some, None, flat_map, codes, decimal, nat_eq, ◌&&◌, if◌then◌else◌}
use Rattle.origin_model.specs.declared.taking.Tally.{Tally}
use Rattle.command_kinds.specs.declared.counts.SectionCounts.{SectionCounts}
use Rattle.command_kinds.specs.declared.status.Status.{Status}
use Rattle.command_kinds.specs.declared.status.Status.TheVariants.{Done, Partial}

-- the line of counts that ends the taking in of a stream
abbrev pub counts_line : Tally → ℕ → List ℕ
counts_line tally waiting =
    flat_map (λ piece. piece) (
    codes "accepted " ∷ decimal tally.accepted
    ∷ codes ", repeated " ∷ decimal tally.repeated
    ∷ codes ", waiting " ∷ decimal waiting
    ∷ codes ", conflict " ∷ decimal tally.conflict
    ∷ codes ", stray " ∷ decimal tally.stray
    ∷ codes ", full " ∷ decimal tally.full
    ∷ (10 ∷ []) ∷ [])

-- the line that says where a relay's log ended
abbrev pub cursor_line : ℕ → List ℕ
cursor_line cursor = codes "cursor " ++ decimal cursor ++ 10 ∷ []

-- the counts, and after them where a relay's log ended, if they came from one
abbrev pub counts_text : Tally → ℕ → Option ℕ → List ℕ
counts_text tally waiting None = counts_line tally waiting
counts_text tally waiting (Some cursor) = counts_line tally waiting ++ cursor_line cursor

-- the line that says how many operations a script made
abbrev pub made_line : ℕ → List ℕ
made_line count = codes "made " ++ decimal count ++ 10 ∷ []

-- the lines that say how many operations a draft took, and how many of them add, drop, move and retitle a section
abbrev pub sections_lines : ℕ → SectionCounts → List ℕ
sections_lines count sections =
    flat_map (λ piece. piece) (
    codes "made " ∷ decimal count
    ∷ (10 ∷ [])
    ∷ codes "sections: " ∷ decimal sections.added
    ∷ codes " added, " ∷ decimal sections.dropped
    ∷ codes " dropped, " ∷ decimal sections.moved
    ∷ codes " moved, " ∷ decimal sections.retitled
    ∷ codes " retitled" ∷ (10 ∷ []) ∷ [])

-- no operation does
abbrev pub are_none : SectionCounts → Bool
are_none sections = nat_eq sections.added 0 && nat_eq sections.dropped 0 && nat_eq sections.moved 0 && nat_eq sections.retitled 0

-- these lines, or only how many operations a draft took, where none of them was made on sections
abbrev pub revised_text : ℕ → SectionCounts → List ℕ
revised_text count sections = if are_none sections then made_line count else sections_lines count sections

-- nothing waits, and nothing was refused but repeats
abbrev pub is_done : Tally → ℕ → Bool
is_done counts waiting = nat_eq waiting 0 && nat_eq counts.conflict 0 && nat_eq counts.stray 0 && nat_eq counts.full 0

-- Partial where some operation waits or was refused, and Done otherwise
abbrev pub status_by : Tally → ℕ → Status
status_by counts waiting = if is_done counts waiting then Done else Partial
