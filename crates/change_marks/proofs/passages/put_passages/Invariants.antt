use Rattle.std.proofs.Common.{length, ◌+◌, ◌≤◌}
use Rattle.std.specs.Prelude.{None}
use Rattle.section_catalogue.proofs.PrintingLemmas.{IsUnderWay}
use Rattle.run_store.specs.Cells.{cell_ids, cells_shown}
use Rattle.change_marks.specs.Steps.{count_in, passage_lines}
use Rattle.change_marks.proofs.passages.put_passages.Given as goal

-- a front of the lines was gathered, and those of the letters to come are the rest
abbrev pub invariant-letters : goal.invariant-letters
invariant-letters g l =
    IsUnderWay (g.O.Out.seen l.initial.output) (g.O.Out.seen l.output) l.initial.gather l.gather
    (passage_lines None (cell_ids (cells_shown l.list.cells))) (passage_lines l.begun l.shown)
    × (count_in l.begun + length l.shown ≤ length (cell_ids (cells_shown l.list.cells)))

abbrev pub decreases-letters : goal.decreases-letters
decreases-letters g l = length l.shown
