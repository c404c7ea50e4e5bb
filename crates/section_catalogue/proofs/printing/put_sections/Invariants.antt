use Rattle.std.proofs.Common.{length}
use Rattle.std.specs.Prelude.{flat_map}
use Rattle.run_store.specs.Cells.{cell_ids, cells_shown}
use Rattle.section_catalogue.specs.Section.{printed_at}
use Rattle.section_catalogue.proofs.PrintingLemmas.{IsUnderWay}
use Rattle.section_catalogue.proofs.printing.put_sections.Given as goal

-- a front of the text was gathered, and the sections to come are the rest
abbrev pub invariant-sections : goal.invariant-sections
invariant-sections g l =
    IsUnderWay (g.O.Out.seen l.initial.output) (g.O.Out.seen l.output) l.initial.gather l.gather
    (flat_map (printed_at l.sections.entries) (cell_ids (cells_shown l.catalogue.cells))) (flat_map (printed_at l.sections.entries) l.shown)

abbrev pub decreases-sections : goal.decreases-sections
decreases-sections g l = length l.shown
