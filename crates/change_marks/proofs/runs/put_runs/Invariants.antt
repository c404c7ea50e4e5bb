use Rattle.std.proofs.Common.{length}
use Rattle.std.specs.Prelude.{IfSome, None}
use Rattle.std.specs.List.{Contains}
use Rattle.section_catalogue.proofs.PrintingLemmas.{IsUnderWay}
use Rattle.run_store.specs.Cells.{cell_ids}
use Rattle.change_marks.specs.Marks.{printed_mark}
use Rattle.change_marks.specs.Steps.{parts_from}
use Rattle.change_marks.proofs.WalkLemmas.{from_next}
use Rattle.change_marks.proofs.runs.put_runs.Given as goal

-- a front of the runs was gathered, and what the elements to come add is the rest
abbrev pub invariant-elements : goal.invariant-elements
invariant-elements g l =
    IsUnderWay (g.O.Out.seen l.initial.output) (g.O.Out.seen l.output) l.initial.gather l.gather
    (parts_from l.replica.held.history (printed_mark l.is_dropped l.front.held.history l.replica.held.history) None (cell_ids l.list.cells))
    (parts_from l.replica.held.history (printed_mark l.is_dropped l.front.held.history l.replica.held.history) l.begun (from_next (cell_ids l.list.cells) l.next))
    × IfSome l.next (Contains (cell_ids l.list.cells))

abbrev pub decreases-elements : goal.decreases-elements
decreases-elements g l = length (from_next (cell_ids l.list.cells) l.next)
