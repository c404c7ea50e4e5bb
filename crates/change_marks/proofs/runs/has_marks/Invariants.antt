use Rattle.std.proofs.Common.{length, ◌≡◌}
use Rattle.std.specs.Prelude.{IfSome}
use Rattle.std.specs.List.{Contains, list_any}
use Rattle.run_store.specs.Cells.{cell_ids}
use Rattle.change_marks.specs.Marks.{mark_of}
use Rattle.change_marks.specs.Steps.{is_changed_element}
use Rattle.change_marks.proofs.WalkLemmas.{from_next}
use Rattle.change_marks.proofs.runs.has_marks.Given as goal

-- the elements that were passed have no marks around them
abbrev pub invariant-elements : goal.invariant-elements
invariant-elements l =
    (list_any (λ x. is_changed_element (mark_of l.front.held.history l.replica.held.history x)) (cell_ids l.list.cells)
    ≡ list_any (λ x. is_changed_element (mark_of l.front.held.history l.replica.held.history x)) (from_next (cell_ids l.list.cells) l.next))
    × IfSome l.next (Contains (cell_ids l.list.cells))

abbrev pub decreases-elements : goal.decreases-elements
decreases-elements l = length (from_next (cell_ids l.list.cells) l.next)
