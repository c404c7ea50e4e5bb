use Rattle.std.proofs.Common.{ap, subst, sym, ◌-◌, ◌∙◌}
use Rattle.run_store.specs.Cells.{cell_ids, is_hidden_cell}
use Rattle.run_store.specs.Changes.{HidesSome}
use Rattle.run_store.specs.Runs.{cells_in}
use Rattle.fugue_ids.specs.Identifiers.{Identifier}
use Rattle.std.specs.Prelude.{Contains, Ok}
use Rattle.run_store.proofs.HideRunLemmas.{hiding-next, next-held}
use Rattle.run_store.proofs.run.Runs.hide_run.Goals as goal

pub hide_part-requires-clause-held : goal.hide_part-requires-clause-held
hide_part-requires-clause-held c =
    let now = c.parts.self in
    subst (λ (y : Identifier). Contains (cell_ids (cells_in now)) y) (sym c.behind.ensures)
    (next-held c.args.self.now c.args.first c.args.count now c.parts.done c.parts.invariant c.parts-test.true c.requires.held)

pub parts-preserved : goal.parts-preserved
parts-preserved c =
    let now = c.parts.self in
    let next = c.hide_part.new.self in
    let is = c.behind.ensures in
    hiding-next c.args.self.now c.args.first c.args.count now c.parts.done c.parts.invariant c.parts-test.true next
    (λ h. c.in-Ok.ensures.again (ap (is_hidden_cell (cells_in now)) is ∙ h)) c.in-Ok.n
    (subst (λ (y : Identifier). HidesSome (Ok c.in-Ok.n) now next y (c.args.count - c.parts.done)) is c.in-Ok.ensures.part)
