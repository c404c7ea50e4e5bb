use Rattle.std.proofs.Common.{ap, sym, ◌∙◌}
use Rattle.run_store.specs.Cells.{cell_of, is_hidden_cell}
use Rattle.run_store.specs.Runs.{cells_in}
use Rattle.run_store.specs.Stored.{Stored}
use Rattle.run_store.specs.declared.cell.Head.{Head}
use Rattle.run_store.proofs.CellLemmas.{from-head, from-no-head, hidden-by, hidden-missing}
use Rattle.run_store.proofs.store.RunStore.is_hidden.Goals as goal

pub returns-in-Some : goal.returns-in-Some
returns-in-Some c =
    let cs = cells_in c.self.inside.runs in
    let p = from-head (cell_of cs c.args.id) c.in-Some.head c.in-Some.ensures.is in
    ap (λ (h : Head). h.hidden) (sym p.2) ∙ sym (hidden-by c.args.id cs p.0 c.sound.ensures.distinct p.1)
    ∙ ap (λ (s : Stored). is_hidden_cell s.cells c.args.id) c.self.view_is

pub returns-in-None : goal.returns-in-None
returns-in-None c =
    let cs = cells_in c.self.inside.runs in
    sym (hidden-missing c.args.id cs (from-no-head (cell_of cs c.args.id) c.in-None.ensures.is)) ∙ ap (λ (s : Stored). is_hidden_cell s.cells c.args.id) c.self.view_is
