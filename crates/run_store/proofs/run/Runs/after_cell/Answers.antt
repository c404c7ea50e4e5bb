use Rattle.std.proofs.Common.{ap, arith, subst, suc, sym, ◌+◌, ◌<◌, ◌≤◌, ◌∙◌, ◌≡◌}
use Rattle.std.specs.Prelude.{Some}
use Rattle.fugue_ids.specs.Keys.{first_id, rest_of}
use Rattle.run_store.specs.Cells.{keyed_cells}
use Rattle.run_store.specs.Heads.{head_after}
use Rattle.run_store.specs.Runs.{IsCellSpot, RunsView, cells_in, first_of}
use Rattle.run_store.specs.declared.cell.Head.{Head}
use Rattle.run_store.proofs.CellLemmas.{others-absent, rest-none}
use Rattle.run_store.proofs.CutLemmas.{cell-fits}
use Rattle.run_store.proofs.WalkLemmas.{behind-inside, next-is}
use Rattle.run_store.proofs.run.Runs.after_cell.Goals as goal

pub cell_at-requires-clause-counters : goal.cell_at-requires-clause-counters
cell_at-requires-clause-counters c =
    let spot = c.in_ok-spot.spot in
    (cell-fits c.args.self.now c.sound.ensures spot.run.id spot.run (spot.offset + 1) c.in_ok-spot.ensures.some.held c.if-spot.true).0

pub cell_at-requires-clause-depths : goal.cell_at-requires-clause-depths
cell_at-requires-clause-depths c =
    let spot = c.in_ok-spot.spot in
    (cell-fits c.args.self.now c.sound.ensures spot.run.id spot.run (spot.offset + 1) c.in_ok-spot.ensures.some.held c.if-spot.true).1

pub returns-in_err-spot : goal.returns-in_err-spot
returns-in_err-spot c =
    let cs = cells_in c.args.self.now in
    c.from_residual.ensures ∙ sym (ap first_id (rest-none c.args.id cs (others-absent c.args.id cs c.in_err-spot.ensures.none)))

pub returns-then-spot : goal.returns-then-spot
returns-then-spot c =
    let spot = c.in_ok-spot.spot in
    let e : spot.offset + 1 ≡ suc spot.offset = omega arith in
    let l : suc spot.offset < spot.run.len = omega (arith, c.if-spot.true) in
    ap (λ (h : Head). Some h.id) c.cell_at.ensures
    ∙ ap (λ n. Some (head_after n (first_of spot.run)).id) e
    ∙ sym (behind-inside c.args.self.now c.sound.ensures c.args.id spot.run spot.offset c.in_ok-spot.ensures.some l)

pub returns-else-spot : goal.returns-else-spot
returns-else-spot c =
    let spot = c.in_ok-spot.spot in
    let l : spot.run.len ≤ suc spot.offset = omega (arith, c.if-spot.false) in
    let at = subst (λ (z : RunsView). IsCellSpot z.rope c.args.id spot.run spot.offset) (sym c.self.view_is) c.in_ok-spot.ensures.some in
    next-is _ c.self.invariant c.args.id spot.run spot.offset at c.next.result c.next.ensures.some c.next.ensures.none l
    ∙ ap (λ (z : RunsView). first_id (rest_of (Some c.args.id) (keyed_cells (cells_in z)))) c.self.view_is
