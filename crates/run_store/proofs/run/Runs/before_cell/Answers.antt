use Rattle.std.proofs.Common.{ap, arith, sym, ◌∙◌}
use Rattle.std.specs.Prelude.{Some}
use Rattle.fugue_ids.specs.Keys.{last_id}
use Rattle.run_store.specs.declared.cell.Head.{Head}
use Rattle.run_store.proofs.FindLemmas.{spot-fits}
use Rattle.run_store.proofs.PlaceLemmas.{at-within}
use Rattle.run_store.proofs.WalkLemmas.{before-inside, before-start}
use Rattle.run_store.proofs.run.Runs.before_cell.Goals as goal

pub cell_at-requires-clause-counters : goal.cell_at-requires-clause-counters
cell_at-requires-clause-counters c =
    omega (arith, (spot-fits c.args.self.now c.sound.ensures c.args.id c.in_ok-spot.spot.run c.in_ok-spot.spot.offset c.in_ok-spot.ensures.some).0)

pub cell_at-requires-clause-depths : goal.cell_at-requires-clause-depths
cell_at-requires-clause-depths c =
    omega (arith, (spot-fits c.args.self.now c.sound.ensures c.args.id c.in_ok-spot.spot.run c.in_ok-spot.spot.offset c.in_ok-spot.ensures.some).1)

pub last_of-requires : goal.last_of-requires
last_of-requires c = omega (arith, at-within c.args.self.now.rope c.place_of.result (c.in_ok-spot.spot.run.id, c.in_ok-spot.spot.run) c.place_of.ensures)

pub returns-then-spot-gt0 : goal.returns-then-spot-gt0
returns-then-spot-gt0 c =
    let spot = c.in_ok-spot.spot in
    ap (λ (h : Head). Some h.id) c.cell_at.ensures
    ∙ sym (before-inside c.args.self.now c.sound.ensures c.args.id spot.run spot.offset c.in_ok-spot.ensures.some c.if-spot-gt0.true)

pub returns-else-spot-gt0 : goal.returns-else-spot-gt0
returns-else-spot-gt0 c =
    let spot = c.in_ok-spot.spot in
    c.last_of.ensures
    ∙ sym (ap last_id (before-start c.args.self.now c.sound.ensures c.args.id spot.run spot.offset c.in_ok-spot.ensures.some
    (omega (arith, c.if-spot-gt0.false)) c.place_of.result c.place_of.ensures))
