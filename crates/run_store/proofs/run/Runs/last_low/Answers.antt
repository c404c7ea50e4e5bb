use Rattle.std.proofs.Common.{ap, arith, sym, take, ◌∙◌}
use Rattle.fugue_ids.specs.Keys.{front_of, last_low}
use Rattle.run_store.specs.Cells.{keyed_cells}
use Rattle.run_store.specs.Runs.{cells_in, letters_of}
use Rattle.run_store.proofs.LowPlaceLemmas.{front-len, last-inside, last-outside}
use Rattle.run_store.proofs.RunsLemmas.{kept-run}
use Rattle.run_store.proofs.run.Runs.last_low.Goals as goal

pub last_low_of-requires-clause-counters : goal.last_low_of-requires-clause-counters
last_low_of-requires-clause-counters c = let spot = c.in_ok-spot.spot in (kept-run c.args.self.now c.sound.ensures spot.run.id spot.run c.in_ok-spot.ensures.some.held).counters

pub last_low_of-requires-clause-depths : goal.last_low_of-requires-clause-depths
last_low_of-requires-clause-depths c =
    let spot = c.in_ok-spot.spot in
    let k = kept-run c.args.self.now c.sound.ensures spot.run.id spot.run c.in_ok-spot.ensures.some.held in
    omega (arith, k.depths, c.sound.ensures.few)

pub returns-in-Some-last_low_of : goal.returns-in-Some-last_low_of
returns-in-Some-last_low_of c =
    let r = c.args.self.now in
    let spot = c.in_ok-spot.spot in
    let x = c.in-Some.id in
    let i = c.in_ok-spot.ensures.some in
    last-inside r c.sound.ensures c.args.most (omega arith) x spot.run spot.offset i c.in-Some-last_low_of.id
    (c.in-Some-last_low_of.ensures (take spot.offset (letters_of r.letters spot.run)) (front-len r c.sound.ensures c.args.most (omega arith) x spot.run spot.offset i))
    ∙ ap (λ o. last_low c.args.most (front_of o (keyed_cells (cells_in r)))) (sym c.in-Some.is)

pub returns-in-None-last_low_of : goal.returns-in-None-last_low_of
returns-in-None-last_low_of c =
    let r = c.args.self.now in
    let spot = c.in_ok-spot.spot in
    let x = c.in-Some.id in
    let i = c.in_ok-spot.ensures.some in
    c.last_low_to-in-None-last_low_of.ensures
    ∙ last-outside r c.sound.ensures c.args.most (omega arith) x spot.run spot.offset i
    (c.in-None-last_low_of.ensures (take spot.offset (letters_of r.letters spot.run)) (front-len r c.sound.ensures c.args.most (omega arith) x spot.run spot.offset i))
    c.place_of.result c.place_of.ensures
    ∙ ap (λ o. last_low c.args.most (front_of o (keyed_cells (cells_in r)))) (sym c.in-Some.is)
