use Rattle.std.proofs.Common.{add-one, ap, arith, sym, ◌+◌, ◌∙◌}
use Rattle.fugue_ids.specs.Keys.{first_low, rest_of}
use Rattle.run_store.specs.Cells.{keyed_cells}
use Rattle.run_store.specs.Runs.{cells_in, letters_of}
use Rattle.run_store.proofs.LowPlaceLemmas.{first-inside, first-outside, letters-len}
use Rattle.run_store.proofs.PlaceLemmas.{at-within}
use Rattle.run_store.proofs.RunsLemmas.{few-runs, kept-run}
use Rattle.run_store.proofs.run.Runs.first_low.Goals as goal

pub first_low_of-requires-clause-counters : goal.first_low_of-requires-clause-counters
first_low_of-requires-clause-counters c = let spot = c.in_ok-spot.spot in (kept-run c.args.self.now c.sound.ensures spot.run.id spot.run c.in_ok-spot.ensures.some.held).counters

pub first_low_of-requires-clause-depths : goal.first_low_of-requires-clause-depths
first_low_of-requires-clause-depths c =
    let spot = c.in_ok-spot.spot in
    let k = kept-run c.args.self.now c.sound.ensures spot.run.id spot.run c.in_ok-spot.ensures.some.held in
    omega (arith, k.depths, c.sound.ensures.few)

pub overflow_add-place_of : goal.overflow_add-place_of
overflow_add-place_of c =
    let r = c.args.self.now in
    let l = at-within r.rope c.place_of.result (c.in_ok-spot.spot.run.id, c.in_ok-spot.spot.run) c.place_of.ensures in
    omega (arith, l, few-runs r c.sound.ensures, c.sound.ensures.few)

pub returns-in-Some-first_low_of : goal.returns-in-Some-first_low_of
returns-in-Some-first_low_of c =
    let r = c.args.self.now in
    let spot = c.in_ok-spot.spot in
    let x = c.in-Some.id in
    let i = c.in_ok-spot.ensures.some in
    first-inside r c.sound.ensures c.args.most (omega arith) x spot.run spot.offset i (spot.offset + 1) (add-one spot.offset) c.in-Some-first_low_of.id
    (c.in-Some-first_low_of.ensures (letters_of r.letters spot.run) (letters-len r c.sound.ensures c.args.most (omega arith) x spot.run spot.offset i))
    ∙ ap (λ o. first_low c.args.most (rest_of o (keyed_cells (cells_in r)))) (sym c.in-Some.is)

pub returns-in-None-first_low_of : goal.returns-in-None-first_low_of
returns-in-None-first_low_of c =
    let r = c.args.self.now in
    let spot = c.in_ok-spot.spot in
    let x = c.in-Some.id in
    let i = c.in_ok-spot.ensures.some in
    c.first_low_from-in-None-first_low_of.ensures
    ∙ first-outside r c.sound.ensures c.args.most (omega arith) x spot.run spot.offset i (spot.offset + 1) (add-one spot.offset)
    (c.in-None-first_low_of.ensures (letters_of r.letters spot.run) (letters-len r c.sound.ensures c.args.most (omega arith) x spot.run spot.offset i))
    c.place_of.result (c.place_of.result + 1) c.place_of.ensures (add-one c.place_of.result)
    ∙ ap (λ o. first_low c.args.most (rest_of o (keyed_cells (cells_in r)))) (sym c.in-Some.is)
