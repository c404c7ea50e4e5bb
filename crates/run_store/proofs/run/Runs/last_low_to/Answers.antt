use Rattle.std.proofs.Common.{ap, arith, sym, take, ◌∙◌}
use Rattle.fugue_ids.specs.Keys.{last_low}
use Rattle.run_store.specs.Cells.{keyed_cells}
use Rattle.run_store.specs.Runs.{RunsView, all_cells, letters_of}
use Rattle.run_store.proofs.LowPlaceLemmas.{low-told, none-told}
use Rattle.run_store.proofs.RunsLemmas.{kept-run, length-letters}
use Rattle.run_store.proofs.run.Runs.last_low_to.Goals as goal

pub last_low_of-requires-clause-counters : goal.last_low_of-requires-clause-counters
last_low_of-requires-clause-counters c = (kept-run _ c.self.invariant c.in-Some.item.0 c.in-Some.item.1.now c.in-Some.ensures.value).counters

pub last_low_of-requires-clause-depths : goal.last_low_of-requires-clause-depths
last_low_of-requires-clause-depths c = let k =
    kept-run _ c.self.invariant c.in-Some.item.0 c.in-Some.item.1.now c.in-Some.ensures.value in omega (arith, k.depths, c.self.invariant.few)

pub returns-in-Some : goal.returns-in-Some
returns-in-Some c =
    let r = c.self.inside in
    let s = c.self.invariant in
    let y = c.in-Some.item.0 in
    let run = c.in-Some.item.1.now in
    let k = kept-run _ s y run c.in-Some.ensures.value in
    c.last_low_of.ensures (letters_of r.letters run) (length-letters r.letters r.count (y, run) k)
    ∙ sym (low-told _ s c.args.most (omega arith) c.args.runs c.rank_of.result c.rank_of.ensures y c.in-Some.ensures.low run (sym c.in-Some.ensures.value))
    ∙ ap (λ (z : RunsView). last_low c.args.most (keyed_cells (all_cells z.letters (take c.args.runs z.rope)))) c.self.view_is

pub returns-in-None : goal.returns-in-None
returns-in-None c =
    sym (none-told _ c.self.invariant c.args.most (omega arith) c.args.runs c.rank_of.result c.rank_of.ensures c.in-None.ensures.low)
    ∙ ap (λ (z : RunsView). last_low c.args.most (keyed_cells (all_cells z.letters (take c.args.runs z.rope)))) c.self.view_is
