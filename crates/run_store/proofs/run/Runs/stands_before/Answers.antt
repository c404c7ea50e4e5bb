use Rattle.std.proofs.Common.{sym, ◌∙◌}
use Rattle.run_store.proofs.EarlierLemmas.{earlier-runs, earlier-within}
use Rattle.run_store.proofs.run.Runs.stands_before.Goals as goal

pub returns-then-eq : goal.returns-then-eq
returns-then-eq c a b first second =
    let x = c.args.x.now in
    let y = c.args.y.now in
    earlier-within c.args.self.now c.sound.ensures a b x.run y.run x.offset y.offset (sym c.eq.ensures ∙ c.if-eq.true) first second

pub returns : goal.returns
returns c a b first second =
    let x = c.args.x.now in
    let y = c.args.y.now in
    earlier-runs c.args.self.now c.sound.ensures a b x.run y.run x.offset y.offset c.place_of.result c.place_of-2.result
    (sym c.eq.ensures ∙ c.if-eq.false) first second c.place_of.ensures c.place_of-2.ensures
