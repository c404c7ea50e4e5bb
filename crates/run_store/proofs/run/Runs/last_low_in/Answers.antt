use Rattle.std.proofs.Common.{ap, subst, sym, ◌∙◌}
use Rattle.std.specs.Prelude.{None, if◌then◌else◌}
use Rattle.fugue_ids.specs.Listed.{HoldsOrigin}
use Rattle.fugue_ids.proofs.LowLemmas.{last_in}
use Rattle.fugue_ids.proofs.PartedLemmas.{to_held}
use Rattle.run_store.specs.Cells.{keyed_cells}
use Rattle.run_store.specs.Runs.{cells_in}
use Rattle.run_store.proofs.KeyLemmas.{keyed-ids}
use Rattle.run_store.proofs.MiddleLemmas.{cells-apart}
use Rattle.run_store.proofs.run.Runs.last_low_in.Goals as goal

pub last_low-last-requires : goal.last_low-last-requires
last_low-last-requires c =
    let cs = cells_in c.args.self.now in
    subst (λ xs. HoldsOrigin xs c.args.to) (keyed-ids cs) (to_held (keyed_cells cs) c.args.from.now c.args.to c.requires.to)

pub returns-then-eq : goal.returns-then-eq
returns-then-eq c =
    let r = c.args.self.now in
    let v = c.last_low-last.result in
    sym (ap (λ b. if b then None else v) (sym c.eq.ensures ∙ c.if-eq.true))
    ∙ last_in c.args.most (keyed_cells (cells_in r)) c.args.from.now c.args.to v (cells-apart r c.sound.ensures) c.requires.from c.requires.to c.last_low-last.ensures

pub returns-else-eq : goal.returns-else-eq
returns-else-eq c =
    let r = c.args.self.now in
    let v = c.last_low-last.result in
    sym (ap (λ b. if b then None else v) (sym c.eq.ensures ∙ c.if-eq.false))
    ∙ last_in c.args.most (keyed_cells (cells_in r)) c.args.from.now c.args.to v (cells-apart r c.sound.ensures) c.requires.from c.requires.to c.last_low-last.ensures
