use Rattle.std.proofs.Common.{ap, subst, sym, ◌∙◌}
use Rattle.std.specs.Prelude.{None, if◌then◌else◌}
use Rattle.fugue_ids.specs.Listed.{HoldsOrigin}
use Rattle.fugue_ids.proofs.LowLemmas.{first_in}
use Rattle.run_store.specs.Cells.{keyed_cells}
use Rattle.run_store.specs.Runs.{cells_in}
use Rattle.run_store.proofs.KeyLemmas.{keyed-ids}
use Rattle.run_store.proofs.MiddleLemmas.{cells-apart}
use Rattle.run_store.proofs.run.Runs.first_low_in.Goals as goal

pub first_low-first-requires : goal.first_low-first-requires
first_low-first-requires c = subst (λ xs. HoldsOrigin xs c.args.from) (keyed-ids (cells_in c.args.self.now)) c.requires.from

pub returns-then-eq : goal.returns-then-eq
returns-then-eq c =
    let r = c.args.self.now in
    let v = c.first_low-first.result in
    sym (ap (λ b. if b then None else v) (sym c.eq.ensures ∙ c.if-eq.true))
    ∙ first_in c.args.most (keyed_cells (cells_in r)) c.args.from c.args.to v (cells-apart r c.sound.ensures) c.requires.from c.requires.to c.first_low-first.ensures

pub returns-else-eq : goal.returns-else-eq
returns-else-eq c =
    let r = c.args.self.now in
    let v = c.first_low-first.result in
    sym (ap (λ b. if b then None else v) (sym c.eq.ensures ∙ c.if-eq.false))
    ∙ first_in c.args.most (keyed_cells (cells_in r)) c.args.from c.args.to v (cells-apart r c.sound.ensures) c.requires.from c.requires.to c.first_low-first.ensures
