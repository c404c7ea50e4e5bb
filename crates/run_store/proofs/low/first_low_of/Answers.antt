use Rattle.std.proofs.Common.{ap, arith, sym, ◌∙◌}
use Rattle.std.specs.Prelude.{Some}
use Rattle.run_store.specs.Runs.{first_of}
use Rattle.run_store.specs.declared.cell.Head.{Head}
use Rattle.run_store.proofs.LowLemmas.{first-from, none-from, past-end}
use Rattle.run_store.proofs.low.first_low_of.Goals as goal

pub returns-then-from-run : goal.returns-then-from-run
returns-then-from-run c letters l = sym (past-end c.args.most (first_of c.args.run.now) letters c.args.from (omega (arith, l, c.if-from-run.true)))

pub returns-then-run-from : goal.returns-then-run-from
returns-then-run-from c letters l =
    ap (λ (h : Head). Some h.id) c.cell_at.ensures
    ∙ sym (first-from c.args.most (first_of c.args.run.now) letters c.args.from c.requires.behind (omega (arith, l, c.if-from-run.false)) (omega (arith, c.if-run-from.true)))

pub returns-else-run-from : goal.returns-else-run-from
returns-else-run-from c letters l = sym (none-from c.args.most (first_of c.args.run.now) letters c.args.from (omega (arith, c.if-run-from.false)))
