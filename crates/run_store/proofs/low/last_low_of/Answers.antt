use Rattle.std.proofs.Common.{ap, arith, sym, ◌∙◌}
use Rattle.std.specs.Prelude.{Some}
use Rattle.run_store.specs.Runs.{first_of}
use Rattle.run_store.specs.declared.cell.Head.{Head}
use Rattle.run_store.proofs.LowLemmas.{last-empty, last-first, last-high, last-offset}
use Rattle.run_store.proofs.low.last_low_of.Goals as goal

pub returns-then-len-eq0 : goal.returns-then-len-eq0
returns-then-len-eq0 c letters l = sym (last-empty c.args.most (first_of c.args.run.now) letters (l ∙ c.if-len-eq0.true))

pub returns-then-deeper-gt0 : goal.returns-then-deeper-gt0
returns-then-deeper-gt0 c letters l =
    let o = c.min-deeper.result in
    let e = c.min-deeper.ensures in
    let f = c.saturating_sub.ensures in
    ap (λ (h : Head). Some h.id) c.cell_at.ensures
    ∙ sym (last-offset c.args.most (first_of c.args.run.now) letters o c.if-deeper-gt0.true (omega (arith, l, e, f)) (omega (arith, e, f, c.if-deeper-gt0.true))
    (λ m. omega (arith, l, e, f, m)))

pub returns-then-is_at_most : goal.returns-then-is_at_most
returns-then-is_at_most c letters l =
    let e = c.min-deeper.ensures in
    let f = c.saturating_sub.ensures in
    sym (last-first c.args.most (first_of c.args.run.now) letters (omega (arith, l, c.if-len-eq0.false)) (sym c.is_at_most.ensures ∙ c.if-is_at_most.true)
    (λ m. omega (arith, l, e, f, m, c.if-deeper-gt0.false)))

pub returns-else-is_at_most : goal.returns-else-is_at_most
returns-else-is_at_most c letters l = sym (last-high c.args.most (first_of c.args.run.now) letters (sym c.is_at_most.ensures ∙ c.if-is_at_most.false))
