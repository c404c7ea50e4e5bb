use Rattle.std.proofs.Common.{ap, arith, sym, ◌+◌, ◌∙◌}
use Rattle.op_runs.specs.Finding.{op_of}
use Rattle.manuscript_cli.specs.SectionCounts.{count_of_kind}
use Rattle.manuscript_cli.proofs.SectionCountLemmas.{counted_few, counted_no, counted_yes}
use Rattle.manuscript_cli.proofs.section_counts.count_of.Goals as goal

pub ops-init : goal.ops-init
ops-init c = ap (λ l. 0 + count_of_kind c.args.replica.now.held.history l c.args.change) c.copy-rest.ensures ∙ omega arith

pub overflow_add-count : goal.overflow_add-count
overflow_add-count c =
    let h = c.args.replica.now.held.history in
    let one = counted_yes h c.next_op.new.self c.args.change (op_of c.in-Some.op) (sym c.is_change.ensures ∙ c.if-is_change.true) in
    omega (arith, c.ops.invariant, c.requires, counted_few h c.args.ops.now c.args.change, one, ap (λ l. count_of_kind h l c.args.change) c.in-Some.ensures.taken)

pub ops-preserved : goal.ops-preserved
ops-preserved c =
    let h = c.args.replica.now.held.history in
    let one = counted_no h c.next_op.new.self c.args.change (op_of c.in-Some.op) (sym c.is_change.ensures ∙ c.if-is_change.false) in
    omega (arith, c.ops.invariant, one, ap (λ l. count_of_kind h l c.args.change) c.in-Some.ensures.taken)

pub returns : goal.returns
returns c = omega (arith, c.ops.invariant, ap (λ l. count_of_kind c.args.replica.now.held.history l c.args.change) c.in_default.ensures.none)
