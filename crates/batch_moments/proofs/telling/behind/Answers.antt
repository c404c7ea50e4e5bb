use Rattle.std.proofs.Common.{ap, drop, sym, ◌∙◌}
use Rattle.std.proofs.Math.Seq.{drop-nil}
use Rattle.op_runs.specs.Finding.{op_of}
use Rattle.batch_moments.proofs.LineLemmas.{without_first}
use Rattle.batch_moments.proofs.telling.behind.Goals as goal

pub passed-init : goal.passed-init
passed-init c = ap (drop c.args.count) c.copy-rest.ensures

pub returns-in_default : goal.returns-in_default
returns-in_default c = c.in_default.ensures.left ∙ sym (drop-nil c.passed.left) ∙ sym (ap (drop c.passed.left) c.in_default.ensures.none) ∙ c.passed.invariant

pub passed-preserved : goal.passed-preserved
passed-preserved c = sym (without_first c.passed.left c.passed.rest c.next_op.new.self (op_of c.in-Some._op) c.passed-test.true c.in-Some.ensures.taken).1 ∙ c.passed.invariant
