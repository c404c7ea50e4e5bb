use Rattle.std.proofs.lemmas.Result.{err_from_is_err_and}
use Rattle.op_runs.specs.Finding.{op_of}
use Rattle.manuscript_cli.proofs.RevisingSinceLemmas.{full_finds, taken_all, taken_more, taken_none}
use Rattle.manuscript_cli.proofs.revise_since.take_all.Goals as goal

pub ops-init : goal.ops-init
ops-init c = taken_none c.args.replica.now c.args.ops c.requires.settled

pub returns-in_err-take_copy-clause-err : goal.returns-in_err-take_copy-clause-err
returns-in_err-take_copy-clause-err c =
    let p = err_from_is_err_and c.from_residual.result c.from_residual.ensures.1 in
    rw (p.1, p.2) (full_finds c.args.replica.now c.ops.replica c.args.ops c.ops.rest
    (op_of c.in-Some.op) c.next_op.new.self c.ops.invariant c.in-Some.ensures.taken c.in_err-take_copy.field-0.0 c.in_err-take_copy.ensures.err)

pub ops-preserved : goal.ops-preserved
ops-preserved c =
    taken_more c.args.replica.now c.ops.replica c.args.ops c.ops.rest
    (op_of c.in-Some.op) c.next_op.new.self c.ops.invariant c.in-Some.ensures.taken c.take_copy.new.replica c.in_ok-take_copy.ensures.ok
    c.in_ok-take_copy.ensures.place c.in_ok-take_copy.ensures.settled

pub returns-clause-ok : goal.returns-clause-ok
returns-clause-ok c = taken_all c.args.replica.now c.ops.replica c.args.ops c.ops.rest c.ops.invariant (c.in_default.ensures.none)
