use Rattle.std.proofs.Common.{List, [], ap, arith, drop, length, length-drop, subst, sym, true, ◌+◌, ◌++◌, ◌∙◌, ◌∷◌, ◌≡◌}
use Rattle.std.proofs.lemmas.Result.{err_from_is_err_and}
use Rattle.fugue_ids.specs.Identifiers.{Identifier}
use Rattle.fugue_ids.specs.declared.op.Op.{Op}
use Rattle.fugue_ids.specs.declared.op.Op.TheVariants.{Delete}
use Rattle.origin_model.specs.taking.Taking.{kept_from}
use Rattle.op_runs.specs.Deletions.{deletes_down}
use Rattle.op_runs.proofs.DeletionLemmas.{length-deletes}
use Rattle.replica_core.specs.Feeding.{TakesInAll}
use Rattle.command_kinds.specs.Intake.{copies_of_kept}
use Rattle.command_kinds.proofs.CopyingLemmas.{copying_on, copying_over, copying_stops, next_delete}
use Rattle.command_kinds.proofs.copying.take_backwards.Goals as goal

pub returns-in_err-feed_deletes-clause-err : goal.returns-in_err-feed_deletes-clause-err
returns-in_err-feed_deletes-clause-err c =
    let k = c.loop-offset.offset in
    let ops : List Op = deletes_down c.args.target c.args.count in
    let split : drop k ops ≡ (Delete c.nth.result ∷ []) ++ drop (k + 1) ops =
    next_delete true c.args.target c.args.count k c.loop-offset-test.true ∙ ap (λ (t : Identifier). (Delete t ∷ []) ++ drop (k + 1) ops) (sym c.nth.ensures) in
    let p = err_from_is_err_and c.from_residual.result c.from_residual.ensures.1 in
    rw (p.1, p.2) (copying_stops _ _ _ _ _ _ _ _ c.loop-offset.invariant _ _ split c.in_err-feed_deletes.field-0.0 c.in_err-feed_deletes.ensures.err)

pub loop-offset-preserved : goal.loop-offset-preserved
loop-offset-preserved c =
    let k = c.loop-offset.offset in
    let ops : List Op = deletes_down c.args.target c.args.count in
    let split : drop k ops ≡ (Delete c.nth.result ∷ []) ++ drop (k + 1) ops =
    next_delete true c.args.target c.args.count k c.loop-offset-test.true ∙ ap (λ (t : Identifier). (Delete t ∷ []) ++ drop (k + 1) ops) (sym c.nth.ensures) in
    copying_on _ _ _ _ _ _ _ _ c.loop-offset.invariant _ _ split _ _ c.in_ok-feed_deletes.ensures.ok _ c.in_ok-feed_deletes.ensures.kept

pub returns-clause-ok : goal.returns-clause-ok
returns-clause-ok c =
    let ops : List Op = deletes_down c.args.target c.args.count in
    let none : length (drop c.loop-offset.offset ops) ≡ 0 =
    omega (arith, c.loop-offset-test.false, length-drop c.loop-offset.offset ops, length-deletes true c.args.target c.args.count) in
    subst (λ (l : List Op). TakesInAll c.args.replica.now c.loop-offset.replica l c.args.tally.now c.loop-offset.tally)
    (copying_over _ _ _ _ _ _ _ _ c.loop-offset.invariant none) c.loop-offset.invariant.taken

pub returns-clause-kept : goal.returns-clause-kept
returns-clause-kept c =
    let ops : List Op = deletes_down c.args.target c.args.count in
    let none : length (drop c.loop-offset.offset ops) ≡ 0 =
    omega (arith, c.loop-offset-test.false, length-drop c.loop-offset.offset ops, length-deletes true c.args.target c.args.count) in
    c.loop-offset.invariant.kept_are
    ∙ ap (λ (l : List Op). copies_of_kept c.args.kept.now (kept_from c.args.replica.now.hold c.args.replica.now.most c.args.replica.now.held l))
    (copying_over _ _ _ _ _ _ _ _ c.loop-offset.invariant none)
