use Rattle.std.proofs.lemmas.Result.{err_from_is_err_and}
use Rattle.command_kinds.proofs.CopyingLemmas.{copying_on, copying_stops}
use Rattle.command_kinds.proofs.copying.take_copies.Goals as goal

pub stretches-preserved : goal.stretches-preserved
stretches-preserved c =
    copying_on _ _ _ _ _ _ _ _ c.stretches.invariant _ _ c.in-Some.ensures.taken _ _ c.in_ok-take_stretch.ensures.ok _ c.in_ok-take_stretch.ensures.kept

pub returns-in_err-take_stretch-clause-err : goal.returns-in_err-take_stretch-clause-err
returns-in_err-take_stretch-clause-err c =
    let p = err_from_is_err_and c.from_residual.result c.from_residual.ensures.1 in
    rw (p.1, p.2) (copying_stops _ _ _ _ _ _ _ _ c.stretches.invariant _ _ c.in-Some.ensures.taken c.in_err-take_stretch.field-0.0 c.in_err-take_stretch.ensures.err)
