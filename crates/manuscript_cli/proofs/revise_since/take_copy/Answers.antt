use Rattle.std.proofs.Common.{subst}
use Rattle.std.proofs.lemmas.Result.{err_from_is_err_and}
use Rattle.command_kinds.specs.Intake.{FeedsNot}
use Rattle.manuscript_cli.proofs.RevisingSinceLemmas.{fed_not}
use Rattle.manuscript_cli.proofs.revise_since.take_copy.Goals as goal

pub returns-in_err-feed-clause-err : goal.returns-in_err-feed-clause-err
returns-in_err-feed-clause-err c =
    let p = err_from_is_err_and c.from_residual-in_err-feed.result c.from_residual-in_err-feed.ensures.1 in
    let fault = c.in_err-feed.field-0.0 in
    rw (p.1, p.2) (subst (FeedsNot fault c.args.replica.now) c.in_ok-copy.ensures
    (fed_not fault c.args.replica.now c.feed.new.self c.in_ok-copy.copy _ c.feed.new.tally c.in_err-feed.ensures.too_many.0 c.in_err-feed.ensures.err))
