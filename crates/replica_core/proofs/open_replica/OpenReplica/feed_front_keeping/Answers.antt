use Rattle.std.proofs.Common.{List, arith, ap, length, length-append, refl, take, ◌<◌, ◌≡◌, ◌∙◌}
use Rattle.std.specs.Prelude.{Err}
use Rattle.std.proofs.lemmas.Result.{err_from_is_err_and}
use Rattle.fugue_ids.specs.Runs.{run_from}
use Rattle.fugue_ids.specs.declared.op.Op.{Op}
use Rattle.replica_core.proofs.FeedingLemmas.{copies_stop, length-front, length-run, letter_unkept, repeats_kept, run_joins, run_repeats}
use Rattle.replica_core.proofs.NotingLemmas.{back_again}
use Rattle.replica_core.proofs.open_replica.OpenReplica.feed_front_keeping.Goals as goal

pub returns-in_err-feed_keeping-clause-err : goal.returns-in_err-feed_keeping-clause-err
returns-in_err-feed_keeping-clause-err c =
    let p = err_from_is_err_and c.from_residual.result c.from_residual.ensures.1 in
    let many = c.in_err-feed_keeping.ensures.too_many in
    rw (p.1, p.2) (letter_unkept c.args.self.now.state c.feed_keeping.new.self.state c.args.start.now c.args.text.now c.index-text-0.result c.text.result c.args.tally.now
    c.feed_keeping.new.tally c.args.kept.now
    c.feed_keeping.new.kept c.in_err-feed_keeping.field-0.0
    c.requires.settled c.requires.some c.index-text-0.is c.text.ensures
    (λ e. many.0 (ap (λ f. Err f) e), λ e. let same = many.1 e in cc) c.in_err-feed_keeping.ensures.err c.in_err-feed_keeping.ensures.unkept)

pub returns-in_err-push_letters-clause-err : goal.returns-in_err-push_letters-clause-err
returns-in_err-push_letters-clause-err c =
    let p = err_from_is_err_and c.from_residual-in_err-push_letters.result c.from_residual-in_err-push_letters.ensures.1 in
    let some : 0 < c.joining-count.result = omega (arith, c.if-count-eq0.false) in
    rw (p.1, p.2) (copies_stop c.args.self.now.state c.args.self.now.state c.args.start.now c.args.text.now c.joining-count.result c.args.tally.now c.args.kept.now _ some
    c.joining-count.ensures.within
    (c.joining-count.ensures.at_once some) refl c.in_err-push_letters.ensures.err)

pub returns-in_default-clause-err : goal.returns-in_default-clause-err
returns-in_default-clause-err c =
    let run : List Op = run_from c.args.start.now (take c.joining-count.result c.args.text.now) in
    let many : length run ≡ c.joining-count.result =
    length-run c.args.start.now (take c.joining-count.result c.args.text.now) ∙ length-front c.args.text.now c.joining-count.result c.joining-count.ensures.within in
    let some : 0 < c.joining-count.result = omega (arith, c.if-count-eq0.false) in
    copies_stop c.args.self.now.state _ c.args.start.now c.args.text.now c.joining-count.result c.args.tally.now c.args.kept.now _ some c.joining-count.ensures.within
    (c.joining-count.ensures.at_once some) c.in_default.ensures.err
    (back_again c.args.kept.now run c.push_letters.new.copies c.pop.new.self c.joining-count.result c.in_ok-push_letters.ensures.ok many c.pop.ensures)

pub returns-clause-ok : goal.returns-clause-ok
returns-clause-ok c =
    let some : 0 < c.joining-count.result = omega (arith, c.if-count-eq0.false) in
    run_joins c.args.self.now.state c.join_run.new.self.state c.args.start.now c.args.text.now c.joining-count.result c.args.tally.now c.joining-count.ensures.within
    (c.joining-count.ensures.at_once some)
    c.in-Ok.ensures.ok

pub returns-then-repeated-gt0-clause-ok : goal.returns-then-repeated-gt0-clause-ok
returns-then-repeated-gt0-clause-ok c =
    run_repeats c.args.self.now.state c.args.start.now c.args.text.now c.repeated-repeated.result c.args.tally.now c.repeated-repeated.ensures.within c.requires.settled
    c.repeated-repeated.ensures.there

pub returns-then-repeated-gt0-clause-kept : goal.returns-then-repeated-gt0-clause-kept
returns-then-repeated-gt0-clause-kept c =
    repeats_kept c.args.self.now.state (run_from c.args.start.now (take c.repeated-repeated.result c.args.text.now)) c.args.kept.now c.requires.settled
    c.repeated-repeated.ensures.there

pub pop-requires : goal.pop-requires
pop-requires c =
    let run : List Op = run_from c.args.start.now (take c.joining-count.result c.args.text.now) in
    let many : length run ≡ c.joining-count.result =
    length-run c.args.start.now (take c.joining-count.result c.args.text.now) ∙ length-front c.args.text.now c.joining-count.result c.joining-count.ensures.within in
    omega (arith, ap length c.in_ok-push_letters.ensures.ok, length-append c.args.kept.now run, many)
