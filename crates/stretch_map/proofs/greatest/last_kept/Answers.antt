use Rattle.std.proofs.Common.{subst, sym}
use Rattle.std.specs.Prelude.{IfNone, IfSome}
use Rattle.stretch_map.specs.Stretches.{IsLastOf, KeepsEntry, NoneOf}
use Rattle.stretch_map.proofs.GreatestLemmas.{last_before, last_from}
use Rattle.stretch_map.proofs.greatest.last_kept.Goals as goal

pub returns-in-Some-clause-none : goal.returns-in-Some-clause-none
returns-in-Some-clause-none g c =
    subst (λ o. IfNone o (NoneOf (KeepsEntry c.args.kept.now.entries) c.args.replica)) (sym c.copied.ensures.same)
    (last_before (λ e. (e.0.now, e.1.now)) c.args.replica c.args.kept.now c.range.result c.next_back.new.self c.in-Some.replica c.next_back.result
    c.in-Some.ensures.1 (c.range.ensures.in_range tt) c.next_back.ensures.steps).0

pub returns-in-Some-clause-some : goal.returns-in-Some-clause-some
returns-in-Some-clause-some g c =
    subst (λ o. IfSome o (IsLastOf (KeepsEntry c.args.kept.now.entries) c.args.replica)) (sym c.copied.ensures.same)
    (last_before (λ e. (e.0.now, e.1.now)) c.args.replica c.args.kept.now c.range.result c.next_back.new.self c.in-Some.replica c.next_back.result
    c.in-Some.ensures.1 (c.range.ensures.in_range tt) c.next_back.ensures.steps).1

pub returns-in-None-clause-none : goal.returns-in-None-clause-none
returns-in-None-clause-none g c =
    subst (λ o. IfNone o (NoneOf (KeepsEntry c.args.kept.now.entries) c.args.replica)) (sym c.copied-in-None.ensures.same)
    (last_from (λ e. (e.0.now, e.1.now)) c.args.replica c.args.kept.now c.range-in-None.result c.next_back-in-None.new.self c.next_back-in-None.result
    c.in-None.ensures (c.range-in-None.ensures.in_range tt) c.next_back-in-None.ensures.steps c.copied-in-None.ensures.fits).0

pub returns-in-None-clause-some : goal.returns-in-None-clause-some
returns-in-None-clause-some g c =
    subst (λ o. IfSome o (IsLastOf (KeepsEntry c.args.kept.now.entries) c.args.replica)) (sym c.copied-in-None.ensures.same)
    (last_from (λ e. (e.0.now, e.1.now)) c.args.replica c.args.kept.now c.range-in-None.result c.next_back-in-None.new.self c.next_back-in-None.result
    c.in-None.ensures (c.range-in-None.ensures.in_range tt) c.next_back-in-None.ensures.steps c.copied-in-None.ensures.fits).1
