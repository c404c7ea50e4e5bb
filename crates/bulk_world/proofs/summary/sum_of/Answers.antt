use Rattle.std.proofs.Common.{ap, arith, length, refl, ◌%◌, ◌*◌}
use Rattle.std.specs.Str.{chars}
use Rattle.std.proofs.lemmas.Iterator.{YieldsList-from_chars}
use Rattle.std.proofs.lemmas.Iterator.Consumers.{YieldsList-end, YieldsList-turn}
use Rattle.std.proofs.lemmas.List.{length_push}
use Rattle.bulk_world.proofs.SumLemmas.{all_summed, next_summed, none_summed}
use Rattle.bulk_world.proofs.summary.sum_of.Goals as goal

pub summed-init : goal.summed-init
summed-init c = none_summed (chars c.args.text.now)

pub summed-preserved : goal.summed-preserved
summed-preserved c =
    let turn = YieldsList-turn (YieldsList-from_chars c.args.text.now c.utf8.text cc) c.summed.yielded _ c.summed.yielded_by _ _ c.in-Some.ch c.in-Some.is c.next.ensures.steps in
    next_summed (chars c.args.text.now) (length c.summed.yielded) c.summed.place c.summed.sum c.in-Some.ch _ _ _ _ c.summed.invariant turn
    (ap (λ n. (c.summed.place * n) % 4294967296) c.from.ensures)
    refl refl (length_push c.summed.yielded c.in-Some.ch)

pub returns : goal.returns
returns c =
    let end = YieldsList-end (YieldsList-from_chars c.args.text.now c.utf8.text cc) c.summed.yielded _ c.summed.yielded_by _ _ c.in-None.is c.next.ensures.steps in
    all_summed (chars c.args.text.now) (length c.summed.yielded) c.summed.place c.summed.sum c.summed.invariant (omega (arith, end.1))
