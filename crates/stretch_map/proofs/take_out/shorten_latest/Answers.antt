use Rattle.std.proofs.Common.{ap, arith, ◌∙◌}
use Rattle.fugue_ids.specs.Identifiers.{Identifier}
use Rattle.stretch_map.proofs.TakenLemmas.{shorter_latest}
use Rattle.stretch_map.specs.Contents.{layout}
use Rattle.stretch_map.proofs.take_out.shorten_latest.Goals as goal

pub returns-clause-on : goal.returns-clause-on
returns-clause-on g c = λ _.
    let is = c.in-Some.ensures.some in
    let ends = c.if-stretch-key.false ∙ ap (λ (k : Identifier). k.counter) c.key.view_is in
    shorter_latest g.V.Follows.nth g.V.Follows.reaches (layout c.args.stretches.now) c.requires c.args.key _ is.latest
    (record { replica = is.replica; from = is.from; to = omega (arith, ends) }) ends c.shorten_in_latest.new.latest.by_replica.entries c.shorten_in_latest.ensures
