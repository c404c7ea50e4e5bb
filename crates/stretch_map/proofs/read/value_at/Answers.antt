use Rattle.std.proofs.Common.{inl}
use Rattle.stretch_map.proofs.ReadLemmas.{latest_after, value_kept, value_latest}
use Rattle.stretch_map.specs.Contents.{layout}
use Rattle.stretch_map.proofs.read.value_at.Goals as goal

pub value_in-requires : goal.value_in-requires
value_in-requires g c = c.requires.reached _ (inl c.in-Some.ensures.some.latest)

pub returns-in-Some : goal.returns-in-Some
returns-in-Some g c =
    value_latest g.V.Follows.nth g.V.Follows.reaches (layout c.args.stretches.now) c.requires c.args.key _ c.in-Some.ensures.some c.value_in.result
    (c.value_in.ensures.none, c.value_in.ensures.some)

pub returns-in-None : goal.returns-in-None
returns-in-None g c =
    let old = layout c.args.stretches.now in
    value_kept g.V.Follows.nth g.V.Follows.reaches old c.requires c.args.key c.kept_value.result
    (latest_after g.V.Follows.nth g.V.Follows.reaches old c.requires c.args.key c.in-None.ensures.none) c.kept_value.ensures
