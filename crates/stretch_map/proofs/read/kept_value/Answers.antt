use Rattle.stretch_map.proofs.ReadLemmas.{read_kept}
use Rattle.stretch_map.specs.Contents.{layout}
use Rattle.stretch_map.proofs.read.kept_value.Goals as goal

pub returns : goal.returns
returns g c =
    read_kept g.V.Follows.nth g.V.Follows.reaches (layout c.args.stretches.now) c.requires c.args.key _ c.in-Some.ensures.some c.value_in.result
    (c.value_in.ensures.none, c.value_in.ensures.some)
