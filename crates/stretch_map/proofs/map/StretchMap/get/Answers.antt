use Rattle.std.proofs.Common.{ap, sym, ◌∙◌}
use Rattle.std.specs.FinMap as map
use Rattle.stretch_map.specs.Contents.{layout}
use Rattle.stretch_map.proofs.MapLemmas.{get-contents}
use Rattle.stretch_map.proofs.map.StretchMap.get.Goals as goal

pub returns : goal.returns
returns g c =
    c.value_at.ensures ∙ sym (get-contents g.V.Follows.nth (layout c.self.inside.stretches) c.args.key) ∙ ap (λ h. map.get h.values c.args.key) c.self.view_is
