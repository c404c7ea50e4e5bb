use Rattle.std.proofs.Common.{ap, sym, ◌∙◌}
use Rattle.std.specs.FinMap as map
use Rattle.stretch_map.specs.Contents.{layout}
use Rattle.stretch_map.proofs.GreatestLemmas.{greatest_as}
use Rattle.stretch_map.proofs.MapLemmas.{get-contents}
use Rattle.stretch_map.proofs.map.StretchMap.greatest.Goals as goal

pub returns : goal.returns
returns g c =
    greatest_as _ (map.get c.args.self.now.values) c.args.replica c.greatest.result
    (λ q. sym (get-contents g.V.Follows.nth (layout c.self.inside.stretches) q) ∙ ap (λ h. map.get h.values q) c.self.view_is) c.greatest.ensures
