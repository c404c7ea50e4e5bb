use Rattle.std.proofs.Common.{ap, sym, ◌+◌, ◌-◌, ◌∙◌, arith}
use Rattle.std.specs.FinMap as map
use Rattle.fugue_ids.specs.Identifiers.{Identifier}
use Rattle.stretch_map.specs.Contents.{layout}
use Rattle.stretch_map.proofs.MapLemmas.{free_by, get-contents}
use Rattle.stretch_map.proofs.map.StretchMap.is_free.Goals as goal

pub returns : goal.returns
returns g c =
    let old = layout c.self.inside.stretches in
    let first = ap (λ (k : Identifier). k.counter) c.first.view_is in
    free_by g.V.Follows.nth old (map.get c.args.self.now.values)
    (λ q. sym (ap (λ h. map.get h.values q) c.self.view_is) ∙ get-contents g.V.Follows.nth old q) c.args.first c.args.count
    (c.first.inside.counter + (c.args.count - 1)) (omega (arith, c.if-count-eq0.false))
    (ap (λ n. n + (c.args.count - 1)) first) c.is_free.result c.is_free.ensures.yes c.is_free.ensures.no
