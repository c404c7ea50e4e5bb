use Rattle.std.proofs.Common.{subst}
use Rattle.std.specs.Prelude.{None}
use Rattle.fugue_ids.specs.Identifiers.{Identifier}
use Rattle.stretch_map.proofs.KeptLemmas.{kept_becomes, shelved}
use Rattle.stretch_map.specs.Contents.{layout}
use Rattle.stretch_map.specs.Stretches.{LatestBecomes}
use Rattle.stretch_map.proofs.take_out.shelve_over.Goals as goal

pub returns-clause-same : goal.returns-clause-same
returns-clause-same g c =
    let old = c.args.stretches.now in
    let latest = c.remove.new.self.by_replica in
    let kept = c.insert.new.self in
    shelved g.V.Follows.nth g.V.Follows.reaches (layout old) (latest.entries, kept.entries) c.requires _ c.in-Some.ensures.some.latest
    (subst (λ (k : Identifier). LatestBecomes old.latest.by_replica.entries latest.entries k.replica None) c.first.view_is c.remove.ensures)
    (kept_becomes old.kept kept _ _ c.in_ok-insert.ensures.updates c.in_ok-insert.ensures.ordered)
