use Rattle.std.proofs.Common.{ap, ℕ}
use Rattle.fugue_ids.specs.Identifiers.{Identifier}
use Rattle.stretch_map.proofs.FreeLemmas.{floor_not_free, free_by_floor, free_by_latest, free_by_none, latest_not_free}
use Rattle.stretch_map.specs.Contents.{layout}
use Rattle.stretch_map.proofs.free.is_free.Goals as goal

-- the last of the identifiers, by the counter
abbrev end : ℕ → Identifier → Identifier
end last first = record { replica = first.replica; counter = last }

pub returns-in-Some-clause-yes : goal.returns-in-Some-clause-yes
returns-in-Some-clause-yes g c = λ t.
    free_by_latest g.V.Follows.nth g.V.Follows.reaches (layout c.args.stretches.now) c.requires.are c.args.first c.args.last c.requires.some _
    (ap (end c.args.last) c.first.view_is) _
    c.in-Some.ensures.some (c.ends_before.ensures.yes t)

pub returns-in-Some-clause-no : goal.returns-in-Some-clause-no
returns-in-Some-clause-no g c = λ t.
    latest_not_free g.V.Follows.nth g.V.Follows.reaches (layout c.args.stretches.now) c.requires.are c.args.first c.args.last c.requires.some _
    (ap (end c.args.last) c.first.view_is) _
    c.in-Some.ensures.some (c.ends_before.ensures.no t)

pub returns-in-Some-floor-clause-yes : goal.returns-in-Some-floor-clause-yes
returns-in-Some-floor-clause-yes g c = λ t.
    free_by_floor g.V.Follows.nth g.V.Follows.reaches (layout c.args.stretches.now) c.requires.are c.args.first c.args.last c.requires.some _ (ap (end c.args.last) c.first.view_is)
    c.in_default.ensures.none _ c.in-Some-floor.ensures.some (c.ends_before-in-Some-floor.ensures.yes t)

pub returns-in-Some-floor-clause-no : goal.returns-in-Some-floor-clause-no
returns-in-Some-floor-clause-no g c = λ t.
    floor_not_free g.V.Follows.nth g.V.Follows.reaches (layout c.args.stretches.now) c.requires.are c.args.first c.args.last c.requires.some _
    (ap (end c.args.last) c.first.view_is)
    c.in_default.ensures.none _ c.in-Some-floor.ensures.some (c.ends_before-in-Some-floor.ensures.same t) (c.ends_before-in-Some-floor.ensures.no t)

pub returns-in-None-clause-yes : goal.returns-in-None-clause-yes
returns-in-None-clause-yes g c = λ t.
    free_by_none g.V.Follows.nth g.V.Follows.reaches (layout c.args.stretches.now) c.requires.are c.args.first c.args.last c.requires.some _ (ap (end c.args.last) c.first.view_is)
    c.in_default.ensures.none c.in-None.ensures.none
