use Rattle.std.proofs.Common.{ap, refl}
use Rattle.fugue_ids.specs.Identifiers.{Identifier}
use Rattle.stretch_map.proofs.ReadLemmas.{none_kept}
use Rattle.stretch_map.proofs.TakenLemmas.{none_by_floor, none_to_lose, taken_after}
use Rattle.stretch_map.specs.Contents.{layout}
use Rattle.stretch_map.proofs.take_out.take_kept.Goals as goal

pub returns-in_default-clause-ok : goal.returns-in_default-clause-ok
returns-in_default-clause-ok g c =
    none_to_lose g.V.Follows.nth g.V.Follows.reaches (layout c.args.stretches.now) c.requires.are c.args.key c.requires.apart
    (none_kept g.V.Follows.nth c.args.stretches.now.kept.entries c.args.key c.in_default.ensures.none)

pub returns-then-not-covers-clause-ok : goal.returns-then-not-covers-clause-ok
returns-then-not-covers-clause-ok g c =
    let old = layout c.args.stretches.now in
    none_to_lose g.V.Follows.nth g.V.Follows.reaches old c.requires.are c.args.key c.requires.apart
    (none_by_floor g.V.Follows.nth g.V.Follows.reaches old c.requires.are c.args.key _ c.in-Some.ensures.some (c.if-not-covers.ensures.off refl))

pub returns-clause-ok : goal.returns-clause-ok
returns-clause-ok g c =
    let old = layout c.args.stretches.now in
    let mid = layout c.end_at.new.stretches in
    let parted = c.in_ok-end_at.ensures.ok in
    taken_after g.V.Follows.nth g.V.Follows.reaches old c.requires.are c.args.key mid _ parted (c.if-not-covers.ensures.on refl) c.shorten_kept.new.kept.entries
    c.key.inside.counter (ap (λ (k : Identifier). k.counter) c.key.view_is) c.shorten_kept.ensures
