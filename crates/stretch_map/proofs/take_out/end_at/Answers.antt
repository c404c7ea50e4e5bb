use Rattle.std.proofs.Common.{inr, subst, ◌<◌}
use Rattle.fugue_ids.specs.Identifiers.{Identifier}
use Rattle.stretch_map.proofs.TakenLemmas.{parted_kept}
use Rattle.stretch_map.specs.Contents.{layout}
use Rattle.stretch_map.proofs.take_out.end_at.Goals as goal

pub cut_after-requires-clause-reached : goal.cut_after-requires-clause-reached
cut_after-requires-clause-reached g c = c.requires.are.reached _ (inr c.requires.there)

pub returns-clause-ok : goal.returns-clause-ok
returns-clause-ok g c =
    parted_kept g.V.Follows.nth g.V.Follows.reaches (layout c.args.stretches.now) c.requires.are c.args.key g.met.V.Follows.adds g.met.V.Follows.goes_on
    (c.args.first, c.args.stretch.now)
    c.requires.there c.requires.covers (subst (λ (k : Identifier). k.counter < c.args.stretch.now.last) c.key.view_is c.if-stretch-key.false) c.cut_after.new.kept.entries
    c.in_ok-cut_after.ensures.ok
