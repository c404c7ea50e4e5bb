use Rattle.std.proofs.Common.{sym}
use Rattle.stretch_map.proofs.GreatestLemmas.{greatest_by_kept, greatest_by_latest}
use Rattle.stretch_map.specs.Contents.{layout}
use Rattle.stretch_map.proofs.greatest.greatest.Goals as goal

pub returns-in-Some : goal.returns-in-Some
returns-in-Some g c =
    greatest_by_latest g.V.Follows.nth g.V.Follows.reaches (layout c.args.stretches.now) c.requires.are c.args.replica (c.in-Some.field-0-0, c.in-Some.stretch)
    (sym c.in-Some.ensures)

pub returns-in-None : goal.returns-in-None
returns-in-None g c =
    greatest_by_kept g.V.Follows.nth g.V.Follows.reaches (layout c.args.stretches.now) c.requires.are c.args.replica (sym c.in-None.ensures) c.greatest_kept.result
    c.greatest_kept.ensures
