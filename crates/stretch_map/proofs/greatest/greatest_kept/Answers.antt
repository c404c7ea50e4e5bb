use Rattle.std.proofs.Common.{subst, sym}
use Rattle.stretch_map.specs.Contents.{layout}
use Rattle.stretch_map.specs.Stretches.{IsGreatestOf, KeepsEntry}
use Rattle.stretch_map.proofs.GreatestLemmas.{greatest_by}
use Rattle.stretch_map.proofs.greatest.greatest_kept.Goals as goal

pub returns : goal.returns
returns g c =
    subst (IsGreatestOf (KeepsEntry c.args.stretches.now.kept.entries) c.args.replica) (sym c.last_counter.ensures)
    (greatest_by g.V.Follows.nth g.V.Follows.reaches
    (layout c.args.stretches.now) c.requires.are c.args.replica c.last_kept.result c.last_kept.ensures.none c.last_kept.ensures.some)
