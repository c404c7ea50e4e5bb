use Rattle.std.proofs.Common.{drop, reverse}
use Rattle.replica_core.proofs.WalkLemmas.{Walks}
use Rattle.section_catalogue.proofs.PrintingLemmas.{IsUnderWay}
use Rattle.version_views.specs.Views.{versions_text}
use Rattle.version_views.proofs.LineLemmas.{lines_from}
use Rattle.version_views.proofs.printing.put_versions.Given as goal

-- a front of the lines was gathered, and those of the operations to come are the rest
abbrev pub invariant-walk : goal.invariant-walk
invariant-walk g l =
    Walks (λ i. IsUnderWay (g.O.Out.seen l.initial.output) (g.O.Out.seen l.output) l.initial.gather l.gather (versions_text l.replica.held.history l.replica.number)
    (lines_from l.replica.number l.replica.held.history (drop i (reverse l.replica.held.history)) i)) (reverse l.replica.held.history) l.count-items l.count-index
