use Rattle.std.proofs.Common.{reverse}
use Rattle.catalogue_notes.specs.Lifting.{IsLifting}
use Rattle.replica_core.proofs.WalkLemmas.{Walks}
use Rattle.catalogue_notes.proofs.LiftingLemmas.{Passed}
use Rattle.catalogue_notes.proofs.lifting.Lifted.of.Given as goal

abbrev pub invariant-walk : goal.invariant-walk
invariant-walk l = Walks (λ i. IsLifting (Passed (reverse l.replica.held.history) i) l.lifted.list l.lifted.moves.items) (reverse l.replica.held.history) l.at-items l.at-index
