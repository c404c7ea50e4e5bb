use Rattle.std.proofs.Common.{reverse, ◌≡◌}
use Rattle.std.specs.Prelude.{map}
use Rattle.catalogue_notes.specs.Lift.{retitles}
use Rattle.catalogue_notes.specs.Readings.{candidate_of}
use Rattle.replica_core.proofs.WalkLemmas.{Walks}
use Rattle.catalogue_notes.proofs.LiftingLemmas.{Passed}
use Rattle.catalogue_notes.proofs.retitles.retitles_of.Given as goal

abbrev pub invariant-walk : goal.invariant-walk
invariant-walk l = Walks (λ i. reverse l.candidates.items ≡ map candidate_of (retitles (Passed (reverse l.replica.held.history) i)))
    (reverse l.replica.held.history) l.at-items l.at-index
