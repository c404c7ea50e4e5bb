use Rattle.std.proofs.Common.{reverse, take, ◌≡◌}
use Rattle.std.specs.Prelude.{map}
use Rattle.catalogue_notes.specs.Lift.{greatest}
use Rattle.catalogue_notes.specs.declared.reading.Candidate.{Candidate}
use Rattle.catalogue_notes.proofs.retitles.greatest_stamp.Given as goal

abbrev pub invariant-candidates : goal.invariant-candidates
invariant-candidates l = l.stamp ≡ greatest (map (λ (b : Candidate). b.stamp) (reverse (take l.candidate-index l.candidates)))
