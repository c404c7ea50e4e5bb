use Rattle.std.proofs.Common.{length}
use Rattle.passage_search.proofs.PlaceLemmas.{Finds, left}
use Rattle.passage_search.proofs.places.places_of.Given as goal

abbrev pub invariant-places : goal.invariant-places
invariant-places l = Finds l.fn.text l.fn.passage l.places l.next

abbrev pub decreases-places : goal.decreases-places
decreases-places l = left (length l.fn.text) l.next
