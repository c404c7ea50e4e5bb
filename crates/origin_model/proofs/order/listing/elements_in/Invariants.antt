use Rattle.origin_model.proofs.Words.{drop, ◌++◌, ◌≡◌}
use Rattle.origin_model.specs.order.Listed.{elements_at}
use Rattle.origin_model.proofs.order.listing.elements_in.Given as goal

abbrev pub invariant-scan : goal.invariant-scan
invariant-scan l = l.found.items ++ elements_at l.place (drop l.e-index l.listed) ≡ elements_at l.place l.listed
