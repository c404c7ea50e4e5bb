use Rattle.origin_model.proofs.Words.{drop, length, take, ◌+◌, ◌-◌, ◌≡◌, ◌≤◌}
use Rattle.origin_model.specs.order.Listed.{elements_at}
use Rattle.origin_model.proofs.order.listing.end_of.Given as goal

abbrev pub invariant-scan : goal.invariant-scan
invariant-scan l = record {
  within : l.i ≤ length l.listed;
  counted : length (elements_at l.place (take l.i l.listed)) ≡ l.seen;
  rest : l.seen + length (elements_at l.place (drop l.i l.listed)) ≡ length (elements_at l.place l.listed);
  small : l.seen ≤ l.count;
  below : l.seen ≤ l.i;
}

abbrev pub decreases-scan : goal.decreases-scan
decreases-scan l = length l.listed - l.i
