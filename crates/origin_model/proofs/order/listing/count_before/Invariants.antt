use Rattle.origin_model.proofs.Words.{before_in, count_by, length, reverse, ◌-◌, ◌≤◌}
use Rattle.origin_model.proofs.order.listing.count_before.Given as goal

abbrev pub invariant-halving : goal.invariant-halving
invariant-halving l = record {
  low : l.low ≤ count_by (λ e. before_in l.finished (reverse l.ops) e l.fn.x) l.finished;
  high : count_by (λ e. before_in l.finished (reverse l.ops) e l.fn.x) l.finished ≤ l.high;
  within : l.high ≤ length l.finished;
}

abbrev pub decreases-halving : goal.decreases-halving
decreases-halving l = l.high - l.low
