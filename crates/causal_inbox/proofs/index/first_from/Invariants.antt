use Rattle.std.proofs.Common.{◌-◌, ◌<◌, ◌≤◌, ℕ, get_or, length}
use Rattle.causal_inbox.proofs.index.first_from.Given as goal

abbrev pub invariant-halves : goal.invariant-halves
invariant-halves l = record {
  order : l.low ≤ l.high;
  within : l.high ≤ length l.ages.items;
  before : (k : ℕ) → k < l.low → get_or l.ages.items k 0 < l.age;
  behind : (k : ℕ) → l.high ≤ k → k < length l.ages.items → l.age ≤ get_or l.ages.items k 0;
}

abbrev pub decreases-halves : goal.decreases-halves
decreases-halves l = l.high - l.low
