use Rattle.std.proofs.Common.{◌-◌, ◌≤◌, length}
use Rattle.causal_inbox.specs.Gap.{gaps_before}
use Rattle.causal_inbox.proofs.gapped.gaps_before.Given as goal

abbrev pub invariant-halves : goal.invariant-halves
invariant-halves l = record {
  order : l.low ≤ l.high;
  within : l.high ≤ length l.gaps;
  least : l.low ≤ gaps_before l.gaps l.place;
  most : gaps_before l.gaps l.place ≤ l.high;
}

abbrev pub decreases-halves : goal.decreases-halves
decreases-halves l = l.high - l.low
