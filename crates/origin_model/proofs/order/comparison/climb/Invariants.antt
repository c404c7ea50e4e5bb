use Rattle.origin_model.proofs.Words.{chain, length, reverse, take, ◌++◌, ◌≡◌, ◌≤◌}
use Rattle.origin_model.specs.order.Chain.{next_of}
use Rattle.origin_model.proofs.order.comparison.climb.Given as goal

abbrev pub invariant-scan : goal.invariant-scan
invariant-scan l = record {
  rest : chain (next_of l.chain) (reverse (take l.i l.ops)) l.current ++ reverse l.found.items ≡ chain (next_of l.chain) (reverse l.ops) l.fn.x;
  within : l.i ≤ length l.ops;
}

abbrev pub decreases-scan : goal.decreases-scan
decreases-scan l = l.i
