use Rattle.origin_model.proofs.Words.{drop, length, ◌+◌, ◌-◌, ◌≡◌, ◌≤◌}
use Rattle.fugue_ids.specs.Listed.{index_of}
use Rattle.origin_model.proofs.order.comparison.index_of.Given as goal

abbrev pub invariant-scan : goal.invariant-scan
invariant-scan l = record { rest : l.i + index_of (drop l.i l.finished) l.x ≡ index_of l.finished l.x; within : l.i ≤ length l.finished }

abbrev pub decreases-scan : goal.decreases-scan
decreases-scan l = length l.finished - l.i
