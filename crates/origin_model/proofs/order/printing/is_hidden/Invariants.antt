use Rattle.origin_model.proofs.Words.{is_hidden, length, reverse, take, ◌≡◌, ◌≤◌}
use Rattle.origin_model.proofs.order.printing.is_hidden.Given as goal

abbrev pub invariant-scan : goal.invariant-scan
invariant-scan l = record { rest : is_hidden (reverse (take l.i l.ops)) l.id ≡ is_hidden (reverse l.ops) l.id; within : l.i ≤ length l.ops }

abbrev pub decreases-scan : goal.decreases-scan
decreases-scan l = l.i
