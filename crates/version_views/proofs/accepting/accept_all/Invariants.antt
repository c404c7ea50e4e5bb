use Rattle.std.proofs.Common.{take}
use Rattle.version_views.specs.Accepting.{IsAccepting}
use Rattle.version_views.proofs.accepting.accept_all.Given as goal

-- what is left is to be accepted yet
abbrev pub invariant-stretches : goal.invariant-stretches
invariant-stretches l = IsAccepting l.initial.front l.front (take l.fn.count l.fn.ops) l.rest l.left

abbrev pub decreases-stretches : goal.decreases-stretches
decreases-stretches l = l.left
