use Rattle.std.proofs.Common.{length, ◌+◌, ◌≡◌}
use Rattle.manuscript_cli.specs.SectionCounts.{count_of_kind}
use Rattle.manuscript_cli.proofs.section_counts.count_of.Given as goal

-- those that were counted, and those among what is left
abbrev pub invariant-ops : goal.invariant-ops
invariant-ops l = l.count + count_of_kind l.replica.held.history l.rest l.change ≡ count_of_kind l.fn.replica.held.history l.fn.ops l.fn.change

abbrev pub decreases-ops : goal.decreases-ops
decreases-ops l = length l.rest
