use Rattle.std.proofs.Common.{length}
use Rattle.manuscript_cli.proofs.RevisingSinceLemmas.{AreTaken}
use Rattle.manuscript_cli.proofs.revise_since.take_all.Given as goal

abbrev pub invariant-ops : goal.invariant-ops
invariant-ops l = AreTaken l.fn.replica l.replica l.fn.ops l.rest

abbrev pub decreases-ops : goal.decreases-ops
decreases-ops l = length l.rest
