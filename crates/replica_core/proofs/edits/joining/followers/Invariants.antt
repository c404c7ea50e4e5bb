use Rattle.replica_core.proofs.DeletingLemmas.{IsRow}
use Rattle.replica_core.proofs.edits.joining.followers.Given as goal

abbrev pub invariant-row : goal.invariant-row
invariant-row l = IsRow l.rest l.fn.first l.id-index l.count l.last
