use Rattle.kept_promises.proofs.MergedLemmas.{revising_since_is_revise_then_merge}
use Rattle.kept_promises.proofs.RevisedLemmas.{since_is_revise_then_merge}
use Rattle.kept_promises.proofs.laws.revise_since_is_revise_then_merge.Goals as goal

pub returns-clause-given : goal.returns-clause-given
returns-clause-given c = since_is_revise_then_merge

pub returns-clause-done : goal.returns-clause-done
returns-clause-done c = revising_since_is_revise_then_merge
