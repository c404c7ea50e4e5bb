use Rattle.std.proofs.Common.{subst, sym}
use Rattle.section_catalogue.specs.Manuscript.{Represents}
use Rattle.replica_core.proofs.WithdrawnLemmas.{none_withdrawn}
use Rattle.replica_core.proofs.accepted.Accepted.new.Goals as goal

pub invariant_of-result : goal.invariant_of-result
invariant_of-result c = record {
  represents = subst (Represents c.new-2.result) (sym c.new.ensures) c.new-2.ensures.represents;
  withdrawn_are = none_withdrawn c.new-3.result.values c.new.result c.new-3.ensures.values c.new.ensures;
}
