use Rattle.std.proofs.Common.{List, ℕ, length, ap, arith}
use Rattle.std.specs.Str.{chars}
use Rattle.cluster_text.proofs.IndexLemmas.{index_count}
use Rattle.cluster_text.proofs.index.ClusterIndex.len.Goals as goal

pub overflow_sub-result : goal.overflow_sub-result
overflow_sub-result c = omega (arith, index_count _ _ c.self.invariant)

pub returns : goal.returns
returns c = omega (arith, index_count _ _ c.self.invariant, ap (λ (t : List ℕ). length (chars t)) c.self.view_is)
