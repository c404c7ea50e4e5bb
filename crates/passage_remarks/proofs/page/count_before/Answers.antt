use Rattle.std.proofs.Common.{rules}
use Rattle.std.specs.Prelude.{nat_lt}
use Rattle.std.proofs.lemmas.List.Sorted.{IsPartitionPoint-from_clause, IsPartitionedBy-ltb}
use Rattle.passage_remarks.specs.declared.page.Boundary.{Boundary}
use Rattle.passage_remarks.proofs.BoundaryLemmas.{point-counts, scalars_before}
use Rattle.passage_remarks.proofs.page.count_before.Goals as goal

pub returns : goal.returns
returns c =
    let xs = c.args.boundaries.now in
    let at = c.args.at in
    let point = IsPartitionPoint-from_clause (λ (b : Boundary). nat_lt b.scalars at) xs c.partition_point.result c.partition_point.ensures.partitioned
    (IsPartitionedBy-ltb scalars_before xs at c.requires) (λ a r f h. search rules) in
    point-counts (λ (b : Boundary). nat_lt b.scalars at) xs c.partition_point.result c.partition_point.ensures.bound point
