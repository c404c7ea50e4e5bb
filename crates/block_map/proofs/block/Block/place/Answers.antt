use Rattle.std.proofs.Common.{subst}
use Rattle.std.specs.List.Sorted.{IsBinarySearchResult}
use Rattle.std.specs.Ordering.{nat_cmp}
use Rattle.block_map.proofs.ColumnLemmas.{found_place}
use Rattle.block_map.proofs.block.Block.place.Goals as goal

pub returns-clause-absent : goal.returns-clause-absent
returns-clause-absent g c =
    let b = c.args.self.now in
    (found_place b.counters.items b.ascending c.args.counter c.binary_search.result
    (subst (λ xs. IsBinarySearchResult (λ y. nat_cmp y c.args.counter) xs c.binary_search.result) c.deref.ensures.value c.binary_search.ensures.position)).absent
