-- A list without repetition stands in the order of its indexes.
use Rattle.std.proofs.Common.{List, arith, ◌∙◌, ◌≢◌}
use Rattle.std.specs.List.{AllPairs}
use Rattle.std.proofs.Common.{nat_lt}
use Rattle.std.proofs.lemmas.Bool.{lt-ltb}
use Rattle.fugue_ids.proofs.IdentifierLemmas.{index_of-at}
use Rattle.fugue_ids.specs.Identifiers.{Identifier}
use Rattle.origin_model.specs.order.Order.{IsOrderedBy}
use Rattle.only_order.specs.TextOrder.{stands_earlier}

-- members of a list without repetition stand in it by index
pub by_index : (xs : List Identifier) → AllPairs (λ x y. x ≢ y) xs → IsOrderedBy (stands_earlier xs) xs
by_index xs once i j d before within =
    (λ k. nat_lt (index_of-at xs i d once (omega (arith, before, within)) k) (index_of-at xs j d once within k)) ∙ lt-ltb i j before
