-- The order of a place without nodes, and of one with a node at the start.
use Rattle.std.proofs.Common.{[], ap, refl, ◌∙◌, ◌∷◌, ◌≡◌}
use Rattle.std.specs.Prelude.{None}
use Rattle.std.specs.List.{insert}
use Rattle.fugue_ids.specs.Identifiers.{Identifier}
use Rattle.fugue_ids.specs.Listed.{index_of}
use Rattle.fugue_ids.proofs.IdentifierLemmas.{index_of-here}
use Rattle.origin_model.specs.order.Order.{order}
use Rattle.origin_model.specs.sides.Keys.{keyed_order, new_keyed}
use Rattle.origin_model.specs.sides.Node.{node_order}
use Rattle.origin_model.specs.declared.operations.node.Node.{Node}
use Rattle.origin_model.proofs.SharedLemmas.{keyed_joins}

pub none_listed : keyed_order [] ≡ []
unfolding order
none_listed = refl

-- a node at the start
abbrev alone : Identifier → Node
alone x = record { id = x; left = None; right = None }

one_order : (x : Identifier) → node_order (alone x ∷ []) ≡ x ∷ []
unfolding order
one_order x = refl

pub one_listed : (x : Identifier) → keyed_order (alone x ∷ []) ≡ record { id = x; key = record { depth = 1; forest = 0 } } ∷ []
one_listed x =
    keyed_joins (alone x) [] (record { fresh = refl; left = refl; right = refl }, tt)
    ∙ ap (λ k. insert (keyed_order []) k (new_keyed [] (alone x))) (ap (λ l. index_of l x) (one_order x) ∙ index_of-here x [] x refl)
    ∙ ap (λ l. insert l 0 (new_keyed [] (alone x))) none_listed
