-- Keys of small lists, and gaps found by them, computed from the definitions. Each list of nodes is written newest first.
use Rattle.std.specs.Prelude.{◌≡◌, ℕ, Option, Some, None, List, [], ◌∷◌, refl}
use Rattle.fugue_ids.specs.Identifiers.{Identifier}
use Rattle.fugue_ids.specs.Keys.{Keyed}
use Rattle.fugue_ids.specs.declared.key.Gap.{Gap}
use Rattle.fugue_ids.specs.declared.key.Gap.TheVariants.{After, Alone, Before}
use Rattle.origin_model.specs.declared.operations.node.Node.{Node}
use Rattle.origin_model.specs.declared.sides.Slot.{Slot}
use Rattle.origin_model.specs.order.Order.{chain, order}
use Rattle.origin_model.specs.sides.KeyedGap.{block_end, block_start, gap_by_keys, slot_key}
use Rattle.origin_model.specs.sides.Keys.{search_key_of, keyed_order}
use Rattle.origin_model.specs.sides.Node.{as_op, as_ops, node_order}
use Rattle.origin_model.specs.sides.Slot.{goes_before, slot_by}

abbrev id : ℕ → ℕ → Identifier
id replica counter = record { replica = replica; counter = counter }

abbrev at : ℕ → ℕ → Option Identifier
at replica counter = Some (id replica counter)

abbrev node : Identifier → Option Identifier → Option Identifier → Node
node x left right = record { id = x; left = left; right = right }

abbrev keyed_by : Identifier → ℕ → ℕ → Keyed
keyed_by x depth forest = record { id = x; key = record { depth = depth; forest = forest } }

-- the gap of a new node, found by keys
abbrev gap_of : Node → List Node → Gap
gap_of n ns =
    let s : Slot = slot_by (as_ops ns) n.left n.right in
    gap_by_keys (keyed_order ns) s (slot_key (as_ops ns) s) (goes_before (node_order ns) (as_ops ns) (as_op n) n.id)

-- three letters, each typed after the one before
abbrev typed : List Node
typed = node (id 1 2) (at 1 1) None ∷ node (id 1 1) (at 1 0) None ∷ node (id 1 0) None None ∷ []

typed_keys : keyed_order typed ≡ keyed_by (id 1 0) 1 0 ∷ keyed_by (id 1 1) 2 0 ∷ keyed_by (id 1 2) 3 0 ∷ []
unfolding chain order
typed_keys = refl

-- B at the end; A and D before B; X and Y after A, X before B and Y before D
abbrev concurrent : List Node
concurrent =
    node (id 2 1) (at 1 1) (at 2 0) ∷ node (id 3 0) (at 1 1) (at 1 0) ∷ node (id 2 0) None (at 1 0) ∷ node (id 1 1) None (at 1 0) ∷ node (id 1 0) None None ∷ []

-- A, X, Y, D, B
concurrent_keys :
    keyed_order concurrent ≡ keyed_by (id 1 1) 1 1 ∷ keyed_by (id 3 0) 2 0 ∷ keyed_by (id 2 1) 2 0 ∷ keyed_by (id 2 0) 1 1 ∷ keyed_by (id 1 0) 1 0 ∷ []
unfolding chain order
concurrent_keys = refl

-- a letter at each end of the list; after X, which has an earlier sibling's place to itself; before D, after the earlier one
-- sibling A and its block
concurrent_gaps :
    (gap_of (node (id 4 0) None (at 1 1)) concurrent ≡ Before (id 1 1)) × (gap_of (node (id 4 0) (at 1 0) None) concurrent ≡ After (id 1 0))
    × (gap_of (node (id 4 0) (at 3 0) (at 2 1)) concurrent ≡ After (id 3 0)) × (gap_of (node (id 1 9) None (at 1 0)) concurrent ≡ After (id 2 1))
    × (gap_of (node (id 1 9) None None) concurrent ≡ After (id 1 0)) × (gap_of (node (id 1 0) None None) [] ≡ Alone)
unfolding chain order
concurrent_gaps = (refl, refl, refl, refl, refl, refl)

-- P, C after P, and Q at the start: the block of Q begins at Q, though P is the last before Q whose key is no greater
abbrev apart : List Node
apart = node (id 2 0) None None ∷ node (id 1 1) (at 1 0) None ∷ node (id 1 0) None None ∷ []

apart_blocks :
    (keyed_order apart ≡ keyed_by (id 1 0) 1 0 ∷ keyed_by (id 1 1) 2 0 ∷ keyed_by (id 2 0) 1 0 ∷ [])
    × (block_start (keyed_order apart) (search_key_of (as_ops apart) (id 2 0)) (id 2 0) ≡ id 2 0) × (block_end (keyed_order apart) 1 (id 1 0) ≡ id 1 1)
unfolding chain order
apart_blocks = (refl, refl, refl)
