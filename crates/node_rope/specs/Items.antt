-- The rope as the list of its items.
use Rattle.std.specs.Prelude.{◌≡◌, ℕ, ◌<◌, List, Option, Some, option_map, option_to_list, flat_map, slice_get}
use Rattle.std.specs.Map.{lookup}
use Rattle.fugue_ids.specs.Identifiers.{Identifier, id_eq}
use Rattle.block_map.specs.Contents.{value_of}
use Rattle.block_map.specs.declared.map.BlockMap.{BlockMap}
use Rattle.node_rope.specs.declared.store.Store.{Store}
use Rattle.node_rope.specs.declared.cells.Link.{Link}
use Rattle.node_rope.specs.declared.cells.Own.{Own}
use Rattle.node_rope.specs.Made.{IsMade, made_count, shapes_of, values_of}
use Rattle.node_rope.specs.Shapes.{AreRanksFit, HasRightLinks, nodes_in_order, shape_at}

-- the value of the item with the key k
abbrev pub value_under : {T : Type 0} → Identifier → List (Identifier × T) → Option T
value_under k = lookup (λ q. id_eq q k)

-- the key and the value of a node, if it is there
abbrev pub item_at : {T : Type 0} → Store T → ℕ → List (Identifier × T)
item_at s i = option_to_list (option_map (λ n. (n.shape.key, n.value)) (slice_get s.pile.values i))

-- the keys and values of a rope, in order
abbrev pub rope_items_of : {T : Type 0} → Store T → Option Link → List (Identifier × T)
rope_items_of s root = flat_map (item_at s) (nodes_in_order s root)

-- what a value counts for
abbrev pub own_of : {T : Type 0} → (T → ℕ) → (T → ℕ) → T → Own
own_of weight_of rank_of v = record { weight = weight_of v; rank = rank_of v }

-- the store's tree is sound and light, each node tells what its value counts for, and the map has each node under its key and no other
pub record IsRope {T : Type 0} (counts_for : T → Own) (s : Store T) (root : Option Link) (m : BlockMap Link) : Type 0 where
  pub sound : HasRightLinks s root
  pub few : made_count s < 4194305
  pub light : (i : ℕ) → (shape_at (shapes_of s) i).own.weight < 4194305
  pub fits : AreRanksFit (shapes_of s)
  pub weighs : (i : ℕ) (v : T) → slice_get (values_of s) i ≡ Some v → (shape_at (shapes_of s) i).own ≡ counts_for v
  pub mapped : (k : Identifier) (l : Link) → value_of m k ≡ Some l → IsMade s l
  pub keyed : (k : Identifier) (l : Link) → value_of m k ≡ Some l → (shape_at (shapes_of s) l.number).key ≡ k
  pub listed : (i : ℕ) → i < made_count s → (l : Link) × (l.number ≡ i) × (value_of m (shape_at (shapes_of s) i).key ≡ Some l)
