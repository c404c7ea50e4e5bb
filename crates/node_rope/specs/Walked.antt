-- Where a walk along the items stands.
use Rattle.std.specs.Prelude.{◌≡◌, ◌<◌, ℕ, Option, slice_get}
use Rattle.node_rope.specs.declared.store.Store.{Store}
use Rattle.node_rope.specs.declared.cells.Link.{Link}
use Rattle.node_rope.specs.Made.{made_count}
use Rattle.node_rope.specs.Shapes.{AreMade, HasRightLinks, link_number, nodes_in_order}

-- o is the node after `passed` others of a sound tree
pub record IsNext {T : Type 0} (s : Store T) (root : Option Link) (passed : ℕ) (o : Option Link) : Type 0 where
  pub sound : HasRightLinks s root
  pub few : made_count s < 4194305
  pub made : AreMade s o
  pub is : link_number o ≡ slice_get (nodes_in_order s root) passed
