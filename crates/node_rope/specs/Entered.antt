-- What becomes of a store and its map as a node is entered.
use Rattle.std.specs.Prelude.{◌≡◌, Some}
use Rattle.fugue_ids.specs.Identifiers.{Identifier}
use Rattle.fugue_ids.specs.Keyed.{IsReplaced}
use Rattle.block_map.specs.Contents.{HasSameValues, value_of}
use Rattle.node_rope.specs.Made.{IsAlike}
use Rattle.node_rope.specs.declared.cells.Link.{Link}
use Rattle.node_rope.specs.declared.links.KeyMap.{KeyMap}
use Rattle.node_rope.specs.declared.rope.Back.{Back}
use Rattle.node_rope.specs.declared.store.Store.{Store}

-- in n the key leads to the node of the link, and each other key to where it leads in m
abbrev pub LeadsTo : KeyMap → KeyMap → Identifier → Link → Type 0
LeadsTo m n key l = IsReplaced (value_of m.links) (value_of n.links) key (Some l)

-- v comes back, t holds what s does, and each key leads in n to where it leads in m
pub record IsGivenBack {T : Type 0} (s t : Store T) (m n : KeyMap) (v : T) (b : Back T) : Type 0 where
  pub value : b.value ≡ v
  pub alike : IsAlike s t
  pub links : HasSameValues m.links n.links
