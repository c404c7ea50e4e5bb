-- A map as a partial function.
use Rattle.std.specs.Prelude.{◌≡◌, Option, None}
use Rattle.fugue_ids.specs.Identifiers.{Identifier}
use Rattle.block_map.specs.Blocks.{block_value}
use Rattle.block_map.specs.declared.map.BlockMap.{BlockMap}

-- the value of an identifier
unfoldable pub value_of : {V : Type 0} → BlockMap V → Identifier → Option V
value_of m = block_value m.blocks

-- no identifier has a value
abbrev pub IsEmpty : {V : Type 0} → BlockMap V → Type 0
IsEmpty m = (q : Identifier) → value_of m q ≡ None

-- each identifier has in n what it has in m
abbrev pub HasSameValues : {V : Type 0} → BlockMap V → BlockMap V → Type 0
HasSameValues m n = (q : Identifier) → value_of n q ≡ value_of m q
