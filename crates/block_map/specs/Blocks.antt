-- Blocks under their keys, as a partial function of identifiers.
use Rattle.std.specs.Prelude.{◌≡◌, ℕ, ◌/◌, ◌<◌, length, Option, None, Some, IsSome}
use Rattle.std.specs.BTreeMap.{BTreeMap, get}
use Rattle.std.specs.BTreeMap.Range.{IsLeBy, IsLtBy}
use Rattle.fugue_ids.specs.Identifiers.{Identifier, id_cmp}
use Rattle.block_map.specs.Columns.{value_beside}
use Rattle.block_map.specs.declared.block.Block.{Block}

-- the value that a counter has in a block
abbrev pub value_at : {V : Type 0} → Block V → ℕ → Option V
value_at b = value_beside b.counters.items b.values.items

-- the same where there may be no block
abbrev pub value_within : {V : Type 0} → Option (Block V) → ℕ → Option V
value_within None c = None
value_within (Some b) c = value_at b c

-- the key of an identifier's block: 64 counters of a replica have one
abbrev pub block_of : Identifier → Identifier
block_of id = record { replica = id.replica; counter = id.counter / 64 }

-- another counter of the replica
abbrev pub with_counter : Identifier → ℕ → Identifier
with_counter id c = record { replica = id.replica; counter = c }

-- the value that an identifier has in the blocks
abbrev pub block_value : {V : Type 0} → BTreeMap Identifier (Block V) → Identifier → Option V
block_value m id = value_within (get id_cmp m (block_of id)) id.counter

-- a block under its key has a value, and only such as belong there
pub record IsBlockAt {V : Type 0} (key : Identifier) (b : Block V) : Type 0 where
  pub some : 0 < length b.counters.items
  pub belongs : (c : ℕ) → IsSome (value_at b c) → c / 64 ≡ key.counter

-- so are all blocks
abbrev pub AreBlocks : {V : Type 0} → BTreeMap Identifier (Block V) → Type 0
AreBlocks {V} m = (key : Identifier) (b : Block V) → get id_cmp m key ≡ Some b → IsBlockAt key b

-- q is in the block of an identifier, and not above that
abbrev pub IsUpToInBlock : Identifier → Identifier → Type 0
IsUpToInBlock id q = (block_of q ≡ block_of id) × IsLeBy id_cmp q id

-- q is in a block before the one under the key
abbrev pub IsInBlockBefore : Identifier → Identifier → Type 0
IsInBlockBefore key q = IsLtBy id_cmp (block_of q) key
