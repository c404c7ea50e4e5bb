-- An origin as two numbers.
use Rattle.std.specs.Prelude.{◌≡◌, ℕ, zero, suc, Option, None, Some}
use Rattle.fugue_ids.specs.Identifiers.{Identifier}
use Rattle.run_store.specs.declared.run.Origin.TheInside.{Inside}

-- the origin of these two numbers: None where the first is 0, which no replica has
abbrev pub id_if : ℕ → ℕ → Option Identifier
id_if zero counter = None
id_if (suc n) counter = Some (record { replica = suc n; counter = counter })

-- the two numbers of an origin: None has two zeros
abbrev pub origin_parts : Option Identifier → Inside
origin_parts None = record { replica = 0; counter = 0 }
origin_parts (Some id) = record { replica = id.replica; counter = id.counter }

-- these are the two numbers of an origin: with the replica 0 the counter is 0 too
abbrev pub IsExact : Inside → Type 0
IsExact o = origin_parts (id_if o.replica o.counter) ≡ o
