-- The counters that operations mention.
use Rattle.std.specs.Prelude.{◌≡◌, ℕ, ◌≤◌, nat_eq, Option, List, [], ◌++◌, map, filter, flat_map, All, Contains, IsNone, IfSome, ◌↔◌}
use Rattle.std.specs.Prelude.{option_to_list}
use Rattle.fugue_ids.specs.Identifiers.{Identifier}
use Rattle.fugue_ids.specs.Ops.{id_of}
use Rattle.fugue_ids.specs.declared.op.Op.{Op}
use Rattle.origin_model.specs.operations.Verdict.{names}

-- the identifiers that an operation has or names
abbrev pub mentioned_ids : Op → List Identifier
mentioned_ids op = option_to_list (id_of op) ++ map (λ named. named.0) (names op)

-- the counters that a replica has among identifiers
abbrev pub counters_among : ℕ → List Identifier → List ℕ
counters_among replica ids = map (λ id. id.counter) (filter (λ id. nat_eq id.replica replica) ids)

-- the counters that a replica has among the identifiers that operations have or name
abbrev pub counters : ℕ → List Op → List ℕ
counters replica ops = counters_among replica (flat_map mentioned_ids ops)

-- the greatest member, or None where there is no member
pub record IsGreatest (numbers : List ℕ) (greatest : Option ℕ) : Type 0 where
  pub none : IsNone greatest ↔ (numbers ≡ [])
  pub member : IfSome greatest (λ n. Contains numbers n)
  pub bound : IfSome greatest (λ n. All (λ m. m ≤ n) numbers)
