-- Where the operations stand that name an identifier.
use Rattle.std.specs.Prelude.{Bool, Contains, List, flat_map, ℕ, ◌<◌}
use Rattle.std.specs.List.{list_any}
use Rattle.fugue_ids.specs.Identifiers.{Identifier, id_eq}
use Rattle.fugue_ids.specs.Runs.{id_after}
use Rattle.fugue_ids.specs.declared.op.Op.{Op}
use Rattle.origin_model.specs.operations.Counters.{mentioned_ids}
use Rattle.origin_model.specs.operations.Verdict.{names}
use Rattle.causal_inbox.specs.Positions.{positions_from}

-- the operation rests on the identifier
abbrev pub is_naming : Identifier → Op → Bool
is_naming i op = list_any (λ named. id_eq named.0 i) (names op)

-- the positions of the operations that rest on the identifier, in order
abbrev pub naming : Identifier → List Op → List ℕ
naming i ops = positions_from 0 (is_naming i) ops

-- the operations have or name one of the n identifiers from this one on
pub record AreConcerned (ops : List Op) (first : Identifier) (n : ℕ) : Type 0 where
  pub k : ℕ
  pub within : k < n
  pub found : Contains (flat_map mentioned_ids ops) (id_after first k)
