-- Keys of identifiers that follow one another.
use Rattle.std.specs.Prelude.{◌≡◌, ℕ, ◌<◌, List, IsSome}
use Rattle.std.specs.BTreeMap.{BTreeMap, get}
use Rattle.fugue_ids.specs.Identifiers.{Identifier}
use Rattle.fugue_ids.specs.Runs.{id_after}
use Rattle.causal_inbox.specs.Lists.{key_cmp}
use Rattle.causal_inbox.specs.declared.key.Key.{Key}

-- a key of one of the n identifiers from this one on has a list
pub record HasListFrom (lists : BTreeMap Key (List ℕ)) (first : Identifier) (n : ℕ) : Type 0 where
  pub key : Key
  pub k : ℕ
  pub within : k < n
  pub of_one : key.id ≡ id_after first k
  pub there : IsSome (get key_cmp lists key)
