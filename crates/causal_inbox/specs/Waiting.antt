-- An inbox, as contracts see it, and the same while many leave.
use Rattle.std.specs.Prelude.{◌≤◌, ℕ, List, length}
use Rattle.std.specs.BTreeMap.{BTreeMap}
use Rattle.fugue_ids.specs.declared.op.Op.{Op}
use Rattle.causal_inbox.specs.Index.{IsAgeIndex}
use Rattle.causal_inbox.specs.Keyed.{HasNoEmpty}
use Rattle.causal_inbox.specs.Lists.{ages_under, key_cmp}
use Rattle.causal_inbox.specs.declared.key.Key.{Key}

-- what waits, in the order in which it came, and how many may wait
pub record Waiting : Type 0 where
  pub ops : List Op
  pub hold : ℕ

-- the same, and how many gaps are among what waits, where operations left
pub record OpenWaiting : Type 0 where
  pub ops : List Op
  pub hold : ℕ
  pub gaps : ℕ

-- what waits is no more than may, and is found by the lists of ages
pub record IsIndexed (ops : List Op) (hold : ℕ) (ages : List ℕ) (lists : BTreeMap Key (List ℕ)) : Type 0 where
  pub within : length ops ≤ hold
  pub index : IsAgeIndex ops ages (ages_under lists)
  pub no_empty : HasNoEmpty key_cmp lists
