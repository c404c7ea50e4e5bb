-- The sessions of a relay that are over, each once.
use Rattle.std.specs.Prelude.{◌≡◌, ℕ, List, [], ◌∷◌, ◌++◌, length, nat_eq, if◌then◌else◌}
use Rattle.std.specs.BTreeSet.{BTreeSet, btree_set_len, contains}
use Rattle.std.specs.List.{list_any}
use Rattle.std.specs.Ordering.{nat_cmp}

-- each number once, in the order in which the sessions came to be over
abbrev pub over_once : List ℕ → ℕ → List ℕ
over_once over session = if list_any (nat_eq session) over then over else over ++ session ∷ []

-- the set has these numbers
pub record IsOver (set : BTreeSet ℕ) (over : List ℕ) : Type 0 where
  pub count : btree_set_len set ≡ length over
  pub same : (session : ℕ) → contains nat_cmp set session ≡ list_any (nat_eq session) over
