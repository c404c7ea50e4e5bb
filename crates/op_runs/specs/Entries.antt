-- The entries into which a list of operations parts, each as long as it can be, from the front.
use Rattle.std.specs.Prelude.{◌≡◌, ℕ, ◌<◌, Bool, All, List, [], ◌∷◌, ◌++◌, length, flat_map}
use Rattle.fugue_ids.specs.Identifiers.{Identifier}
use Rattle.fugue_ids.specs.Runs.{run_from}
use Rattle.fugue_ids.specs.declared.op.Op.{Op}
use Rattle.fugue_ids.specs.declared.run.RunStart.{RunStart}
use Rattle.op_runs.specs.Deletions.{CountersFit, deletes_by}

-- what can be one entry: a run, Deletes of neighbours in one direction, or an operation alone
pub data Entry : Type 0 where
  Run : RunStart → List ℕ → Entry
  Neighbours : (down : Bool) → Identifier → ℕ → Entry
  Alone : Op → Entry

-- its operations
abbrev pub entry_ops : Entry → List Op
entry_ops (Run start text) = run_from start text
entry_ops (Neighbours down target n) = deletes_by down target n
entry_ops (Alone op) = op ∷ []

-- it is not empty, and its targets are there
abbrev pub IsSoundEntry : Entry → Type 0
IsSoundEntry (Run start text) = 0 < length text
IsSoundEntry (Neighbours down target n) = (0 < n) × CountersFit down target n
IsSoundEntry (Alone op) = Unit {0}

-- no entry has the operations of this one and the first of the next
abbrev pub IsMaximal : Entry → List Entry → Type 0
IsMaximal entry [] = Unit {0}
IsMaximal entry (next ∷ others) =
    (more : Entry) (op : Op) (rest : List Op) → IsSoundEntry more → entry_ops next ≡ op ∷ rest
    → entry_ops more ≡ entry_ops entry ++ op ∷ [] → ⊥

-- each is as long as can be
abbrev pub AreMaximal : List Entry → Type 0
AreMaximal [] = Unit {0}
AreMaximal (entry ∷ others) = IsMaximal entry others × AreMaximal others

-- the operations part into so many entries, each as long as can be
pub record IsPartedIn (ops : List Op) (count : ℕ) : Type 0 where
  pub found : List Entry
  pub are_entries : All IsSoundEntry found
  pub ops_are : ops ≡ flat_map entry_ops found
  pub longest : AreMaximal found
  pub counted : count ≡ length found
