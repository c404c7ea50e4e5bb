-- Invariants of a replica, between calls and while it takes operations in.
use Rattle.std.specs.Prelude.{◌≡◌, ℕ, Bool, List}
use Rattle.fugue_ids.specs.declared.op.Op.{Op}
use Rattle.causal_inbox.specs.Waiting.{OpenWaiting}
use Rattle.replica_core.specs.Due.{due_marks}
use Rattle.origin_model.specs.edits.State.{State, IsSound}

-- a replica of this number, with these limits, accepted operations and waiting ones
abbrev pub replica_state : (number hold most : ℕ) → List Op → OpenWaiting → State
replica_state number hold most history inbox =
    record { number = number; hold = hold; most = most; held = record { history = history; waiting = inbox.ops } }

-- as many may wait as the replica tells, and the marks are those of the operations that can leave
pub record MatchesState (s : State) (inbox : OpenWaiting) (due : List Bool) : Type 0 where
  pub same_hold : inbox.hold ≡ s.hold
  pub sound : IsSound s
  pub marks : due ≡ due_marks s.held.history s.held.waiting

-- a replica that takes operations in, and how many gaps its inbox has
pub record OpenState : Type 0 where
  pub state : State
  pub gaps : ℕ

-- what it keeps between two calls: the waiting operations lie in one slice too
pub record IsAtRest (s : OpenState) : Type 0 where
  pub sound : IsSound s.state
  pub no_gap : s.gaps ≡ 0
