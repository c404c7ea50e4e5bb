-- Worlds: replicas that authors edit and in which they make notes, and to which the operations that were made are
-- delivered, in whatever order and however often. A history and a pool are newest first.
use Rattle.std.specs.Prelude.{◌≡◌, ◌≢◌, ℕ, nat_eq, if◌then◌else◌, Some, None, List, [], ◌∷◌, map, flat_map, All, AllPairs}
use Rattle.std.specs.List.{list_all}
use Rattle.fugue_ids.specs.Identifiers.{Identifier}
use Rattle.fugue_ids.specs.declared.op.Op.{Op}
use Rattle.origin_model.specs.operations.History.{has_op, holds}
use Rattle.origin_model.specs.taking.Taking.{intake, nothing_held}
use Rattle.origin_model.specs.edits.Edits.{Command}
use Rattle.origin_model.specs.edits.State.{State}
use Rattle.origin_model.specs.edits.Refusal.{made_by, refusal_message}
use Rattle.origin_model.specs.edits.Effect.{with_ops}
use Rattle.origin_model.specs.edits.Noting.{note_by, note_refusal}

-- what happens in a world, one at a time
pub data Event : Type 0 where
  -- the author of the replica with this number edits
  Edit : (number : ℕ) → Command → Event
  -- the author of that replica makes a note
  Noting : (number : ℕ) → (named : List Identifier) → (code : ℕ) → (body : List ℕ) → Event
  -- an operation reaches that replica
  Deliver : (number : ℕ) → Op → Event

-- the replicas, and the pool: every operation that was ever made, once
pub record World : Type 0 where
  pub replicas : List State
  pub pool : List Op

-- the numbers of the replicas
abbrev pub numbers : List State → List ℕ
numbers replicas = map (λ (s : State). s.number) replicas

-- replicas with distinct numbers that hold nothing yet
pub record AreNew (replicas : List State) : Type 0 where
  pub distinct : AllPairs (λ m n. m ≢ n) (numbers replicas)
  pub empty : All (λ (s : State). s.held ≡ nothing_held) replicas

-- the operations of an edit: none where it is refused
abbrev pub effect : State → Command → List Op
effect s command = elim (refusal_message s command) [ None ↦ made_by s command | Some fault ↦ [] ]

-- the replica after an edit
abbrev pub replica_after_edit : Command → State → State
replica_after_edit command s = with_ops s (effect s command)

-- the operation of a noting: none where it is refused, or names what is not held
abbrev pub note_effect : State → (named : List Identifier) → (code : ℕ) → (body : List ℕ) → List Op
note_effect s named code body =
    elim (note_refusal s) [ None ↦ if list_all (holds s.held.history) named then note_by s named code body ∷ [] else [] | Some fault ↦ [] ]

-- the replica after a noting
abbrev pub replica_after_note : (named : List Identifier) → (code : ℕ) → (body : List ℕ) → State → State
replica_after_note named code body s = with_ops s (note_effect s named code body)

-- the replica after a delivery
abbrev pub replica_after_delivery : Op → State → State
replica_after_delivery op s = record s { held = intake s.hold s.most s.held op }

-- the replicas where the one with this number changed
abbrev pub changed_replicas : ℕ → (State → State) → List State → List State
changed_replicas number change replicas = map (λ (s : State). if nat_eq s.number number then change s else s) replicas

-- the operations that the replica with this number makes
abbrev pub made_at : ℕ → (State → List Op) → List State → List Op
made_at number makes replicas = flat_map (λ (s : State). if nat_eq s.number number then makes s else []) replicas

-- the pool with operations that it lacks, in the order in which they were made
abbrev pub pool_with : List Op → List Op → List Op
pool_with pool [] = pool
pool_with pool (op ∷ ops) = pool_with (if has_op pool op then pool else op ∷ pool) ops

-- the world where the replica with this number made operations
abbrev pub after_making : World → ℕ → (State → List Op) → World
after_making w number makes =
    record {
      replicas = changed_replicas number (λ (s : State). with_ops s (makes s)) w.replicas;
      pool = pool_with w.pool (made_at number makes w.replicas);
    }

-- the world after an event; only what was made can be delivered
abbrev pub after_event : World → Event → World
after_event w (Edit number command) = after_making w number (λ (s : State). effect s command)
after_event w (Noting number named code body) = after_making w number (λ (s : State). note_effect s named code body)
after_event w (Deliver number op) =
    if has_op w.pool op then record { replicas = changed_replicas number (replica_after_delivery op) w.replicas; pool = w.pool } else w

-- the world after these events
abbrev pub after_events : World → List Event → World
after_events w [] = w
after_events w (event ∷ events) = after_events (after_event w event) events

-- the world of replicas after events, begun with nothing made
abbrev pub world : List State → List Event → World
world replicas events = after_events (record { replicas = replicas; pool = [] }) events
