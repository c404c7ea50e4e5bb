-- The strong list specification (Attiya and others, "Specification and Complexity of Collaborative Text Editing"): one
-- order over all elements that were ever inserted, and every list that any replica shows at any moment is in it, with
-- exactly the elements that the replica accepted and that no Delete it accepted names; and an edit lands where it was
-- asked.
use Rattle.std.specs.Prelude.{◌≡◌, ℕ, None, not, List, ◌++◌, filter, All, AllPairs}
use Rattle.fugue_ids.specs.Identifiers.{Identifier}
use Rattle.fugue_ids.specs.declared.op.Op.{Op}
use Rattle.origin_model.specs.declared.operations.Place.{Place}
use Rattle.origin_model.specs.operations.History.{holds}
use Rattle.origin_model.specs.operations.Verdict.{Lawful}
use Rattle.origin_model.specs.order.Laws.{IsPartOf}
use Rattle.origin_model.specs.order.Order.{order}
use Rattle.origin_model.specs.order.Printed.{is_hidden, shown}
use Rattle.origin_model.specs.edits.Edits.{Command}
use Rattle.origin_model.specs.operations.History.{HaveOtherIds}
use Rattle.origin_model.specs.edits.State.{State}
use Rattle.origin_model.specs.edits.Refusal.{refusal_message}
use Rattle.origin_model.specs.edits.Effect.{Lands}
use Rattle.origin_model.specs.edits.Noting.{ShowsAsBefore}
use Rattle.list_spec.specs.Worlds.{AreNew, Event, replica_after_note, replica_after_edit, world}

-- a replica's history is lawful and made of operations of the pool; its elements stand in the order of the pool, with
-- those that it lacks left out, and of these it shows the ones that no Delete of its own history names
pub record IsView (pool history : List Op) : Type 0 where
  pub lawful : Lawful history
  pub part : IsPartOf history pool
  pub same_order : (p : Place) → order p history ≡ filter (holds history) (order p pool)
  pub shows : (p : Place) → shown p history ≡ filter (λ x. not (is_hidden history x)) (filter (holds history) (order p pool))

-- the pool is lawful, no two of its operations have one identifier, and each replica has a view of it
pub record IsOneList (pool : List Op) (replicas : List State) : Type 0 where
  pub lawful : Lawful pool
  pub own_ids : AllPairs HaveOtherIds pool
  pub views : All (λ (s : State). IsView pool s.held.history) replicas

-- whatever happens, and whatever happened later: the one order over all that was ever made is that of every replica at every moment
abbrev pub StrongList : Type 0
StrongList = (replicas : List State) (earlier later : List Event) → AreNew replicas
    → IsOneList (world replicas (earlier ++ later)).pool (world replicas earlier).replicas

-- in every world an edit that is not refused lands where it was asked
abbrev pub EditsLand : Type 0
EditsLand =
    (replicas : List State) (events : List Event) (command : Command) → AreNew replicas
    → let all = (world replicas events).replicas in
    All (λ (s : State). refusal_message s command ≡ None → Lands s (replica_after_edit command s) command) all

-- a noting leaves what each place has and shows, and what waits
abbrev pub NotingsShowNothing : Type 0
NotingsShowNothing =
    (named : List Identifier) (code : ℕ) (body : List ℕ) (s : State)
    → ShowsAsBefore s (replica_after_note named code body s) × ((replica_after_note named code body s).held.waiting ≡ s.held.waiting)
