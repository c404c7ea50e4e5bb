-- What a revision is made of: edits, moves and retitles of one replica, one after another.
use Rattle.std.specs.Prelude.{◌≡◌, ◌⊎◌, ℕ, Option, Some, None, List, [], ◌∷◌, ◌++◌, All, option_map}
use Rattle.fugue_ids.specs.declared.op.Op.{Op}
use Rattle.origin_model.specs.declared.edit_fault.EditFault.TheVariants as edit
use Rattle.origin_model.specs.edits.Edits.{Command}
use Rattle.origin_model.specs.edits.Effect.{Gains, StopsPartly, with_ops}
use Rattle.origin_model.specs.edits.Refusal.{made_by, refusal_message}
use Rattle.origin_model.specs.edits.State.{State}
use Rattle.catalogue_notes.specs.declared.moving.MoveFault.TheVariants as moving
use Rattle.catalogue_notes.specs.Moving.{move_by, move_refusal, retitle_by, retitle_refusal, section_placed}
use Rattle.draft_plan.specs.declared.fault.ReviseFault.{ReviseFault}
use Rattle.draft_plan.specs.declared.fault.ReviseFault.TheVariants as fault

-- A change: an edit, by what is shown; or a section of the arrangement gets another place, or another title. Sections
-- and places of the arrangement count from 0.
pub data PlanChange : Type 0 where
  Edit : Command → PlanChange
  Move : (section place : ℕ) → PlanChange
  Retitle : (section : ℕ) → (title : List ℕ) → PlanChange

-- the operations of a change, in the order in which they are made: none where there is no such section
abbrev pub made_of : State → PlanChange → List Op
made_of s (Edit command) = made_by s command
made_of s (Move k j) = elim (section_placed s k) [ None ↦ [] | Some section ↦ move_by s section k j ∷ [] ]
made_of s (Retitle k title) = elim (section_placed s k) [ None ↦ [] | Some section ↦ retitle_by s section title ∷ [] ]

-- why a change is refused, by the first cause that there is
abbrev pub change_refusal : State → PlanChange → Option ReviseFault
change_refusal s (Edit command) = option_map fault.Edit (refusal_message s command)
change_refusal s (Move k j) = option_map fault.Move (move_refusal s k j)
change_refusal s (Retitle k title) = option_map fault.Move (retitle_refusal s k)

-- the replica after a change
abbrev pub replica_after : State → PlanChange → State
replica_after s change = with_ops s (made_of s change)

-- the operations of changes that are made one after another, each on the replica after those before it
abbrev pub all_made : State → List PlanChange → List Op
all_made s [] = []
all_made s (change ∷ changes) = made_of s change ++ all_made (replica_after s change) changes

-- none of them is refused on the replica after those before it
abbrev pub AreAllowed : State → List PlanChange → Type 0
AreAllowed s [] = Unit {0}
AreAllowed s (change ∷ changes) = (change_refusal s change ≡ None) × AreAllowed (replica_after s change) changes

-- the changes are made, one after another, and nothing else
pub record MakesChanges (old new : State) (changes : List PlanChange) : Type 0 where
  pub allowed : AreAllowed old changes
  pub gained : Gains old new (all_made old changes)

-- memory ran out: for nothing that was begun, or for a change, of which the first operations stand, and not all
abbrev pub IsPartly : (Only : PlanChange → Type 0) → (old new : State) → Type 0
IsPartly Only old new = (new ≡ old) ⊎ ((change : PlanChange) × Only change × StopsPartly old new (made_of old change))

-- a change is refused, and nothing of it is made
pub record IsRefused (Only : PlanChange → Type 0) (old new : State) (why : ReviseFault) : Type 0 where
  pub change : PlanChange
  pub only : Only change
  pub refused : change_refusal old change ≡ Some why
  pub unmade : new ≡ old

-- how changes stop
abbrev pub StopsAt : (Only : PlanChange → Type 0) → (old new : State) → ReviseFault → Type 0
StopsAt Only old new (fault.Edit edit.NoMemory) = IsPartly Only old new
StopsAt Only old new (fault.Move moving.NoMemory) = IsPartly Only old new
StopsAt Only old new why = IsRefused Only old new why

-- changes of this kind were made up to one that stopped them: those before it stand
pub record Stops (Only : PlanChange → Type 0) (old new : State) (why : ReviseFault) : Type 0 where
  pub changes : List PlanChange
  pub only : All Only changes
  pub mid : State
  pub changed : MakesChanges old mid changes
  pub stop : StopsAt Only mid new why
