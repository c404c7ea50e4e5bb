-- What revising a whole manuscript does to a replica.
use Rattle.std.specs.Prelude.{◌≡◌, ◌⊎◌, ℕ, false, List, drop, filter, length}
use Rattle.std.specs.List.{Contains}
use Rattle.fugue_ids.specs.Identifiers.{Identifier, id_eq}
use Rattle.fugue_ids.specs.declared.op.Op.{Op}
use Rattle.origin_model.specs.declared.edit_fault.EditFault.TheVariants as edit
use Rattle.origin_model.specs.declared.operations.Place.TheVariants.{Section as within}
use Rattle.origin_model.specs.edits.State.{State}
use Rattle.origin_model.specs.operations.History.{holds}
use Rattle.origin_model.specs.order.Order.{order}
use Rattle.origin_model.specs.order.Printed.{shown, text}
use Rattle.catalogue_notes.specs.Arranged.{arranged, heading}
use Rattle.catalogue_notes.specs.Claims.{Move as MoveClaim, Retitle as RetitleClaim}
use Rattle.catalogue_notes.specs.Lift.{moves, retitles}
use Rattle.catalogue_notes.specs.declared.moving.MoveFault.TheVariants as moving
use Rattle.draft_plan.specs.Changes.{PlanChange, MakesChanges, Stops, all_made}
use Rattle.draft_plan.specs.Drafts.{Part}
use Rattle.draft_plan.specs.Plain.{arranged_parts}
use Rattle.draft_plan.specs.Texts.{KeepsElements}
use Rattle.draft_plan.specs.declared.fault.ReviseFault.{ReviseFault}
use Rattle.draft_plan.specs.declared.fault.ReviseFault.TheVariants as fault

-- the retitles of a section
abbrev pub retitles_of : List Op → Identifier → List RetitleClaim
retitles_of h s = filter (λ (r : RetitleClaim). id_eq r.section s) (retitles h)

-- the moves of a section
abbrev pub moves_of : List Op → Identifier → List MoveClaim
moves_of h s = filter (λ (m : MoveClaim). id_eq m.section s) (moves h)

-- a list of claims, the newest first, is as it was, or one came in front
abbrev pub HasOneMore : {A : Type 0} → (old new : List A) → Type 0
HasOneMore old new = (new ≡ old) ⊎ (drop 1 new ≡ old)

-- n operations were made, by changes one after another
pub record Makes (old new : State) (n : ℕ) : Type 0 where
  pub changes : List PlanChange
  pub changed : MakesChanges old new changes
  pub count : n ≡ length (all_made old changes)

-- of a section that is shown before and after the elements stay that stand between hunks from its old text to its new
-- one, and what comes there is new; where the text is the same its elements, the hidden ones too, are the same list, and
-- the same are shown; where its heading is the same it has the retitles that it had, and else one more at most
pub record KeepsSection (old new : State) (section : Identifier) : Type 0 where
  pub elements : KeepsElements old new section
  pub same_text : text new.held.history section ≡ text old.held.history section
      → shown (within section) new.held.history ≡ shown (within section) old.held.history
  pub same_order : text new.held.history section ≡ text old.held.history section
      → order (within section) new.held.history ≡ order (within section) old.held.history
  pub same_heading : heading new.held.history section ≡ heading old.held.history section
      → retitles_of new.held.history section ≡ retitles_of old.held.history section
  pub retitled : HasOneMore (retitles_of old.held.history section) (retitles_of new.held.history section)

-- the manuscript was revised: as it is arranged, its headings and texts are the parts. A section and a part are matched
-- where the section was shown before and stands at the part's place now: so each has at most one match. A section
-- without a match is shown no more, and what stands for a part without a match is new
pub record IsRevision (old new : State) (parts : List Part) (n : ℕ) : Type 0 where
  pub makes : Makes old new n
  pub reads : arranged_parts new.held.history ≡ parts
  pub matched : (s : Identifier) → Contains (arranged old.held.history) s → Contains (arranged new.held.history) s → KeepsSection old new s
  pub came : (s : Identifier) → Contains (arranged new.held.history) s
      → Contains (arranged old.held.history) s ⊎ (holds old.held.history s ≡ false)

-- where the parts are what is shown, nothing was made
abbrev pub MakesNothing : (old new : State) → (parts : List Part) → (n : ℕ) → Type 0
MakesNothing old new parts n = arranged_parts old.held.history ≡ parts → (n ≡ 0) × (new ≡ old)

-- the fault is a limit that was met, or memory ran out: nothing was asked for that is not there
abbrev pub IsLimit : ReviseFault → Type 0
IsLimit (fault.Edit edit.NoSection) = ⊥
IsLimit (fault.Edit edit.OutOfRange) = ⊥
IsLimit (fault.Move moving.NoSection) = ⊥
IsLimit (fault.Move moving.NoPlace) = ⊥
IsLimit why = Unit {0}

-- changes were made up to one that is refused for a limit, or for which memory ran out
pub record StopsAtLimit (old new : State) (why : ReviseFault) : Type 0 where
  pub limit : IsLimit why
  pub stops : Stops (λ (c : PlanChange). Unit {0}) old new why
