-- What revising the text of one section does to a replica.
use Rattle.std.specs.Prelude.{◌≡◌, ◌≢◌, ℕ, ◌+◌, ◌-◌, List, [], ◌∷◌, ◌++◌, All, drop, false, length, nat_eq, take}
use Rattle.std.specs.List.{sum_by}
use Rattle.fugue_ids.specs.Identifiers.{Identifier}
use Rattle.fugue_ids.specs.declared.op.Op.{Op}
use Rattle.origin_model.specs.declared.edit_fault.EditFault.{EditFault}
use Rattle.origin_model.specs.declared.edit_fault.EditFault.TheVariants.{NoSection}
use Rattle.origin_model.specs.declared.operations.Place.TheVariants.{Catalogue as catalogue, Section as within}
use Rattle.origin_model.specs.edits.Edits.{Put, Cut}
use Rattle.origin_model.specs.edits.State.{State}
use Rattle.origin_model.specs.operations.History.{holds}
use Rattle.origin_model.specs.order.Order.{order}
use Rattle.origin_model.specs.order.Printed.{shown, text}
use Rattle.text_diff.specs.Hunks.{Transforms}
use Rattle.text_diff.specs.Kept.{KeepsLines}
use Rattle.text_diff.specs.Seams.{KeepsWords}
use Rattle.text_diff.specs.Tight.{IsTight}
use Rattle.text_diff.specs.declared.hunk.Hunk.{Hunk}
use Rattle.catalogue_notes.specs.Arranged.{arranged, heading}
use Rattle.catalogue_notes.specs.Arranging.{Arranges}
use Rattle.catalogue_notes.specs.Lift.{moves, retitles, stamp}
use Rattle.catalogue_notes.specs.declared.arranger.Arranger.{Arranger}
use Rattle.draft_plan.specs.Changes.{PlanChange, MakesChanges, Edit, Stops, all_made}
use Rattle.draft_plan.specs.declared.fault.ReviseFault.TheVariants as fault

-- the change is a put or a cut in this section, by what is shown
abbrev pub EditsText : ℕ → PlanChange → Type 0
EditsText k (Edit (Put j at new)) = j ≡ k
EditsText k (Edit (Cut j at n)) = j ≡ k
EditsText k change = ⊥

-- the same sections are shown, arranged so by the same moves, under the same headings by the same retitles, and the next
-- stamp is the same; what is known of the arrangement stays known
pub record KeepsArrangement (old new : List Op) : Type 0 where
  pub sections : shown catalogue new ≡ shown catalogue old
  pub arranged_as : arranged new ≡ arranged old
  pub headings : (t : Identifier) → heading new t ≡ heading old t
  pub retitled : retitles new ≡ retitles old
  pub stamps : stamp new ≡ stamp old
  pub moved : moves new ≡ moves old
  pub arranges : (a : Arranger) → Arranges old a → Arranges new a

-- n operations were made, those of puts and cuts in this section, after which it reads so; the other sections read and
-- show what they did, their elements, the hidden ones too, stand as they stood, and all are arranged as before
pub record IsRevised (old new : State) (k : ℕ) (section : Identifier) (reads : List ℕ) (n : ℕ) : Type 0 where
  pub changes : List PlanChange
  pub edits : All (EditsText k) changes
  pub changed : MakesChanges old new changes
  pub count : n ≡ length (all_made old changes)
  pub here : text new.held.history section ≡ reads
  pub elsewhere : (t : Identifier) → t ≢ section → text new.held.history t ≡ text old.held.history t
  pub others : (t : Identifier) → t ≢ section → shown (within t) new.held.history ≡ shown (within t) old.held.history
  pub ordered : (t : Identifier) → t ≢ section → order (within t) new.held.history ≡ order (within t) old.held.history
  pub keeps : KeepsArrangement old.held.history new.held.history

-- the history holds none of these elements: not shown ones, and not hidden ones
abbrev pub AreUnknown : (history : List Op) → List Identifier → Type 0
AreUnknown history come = All (λ x. holds history x ≡ false) come

-- What stands between hunks stays, element by element, and in the place of each hunk as many elements come as it puts
-- letters, all of them new to the history: so the list reads from a position on.
abbrev pub StayBetween : (history : List Op) → (from : ℕ) → (old new : List Identifier) → List Hunk → Type 0
StayBetween history from old new [] = new ≡ drop from old
StayBetween history from old new (h ∷ hs) =
    (come : List Identifier) × (rest : List Identifier) × (length come ≡ h.new_len) × AreUnknown history come
    × (new ≡ take (h.old_at - from) (drop from old) ++ come ++ rest) × StayBetween history (h.old_at + h.old_len) old rest hs

-- There are hunks that transform one text into the other, in which whole words go and come, that are as short as these
-- allow, and that leave the lines of a heaviest common order; two texts that are the same have none. Of the elements
-- those stay that stand between the hunks, and no others: what comes in the place of a hunk is new to the history.
pub record KeepsCommon (history : List Op) (old_text new_text : List ℕ) (old new : List Identifier) : Type 0 where
  pub hunks : List Hunk
  pub transforms : Transforms nat_eq old_text new_text hunks
  pub words : All (KeepsWords old_text new_text) hunks
  pub tight : All (IsTight old_text new_text) hunks
  pub unchanged : old_text ≡ new_text → hunks ≡ []
  pub lines : (old_text ≡ new_text → ⊥) → KeepsLines old_text new_text hunks
  pub stays : StayBetween history 0 old new hunks

-- so it is with this section
abbrev pub KeepsElements : (old new : State) → (section : Identifier) → Type 0
KeepsElements old new section =
    KeepsCommon old.held.history (text old.held.history section) (text new.held.history section) (shown (within section) old.held.history)
    (shown (within section) new.held.history)

-- how many elements hunks cut and put
abbrev pub size : List Hunk → ℕ
size hs = sum_by (λ h. h.old_len + h.new_len) hs

-- and n is the number of elements that these hunks cut and put
abbrev pub CountsHunks : (old new : State) → (section : Identifier) → (n : ℕ) → Type 0
CountsHunks old new section n = (kept : KeepsElements old new section) × (n ≡ size kept.hunks)

-- the edits of the section's text stopped: those in front of the one that was refused stand, or memory ran out
abbrev pub StopsEditing : (old new : State) → (section : ℕ) → EditFault → Type 0
StopsEditing old new section why = Stops (EditsText section) old new (fault.Edit why)

-- no text was revised: there is no such section, or the edits of its text stopped
abbrev pub StopsRevising : (old new : State) → (section : ℕ) → EditFault → Type 0
StopsRevising old new section NoSection = new ≡ old
StopsRevising old new section why = StopsEditing old new section why
