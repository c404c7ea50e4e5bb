-- The command `revise`: the draft on the input is what a file's replica comes to show, where the other file has what it showed.
use Rattle.std.specs.Prelude.{◌≡◌, ◌≢◌, ◌⊎◌, ◌+◌, ◌≤◌, ℕ, true, false, Bool, nat_eq, nat_lt, ◌&&◌, if◌then◌else◌, Option, Some, None}
use Rattle.std.specs.Prelude.{Result, Ok, Err, IfSome, List, [], ◌++◌, length, option_map}
use Rattle.std.specs.Option.{option_or}
use Rattle.std.specs.Str.{bytes_eq}
use Rattle.fugue_ids.specs.Causes.{Faulted}
use Rattle.fugue_ids.specs.declared.limits.TheConstants.{MOST_OPERATIONS}
use Rattle.fugue_ids.specs.declared.op.Op.{Op}
use Rattle.origin_model.specs.declared.edit_fault.EditFault.TheVariants as edit_fault
use Rattle.origin_model.specs.edits.Refusal.{held_count}
use Rattle.origin_model.specs.edits.State.{State as Replica, IsSound}
use Rattle.origin_model.specs.operations.History.{accepted}
use Rattle.origin_model.specs.taking.Taking.{IsSettled}
use Rattle.outer_ports.specs.Sources.{SourceView}
use Rattle.outer_ports.specs.disk.Disks.{DiskView, RoomView}
use Rattle.catalogue_notes.specs.Arranged.{arranged, arranged_text}
use Rattle.catalogue_notes.specs.declared.moving.MoveFault.TheVariants as move_fault
use Rattle.draft_plan.specs.Differences.{first_difference}
use Rattle.draft_plan.specs.Drafts.{Part, form, parts}
use Rattle.draft_plan.specs.Limits.{Costs, LacksRoom, arranged_letters, part_letters, revision_cost}
use Rattle.draft_plan.specs.Plain.{arranged_parts}
use Rattle.draft_plan.specs.Plans.{Plan, plan_cost}
use Rattle.draft_plan.specs.Revision.{IsRevision, MakesNothing, StopsAtLimit}
use Rattle.draft_plan.specs.declared.draft.DraftFault.{DraftFault}
use Rattle.draft_plan.specs.declared.draft.DraftFault.TheVariants as draft_fault
use Rattle.draft_plan.specs.declared.fault.ReviseFault.{ReviseFault}
use Rattle.draft_plan.specs.declared.fault.ReviseFault.TheVariants as revise_fault
use Rattle.command_kinds.specs.Counts.{revised_text}
use Rattle.command_kinds.specs.Edit.{IsLeftScript, made_outcome}
use Rattle.command_kinds.specs.Findings.{Finding, Refuses, Does}
use Rattle.command_kinds.specs.Saving.{OpsSource, Outcome}
use Rattle.command_kinds.specs.Changes.{Change, DiskBlameless, IsSpecified}
use Rattle.manuscript_cli.specs.declared.check.TheConstants.{LONGEST_TEXT}
use Rattle.command_kinds.specs.declared.refusal.Refusal.{Refusal}
use Rattle.command_kinds.specs.declared.refusal.Refusal.TheVariants as refusal
use Rattle.command_kinds.specs.declared.status.Status.{Status}
use Rattle.command_kinds.specs.declared.status.Status.TheVariants as status
use Rattle.manuscript_cli.specs.SectionCounts.{section_counts}

-- why no draft can be written from the base: it is not what is shown
abbrev pub base_refusal : List Op → (base : List ℕ) → Option Refusal
base_refusal h base = option_map refusal.BaseDiffers (first_difference (arranged_text h) base)

-- the draft has no part, and sections are shown
abbrev pub empties : List Op → List Part → Bool
empties h ps = nat_eq (length ps) 0 && nat_lt 0 (length (arranged h))

-- the draft has more sections and letters than a replica may hold operations
abbrev pub is_too_large : List Part → Bool
is_too_large ps = nat_lt MOST_OPERATIONS (length ps + part_letters ps)

-- no replica shows so much
abbrev pub ShowsNoMore : Type 0
ShowsNoMore = (s : Replica) → IsSound s → length (arranged s.held.history) + arranged_letters s.held.history ≤ MOST_OPERATIONS

-- why what a draft says is not taken: a line is bad, or it has nothing, or too much
abbrev pub parts_refusal : Replica → Result (List Part) ℕ → Option Refusal
parts_refusal replica (Ok ps) =
    if empties replica.held.history ps then Some refusal.EmptyDraft
    else if is_too_large ps then Some (refusal.TooMany (held_count replica))
    else None
parts_refusal replica (Err line) = Some (refusal.BadDraft line)

-- why the bytes are no draft: there are too many, or what they say is not taken, unless they are what was printed
abbrev pub text_refusal : Replica → (draft : List ℕ) → Option Refusal
text_refusal replica draft =
    if nat_lt LONGEST_TEXT (length draft) then Some refusal.TooLong
    else if bytes_eq draft (arranged_text replica.held.history) then None
    else parts_refusal replica (parts draft)

-- why a draft is not taken, by the first cause that there is
abbrev pub draft_refusal : Replica → (base draft : List ℕ) → Option Refusal
draft_refusal replica base draft = option_or (base_refusal replica.held.history base) (text_refusal replica draft)

-- why a draft was not read, or not come to, as a refusal
abbrev pub parts_fault_refusal : DraftFault → Refusal
parts_fault_refusal (draft_fault.BadDraft line) = refusal.BadDraft line
parts_fault_refusal draft_fault.NoMemory = refusal.NoMemory

-- the refusal of a draft that was not taken in
abbrev pub revise_refusal : ReviseFault → Refusal
revise_refusal (revise_fault.Edit (edit_fault.IdsSpent counter)) = refusal.IdsSpent counter
revise_refusal (revise_fault.Edit (edit_fault.TooMany held)) = refusal.TooMany held
revise_refusal (revise_fault.Edit _) = refusal.NoMemory
revise_refusal (revise_fault.Move move_fault.StampsSpent) = refusal.StampsSpent
revise_refusal (revise_fault.Move (move_fault.IdsSpent counter)) = refusal.IdsSpent counter
revise_refusal (revise_fault.Move (move_fault.TooMany held)) = refusal.TooMany held
revise_refusal (revise_fault.Move _) = refusal.NoMemory

-- the replica came to show these parts, by operations that were made; where it showed them before none was
pub record IsRevisedTo (replica last : Replica) (ps : List Part) (n : ℕ) : Type 0 where
  pub revised : IsRevision replica last ps n
  pub prints : arranged_text last.held.history ≡ form ps
  pub same : MakesNothing replica last ps n
  pub costs : Costs replica last (revision_cost replica.held.history ps) (Ok n)
  pub sound : IsSound last
  pub settled : IsSettled last.held

-- the outcome of what was printed, handed back as it is: nothing was made
pub record IsHandedBack (replica : Replica) (draft : List ℕ) (outcome : Outcome) : Type 0 where
  pub same : draft ≡ arranged_text replica.held.history
  pub outcome_is : outcome ≡ made_outcome replica []

-- the notes say how many operations that were, and how many of them were made on sections
abbrev pub revised_outcome : Replica → List Op → Outcome
revised_outcome last made = record {
  saved = made;
  held = last.held;
  line = revised_text (length made) (section_counts last.held.history made);
  status = status.Done;
}

-- the outcome of another draft: these operations were made one after another, and what is shown after them is the form
-- of the draft's parts
pub record Revises (replica : Replica) (draft : List ℕ) (outcome : Outcome) : Type 0 where
  pub other : draft ≢ arranged_text replica.held.history
  pub ps : List Part
  pub reads : parts draft ≡ Ok ps
  pub last : Replica
  pub made : List Op
  pub made_are : accepted last.held.history ≡ accepted replica.held.history ++ made
  pub revised : IsRevision replica last ps (length made)
  pub prints : arranged_text last.held.history ≡ form ps
  pub unchanged : arranged_parts replica.held.history ≡ ps → made ≡ []
  pub costs : Costs replica last (revision_cost replica.held.history ps) (Ok (length made))
  pub outcome_is : outcome ≡ revised_outcome last made

-- a limit is met on the way to the draft: less room is left than what is planned for it costs, and less than a draft may
-- cost at most, and it is not what is shown
pub record MeetsLimit (replica : Replica) (draft : List ℕ) (why : Refusal) : Type 0 where
  pub fault : ReviseFault
  pub why_is : why ≡ revise_refusal fault
  pub no_want : why ≢ refusal.NoMemory
  pub last : Replica
  pub stops : StopsAtLimit replica last fault
  pub ps : List Part
  pub reads : parts draft ≡ Ok ps
  pub plan : Plan replica.held.history ps
  pub no_room : LacksRoom replica (plan_cost replica.held.history ps plan.pairs plan.moved plan.hunks) fault
  pub lacks : LacksRoom replica (revision_cost replica.held.history ps) fault
  pub changes : arranged_parts replica.held.history ≢ ps

-- What a draft gives. There are many ways from what is shown to the draft: this one came to that finding.
abbrev pub DraftGives : (base draft : List ℕ) → (finding : Finding Outcome) → Replica → Finding Outcome → Type 0
DraftGives base draft finding replica (Refuses why) =
    (draft_refusal replica base draft ≡ Some why)
    ⊎ ((draft_refusal replica base draft ≡ None) × (finding ≡ Refuses why) × MeetsLimit replica draft why)
DraftGives base draft finding replica (Does outcome) =
    (draft_refusal replica base draft ≡ None) × (finding ≡ Does outcome)
    × (IsHandedBack replica draft outcome ⊎ Revises replica draft outcome)

-- the file, where it is specified, has these bytes
abbrev pub HasBytes : DiskView → List ℕ → Type 0
HasBytes disk bytes = IfSome disk.past (λ h. h.last.seen ≡ bytes)

-- a revision gives what the base, a file, and the draft, from the input, ask for
abbrev pub RevisionGives : DiskView → SourceView → (finding : Finding Outcome) → Replica → Finding Outcome → Type 0
RevisionGives guest input finding replica found =
    (base : List ℕ) × HasBytes guest base × (draft : List ℕ) × IsLeftScript input draft × DraftGives base draft finding replica found

-- a base and a draft, as what gives the operations
abbrev pub revision : Change DiskView → Change SourceView → (finding : Finding Outcome) → OpsSource
revision guest input finding = record {
  Gives = RevisionGives guest.old input.old finding;
  Specified = IsSpecified guest.old × ((bytes : List ℕ) × (input.old.left ≡ Some bytes));
  Failed = Faulted guest.old.faults guest.new.faults ⊎ Faulted input.old.faults input.new.faults;
  Sure = ((room : RoomView) × (guest.old.room ≡ Some room)) × (input.old.sure ≡ true);
}

-- the other file was only looked at: where calls are sure none fails
pub record LooksAtBase (guest : Change DiskView) (end : Status) : Type 0 where
  pub past : guest.new.past ≡ guest.old.past
  pub room : guest.new.room ≡ guest.old.room
  pub counts_no_fault : IfSome guest.old.room (λ room. guest.new.faults ≡ guest.old.faults)
  pub blameless : DiskBlameless guest end

-- why the base was not found good: a read failed, or memory ran out, or it is refused
abbrev pub BaseStops : Refusal → DiskView → List Op → Type 0
BaseStops refusal.Outside guest h = Unit {0}
BaseStops refusal.NoMemory guest h = Unit {0}
BaseStops why guest h = (base : List ℕ) × HasBytes guest base × (base_refusal h base ≡ Some why)

-- why the replica did not come to show a draft
abbrev pub TextStops : Refusal → Replica → (draft : List ℕ) → Type 0
TextStops refusal.NoMemory replica draft = Unit {0}
TextStops (refusal.BadDraft line) replica draft = parts draft ≡ Err line
TextStops refusal.EmptyDraft replica draft = (ps : List Part) × (parts draft ≡ Ok ps) × (empties replica.held.history ps ≡ true)
TextStops why replica draft =
    (ps : List Part) × (parts draft ≡ Ok ps) × (empties replica.held.history ps ≡ false)
    × (((is_too_large ps ≡ true) × (why ≡ refusal.TooMany (held_count replica)))
    ⊎ ((is_too_large ps ≡ false) × MeetsLimit replica draft why))
