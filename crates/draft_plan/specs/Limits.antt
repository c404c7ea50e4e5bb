-- What a revision takes of the room that a replica has, and that it is refused only where there is less.
use Rattle.std.specs.Prelude.{◌≡◌, ℕ, ◌+◌, ◌-◌, ◌*◌, ◌<◌, ◌≤◌, ◌^◌, List, [], Result, Ok, Err, All, length, nat_eq}
use Rattle.std.specs.List.{sum_by}
use Rattle.std.specs.Str.{chars}
use Rattle.fugue_ids.specs.Identifiers.{Identifier}
use Rattle.fugue_ids.specs.declared.op.Op.{Op}
use Rattle.origin_model.specs.declared.edit_fault.EditFault.{EditFault}
use Rattle.origin_model.specs.declared.edit_fault.EditFault.TheVariants as edit
use Rattle.origin_model.specs.declared.operations.Place.TheVariants.{Section as within}
use Rattle.origin_model.specs.edits.Refusal.{held_count, next_of_own}
use Rattle.origin_model.specs.edits.State.{State}
use Rattle.origin_model.specs.order.Printed.{shown, text}
use Rattle.text_diff.specs.Hunks.{Transforms}
use Rattle.text_diff.specs.Kept.{KeepsLines}
use Rattle.text_diff.specs.Seams.{KeepsWords}
use Rattle.text_diff.specs.Tight.{IsTight}
use Rattle.text_diff.specs.declared.hunk.Hunk.{Hunk}
use Rattle.catalogue_notes.specs.Arranged.{arranged}
use Rattle.catalogue_notes.specs.Lift.{stamp}
use Rattle.catalogue_notes.specs.declared.moving.MoveFault.TheVariants as moving
use Rattle.draft_plan.specs.Drafts.{Part}
use Rattle.draft_plan.specs.Texts.{size}
use Rattle.draft_plan.specs.declared.fault.ReviseFault.{ReviseFault}
use Rattle.draft_plan.specs.declared.fault.ReviseFault.TheVariants as fault

-- how many operations more may be accepted or wait
abbrev pub operations_left : State → ℕ
operations_left s = s.most - held_count s

-- how many elements and notes more the replica can make: their counters are below 2 to the 32
abbrev pub counters_left : State → ℕ
counters_left s = 2 ^ 32 - next_of_own s

-- how many moves and retitles more get a stamp: the stamps are below 2 to the 32
abbrev pub stamps_left : State → ℕ
stamps_left s = 2 ^ 32 - 1 - stamp s.held.history

-- how much is taken of each, at most
pub record Cost : Type 0 where
  pub operations : ℕ
  pub counters : ℕ
  pub stamps : ℕ

-- how many operations, counters and stamps a plan takes
abbrev pub cost : (operations counters stamps : ℕ) → Cost
cost operations counters stamps = record { operations = operations; counters = counters; stamps = stamps }

-- the cost of two plans together
abbrev pub plus : Cost → Cost → Cost
plus a b = cost (a.operations + b.operations) (a.counters + b.counters) (a.stamps + b.stamps)

-- no more was taken
pub record TakesUpTo (old new : State) (c : Cost) : Type 0 where
  pub operations : operations_left old ≤ operations_left new + c.operations
  pub counters : counters_left old ≤ counters_left new + c.counters
  pub stamps : stamps_left old ≤ stamps_left new + c.stamps

-- the limit that was met leaves less than this
abbrev pub LacksRoom : State → Cost → ReviseFault → Type 0
LacksRoom s c (fault.Edit (edit.TooMany held)) = operations_left s < c.operations
LacksRoom s c (fault.Edit (edit.IdsSpent counter)) = counters_left s < c.counters
LacksRoom s c (fault.Move (moving.TooMany held)) = operations_left s < c.operations
LacksRoom s c (fault.Move (moving.IdsSpent counter)) = counters_left s < c.counters
LacksRoom s c (fault.Move moving.StampsSpent) = stamps_left s < c.stamps
LacksRoom s c why = Unit {0}

-- work of this cost ends so: no more than the cost was made and taken, or less than the cost was left for it at the start
abbrev pub Costs : (old new : State) → Cost → Result ℕ ReviseFault → Type 0
Costs old new c (Ok n) = (n ≤ c.operations) × TakesUpTo old new c
Costs old new c (Err why) = LacksRoom old c why

-- each section shows the elements that it showed
abbrev pub SameTexts : (old new : List Op) → Type 0
SameTexts old new = (s : Identifier) → shown (within s) new ≡ shown (within s) old

-- work that leaves the texts ends so
abbrev pub CostsShaping : (old new : State) → Cost → Result ℕ ReviseFault → Type 0
CostsShaping old new c (Ok n) = Costs old new c (Ok n) × SameTexts old.held.history new.held.history
CostsShaping old new c (Err why) = LacksRoom old c why

-- each letter that a hunk cuts or puts takes an operation, and each that it puts a counter
abbrev pub hunk_cost : Hunk → Cost
hunk_cost h = cost (h.old_len + h.new_len) h.new_len 0

-- how many letters hunks put
abbrev pub put_size : List Hunk → ℕ
put_size hs = sum_by (λ h. h.new_len) hs

-- hunks take what each of them takes
abbrev pub hunks_cost : List Hunk → Cost
hunks_cost hs = cost (size hs) (put_size hs) 0

-- hunks from one text to another, in which whole words go and come, that are as short as these allow, and that leave the
-- lines of a heaviest common order; two texts that are the same have none
pub record AreChosen (old new : List ℕ) (hunks : List Hunk) : Type 0 where
  pub transforms : Transforms nat_eq old new hunks
  pub words : All (KeepsWords old new) hunks
  pub tight : All (IsTight old new) hunks
  pub unchanged : old ≡ new → hunks ≡ []
  pub lines : (old ≡ new → ⊥) → KeepsLines old new hunks

-- the result of an edit as one of a revision
abbrev pub by_edit : Result ℕ EditFault → Result ℕ ReviseFault
by_edit (Ok n) = Ok n
by_edit (Err why) = Err (fault.Edit why)

-- revising the text of a section costs what such hunks cost, unless memory ran out
abbrev pub CostsText : (old new : State) → Identifier → (reads : List ℕ) → Result ℕ EditFault → Type 0
CostsText old new section reads (Err edit.NoMemory) = Unit {0}
CostsText old new section reads result =
    (hunks : List Hunk) × AreChosen (text old.held.history section) reads hunks × Costs old new (hunks_cost hunks) (by_edit result)

-- how many letters sections show
abbrev pub shown_letters : List Op → List Identifier → ℕ
shown_letters h sections = sum_by (λ s. length (text h s)) sections

-- how many letters all arranged sections show
abbrev pub arranged_letters : List Op → ℕ
arranged_letters h = shown_letters h (arranged h)

-- how many letters parts have
abbrev pub part_letters : List Part → ℕ
part_letters parts = sum_by (λ (p : Part). length (chars p.text)) parts

-- What a revision costs at most. Each letter that is shown is deleted, and each of the draft is made. Each section is
-- dropped. Each part is added, moved and retitled.
abbrev pub revision_cost : List Op → List Part → Cost
revision_cost h parts =
    cost (arranged_letters h + part_letters parts + length (arranged h) + 3 * length parts) (part_letters parts + 3 * length parts)
    (2 * length parts)

-- memory ran out
abbrev pub IsOutOfMemory : ReviseFault → Type 0
IsOutOfMemory (fault.Edit edit.NoMemory) = Unit {0}
IsOutOfMemory (fault.Move moving.NoMemory) = Unit {0}
IsOutOfMemory why = ⊥
