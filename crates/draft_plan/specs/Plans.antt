-- What a draft asks for, and that a limit refuses it only where there is no room for that.
use Rattle.std.specs.Prelude.{◌≡◌, ◌⊎◌, ℕ, suc, zero, ◌+◌, ◌≤◌, Bool, true, false, if◌then◌else◌, Option, Some, None, IsSome, List, [], ◌∷◌}
use Rattle.std.specs.Prelude.{Result, Ok, Err, filter, length, map, option_map, slice_get, slice_index_or}
use Rattle.std.specs.List.{sum_by}
use Rattle.std.specs.Str.{bytes_eq, chars, encode_utf8_all}
use Rattle.fugue_ids.specs.Identifiers.{Identifier}
use Rattle.fugue_ids.specs.declared.op.Op.{Op}
use Rattle.origin_model.specs.edits.State.{State}
use Rattle.origin_model.specs.order.Printed.{text}
use Rattle.text_diff.specs.declared.hunk.Hunk.{Hunk}
use Rattle.catalogue_notes.specs.Arranged.{arranged, heading}
use Rattle.section_plan.specs.Matching.{part_of, section_of}
use Rattle.section_plan.specs.declared.pairs.Pairs.{Pairs}
use Rattle.section_plan.specs.declared.part.Part.{Part as ReadPart}
use Rattle.draft_plan.specs.Drafts.{Part}
use Rattle.draft_plan.specs.Limits.{AreChosen, Cost, Costs, CostsShaping, IsOutOfMemory, LacksRoom, cost, plus, put_size}
use Rattle.draft_plan.specs.Matching.{IsMatched}
use Rattle.draft_plan.specs.Readings.{seen_part}
use Rattle.draft_plan.specs.Shaping.{AreSectionsOf}
use Rattle.draft_plan.specs.Texts.{size}
use Rattle.draft_plan.specs.declared.fault.ReviseFault.{ReviseFault}

-- the sum of what there is of the numbers below this one
abbrev pub sum_below : (ℕ → ℕ) → ℕ → ℕ
sum_below f zero = 0
sum_below f (suc n) = sum_below f n + f n

-- one Delete where a section has no part, and one Section where a part has no section
abbrev pub unmatched_count : Option ℕ → ℕ
unmatched_count None = 1
unmatched_count (Some x) = 0

-- how many of so many sections are dropped
abbrev pub dropped_count : Pairs → (sections : ℕ) → ℕ
dropped_count pairs sections = sum_below (λ i. unmatched_count (part_of pairs i)) sections

-- for how many of so many parts a section is added
abbrev pub added_count : Pairs → (parts : ℕ) → ℕ
added_count pairs parts = sum_below (λ j. unmatched_count (section_of pairs j)) parts

-- the section of a part, as the sections are arranged, where it has one
abbrev pub section_before : List Op → Pairs → (part : ℕ) → Option Identifier
section_before h pairs part = elim (section_of pairs part) [ None ↦ None | Some i ↦ slice_get (arranged h) i ]

-- what it shows; one that is to come shows nothing
abbrev pub text_before : List Op → Option Identifier → List ℕ
text_before h None = []
text_before h (Some s) = text h s

-- how many retitles it takes at most that the section of a part gets its title: none where that is its heading. A section
-- that is to come is added under the title
abbrev pub retitle_count : List Op → Option Identifier → (title : Option (List ℕ)) → ℕ
retitle_count h (Some s) (Some title) = if bytes_eq (encode_utf8_all (heading h s)) title then 0 else 1
retitle_count h section title = 0

-- how many it takes that those of so many parts get their titles
abbrev pub retitle_count_of_parts : List Op → (section : ℕ → Option Identifier) → List Part → (count : ℕ) → ℕ
retitle_count_of_parts h section parts count =
    sum_below (λ k. retitle_count h (section k) (option_map (λ (p : Part). p.title) (slice_get parts k))) count

-- for each of the first parts, hunks that lead from what its section shows to its text
pub record AreHunksOf (h : List Op) (section : ℕ → Option Identifier) (parts : List Part) (hunks : List (List Hunk)) : Type 0 where
  pub each : (k : ℕ) (hs : List Hunk) → slice_get hunks k ≡ Some hs
      → (p : Part) × (slice_get parts k ≡ Some p) × AreChosen (text_before h (section k)) (chars p.text) hs

-- so many retitles, and hunks of texts
abbrev pub filling : (count : ℕ) → List (List Hunk) → Cost
filling count hunks = cost (count + sum_by size hunks) (count + sum_by put_size hunks) count

-- giving a section the title and the text of a part costs what a retitle costs, if that takes one, and such hunks
abbrev pub CostsSection : (old new : State) → Identifier → Part → Result ℕ ReviseFault → Type 0
CostsSection old new s part (Ok n) =
    (hs : List Hunk) × AreChosen (text old.held.history s) (chars part.text) hs
    × Costs old new (filling (retitle_count old.held.history (Some s) (Some part.title)) (hs ∷ [])) (Ok n)
CostsSection old new s part (Err why) =
    LacksRoom old (filling (retitle_count old.held.history (Some s) (Some part.title)) []) why
    ⊎ ((hs : List Hunk) × AreChosen (text old.held.history s) (chars part.text) hs
    × LacksRoom old (filling (retitle_count old.held.history (Some s) (Some part.title)) (hs ∷ [])) why)

-- and so it is with the sections of parts
abbrev pub CostsFilling : (old new : State) → (section : ℕ → Option Identifier) → List Part → Result ℕ ReviseFault → Type 0
CostsFilling old new section parts result =
    (hunks : List (List Hunk)) × AreHunksOf old.held.history section parts hunks
    × Costs old new (filling (retitle_count_of_parts old.held.history section parts (length parts)) hunks) result

-- one move where the section of a part does not stay where it is
abbrev pub move_count : (stays : List Bool) → (part : ℕ) → ℕ
move_count stays part = if slice_index_or stays part false then 0 else 1

-- Sections come to stand so by as few moves as it takes for those that stay, and by one at most for each that was added:
-- whichever matched ones stand in that order already, there is no move more than there are other sections.
abbrev pub MovesNoMore : (h : List Op) → Pairs → (sections : List Identifier) → (moved : ℕ) → Type 0
MovesNoMore h pairs sections moved =
    (chosen : Identifier → Bool)
    → ((j : ℕ) (s : Identifier) → slice_get sections j ≡ Some s → chosen s ≡ true → IsSome (section_of pairs j))
    → filter chosen (arranged h) ≡ filter chosen sections → moved + length (filter chosen sections) ≤ length sections

-- what such moves cost
abbrev pub CostsArranging : (old new : State) → Pairs → (sections : List Identifier) → Result ℕ ReviseFault → Type 0
CostsArranging old new pairs sections (Ok n) =
    (moved : ℕ) × MovesNoMore old.held.history pairs sections moved × CostsShaping old new (cost moved moved moved) (Ok n)
CostsArranging old new pairs sections (Err why) =
    IsOutOfMemory why ⊎ ((moved : ℕ) × MovesNoMore old.held.history pairs sections moved × LacksRoom old (cost moved moved moved) why)

-- nothing is moved yet, or the sections of the parts come to stand in their order by such moves
abbrev pub PlansMoves : (h : List Op) → Pairs → (parts moved : ℕ) → Type 0
PlansMoves h pairs parts moved =
    (moved ≡ 0) ⊎ ((sections : List Identifier) × AreSectionsOf h pairs parts sections × MovesNoMore h pairs sections moved)

-- what it costs that the sections stand as the parts: each that has no part is dropped, one is added for each part that has
-- no section, and so many are moved
abbrev pub shaping : Pairs → (moved sections parts : ℕ) → Cost
shaping pairs moved sections parts =
    cost (dropped_count pairs sections + added_count pairs parts + moved) (added_count pairs parts + moved) moved

-- what it costs to drop, add and move sections to the places of the parts, or why it is refused
abbrev pub CostsStanding : (old new : State) → Pairs → (sections parts : ℕ) → Result ℕ ReviseFault → Type 0
CostsStanding old new pairs sections parts (Ok n) =
    (moved : ℕ) × PlansMoves old.held.history pairs parts moved × CostsShaping old new (shaping pairs moved sections parts) (Ok n)
CostsStanding old new pairs sections parts (Err why) =
    IsOutOfMemory why
    ⊎ ((moved : ℕ) × PlansMoves old.held.history pairs parts moved × LacksRoom old (shaping pairs moved sections parts) why)

-- What a draft asks for: the sections are matched with its parts, they are moved to the places of these, and the texts of
-- the first parts are compared with those of their sections.
pub record Plan (h : List Op) (parts : List Part) : Type 0 where
  pub read : List ReadPart
  pub read_are : map seen_part read ≡ parts
  pub pairs : Pairs
  pub matched : IsMatched h read pairs
  pub moved : ℕ
  pub moves : PlansMoves h pairs (length parts) moved
  pub hunks : List (List Hunk)
  pub chosen : AreHunksOf h (section_before h pairs) parts hunks

-- what a whole plan costs: its sections, its titles, and the hunks of its texts
abbrev pub plan_cost : (h : List Op) → (parts : List Part) → Pairs → (moved : ℕ) → List (List Hunk) → Cost
plan_cost h parts pairs moved hunks =
    plus (shaping pairs moved (length (arranged h)) (length parts))
    (filling (retitle_count_of_parts h (section_before h pairs) parts (length parts)) hunks)

-- memory ran out, or there is less room than such a plan costs
abbrev pub LacksPlan : State → List Part → ReviseFault → Type 0
LacksPlan s parts why =
    IsOutOfMemory why
    ⊎ ((plan : Plan s.held.history parts) × LacksRoom s (plan_cost s.held.history parts plan.pairs plan.moved plan.hunks) why)
