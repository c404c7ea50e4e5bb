-- What comes of the parts where operations come after them, or go.
use Rattle.std.specs.Prelude.{◌≡◌, ℕ, ◌+◌, ◌⊎◌, ◌++◌, ◌∷◌, [], List, false, ◌-◌, ◌<◌, ◌≤◌, length, take}
use Rattle.fugue_ids.specs.Identifiers.{Identifier}
use Rattle.fugue_ids.specs.Runs.{start_after}
use Rattle.op_runs.specs.Deletions.{CountersFit, deletes_by}
use Rattle.op_runs.specs.Parts.{ContinuesPart, part_len}
use Rattle.op_runs.specs.declared.part.Deletes.{Deletes}
use Rattle.op_runs.specs.declared.part.Part.{Part}
use Rattle.op_runs.specs.declared.part.Part.TheVariants.{Deleted, Other, Typed}
use Rattle.op_runs.specs.declared.part.TypedPart.{TypedPart}

-- the last of the parts
pub record IsLastPart (parts : List Part) (last : Part) : Type 0 where
  pub front : List Part
  pub whole : parts ≡ front ++ last ∷ []

-- Deletes of neighbours with more after them: some of those forwards from a target on, at most so many
pub record HasMoreDeletes (part : Deletes) (target : Identifier) (most : ℕ) (more : Deletes) : Type 0 where
  pub target_is : more.target ≡ part.target
  pub some : part.count < more.count
  pub within : more.count ≤ part.count + most
  pub counters : CountersFit more.down more.target more.count
  pub ops : deletes_by more.down more.target more.count ≡ deletes_by part.down part.target part.count
      ++ deletes_by false target (more.count - part.count)

-- a new part stands after the others, and goes on with none
pub record IsAppendedPart (old new : List Part) (old_firsts new_firsts : List ℕ) (first : ℕ) (part : Part) : Type 0 where
  pub parts_are : new ≡ old ++ part ∷ []
  pub firsts_are : new_firsts ≡ old_firsts ++ first ∷ []
  pub apart : (last : Part) → IsLastPart old last → ContinuesPart last part → ⊥

-- a longer one stands in the place of the last
pub record IsReplacedPart (old new : List Part) (old_firsts new_firsts : List ℕ) (last part : Part) : Type 0 where
  pub front : List Part
  pub was : old ≡ front ++ last ∷ []
  pub is : new ≡ front ++ part ∷ []
  pub firsts_stay : new_firsts ≡ old_firsts

-- a run with n letters more
abbrev pub with_more : TypedPart → ℕ → TypedPart
with_more r n = record { start = r.start; at = r.at; count = r.count + n }

-- a run comes after the parts
abbrev pub AddsRun : (old new : List Part) (old_firsts new_firsts : List ℕ) (first : ℕ) → TypedPart → Type 0
AddsRun old new old_firsts new_firsts first run =
    IsAppendedPart old new old_firsts new_firsts first (Typed run)
    ⊎ ((last : TypedPart) × (run.start ≡ start_after last.start last.count)
    × IsReplacedPart old new old_firsts new_firsts (Typed last) (Typed (with_more last run.count)))

-- Deletes of so many neighbours, forwards
abbrev pub forwards : Identifier → ℕ → Deletes
forwards target n = record { target = target; count = n; down = false }

-- Deletes of neighbours forwards from a target on, at most so many, come after the parts: n of them
abbrev pub AddsDeletes : (old new : List Part) (old_firsts new_firsts : List ℕ) (first : ℕ) → Identifier → (most n : ℕ) → Type 0
AddsDeletes old new old_firsts new_firsts first target most n =
    ((n ≡ most) × IsAppendedPart old new old_firsts new_firsts first (Deleted (forwards target most)))
    ⊎ ((last : Deletes) × (more : Deletes) × HasMoreDeletes last target most more × (n ≡ more.count - last.count)
    × IsReplacedPart old new old_firsts new_firsts (Deleted last) (Deleted more))

-- the first so many operations of a part
abbrev pub part_front : Part → ℕ → Part
part_front (Typed r) n = Typed (record { start = r.start; at = r.at; count = n })
part_front (Deleted d) n = Deleted (record { target = d.target; count = n; down = d.down })
part_front (Other k) n = Other k

-- how many letters so many operations of a part have
abbrev pub letters_of_part : Part → ℕ → ℕ
letters_of_part (Typed r) n = n
letters_of_part (Deleted d) n = 0
letters_of_part (Other k) n = 0

-- operations of the last part went: all, or as many as were asked for
abbrev pub TakesOffLast : (old new : List Part) (old_firsts new_firsts : List ℕ) (last : Part) (most count : ℕ) → Type 0
TakesOffLast old new old_firsts new_firsts last most count =
    ((count ≡ part_len last) × (count ≤ most) × (old ≡ new ++ last ∷ []) × (new_firsts ≡ take (length old_firsts - 1) old_firsts))
    ⊎ ((count ≡ most) × (most < part_len last) × IsReplacedPart old new old_firsts new_firsts last (part_front last (part_len last - most)))
