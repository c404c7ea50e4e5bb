-- Laws of what changed, and of who wrote what.
use Rattle.std.specs.Prelude.{◌≡◌, ◌<◌, ℕ, nat_eq, Bool, true, false, Option, Some, List, [], ◌∷◌, filter, flat_map, is_some, length}
use Rattle.std.specs.Prelude.{sum_by}
use Rattle.std.specs.List.{All}
use Rattle.fugue_ids.specs.Identifiers.{Identifier}
use Rattle.fugue_ids.specs.declared.op.Op.{Op}
use Rattle.origin_model.specs.operations.Verdict.{Lawful}
use Rattle.origin_model.specs.order.Printed.{text}
use Rattle.catalogue_notes.specs.Arranged.{arranged}
use Rattle.change_marks.specs.Authors.{passages}
use Rattle.change_marks.specs.Changes.{IsLater, changes_text, head_of_new, change_text}
use Rattle.change_marks.specs.Marks.{run_letters, mark_eq, runs}
use Rattle.change_marks.specs.Stretches.{Stretch, stretches}
use Rattle.change_marks.specs.declared.mark.Mark.{Mark}
use Rattle.change_marks.specs.declared.mark.Mark.TheVariants.{Kept, New, Gone}

-- the run is of today's text: kept or new
abbrev pub is_of_now : Mark → Bool
is_of_now Kept = true
is_of_now (New replica) = true
is_of_now Gone = false

-- the run is of the text of the moment: kept or gone
abbrev pub is_of_then : Mark → Bool
is_of_then Kept = true
is_of_then (New replica) = false
is_of_then Gone = true

-- the run is new
abbrev pub is_new : Mark → Bool
is_new Kept = false
is_new (New replica) = true
is_new Gone = false

-- the letters of those runs whose mark passes the test
abbrev pub letters_where : (Mark → Bool) → List Op → List (Stretch Mark) → List ℕ
letters_where test h rs = flat_map (run_letters h) (filter (λ (run : Stretch Mark). test run.key) rs)

-- the kept and the new runs of a section are its text, and the kept and the gone ones are what it was
pub record AreFiltered (f h : List Op) (s : Identifier) : Type 0 where
  pub now : letters_where is_of_now h (runs false f h s) ≡ text h s
  pub then : letters_where is_of_then h (runs false f h s) ≡ text f s

-- what is marked as kept and gone is the earlier text, and what is marked as kept and new is the later one
abbrev pub ChangesByFilter : Type 0
ChangesByFilter = (f h : List Op) (s : Identifier) → Lawful h → IsLater f h → AreFiltered f h s

-- nothing changed since now
abbrev pub NothingSinceNow : Type 0
NothingSinceNow = (h : List Op) → Lawful h → changes_text h h ≡ []

-- what is reported of a new section
abbrev pub section_new : List Op → Identifier → List ℕ
section_new h s = change_text h (head_of_new h s) (runs false [] h s)

-- since the beginning each section is new, and so is each run of it
pub record IsAllNew (h : List Op) : Type 0 where
  pub sections : changes_text [] h ≡ flat_map (section_new h) (arranged h)
  pub each : (s : Identifier) → All (λ (run : Stretch Mark). is_new run.key ≡ true) (runs false [] h s)

-- since the beginning all that is shown is new
abbrev pub AllSinceTheBeginning : Type 0
AllSinceTheBeginning = (h : List Op) → Lawful h → IsAllNew h

-- the numbers of a section add up to its shown text
abbrev pub AuthorsTellAll : Type 0
AuthorsTellAll = (h : List Op) (s : Identifier) → Lawful h
    → sum_by (λ (p : Stretch ℕ). length p.elements) (passages h s) ≡ length (text h s)

-- no two stretches that follow one another have one key
abbrev pub NeighboursHaveOwnKeys : {K : Type 0} → (K → K → Bool) → List (Stretch K) → Type 0
NeighboursHaveOwnKeys same [] = Unit {0}
NeighboursHaveOwnKeys same (s ∷ []) = Unit {0}
NeighboursHaveOwnKeys same (s ∷ t ∷ ss) = (same s.key t.key ≡ false) × NeighboursHaveOwnKeys same (t ∷ ss)

-- the stretches, joined, are the elements that have a key, each in a stretch of its key; none is empty, and none could be longer
pub record AreMaximalStretches {K : Type 0} (same : K → K → Bool) (key : Identifier → Option K) (xs : List Identifier)
    (ss : List (Stretch K)) : Type 0 where
  pub all : flat_map (λ (s : Stretch K). s.elements) ss ≡ filter (λ x. is_some (key x)) xs
  pub keys : All (λ (s : Stretch K). All (λ x. key x ≡ Some s.key) s.elements) ss
  pub some : All (λ (s : Stretch K). 0 < length s.elements) ss
  pub apart : NeighboursHaveOwnKeys same ss

-- that holds of the runs of marks and of the runs of replicas
pub record StretchesAreLongest : Type 0 where
  pub marks : (key : Identifier → Option Mark) (xs : List Identifier) → AreMaximalStretches mark_eq key xs (stretches mark_eq key xs)
  pub replicas : (key : Identifier → Option ℕ) (xs : List Identifier) → AreMaximalStretches nat_eq key xs (stretches nat_eq key xs)
