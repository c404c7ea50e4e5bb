-- What the parts of a list of operations stand for, and what is so of them.
use Rattle.std.specs.Prelude.{◌≡◌, ℕ, ◌+◌, ◌<◌, ◌≤◌, ◌^◌, ◌⊎◌, Bool, true, false, Option, Some, None, All, List, [], ◌∷◌, length, take}
use Rattle.std.specs.Prelude.{drop, flat_map, slice_get}
use Rattle.fugue_ids.specs.Identifiers.{Identifier}
use Rattle.fugue_ids.specs.Ops.{target_of}
use Rattle.fugue_ids.specs.Runs.{id_after, run_from, start_after, text_in}
use Rattle.op_runs.specs.declared.part.TheConstants.{MOST_LISTED}
use Rattle.fugue_ids.specs.declared.op.Op.{Op}
use Rattle.op_runs.specs.Deletions.{CountersFit, deletes_by}
use Rattle.op_runs.specs.declared.part.Deletes.{Deletes}
use Rattle.op_runs.specs.declared.part.Part.{Part}
use Rattle.op_runs.specs.declared.part.Part.TheVariants.{Deleted, Other, Typed}

-- one of the operations that are neither Texts nor Deletes
abbrev pub other_ops : Option Op → List Op
other_ops None = []
other_ops (Some op) = op ∷ []

-- the operations of a part
abbrev pub part_ops : List ℕ → List Op → Part → List Op
part_ops letters others (Typed r) = run_from r.start (take r.count (drop r.at letters))
part_ops letters others (Deleted d) = deletes_by d.down d.target d.count
part_ops letters others (Other k) = other_ops (slice_get others k)

-- the operations of all
abbrev pub ops_of : List ℕ → List Op → List Part → List Op
ops_of letters others parts = flat_map (part_ops letters others) parts

-- the part is not empty, and its counters fit
abbrev pub IsWholePart : Part → Type 0
IsWholePart (Typed r) = (0 < r.count) × (r.start.id.counter + r.count ≤ 2 ^ 32)
IsWholePart (Deleted d) = (0 < d.count) × CountersFit d.down d.target d.count
IsWholePart (Other k) = Unit {0}

-- of so many letters and others those of the part are there
abbrev pub IsInside : (letters others : ℕ) → Part → Type 0
IsInside letters others (Typed r) = r.at + r.count ≤ letters
IsInside letters others (Deleted d) = Unit {0}
IsInside letters others (Other k) = k < others

-- both
abbrev pub IsSoundPart : (letters others : ℕ) → Part → Type 0
IsSoundPart letters others part = IsWholePart part × IsInside letters others part

-- how many operations a part has
abbrev pub part_len : Part → ℕ
part_len (Typed r) = r.count
part_len (Deleted d) = d.count
part_len (Other k) = 1

-- how many letters it has
abbrev pub letters_in : Part → ℕ
letters_in (Typed r) = r.count
letters_in (Deleted d) = 0
letters_in (Other k) = 0

-- how many of the others it has
abbrev pub others_in : Part → ℕ
others_in (Typed r) = 0
others_in (Deleted d) = 0
others_in (Other k) = 1

-- its letters, or its other operation, stand after so many
abbrev pub PartStandsAfter : (letters others : ℕ) → Part → Type 0
PartStandsAfter letters others (Typed r) = r.at ≡ letters
PartStandsAfter letters others (Deleted d) = Unit {0}
PartStandsAfter letters others (Other k) = k ≡ others

-- the parts use letters and others in turn, from l and o on, and end where there are L and O
abbrev pub AreLaid : (l o : ℕ) → List Part → (L O : ℕ) → Type 0
AreLaid l o [] L O = (l ≡ L) × (o ≡ O)
AreLaid l o (p ∷ ps) L O = PartStandsAfter l o p × AreLaid (l + letters_in p) (o + others_in p) ps L O

-- a target goes on with Deletes of neighbours in a direction; one Delete has none yet
abbrev pub GoesOnBy : Deletes → Identifier → (down : Bool) → Type 0
GoesOnBy d target true = ((d.count ≡ 1) ⊎ (d.down ≡ true)) × (d.target ≡ id_after target d.count)
GoesOnBy d target false = ((d.count ≡ 1) ⊎ (d.down ≡ false)) × (target ≡ id_after d.target d.count)

-- in one of the two
abbrev pub IsNextTarget : Deletes → Identifier → Type 0
IsNextTarget d target = GoesOnBy d target false ⊎ GoesOnBy d target true

-- the first operation of a part goes on with another part
abbrev pub ContinuesPart : (part next : Part) → Type 0
ContinuesPart (Typed r) (Typed q) = q.start ≡ start_after r.start r.count
ContinuesPart (Deleted d) (Deleted e) = IsNextTarget d e.target
ContinuesPart _ _ = ⊥

-- it does not go on with the first of these
abbrev pub StandsApart : Part → List Part → Type 0
StandsApart p [] = Unit {0}
StandsApart p (q ∷ qs) = ContinuesPart p q → ⊥

-- no part goes on with the one before it
abbrev pub AreApart : List Part → Type 0
AreApart [] = Unit {0}
AreApart (p ∷ ps) = StandsApart p ps × AreApart ps

-- the position of the first operation of each part, where so many stand before all
abbrev pub firsts_of : ℕ → List Part → List ℕ
firsts_of n [] = []
firsts_of n (p ∷ ps) = n ∷ firsts_of (n + part_len p) ps

-- neither a Text nor a Delete
abbrev pub IsOther : Op → Type 0
IsOther op = (text_in op ≡ None) × (target_of op ≡ None)

-- what is so of every list of operations
pub record AreParts (letters : List ℕ) (others : List Op) (parts : List Part) (firsts : List ℕ) (count : ℕ) : Type 0 where
  pub whole : All IsWholePart parts
  pub laid : AreLaid 0 0 parts (length letters) (length others)
  pub apart : AreApart parts
  pub are_others : All IsOther others
  pub firsts_are : firsts ≡ firsts_of 0 parts
  pub counted : count ≡ length (ops_of letters others parts)
  pub small : count ≤ MOST_LISTED
