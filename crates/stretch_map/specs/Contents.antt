-- The finite map that stretches stand for.
use Rattle.std.specs.Prelude.{ℕ, zero, suc, ◌-◌, List, [], ◌∷◌, ◌++◌, Option}
use Rattle.std.specs.Coded.{Coded, code_by, coded×, coded_ℕ, coded_option}
use Rattle.std.specs.FinMap.{FinMap, code, find, from_entries}
use Rattle.std.proofs.Common.{refl}
use Rattle.fugue_ids.specs.Identifiers.{Identifier, id_cmp}
use Rattle.fugue_ids.specs.Runs.{id_after}
use Rattle.stretch_map.specs.declared.stretches.Stretch.{Stretch}
use Rattle.stretch_map.specs.declared.stretches.Stretches.{Stretches}

-- the values of identifiers, and the identifier that came last, if none was removed since
pub record Mapped (V : Type 0) : Type 0 where
  pub values : FinMap id_cmp V
  pub newest : Option Identifier

-- an identifier is stored as a pair of numbers
abbrev pub coded_id : Coded Identifier
coded_id = code_by (ℕ × ℕ) (coded× coded_ℕ coded_ℕ) (λ x. (x.replica, x.counter)) (λ p. record { replica = p.0; counter = p.1 }) (λ _. refl)

-- and values with the one that came last as a pair of these
abbrev pub coded_mapped : {V : Type 0} → Coded V → Coded (Mapped V)
coded_mapped {V} v =
    code_by (FinMap id_cmp V × Option Identifier) (coded× (code coded_id v) (coded_option coded_id)) (λ h. (h.values, h.newest))
    (λ p. record { values = p.0; newest = p.1 })
    (λ _. refl)

-- the first n values of a stretch, the last of them first
abbrev pub run : {V : Type 0} → (Identifier → V → ℕ → V) → Identifier → V → ℕ → List (Identifier × V)
run nth first v zero = []
run nth first v (suc n) = (id_after first n, nth first v n) ∷ run nth first v n

-- the values of stretches
abbrev pub spread : {V : Type 0} → (Identifier → V → ℕ → V) → List (Identifier × Stretch V) → List (Identifier × V)
spread nth [] = []
spread nth (e ∷ es) = run nth e.0 e.1.value (suc e.1.last - e.0.counter) ++ spread nth es

-- a stretch, under its first identifier
abbrev pub StretchEntry : Type 0 → Type 0
StretchEntry V = Identifier × Stretch V

-- the last stretch of a replica: the counter that it begins with, and the stretch
abbrev pub Latest : Type 0 → Type 0
Latest V = ℕ × Stretch V

-- how stretches are kept: at most one of each replica, the last one of it, under that replica, and the others
abbrev pub Layout : Type 0 → Type 0
Layout V = List (ℕ × Latest V) × List (StretchEntry V)

-- all that the map holds
abbrev pub layout : {V : Type 0} → Stretches V → Layout V
layout s = (s.latest.by_replica.entries, s.kept.entries)

-- all stretches
abbrev pub entries_with : {V : Type 0} → List (ℕ × Latest V) → List (StretchEntry V) → List (StretchEntry V)
entries_with [] es = es
entries_with (x ∷ xs) es = (record { replica = x.0; counter = x.1.0 }, x.1.1) ∷ entries_with xs es

-- the value that stretches have at an identifier
abbrev pub value_in : {V : Type 0} → (Identifier → V → ℕ → V) → Layout V → Identifier → Option V
value_in nth l q = find id_cmp q (spread nth (entries_with l.0 l.1))

-- and those of a map
abbrev pub value_at_id : {V : Type 0} → (Identifier → V → ℕ → V) → Stretches V → Identifier → Option V
value_at_id nth s = value_in nth (layout s)

-- what stretches stand for
abbrev pub contents : {V : Type 0} → (Identifier → V → ℕ → V) → Layout V → FinMap id_cmp V
contents nth l = from_entries (spread nth (entries_with l.0 l.1))
