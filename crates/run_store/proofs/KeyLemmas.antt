-- The keys of the cells of runs.
use Rattle.std.proofs.Common.{◌≡◌, ℕ, ◌+◌, ◌<◌, ◌≤◌, ◌^◌, Bool, true, false, List, [], ◌∷◌, ◌++◌, ap, arith, inl, inr, length, refl, subst, sym, ◌∙◌}
use Rattle.std.specs.Prelude.{None, Some, if◌then◌else◌}
use Rattle.std.specs.List.{All, Contains}
use Rattle.std.proofs.lemmas.Bool.{cases_Bool, true≢false}
use Rattle.std.proofs.lemmas.List.{map-append}
use Rattle.std.proofs.lemmas.List.Elements.{All-append, All-cons, All-head, All-nil, All-tail}
use Rattle.fugue_ids.specs.Identifiers.{Identifier, id_eq}
use Rattle.fugue_ids.specs.Keys.{HasKey, IsFit, Keyed}
use Rattle.fugue_ids.specs.Keys as keys
use Rattle.fugue_ids.proofs.IdentifierLemmas.{eq-id_eq}
use Rattle.fugue_ids.proofs.ListLemmas.{contains_cases, contains_none}
use Rattle.fugue_ids.specs.declared.key.Key.{Key}
use Rattle.fugue_ids.specs.declared.limits.TheConstants.{MOST_OPERATIONS}
use Rattle.run_store.specs.Cells.{cell_of, cell_ids, keyed_cells}
use Rattle.run_store.specs.Heads.{next_head, typed_cells}
use Rattle.run_store.specs.Runs.{AreRuns, IsRun, RunsView, all_cells, cells_in, cells_of, first_of, letters_of}
use Rattle.run_store.specs.declared.cell.Cell.{Cell}
use Rattle.run_store.specs.declared.cell.Head.{Head}
use Rattle.run_store.proofs.RunsLemmas.{Item, length-letters}

abbrev keyed_cell : Cell → Keyed
keyed_cell c = record { id = c.id; key = c.key }

pub keyed-append : (xs ys : List Cell) → keyed_cells (xs ++ ys) ≡ keyed_cells xs ++ keyed_cells ys
keyed-append = map-append keyed_cell

fit-typed : (h : Head) (ls : List ℕ) → h.key.depth + length ls ≤ 2 ^ 32 → h.key.forest < 2 ^ 32 → All IsFit (keyed_cells (typed_cells h ls))
fit-typed h [] d f = All-nil IsFit
fit-typed h (l ∷ ls) d f =
    All-cons IsFit (record { id = h.id; key = h.key }) (keyed_cells (typed_cells (next_head h) ls)) (omega (arith, d), f)
    (fit-typed (next_head h) ls (omega (arith, d)) (omega arith))

fit-runs : (L : List (List ℕ)) (n : ℕ) → n ≤ MOST_OPERATIONS → (xs : List Item) → All (IsRun L n) xs → All IsFit (keyed_cells (all_cells L xs))
fit-runs L n few [] a = All-nil IsFit
fit-runs L n few (x ∷ xs) a =
    let r = All-head (IsRun L n) x xs a in
    subst (All IsFit) (sym (keyed-append (cells_of L x.1) (all_cells L xs)))
    (All-append IsFit (keyed_cells (cells_of L x.1)) (keyed_cells (all_cells L xs))
    (fit-typed (first_of x.1) (letters_of L x.1) (omega (arith, r.depths, few, length-letters L n x r)) (omega (arith, r.forests, few)))
    (fit-runs L n few xs (All-tail (IsRun L n) x xs a)))

-- the keys fit
pub all-fit : (r : RunsView) → AreRuns r → All IsFit (keyed_cells (cells_in r))
all-fit r s = fit-runs r.letters r.count s.few r.rope s.each

-- what the test of an identifier leaves to show of a key
abbrev ByTest : Cell → List Cell → Identifier → Key → Bool → Type 0
ByTest a cs x k b = elim b [ true ↦ (a.key ≡ k) | false ↦ HasKey (keyed_cells cs) x k ]

-- the key of a cell
pub has-key : (x : Identifier) (cs : List Cell) (c : Cell) → cell_of cs x ≡ Some c → HasKey (keyed_cells cs) x c.key
has-key x [] c e = cc
has-key x (a ∷ cs) c e = elim (cases_Bool (id_eq a.id x)) [
  | inl t ↦
      let f : Some a ≡ Some c = ap (λ b. if b then Some a else cell_of cs x) (sym t) ∙ e in
      let same : a ≡ c = cc in
      subst (ByTest a cs x c.key) (sym t) (ap (λ (z : Cell). z.key) same)
  | inr f ↦ subst (ByTest a cs x c.key) (sym f) (has-key x cs c (ap (λ b. if b then Some a else cell_of cs x) (sym f) ∙ e))
]

-- the identifiers of the cells as elements of an order
pub keyed-ids : (cs : List Cell) → keys.ids (keyed_cells cs) ≡ cell_ids cs
keyed-ids [] = refl
keyed-ids (c ∷ cs) = ap (λ xs. c.id ∷ xs) (keyed-ids cs)

-- a cell that is missing is not held
pub missing : (x : Identifier) (cs : List Cell) → cell_of cs x ≡ None → Contains (cell_ids cs) x → ⊥
missing x [] e h = contains_none x h
missing x (a ∷ cs) e h = elim (cases_Bool (id_eq a.id x)) [
  | inl t ↦ some-none (ap (λ b. if b then Some a else cell_of cs x) (sym t) ∙ e)
  | inr f ↦ elim (contains_cases a.id (cell_ids cs) x h) [
    | inl s ↦ true≢false (sym (eq-id_eq a.id x s) ∙ f)
    | inr m ↦ missing x cs (ap (λ b. if b then Some a else cell_of cs x) (sym f) ∙ e) m
  ]
]
  where
    some-none : Some a ≡ None → ⊥
    some-none e = cc
