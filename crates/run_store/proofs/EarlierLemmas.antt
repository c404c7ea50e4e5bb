-- Which of two cells stands before the other.
use Rattle.std.proofs.Common.{◌≡◌, ◌⊎◌, ℕ, zero, suc, ◌+◌, ◌<◌, ◌≤◌, true, false, List, [], ◌∷◌, ap, arith, inl, inr, length, length-append, nat_lt, sym, take, ◌∙◌}
use Rattle.std.specs.Prelude.{Some, slice_get}
use Rattle.std.proofs.lemmas.Bool.Decides.{nat_tests}
use Rattle.fugue_ids.specs.Identifiers.{Identifier, id_eq}
use Rattle.fugue_ids.specs.Listed.{index_of}
use Rattle.fugue_ids.proofs.IdentifierLemmas.{id_eq-false, id_eq-true}
use Rattle.node_rope.specs.Items.{value_under}
use Rattle.run_store.specs.Cells.{cell_ids}
use Rattle.run_store.specs.Heads.{head_after}
use Rattle.run_store.specs.Runs.{AreRuns, IsCellSpot, RunsView, all_cells, cells_in, cells_of, first_of, letters_of}
use Rattle.run_store.specs.Standings.{cells_to}
use Rattle.run_store.specs.declared.run.Run.{Run}
use Rattle.run_store.proofs.HeadLemmas.{length-typed}
use Rattle.run_store.proofs.InsertLemmas.{index-placed}
use Rattle.run_store.proofs.PlaceLemmas.{placed-at, run-at}
use Rattle.run_store.proofs.RunsLemmas.{Item, length-letters, located, placed}

-- the cells of a run stand before those of a later one
width : (L : List (List ℕ)) (xs : List Item) (i j : ℕ) (x : Item) → slice_get xs i ≡ Some x → i < j → cells_to L xs i + length (cells_of L x.1) ≤ cells_to L xs j
width L [] i j x e l = cc
width L (y ∷ xs) i zero x e l = absurd (omega (arith, l))
width L (y ∷ xs) zero (suc j) x e l =
    let same : y ≡ x = cc in
    omega (arith, length-append (cells_of L y.1) (all_cells L (take j xs)), ap (λ (z : Item). length (cells_of L z.1)) same)
width L (y ∷ xs) (suc i) (suc j) x e l =
    omega (arith, width L xs i j x e (omega (arith, l)), length-append (cells_of L y.1) (all_cells L (take i xs)), length-append (cells_of L y.1) (all_cells L (take j xs)))

cases_order : (i j : ℕ) → (i < j) ⊎ ((i ≡ j) ⊎ (j < i))
cases_order i j = grind arith

compared : (i j v w : ℕ) → (i < j → v < w) → (j < i → w < v) → (i ≡ j → ⊥) → nat_lt i j ≡ nat_lt v w
compared i j v w less more same = elim (cases_order i j) [
  | inl l ↦ let f = less l in grind (arith, nat_tests)
  | inr r ↦ elim r [
    | inl e ↦ absurd (same e)
    | inr m ↦ let f = more m in grind (arith, nat_tests)
  ]
]

module _ (r : RunsView) (s : AreRuns r) where
  pub run-width : (i j : ℕ) (x : Item) → slice_get r.rope i ≡ Some x → i < j → cells_to r.letters r.rope i + x.1.len ≤ cells_to r.letters r.rope j
  run-width i j x e l =
      omega (
        arith,
        width r.letters r.rope i j x e l,
        length-typed (first_of x.1) (letters_of r.letters x.1),
        length-letters r.letters r.count x (run-at r s i x.0 x.1 e),
      )

  -- the index of the cell at a spot
  pub index-spot : (x : Identifier) (run : Run) (o i : ℕ) → IsCellSpot r.rope x run o → slice_get r.rope i ≡ Some (run.id, run)
      → index_of (cell_ids (cells_in r)) x ≡ cells_to r.letters r.rope i + o
  index-spot x run o i at e =
      ap (index_of (cell_ids (cells_in r))) at.is ∙ index-placed r (take i r.rope) run o _ (placed-at r s i run o e at.inside) at.inside

  -- the cells of different runs stand as these do
  pub earlier-runs : (x y : Identifier) (run other : Run) (o p i j : ℕ) → id_eq run.id other.id ≡ false → IsCellSpot r.rope x run o → IsCellSpot r.rope y other p
      → slice_get r.rope i ≡ Some (run.id, run)
      → slice_get r.rope j ≡ Some (other.id, other) → nat_lt i j ≡ nat_lt (index_of (cell_ids (cells_in r)) x) (index_of (cell_ids (cells_in r)) y)
  earlier-runs x y run other o p i j apart at by e f =
      let a = index-spot x run o i at e in
      let b = index-spot y other p j by f in
      compared i j (cells_to r.letters r.rope i + o) (cells_to r.letters r.rope j + p)
      (λ l. omega (arith, run-width i j (run.id, run) e l, at.inside))
      (λ l. omega (arith, run-width j i (other.id, other) f l, by.inside))
      (λ q. id_eq-false run.id other.id apart (same_key (run.id, run) (other.id, other) (sym e ∙ ap (slice_get r.rope) q ∙ f)))
      ∙ (λ k. nat_lt (sym a k) (sym b k))
    where
      same_key : (k l : Item) → Some k ≡ Some l → k.0 ≡ l.0
      same_key k l q = let same : k ≡ l = cc in ap (λ (z : Item). z.0) same

  -- and those of one run by their offsets
  pub earlier-within : (x y : Identifier) (run other : Run) (o p : ℕ) → id_eq run.id other.id ≡ true → IsCellSpot r.rope x run o → IsCellSpot r.rope y other p
      → nat_lt o p ≡ nat_lt (index_of (cell_ids (cells_in r)) x) (index_of (cell_ids (cells_in r)) y)
  earlier-within x y run other o p t at by =
      let v : Some run ≡ Some other = sym at.held ∙ ap (λ k. value_under k r.rope) (id_eq-true run.id other.id t) ∙ by.held in
      let same : run ≡ other = cc in
      let l = located r s run o at.held at.inside in
      let m : p < run.len = omega (arith, by.inside, ap (λ (z : Run). z.len) same) in
      let q = placed r s l.front run p l.back l.place.rope_is m in
      let a = ap (index_of (cell_ids (cells_in r))) at.is ∙ index-placed r l.front run o l.back l.place at.inside in
      let b = ap (index_of (cell_ids (cells_in r))) (by.is ∙ ap (λ z. (head_after p (first_of z)).id) (sym same)) ∙ index-placed r l.front run p l.back q m in
      shifted (length (all_cells r.letters l.front)) o p ∙ (λ k. nat_lt (sym a k) (sym b k))
    where
      shifted : (n c d : ℕ) → nat_lt c d ≡ nat_lt (n + c) (n + d)
      shifted n c d = grind (arith, nat_tests)
