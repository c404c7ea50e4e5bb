-- Where the cells of a run stand among all.
use Rattle.std.proofs.Common.{◌≡◌, ◌≢◌, ℕ, suc, ◌<◌, ◌≤◌, false, List, [], ◌∷◌, ◌++◌, ap, append_assoc, arith, get_or, length, length-append, length-drop, subst, sym, take, drop}
use Rattle.std.proofs.Common.{◌∙◌}
use Rattle.std.specs.Prelude.{Some, slice_index_or}
use Rattle.std.specs.List.{All, AllPairs}
use Rattle.std.proofs.lemmas.Grind.{flat_map-append}
use Rattle.std.proofs.lemmas.List.{length-take-le}
use Rattle.std.proofs.lemmas.List.Elements.{All-head, All-tail}
use Rattle.fugue_ids.specs.Identifiers.{Identifier, id_eq}
use Rattle.fugue_ids.proofs.ListLemmas.{all_after, all_before}
use Rattle.node_rope.specs.Items.{value_under}
use Rattle.run_store.specs.Cells.{cell_ids}
use Rattle.run_store.specs.Heads.{head_after, cell_with_letter, typed_cells}
use Rattle.run_store.specs.Runs.{AreRuns, IsRun, RunsView, all_cells, cells_in, cells_of, first_of, letters_of}
use Rattle.run_store.specs.declared.cell.Cell.{Cell}
use Rattle.run_store.specs.declared.run.Run.{Run}
use Rattle.run_store.proofs.HeadLemmas.{length-typed, typed-at}
use Rattle.run_store.proofs.CellLemmas.{Others, others-back, others-front}
use Rattle.run_store.proofs.RopeLemmas.{OtherKeys, found}

abbrev pub Item : Type 0
Item = Identifier × Run

-- a run that is held is among the fields
pub held-in : {fields now : RunsView} → fields ≡ now → (run : Run) → value_under run.id now.rope ≡ Some run → value_under run.id fields.rope ≡ Some run
held-in is run held = ap (λ (z : RunsView). value_under run.id z.rope) is ∙ held

module _ (L : List (List ℕ)) where
  -- a run has front many letters front its length says
  pub length-letters : (n : ℕ) (x : Item) → IsRun L n x → length (letters_of L x.1) ≡ x.1.len
  length-letters n x r =
      let s = slice_index_or L x.1.stretch [] in
      length-take-le x.1.len (drop x.1.start s) (omega (arith, r.within, length-drop x.1.start s))

  pub others-head : (x : Identifier) (front bs : List Cell) → Others x (front ++ bs) → Others x front
  others-head x [] bs o = tt
  others-head x (a ∷ front) bs o = (o.0, others-head x front bs o.1)

  pub others-tail : (x : Identifier) (front bs : List Cell) → Others x (front ++ bs) → Others x bs
  others-tail x [] bs o = o
  others-tail x (a ∷ front) bs o = others-tail x front bs o.1

  -- who is no cell of a run is not its first one
  first-other : (n : ℕ) (k : Identifier) (x : Item) → IsRun L n x → Others k (cells_of L x.1) → id_eq x.0 k ≡ false
  first-other n k x r o = by_letters (letters_of L x.1) (length-letters n x r) o
    where
      by_letters : (ls : List ℕ) → length ls ≡ x.1.len → Others k (typed_cells (first_of x.1) ls) → id_eq x.0 k ≡ false
      by_letters [] e p = absurd (omega (arith, e, r.some))
      by_letters (c ∷ cs) e p = ap (λ i. id_eq i k) r.named ∙ p.0

  -- who is no cell of runs is no key of theirs
  pub keys-other : (n : ℕ) (k : Identifier) (xs : List Item) → All (IsRun L n) xs → Others k (all_cells L xs) → OtherKeys k xs
  keys-other n k [] a o = tt
  keys-other n k (x ∷ xs) a o = (
    first-other n k x (All-head (IsRun L n) x xs a) (others-head k (cells_of L x.1) (all_cells L xs) o),
    keys-other n k xs (All-tail (IsRun L n) x xs a) (others-tail k (cells_of L x.1) (all_cells L xs) o),
  )

  pub cells-append : (xs ys : List Item) → all_cells L (xs ++ ys) ≡ all_cells L xs ++ all_cells L ys
  cells-append = flat_map-append (λ x. cells_of L x.1)

  -- the cells around the one at a place of a run
  abbrev pub cells_before : List Item → Run → ℕ → List Cell
  cells_before front run o = all_cells L front ++ typed_cells (first_of run) (take o (letters_of L run))

  abbrev pub cells_after : Run → ℕ → List Item → List Cell
  cells_after run o back = typed_cells (head_after o (first_of run)) (drop o (letters_of L run)) ++ all_cells L back

  abbrev pub cell_there : Run → ℕ → Cell
  cell_there run o = cell_with_letter (head_after o (first_of run)) (get_or (letters_of L run) o 0)

  pub cells-around : (front : List Item) (run : Run) (o : ℕ) (back : List Item) (n : ℕ) → IsRun L n (run.id, run) → o < run.len
      → all_cells L (front ++ (run.id, run) ∷ back) ≡ cells_before front run o ++ cell_there run o ∷ cells_after run (suc o) back
  cells-around front run o back n r l =
      let ls = letters_of L run in
      let t = typed_cells (first_of run) (take o ls) in
      let u = typed_cells (head_after (suc o) (first_of run)) (drop (suc o) ls) in
      cells-append front ((run.id, run) ∷ back)
      ∙ ap (λ cs. all_cells L front ++ (cs ++ all_cells L back)) (typed-at (first_of run) o ls (omega (arith, l, length-letters n (run.id, run) r)))
      ∙ ap (λ cs. all_cells L front ++ cs) (append_assoc t (cell_there run o ∷ u) (all_cells L back))
      ∙ sym (append_assoc (all_cells L front) t (cell_there run o ∷ (u ++ all_cells L back)))

-- the cell at a place of a run, among all
pub record IsPlaced (r : RunsView) (front : List Item) (run : Run) (o : ℕ) (back : List Item) : Type 0 where
  pub rope_is : r.rope ≡ front ++ (run.id, run) ∷ back
  pub is_run : IsRun r.letters r.count (run.id, run)
  pub cells_is : cells_in r ≡ cells_before r.letters front run o ++ cell_there r.letters run o ∷ cells_after r.letters run (suc o) back
  pub before : Others (head_after o (first_of run)).id (cells_before r.letters front run o)
  pub behind : Others (head_after o (first_of run)).id (cells_after r.letters run (suc o) back)

pub placed : (r : RunsView) → AreRuns r → (front : List Item) (run : Run) (o : ℕ) (back : List Item) → r.rope ≡ front ++ (run.id, run) ∷ back → o < run.len
    → IsPlaced r front run o back
placed r s front run o back is l =
    let runs : All (IsRun r.letters r.count) (front ++ (run.id, run) ∷ back) = subst (All (IsRun r.letters r.count)) is s.each in
    let this = All-head (IsRun r.letters r.count) (run.id, run) back (all_after (IsRun r.letters r.count) front ((run.id, run) ∷ back) runs) in
    let e = ap (all_cells r.letters) is ∙ cells-around r.letters front run o back r.count this l in
    let d = subst (λ cs. AllPairs (λ x y. x ≢ y) (cell_ids cs)) e s.distinct in
    record {
      rope_is = is;
      is_run = this;
      cells_is = e;
      before = others-front (cells_before r.letters front run o) (cell_there r.letters run o) (cells_after r.letters run (suc o) back) d;
      behind = others-back (cells_before r.letters front run o) (cell_there r.letters run o) (cells_after r.letters run (suc o) back) d;
    }

-- the keys of the other runs are no cells of a run
pub keys-apart : (r : RunsView) → AreRuns r → (front : List Item) (run : Run) (o : ℕ) (back : List Item) → r.rope ≡ front ++ (run.id, run) ∷ back → o < run.len
    → OtherKeys (head_after o (first_of run)).id front × OtherKeys (head_after o (first_of run)).id back
keys-apart r s front run o back is l =
    let x = (head_after o (first_of run)).id in
    let p = placed r s front run o back is l in
    let runs : All (IsRun r.letters r.count) (front ++ (run.id, run) ∷ back) = subst (All (IsRun r.letters r.count)) is s.each in
    let behind = All-tail (IsRun r.letters r.count) (run.id, run) back (all_after (IsRun r.letters r.count) front ((run.id, run) ∷ back) runs) in (
      keys-other r.letters r.count x front (all_before (IsRun r.letters r.count) front ((run.id, run) ∷ back) runs)
          (others-head r.letters x (all_cells r.letters front) (typed_cells (first_of run) (take o (letters_of r.letters run))) p.before),
      keys-other r.letters r.count x back behind
          (others-tail r.letters x (typed_cells (head_after (suc o) (first_of run)) (drop (suc o) (letters_of r.letters run))) (all_cells r.letters back) p.behind),
    )

pub record IsLocated (r : RunsView) (run : Run) (o : ℕ) : Type 0 where
  pub front : List Item
  pub back : List Item
  pub place : IsPlaced r front run o back

pub located : (r : RunsView) → AreRuns r → (run : Run) (o : ℕ) → value_under run.id r.rope ≡ Some run → o < run.len → IsLocated r run o
located r s run o v l = let p = found run.id run r.rope v in record { front = p.front; back = p.back; place = placed r s p.front run o p.back p.is l }

-- a run that is kept under a key
pub kept-run : (r : RunsView) → AreRuns r → (k : Identifier) (run : Run) → value_under k r.rope ≡ Some run → IsRun r.letters r.count (k, run)
kept-run r s k run v =
    let p = found k run r.rope v in
    let runs : All (IsRun r.letters r.count) (p.front ++ (k, run) ∷ p.back) = subst (All (IsRun r.letters r.count)) p.is s.each in
    All-head (IsRun r.letters r.count) (k, run) p.back (all_after (IsRun r.letters r.count) p.front ((k, run) ∷ p.back) runs)

-- no more runs than cells
runs-few : (L : List (List ℕ)) (n : ℕ) (xs : List Item) → All (IsRun L n) xs → length xs ≤ length (all_cells L xs)
runs-few L n [] a = omega arith
runs-few L n (x ∷ xs) a =
    let r = All-head (IsRun L n) x xs a in
    omega (
      arith,
      runs-few L n xs (All-tail (IsRun L n) x xs a),
      length-append (cells_of L x.1) (all_cells L xs),
      length-typed (first_of x.1) (letters_of L x.1),
      length-letters L n x r,
      r.some,
    )

pub few-runs : (r : RunsView) → AreRuns r → length r.rope ≤ r.count
few-runs r s = omega (arith, runs-few r.letters r.count r.rope s.each, s.counted)
