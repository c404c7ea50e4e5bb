-- More cells among those of a store.
use Rattle.std.proofs.Common.{◌≡◌, ◌≢◌, ℕ, suc, ◌+◌, ◌<◌, ◌≤◌, List, [], ◌∷◌, ◌++◌, ap, arith, inl, inr, length, length-append, refl, subst, sym, take, drop, ◌∙◌}
use Rattle.std.specs.Prelude.{slice_index_or, slice_set}
use Rattle.std.specs.List.{All, AllPairs, Contains}
use Rattle.std.proofs.lemmas.List.{drop-map, length-set, length-take-le, map-append, take-append-drop, take-map}
use Rattle.std.proofs.lemmas.List.Kept.{AllPairs-cons}
use Rattle.std.proofs.lemmas.List.Elements.{All-contains, Contains-append_cases, Contains-append_left, Contains-append_right}
use Rattle.fugue_ids.specs.Identifiers.{Identifier}
use Rattle.fugue_ids.specs.Listed.{index_of}
use Rattle.fugue_ids.specs.Runs.{id_after}
use Rattle.fugue_ids.proofs.ListLemmas.{all_from_contains, all_pairs_across, all_pairs_append, all_pairs_before, all_pairs_after, all_pairs_nil, contains_cases, contains_none}
use Rattle.run_store.specs.Cells.{cell_ids}
use Rattle.run_store.specs.Growth.{AreFresh, MayComeTo, inserted_at}
use Rattle.run_store.specs.Heads.{head_after, next_head, typed_cells}
use Rattle.run_store.specs.Runs.{AreLetters, AreRuns, IsRun, RunsView, all_cells, cells_in, cells_of, first_of, letters_of}
use Rattle.run_store.specs.declared.cell.Cell.{Cell}
use Rattle.run_store.specs.declared.cell.Head.{Head}
use Rattle.run_store.specs.declared.run.Run.{Run}
use Rattle.run_store.proofs.CellLemmas.{index-at}
use Rattle.run_store.proofs.GrowLemmas.{part-longer, set-stretch}
use Rattle.run_store.proofs.HeadLemmas.{length-typed}
use Rattle.run_store.proofs.RunsLemmas.{IsPlaced, Item, cell_there, cells_before, cells_after, length-letters}
use Rattle.fugue_ids.proofs.RunLemmas.{none_after}

-- the identifiers of typed cells are those after the first
ids-typed : (h : Head) (text : List ℕ) (x : Identifier) → Contains (cell_ids (typed_cells h text)) x → (k : ℕ) × (k < length text) × (x ≡ id_after h.id k)
ids-typed h [] x m = absurd (contains_none x m)
ids-typed h (c ∷ text) x m = elim (contains_cases h.id (cell_ids (typed_cells (next_head h) text)) x m) [
  | inl e ↦ (0, omega arith, sym e ∙ sym (none_after h.id))
  | inr k ↦
      let w = ids-typed (next_head h) text x k in
      let e : (h.id.counter + 1) + w.0 ≡ h.id.counter + suc w.0 = omega arith in
      let less : w.0 < length text = w.1 in
      (suc w.0, omega (arith, less), w.2 ∙ (λ i. record { replica = h.id.replica; counter = e i }))
]

-- so they are distinct
distinct-typed : (h : Head) (text : List ℕ) → AllPairs (λ x y. x ≢ y) (cell_ids (typed_cells h text))
distinct-typed h [] = all_pairs_nil (λ x y. x ≢ y)
distinct-typed h (c ∷ text) =
    let rest = cell_ids (typed_cells (next_head h) text) in
    AllPairs-cons (λ x y. x ≢ y) h.id rest
    (all_from_contains (λ y. h.id ≢ y) rest (λ y m e.
    let w = ids-typed (next_head h) text y m in
    let up : h.id.counter ≡ (h.id.counter + 1) + w.0 = ap (λ (x : Identifier). x.counter) (e ∙ w.2) in
    omega (arith, up)))
    (distinct-typed (next_head h) text)

ids-inserted : (cs new : List Cell) (k : ℕ) → cell_ids (inserted_at k new cs) ≡ take k (cell_ids cs) ++ (cell_ids new ++ drop k (cell_ids cs))
ids-inserted cs new k =
    map-append (λ (c : Cell). c.id) (take k cs) (new ++ drop k cs)
    ∙ (λ i. sym (take-map (λ (c : Cell). c.id) k cs) i ++ map-append (λ (c : Cell). c.id) new (drop k cs) i)
    ∙ ap (λ ids. take k (cell_ids cs) ++ (cell_ids new ++ ids)) (sym (drop-map (λ (c : Cell). c.id) k cs))

-- distinct cells with new ones
pub distinct-inserted : (cs : List Cell) (k : ℕ) (h : Head) (text : List ℕ) → AllPairs (λ x y. x ≢ y) (cell_ids cs) → AreFresh cs h.id (length text)
    → AllPairs (λ x y. x ≢ y) (cell_ids (inserted_at k (typed_cells h text) cs))
distinct-inserted cs k h text d fresh =
    let R : Identifier → Identifier → Type 0 = λ x y. x ≢ y in
    let xs = cell_ids cs in
    let new = cell_ids (typed_cells h text) in
    let front = take k xs in
    let back = drop k xs in
    let e : front ++ back ≡ xs = take-append-drop k xs in
    let parted : AllPairs R (front ++ back) = subst (AllPairs R) (sym e) d in
    let apart : (x : Identifier) → Contains xs x → (y : Identifier) → Contains new y → x ≢ y = λ x m y n same.
    let w = ids-typed h text y n in
    fresh w.0 w.1 (subst (Contains xs) (same ∙ w.2) m)
    in
    let in_front : (x : Identifier) → Contains front x → Contains xs x = λ x m. subst (λ l. Contains l x) e (Contains-append_left front back x m) in
    let in_back : (x : Identifier) → Contains back x → Contains xs x = λ x m. subst (λ l. Contains l x) e (Contains-append_right front back x m) in
    let across : All (λ x. All (R x) back) front = all_pairs_across R front back parted in
    subst (AllPairs R) (sym (ids-inserted cs (typed_cells h text) k))
    (all_pairs_append R front (new ++ back) (all_pairs_before R front back parted)
    (all_pairs_append R new back (distinct-typed h text) (all_pairs_after R front back parted)
    (all_from_contains (λ x. All (R x) back) new (λ x n. all_from_contains (R x) back (λ y m same. apart y (in_back y m) x n (sym same)))))
    (all_from_contains (λ x. All (R x) (new ++ back)) front (λ x m.
    all_from_contains (R x) (new ++ back) (λ y n.
    elim (Contains-append_cases new back y n) [
      | inl i ↦ apart x (in_front x m) y i
      | inr i ↦ All-contains (R x) back y (All-contains (λ z. All (R z) back) front x across m) i
    ]))))

-- the place of the cell at a place of a run
pub index-placed : (r : RunsView) (front : List Item) (run : Run) (o : ℕ) (back : List Item) → IsPlaced r front run o back → o < run.len
    → index_of (cell_ids (cells_in r)) (head_after o (first_of run)).id ≡ length (all_cells r.letters front) + o
index-placed r front run o back p l =
    let x = (head_after o (first_of run)).id in
    let F = cells_before r.letters front run o in
    let ls = letters_of r.letters run in
    let k : length (take o ls) ≡ o = length-take-le o ls (omega (arith, l, length-letters r.letters r.count (run.id, run) p.is_run)) in
    ap (λ cs. index_of (cell_ids cs) x) p.cells_is
    ∙ index-at x F (cell_there r.letters run o) (cells_after r.letters run (suc o) back) p.before refl
    ∙ omega (arith, k, length-append (all_cells r.letters front) (typed_cells (first_of run) (take o ls)), length-typed (first_of run) (take o ls))

-- the cells with new ones are as many more
length-inserted : (cs new : List Cell) (k : ℕ) → k ≤ length cs → length (inserted_at k new cs) ≡ length cs + length new
length-inserted cs new k within =
    let e = take-append-drop k cs in
    omega (arith, length-append (take k cs) (new ++ drop k cs), length-append new (drop k cs), length-append (take k cs) (drop k cs), ap length e)

-- the first identifier of new cells is fresh
pub fresh-first : (cs : List Cell) (h : Head) (n : ℕ) → MayComeTo cs h n → Contains (cell_ids cs) h.id → ⊥
fresh-first cs h n new m = new.fresh 0 new.some (subst (Contains (cell_ids cs)) (sym (none_after h.id)) m)

-- a new store whose cells are the old ones with new ones
module _ (r : RunsView) (s : AreRuns r) (h : Head) (text : List ℕ) (new : MayComeTo (cells_in r) h (length text)) where
  pub joined-sound : (now : RunsView) (k : ℕ) → k ≤ length (cells_in r) → All (IsRun now.letters now.count) now.rope
      → cells_in now ≡ inserted_at k (typed_cells h text) (cells_in r)
      → now.count ≡ r.count + length text → AreLetters now.letters now.count → AreRuns now
  joined-sound now k within each cells count letters =
      let n = ap length cells ∙ length-inserted (cells_in r) (typed_cells h text) k within in
      record {
        each = each;
        distinct = subst (λ cs. AllPairs (λ x y. x ≢ y) (cell_ids cs)) (sym cells) (distinct-inserted (cells_in r) k h text s.distinct new.fresh);
        counted = omega (arith, n, s.counted, count, length-typed h text);
        few = omega (arith, s.counted, new.room, count);
        letters = letters;
      }

  -- the letters with those of the cells after those of the first stretch
  abbrev pub first_letters : List ℕ
  first_letters = slice_index_or r.letters 0 []

  abbrev pub letters_begun : List (List ℕ)
  letters_begun = slice_set r.letters 0 (first_letters ++ text)

  abbrev pub alone_run : Run
  alone_run = record { id = h.id; left = h.left; right = h.right; hidden = h.hidden; key = h.key; stretch = 0; start = length first_letters; len = length text }

  first-begun : slice_index_or letters_begun 0 [] ≡ first_letters ++ text
  first-begun = set-stretch r.letters 0 (first_letters ++ text) s.letters.first

  pub begun-letters : AreLetters letters_begun (r.count + length text)
  begun-letters = record {
    first = omega (arith, s.letters.first, length-set r.letters 0 (first_letters ++ text));
    shared = omega (arith, s.letters.shared, ap length first-begun, length-append first_letters text);
    others = omega (arith, s.letters.others, length-set r.letters 0 (first_letters ++ text));
  }

  -- the numbers of a run of the cells alone
  pub alone-run : IsRun letters_begun (r.count + length text) (h.id, alone_run)
  alone-run =
      let d : 0 < h.key.depth = omega (arith, ap (λ k. k.depth) new.head.key) in
      record {
        named = refl;
        some = new.some;
        within = omega (arith, ap length first-begun, length-append first_letters text);
        counters = new.counters;
        ends = omega (arith, s.letters.shared);
        deep = d;
        depths = omega (arith, new.head.depths, s.counted);
        forests = omega (arith, new.head.forests, s.counted, new.some);
      }

  pub alone-cells : cells_of letters_begun alone_run ≡ typed_cells h text
  alone-cells =
      let all : length text ≡ 0 + length text = omega arith in
      ap (λ xs. typed_cells h (take (length text) (drop (length first_letters) xs))) first-begun
      ∙ ap (λ n. typed_cells h (take n (drop (length first_letters) (first_letters ++ text)))) all
      ∙ ap (typed_cells h) (part-longer (length first_letters) 0 first_letters text (omega arith))
