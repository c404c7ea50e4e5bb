-- A run at a place of the rope.
use Rattle.std.proofs.Common.{◌≡◌, ℕ, zero, suc, ◌-◌, ◌<◌, ◌≤◌, List, [], ◌∷◌, ◌++◌, ap, append_assoc, arith, get_or, length, refl, subst, sym, take, drop, ◌∙◌}
use Rattle.std.specs.Prelude.{Option, None, Some, option_map, slice_get}
use Rattle.std.specs.List.{All}
use Rattle.std.specs.Map.{keys_of}
use Rattle.std.proofs.lemmas.List.{drop_all}
use Rattle.std.proofs.lemmas.List.Elements.{All-head}
use Rattle.fugue_ids.specs.Identifiers.{Identifier}
use Rattle.fugue_ids.specs.Keys.{first_id, last_id}
use Rattle.fugue_ids.proofs.ListLemmas.{all_after}
use Rattle.node_rope.specs.Items.{value_under}
use Rattle.node_rope.specs.Places.{StandsAt}
use Rattle.run_store.specs.Cells.{keyed_cells}
use Rattle.run_store.specs.Heads.{head_after, cell_with_letter, next_head, typed_cells}
use Rattle.run_store.specs.Runs.{AreRuns, IsRun, RunsView, all_cells, first_of, letters_of}
use Rattle.run_store.specs.declared.cell.Cell.{Cell}
use Rattle.run_store.specs.declared.cell.Head.{Head}
use Rattle.run_store.specs.declared.run.Run.{Run}
use Rattle.run_store.proofs.HeadLemmas.{behind-next}
use Rattle.run_store.proofs.RopeLemmas.{value-at}
use Rattle.run_store.proofs.RunsLemmas.{IsPlaced, Item, cell_there, cells-around, cells_before, cells_after, keys-apart, length-letters, placed}

module _ {X : Type 0} where
  -- a list around one of its members
  pub at-split : (xs : List X) (i : ℕ) (x : X) → slice_get xs i ≡ Some x → xs ≡ take i xs ++ x ∷ drop (suc i) xs
  at-split [] i x e = cc
  at-split (y ∷ xs) zero x e = let s : y ≡ x = cc in ap (λ z. z ∷ xs) s
  at-split (y ∷ xs) (suc i) x e = ap (λ zs. y ∷ zs) (at-split xs i x e)

  pub at-within : (xs : List X) (i : ℕ) (x : X) → slice_get xs i ≡ Some x → i < length xs
  at-within [] i x e = cc
  at-within (y ∷ xs) zero x e = omega arith
  at-within (y ∷ xs) (suc i) x e = omega (arith, at-within xs i x e)

  pub drop-there : (xs : List X) (i : ℕ) (x : X) → slice_get xs i ≡ Some x → drop i xs ≡ x ∷ drop (suc i) xs
  drop-there [] i x e = cc
  drop-there (y ∷ xs) zero x e = let s : y ≡ x = cc in ap (λ z. z ∷ xs) s
  drop-there (y ∷ xs) (suc i) x e = drop-there xs i x e

  pub drop-first : (xs : List X) (i : ℕ) → slice_get (drop i xs) 0 ≡ slice_get xs i
  drop-first xs zero = refl
  drop-first [] (suc i) = refl
  drop-first (x ∷ xs) (suc i) = drop-first xs i

module _ {T : Type 0} where
  pub key-there : (xs : List (Identifier × T)) (i : ℕ) (k : Identifier) → slice_get (keys_of xs) i ≡ Some k → (v : T) × (slice_get xs i ≡ Some (k, v))
  key-there [] i k e = cc
  key-there (x ∷ xs) zero k e = let s : x.0 ≡ k = cc in (x.1, λ i. Some (s i, x.1))
  key-there (x ∷ xs) (suc i) k e = key-there xs i k e

  pub keys-get : (xs : List (Identifier × T)) (i : ℕ) → slice_get (keys_of xs) i ≡ option_map (λ x. x.0) (slice_get xs i)
  keys-get [] i = refl
  keys-get (x ∷ xs) zero = refl
  keys-get (x ∷ xs) (suc i) = keys-get xs i

module _ (r : RunsView) (s : AreRuns r) where
  -- the run at a place
  pub run-at : (i : ℕ) (k : Identifier) (run : Run) → slice_get r.rope i ≡ Some (k, run) → IsRun r.letters r.count (k, run)
  run-at i k run e =
      let P = IsRun r.letters r.count in
      let runs = subst (All P) (at-split r.rope i (k, run) e) s.each in
      All-head P (k, run) (drop (suc i) r.rope) (all_after P (take i r.rope) ((k, run) ∷ drop (suc i) r.rope) runs)

  pub split-at : (i : ℕ) (run : Run) → slice_get r.rope i ≡ Some (run.id, run) → r.rope ≡ take i r.rope ++ (run.id, run) ∷ drop (suc i) r.rope
  split-at i run e = at-split r.rope i (run.id, run) e

  pub placed-at : (i : ℕ) (run : Run) (o : ℕ) → slice_get r.rope i ≡ Some (run.id, run) → o < run.len → IsPlaced r (take i r.rope) run o (drop (suc i) r.rope)
  placed-at i run o e l = placed r s (take i r.rope) run o (drop (suc i) r.rope) (split-at i run e) l

  pub value-there : (i : ℕ) (k : Identifier) (run : Run) → slice_get r.rope i ≡ Some (k, run) → value_under k r.rope ≡ Some run
  value-there i k run e =
      let x = run-at i k run e in
      let f : slice_get r.rope i ≡ Some (run.id, run) = e ∙ (λ j. Some (x.named j, run)) in
      let is = split-at i run f in
      ap (λ j. value_under j r.rope) x.named
      ∙ ap (value_under run.id) is
      ∙ value-at run.id run (take i r.rope) (drop (suc i) r.rope) (keys-apart r s (take i r.rope) run 0 (drop (suc i) r.rope) is x.some).0

  -- a run stands where its key does
  pub stands-run : (i : ℕ) (run : Run) → StandsAt r.rope i run.id → value_under run.id r.rope ≡ Some run → slice_get r.rope i ≡ Some (run.id, run)
  stands-run i run at v =
      let p = key-there r.rope i run.id at in
      let w : Some p.0 ≡ Some run = sym (value-there i run.id p.0 p.1) ∙ v in
      let same : p.0 ≡ run = cc in
      p.1 ∙ (λ j. Some (run.id, same j))

  -- the run that stands at a place, with its key
  pub run-named : (i : ℕ) (run : Run) → option_map (λ (x : Item). x.1) (slice_get r.rope i) ≡ Some run → slice_get r.rope i ≡ Some (run.id, run)
  run-named i run e = by_item (slice_get r.rope i) refl e
    where
      by_item : (o : Option Item) → slice_get r.rope i ≡ o → option_map (λ (x : Item). x.1) o ≡ Some run → slice_get r.rope i ≡ Some (run.id, run)
      by_item None g f = cc
      by_item (Some x) g f =
          let same : x.1 ≡ run = cc in
          let at : slice_get r.rope i ≡ Some (x.0, run) = g ∙ (λ j. Some (x.0, same j)) in
          at ∙ (λ j. Some ((run-at i x.0 run at).named j, run))

-- the first and the last cell
pub first-typed : (h : Head) (ls : List ℕ) (cs : List Cell) → 0 < length ls → first_id (keyed_cells (typed_cells h ls ++ cs)) ≡ Some h.id
first-typed h [] cs l = absurd (omega (arith, l))
first-typed h (x ∷ ls) cs l = refl

pub last-keyed : (cs : List Cell) (c : Cell) → last_id (keyed_cells (cs ++ c ∷ [])) ≡ Some c.id
last-keyed [] c = refl
last-keyed (d ∷ []) c = refl
last-keyed (d ∷ e ∷ cs) c = last-keyed (e ∷ cs) c

module _ (L : List (List ℕ)) (n : ℕ) where
  pub first-cells : (xs : List Item) → All (IsRun L n) xs → first_id (keyed_cells (all_cells L xs)) ≡ slice_get (keys_of xs) 0
  first-cells [] a = refl
  first-cells (x ∷ xs) a =
      let r = All-head (IsRun L n) x xs a in
      first-typed (first_of x.1) (letters_of L x.1) (all_cells L xs) (omega (arith, r.some, length-letters L n x r)) ∙ ap Some (sym r.named)

  -- nothing of a run stands after its last cell
  pub behind-all : (run : Run) (back : List Item) → IsRun L n (run.id, run) → (o : ℕ) → run.len ≤ o → cells_after L run o back ≡ all_cells L back
  behind-all run back r o l =
      ap (λ ls. typed_cells (head_after o (first_of run)) ls ++ all_cells L back) (drop_all o (letters_of L run) (omega (arith, l, length-letters L n (run.id, run) r)))

  -- the cells up to the last one of a run
  pub cells-to : (front : List Item) (run : Run) → IsRun L n (run.id, run)
      → all_cells L (front ++ (run.id, run) ∷ []) ≡ cells_before L front run (run.len - 1) ++ cell_there L run (run.len - 1) ∷ []
  cells-to front run r =
      let e : suc (run.len - 1) ≡ run.len = omega (arith, r.some) in
      cells-around L front run (run.len - 1) [] n r (omega (arith, r.some))
      ∙ ap (λ cs. cells_before L front run (run.len - 1) ++ cell_there L run (run.len - 1) ∷ cs) (behind-all run [] r (suc (run.len - 1)) (omega (arith, e)))

  -- one cell more before a place
  pub before-more : (front : List Item) (run : Run) (o : ℕ) → IsRun L n (run.id, run) → o < run.len
      → cells_before L front run (suc o) ≡ cells_before L front run o ++ cell_there L run o ∷ []
  before-more front run o r l =
      let ls = letters_of L run in
      let m : o < length ls = omega (arith, l, length-letters L n (run.id, run) r) in
      ap (λ cs. all_cells L front ++ cs) (more (first_of run) o ls m)
      ∙ sym (append_assoc (all_cells L front) (typed_cells (first_of run) (take o ls)) (cell_there L run o ∷ []))
    where
      more : (h : Head) (k : ℕ) (xs : List ℕ) → k < length xs
          → typed_cells h (take (suc k) xs) ≡ typed_cells h (take k xs) ++ cell_with_letter (head_after k h) (get_or xs k 0) ∷ []
      more h k [] m = absurd (omega (arith, m))
      more h zero (x ∷ xs) m = refl
      more h (suc k) (x ∷ xs) m =
          ap (λ cs. cell_with_letter h x ∷ cs)
          (more (next_head h) k xs (omega (arith, m)) ∙ (λ i. typed_cells (next_head h) (take k xs) ++ cell_with_letter (behind-next k h i) (get_or xs k 0) ∷ []))
