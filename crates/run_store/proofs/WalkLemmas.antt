-- From a cell to its neighbours.
use Rattle.std.proofs.Common.{◌≡◌, ℕ, zero, suc, ◌+◌, ◌-◌, ◌<◌, ◌≤◌, List, [], ◌∷◌, ◌++◌, add-one, ap, append-nil, arith, length, length-drop, refl, subst, sym, take, drop, ◌∙◌}
use Rattle.std.specs.Prelude.{Option, None, Some, IfNone, IfSome, IsSome, is_some, option_map, slice_get}
use Rattle.std.specs.List.{All}
use Rattle.std.specs.Map.{keys_of}
use Rattle.std.proofs.lemmas.List.{length-map}
use Rattle.std.proofs.lemmas.Option.{slice_get_past}
use Rattle.std.proofs.lemmas.List.Elements.{All-tail}
use Rattle.fugue_ids.specs.Identifiers.{Identifier}
use Rattle.fugue_ids.specs.Keys.{first_id, front_of, last_id, rest_of}
use Rattle.fugue_ids.proofs.ListLemmas.{all_after}
use Rattle.node_rope.specs.Items.{value_under}
use Rattle.node_rope.specs.Places.{StandsAt}
use Rattle.run_store.specs.Cells.{keyed_cells}
use Rattle.run_store.specs.Heads.{head_after}
use Rattle.run_store.specs.Runs.{AreRuns, IsRun, IsCellSpot, RunsView, all_cells, cells_in, first_of, letters_of}
use Rattle.run_store.specs.declared.run.Run.{Run}
use Rattle.run_store.proofs.CellLemmas.{front-at, rest-at}
use Rattle.run_store.proofs.PlaceLemmas.{before-more, behind-all, cells-to, drop-first, first-cells, first-typed, keys-get, last-keyed, placed-at, run-at, stands-run}
use Rattle.run_store.proofs.RunsLemmas.{IsPlaced, Item, cell_there, cells_before, cells_after, length-letters, located}

module _ (r : RunsView) (s : AreRuns r) where
  abbrev P : Item → Type 0
  P = IsRun r.letters r.count

  -- the last cell of the runs up to one
  pub last-of : (i : ℕ) (run : Run) → slice_get r.rope i ≡ Some (run.id, run)
      → last_id (keyed_cells (all_cells r.letters (take (suc i) r.rope))) ≡ Some (head_after (run.len - 1) (first_of run)).id
  last-of i run e =
      let p = run-at r s i run.id run e in
      let t : take (suc i) r.rope ≡ take i r.rope ++ (run.id, run) ∷ [] = take-more r.rope i (run.id, run) e in
      ap (λ xs. last_id (keyed_cells (all_cells r.letters xs))) t
      ∙ ap (λ cs. last_id (keyed_cells cs)) (cells-to r.letters r.count (take i r.rope) run p)
      ∙ last-keyed (cells_before r.letters (take i r.rope) run (run.len - 1)) (cell_there r.letters run (run.len - 1))
    where
      take-more : (xs : List Item) (k : ℕ) (x : Item) → slice_get xs k ≡ Some x → take (suc k) xs ≡ take k xs ++ x ∷ []
      take-more [] k x f = cc
      take-more (y ∷ xs) zero x f = let same : y ≡ x = cc in ap (λ z. z ∷ []) same
      take-more (y ∷ xs) (suc k) x f = ap (λ zs. y ∷ zs) (take-more xs k x f)

  module _ (x : Identifier) (run : Run) (o : ℕ) (spot : IsCellSpot r.rope x run o) where
    -- what stands before the cell at a spot, and after it
    pub front-spot : (front back : List Item) → IsPlaced r front run o back → front_of (Some x) (keyed_cells (cells_in r)) ≡ keyed_cells (cells_before r.letters front run o)
    front-spot front back p =
        (λ i. front_of (Some (spot.is i)) (keyed_cells (p.cells_is i)))
        ∙ front-at (head_after o (first_of run)).id (cells_before r.letters front run o) (cell_there r.letters run o) (cells_after r.letters run (suc o) back) p.before refl

    pub rest-spot : (front back : List Item) → IsPlaced r front run o back → rest_of (Some x) (keyed_cells (cells_in r)) ≡ keyed_cells (cells_after r.letters run (suc o) back)
    rest-spot front back p =
        (λ i. rest_of (Some (spot.is i)) (keyed_cells (p.cells_is i)))
        ∙ rest-at (head_after o (first_of run)).id (cells_before r.letters front run o) (cell_there r.letters run o) (cells_after r.letters run (suc o) back) p.before refl

    -- the next cell of the run
    pub behind-inside : suc o < run.len → first_id (rest_of (Some x) (keyed_cells (cells_in r))) ≡ Some (head_after (suc o) (first_of run)).id
    behind-inside l =
        let p = located r s run o spot.held spot.inside in
        let ls = letters_of r.letters run in
        ap first_id (rest-spot p.front p.back p.place)
        ∙ first-typed (head_after (suc o) (first_of run)) (drop (suc o) ls) (all_cells r.letters p.back)
        (omega (arith, l, length-letters r.letters r.count (run.id, run) p.place.is_run, length-drop (suc o) ls))

    -- the first cell of the next run
    pub behind-run-end : run.len ≤ suc o → (i : ℕ) → slice_get r.rope i ≡ Some (run.id, run)
        → first_id (rest_of (Some x) (keyed_cells (cells_in r))) ≡ slice_get (keys_of r.rope) (suc i)
    behind-run-end l i e =
        let p = placed-at r s i run o e spot.inside in
        let back = drop (suc i) r.rope in
        let runs = subst (All P) p.rope_is s.each in
        ap first_id (rest-spot (take i r.rope) back p)
        ∙ ap (λ cs. first_id (keyed_cells cs)) (behind-all r.letters r.count run back p.is_run (suc o) l)
        ∙ first-cells r.letters r.count back (All-tail P (run.id, run) back (all_after P (take i r.rope) ((run.id, run) ∷ back) runs))
        ∙ keys-get back 0 ∙ ap (option_map (λ (z : Item). z.0)) (drop-first r.rope (suc i)) ∙ sym (keys-get r.rope (suc i))

    -- the cell before it in the run
    pub before-inside : 0 < o → last_id (front_of (Some x) (keyed_cells (cells_in r))) ≡ Some (head_after (o - 1) (first_of run)).id
    before-inside l =
        let p = located r s run o spot.held spot.inside in
        let e : o ≡ suc (o - 1) = omega (arith, l) in
        ap last_id (front-spot p.front p.back p.place)
        ∙ ap (λ n. last_id (keyed_cells (cells_before r.letters p.front run n))) e
        ∙ ap (λ cs. last_id (keyed_cells cs)) (before-more r.letters r.count p.front run (o - 1) p.place.is_run (omega (arith, l, spot.inside)))
        ∙ last-keyed (cells_before r.letters p.front run (o - 1)) (cell_there r.letters run (o - 1))

    -- the cells before the first one of a run
    pub before-start : o ≡ 0 → (i : ℕ) → slice_get r.rope i ≡ Some (run.id, run)
        → front_of (Some x) (keyed_cells (cells_in r)) ≡ keyed_cells (all_cells r.letters (take i r.rope))
    before-start z i e =
        let p = placed-at r s i run o e spot.inside in
        front-spot (take i r.rope) (drop (suc i) r.rope) p
        ∙ ap (λ n. keyed_cells (cells_before r.letters (take i r.rope) run n)) z
        ∙ ap keyed_cells (append-nil (all_cells r.letters (take i r.rope)))

    -- what the rope gives as the next key
    pub next-is : (n : Option Identifier) → IfSome n (λ k. (i : ℕ) × StandsAt r.rope i run.id × StandsAt r.rope (i + 1) k)
        → IfNone n (IsSome (value_under run.id r.rope) → (i : ℕ) × StandsAt r.rope i run.id × (length r.rope ≡ i + 1)) → run.len ≤ suc o
        → n ≡ first_id (rest_of (Some x) (keyed_cells (cells_in r)))
    next-is None some none l =
        let p = none (ap is_some spot.held) in
        let past : slice_get (keys_of r.rope) (suc p.0) ≡ None = slice_get_past (keys_of r.rope) (suc p.0) (omega (arith, p.2, length-map r.rope (λ (z : Item). z.0))) in
        sym past ∙ sym (behind-run-end l p.0 (stands-run r s p.0 run p.1 spot.held))
    next-is (Some k) some none l =
        sym some.2 ∙ ap (slice_get (keys_of r.rope)) (add-one some.0) ∙ sym (behind-run-end l some.0 (stands-run r s some.0 run some.1 spot.held))
