-- The nearest low cell after a cell and before it, by the run that has the cell and by the runs around that.
use Rattle.std.proofs.Common.{◌≡◌, ℕ, zero, suc, ◌<◌, ◌^◌, List, [], ◌∷◌, ap, arith, length, refl, sym, take, drop, ◌∙◌}
use Rattle.std.specs.Prelude.{Option, None, Some, option_map, slice_get}
use Rattle.std.specs.List.{All}
use Rattle.std.proofs.lemmas.List.{length-take-le}
use Rattle.std.proofs.lemmas.List.Elements.{All-take}
use Rattle.fugue_ids.specs.Identifiers.{Identifier}
use Rattle.fugue_ids.specs.Keys.{first_low, front_of, last_low, rest_of}
use Rattle.fugue_ids.specs.declared.key.Key.{Key}
use Rattle.node_rope.specs.Items.{value_under}
use Rattle.node_rope.specs.Low.{last_low as last_run}
use Rattle.node_rope.specs.Places.{last_low_key}
use Rattle.run_store.specs.Cells.{keyed_cells}
use Rattle.run_store.specs.Heads.{head_after, rank_of, typed_cells}
use Rattle.run_store.specs.Runs.{AreRuns, IsRun, IsCellSpot, RunsView, all_cells, cells_in, cells_of, first_of, letters_of}
use Rattle.run_store.specs.declared.run.Run.{Run}
use Rattle.run_store.proofs.LowLemmas.{first-front, first-past, last-back, last-none-back, last-run-low, last-runs, last_in, run_rank}
use Rattle.run_store.proofs.PlaceLemmas.{placed-at, value-there}
use Rattle.run_store.proofs.RunsLemmas.{Item, kept-run, length-letters, located}
use Rattle.run_store.proofs.WalkLemmas.{front-spot, rest-spot}

-- a member of a front is one of the list
take-get : (n : ℕ) (xs : List Item) (i : ℕ) (x : Item) → slice_get (take n xs) i ≡ Some x → slice_get xs i ≡ Some x
take-get zero xs i x e = cc
take-get (suc n) [] i x e = cc
take-get (suc n) (y ∷ xs) zero x e = e
take-get (suc n) (y ∷ xs) (suc i) x e = take-get n xs i x e

-- the item whose key was found
keyed-some : (o : Option Item) (y : Identifier) → Some y ≡ option_map (λ x. x.0) o → (x : Item) × (o ≡ Some x) × (x.0 ≡ y)
keyed-some None y e = cc
keyed-some (Some x) y e = let d : x.0 ≡ y = cc in (x, refl, d)

keyed-none : (o : Option Item) → None ≡ option_map (λ (x : Item). x.0) o → o ≡ None
keyed-none None e = refl
keyed-none (Some x) e = cc

module _ (r : RunsView) (s : AreRuns r) (k : Key) (fits : k.forest < 2 ^ 32) where
  few : r.count < 2 ^ 32
  few = omega (arith, s.few)

  -- the last low run of the first ones, as the rope tells its key
  module _ (n m : ℕ) (rank : m ≡ rank_of k) where
    fronts : All (IsRun r.letters r.count) (take n r.rope)
    fronts = All-take (IsRun r.letters r.count) n r.rope s.each

    abbrev found : Option Item
    found = last_run (run_rank k r.letters r.count fits few) (rank_of k) (take n r.rope)

    abbrev told : Option Identifier
    told = last_low_key (λ (z : Run). rank_of z.key) m (take n r.rope)

    told-is : told ≡ option_map (λ (x : Item). x.0) found
    told-is = ap (λ j. last_low_key (λ (z : Run). rank_of z.key) j (take n r.rope)) rank

    pub none-told : None ≡ told → last_low k (keyed_cells (all_cells r.letters (take n r.rope))) ≡ None
    none-told e =
        last-runs k r.letters r.count fits few (take n r.rope) fronts
        ∙ ap (last_in k r.letters r.count fits few) (keyed-none found (e ∙ told-is))

    module _ (y : Identifier) (e : Some y ≡ told) where
      pub run-told : (run : Run) × (value_under y r.rope ≡ Some run)
          × (last_low k (keyed_cells (all_cells r.letters (take n r.rope))) ≡ last_low k (keyed_cells (cells_of r.letters run)))
      run-told =
          let p = keyed-some found y (e ∙ told-is) in
          let x : Item = p.0 in
          let q = last-run-low k r.letters r.count fits few (take n r.rope) fronts x p.1 in
          let at = take-get n r.rope q.1.0 x q.1.1 in (
            x.1,
            ap (λ i. value_under i r.rope) (sym p.2) ∙ value-there r s q.1.0 x.0 x.1 at,
            last-runs k r.letters r.count fits few (take n r.rope) fronts ∙ ap (last_in k r.letters r.count fits few) p.1,
          )

      -- it is the run under that key
      pub low-told : (run : Run) → Some run ≡ value_under y r.rope
          → last_low k (keyed_cells (all_cells r.letters (take n r.rope))) ≡ last_low k (keyed_cells (cells_of r.letters run))
      low-told run v =
          let p = run-told in
          let w : Some run ≡ Some p.0 = v ∙ p.1 in
          let d : run ≡ p.0 = cc in
          p.2 ∙ ap (λ z. last_low k (keyed_cells (cells_of r.letters z))) (sym d)

  -- the cell at a spot
  module _ (x : Identifier) (run : Run) (o : ℕ) (spot : IsCellSpot r.rope x run o) where
    abbrev letters : List ℕ
    letters = letters_of r.letters run

    is_run : IsRun r.letters r.count (run.id, run)
    is_run = kept-run r s run.id run spot.held

    pub letters-len : length letters ≡ run.len
    letters-len = length-letters r.letters r.count (run.id, run) is_run

    pub front-len : length (take o letters) ≡ o
    front-len = length-take-le o letters (omega (arith, letters-len, spot.inside))

    -- the first low cell after it
    pub first-inside : (n : ℕ) → n ≡ suc o → (y : Identifier) → Some y ≡ first_low k (keyed_cells (typed_cells (head_after n (first_of run)) (drop n letters)))
        → Some y ≡ first_low k (rest_of (Some x) (keyed_cells (cells_in r)))
    first-inside n i y e =
        let l = located r s run o spot.held spot.inside in
        let f : first_low k (keyed_cells (typed_cells (head_after (suc o) (first_of run)) (drop (suc o) letters))) ≡ Some y =
        ap (λ j. first_low k (keyed_cells (typed_cells (head_after j (first_of run)) (drop j letters)))) (sym i) ∙ sym e in
        sym (ap (first_low k) (rest-spot r s x run o spot l.front l.back l.place)
        ∙ first-front k (typed_cells (head_after (suc o) (first_of run)) (drop (suc o) letters)) (all_cells r.letters l.back) y f)

    pub first-outside : (n : ℕ) → n ≡ suc o → None ≡ first_low k (keyed_cells (typed_cells (head_after n (first_of run)) (drop n letters))) → (i j : ℕ)
        → slice_get r.rope i ≡ Some (run.id, run) → j ≡ suc i
        → first_low k (keyed_cells (all_cells r.letters (drop j r.rope))) ≡ first_low k (rest_of (Some x) (keyed_cells (cells_in r)))
    first-outside n e none i j at d =
        let f : first_low k (keyed_cells (typed_cells (head_after (suc o) (first_of run)) (drop (suc o) letters))) ≡ None =
        ap (λ j. first_low k (keyed_cells (typed_cells (head_after j (first_of run)) (drop j letters)))) (sym e) ∙ sym none in
        ap (λ z. first_low k (keyed_cells (all_cells r.letters (drop z r.rope)))) d
        ∙ sym (ap (first_low k) (rest-spot r s x run o spot (take i r.rope) (drop (suc i) r.rope) (placed-at r s i run o at spot.inside))
        ∙ first-past k (typed_cells (head_after (suc o) (first_of run)) (drop (suc o) letters)) (all_cells r.letters (drop (suc i) r.rope)) f)

    -- the last low cell before it
    pub last-inside : (y : Identifier) → Some y ≡ last_low k (keyed_cells (typed_cells (first_of run) (take o letters)))
        → Some y ≡ last_low k (front_of (Some x) (keyed_cells (cells_in r)))
    last-inside y e =
        let l = located r s run o spot.held spot.inside in
        sym (ap (last_low k) (front-spot r s x run o spot l.front l.back l.place)
        ∙ last-back k (all_cells r.letters l.front) (typed_cells (first_of run) (take o letters)) y (sym e))

    pub last-outside : None ≡ last_low k (keyed_cells (typed_cells (first_of run) (take o letters))) → (i : ℕ) → slice_get r.rope i ≡ Some (run.id, run)
        → last_low k (keyed_cells (all_cells r.letters (take i r.rope))) ≡ last_low k (front_of (Some x) (keyed_cells (cells_in r)))
    last-outside none i at =
        sym (ap (last_low k) (front-spot r s x run o spot (take i r.rope) (drop (suc i) r.rope) (placed-at r s i run o at spot.inside))
        ∙ last-none-back k (all_cells r.letters (take i r.rope)) (typed_cells (first_of run) (take o letters)) (sym none))
