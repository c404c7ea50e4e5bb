-- The nearest cells whose keys are low enough: the keys of a run rise, so its first cell tells whether it has one.
use Rattle.std.proofs.Common.{◌≡◌, ℕ, zero, suc, ◌+◌, ◌<◌, ◌≤◌, ◌^◌, Bool, true, false, not, List, [], ◌∷◌, ◌++◌, ap, append-nil, arith, cond, inl, inr, length, length-drop, refl}
use Rattle.std.proofs.Common.{subst, sym, take, drop, get_or, ◌∙◌}
use Rattle.std.specs.Prelude.{Option, None, Some, filter, nat_le, option_map, slice_get}
use Rattle.std.specs.List.{All}
use Rattle.std.proofs.lemmas.Bool.{cases_Bool, cases_lt}
use Rattle.std.proofs.lemmas.Bool.Decides.{nat_tests}
use Rattle.std.proofs.lemmas.List.{drop_all, map-append}
use Rattle.std.proofs.lemmas.List.Elements.{All-head, All-tail, filter-append}
use Rattle.fugue_ids.specs.Identifiers.{Identifier}
use Rattle.fugue_ids.specs.Keys.{first_id, first_low, is_low, key_lt, last_id, last_low}
use Rattle.fugue_ids.specs.declared.key.Key.{Key}
use Rattle.fugue_ids.proofs.LowLemmas.{low_one, low_other}
use Rattle.fugue_ids.proofs.PartLemmas.{no_first, no_last}
use Rattle.fugue_ids.proofs.PartedLemmas.{first_front, last_push, last_some, last_tail}
use Rattle.node_rope.specs.Low.{first_low as first_run, if_low, last_low as last_run, or_else}
use Rattle.run_store.specs.Cells.{keyed_cells}
use Rattle.run_store.specs.Heads.{head_after, cell_with_letter, next_head, rank_of, typed_cells}
use Rattle.run_store.specs.Runs.{IsRun, all_cells, cells_of, first_of, letters_of}
use Rattle.run_store.specs.declared.cell.Cell.{Cell}
use Rattle.run_store.specs.declared.cell.Head.{Head}
use Rattle.run_store.proofs.HeadLemmas.{behind-depth, behind-forest, typed-at}
use Rattle.run_store.proofs.RunsLemmas.{Item, length-letters}

-- ranks compare as keys do
rank-low : (k a : Key) → k.forest < 2 ^ 32 → a.forest < 2 ^ 32 → nat_le (rank_of a) (rank_of k) ≡ not (key_lt k a)
rank-low k a f g = grind (arith, nat_tests, f, g)

module _ (k : Key) where
  -- the keys of a run rise
  high-next : (h : Head) → not (key_lt k h.key) ≡ false → not (key_lt k (next_head h).key) ≡ false
  high-next h l = grind (arith, nat_tests)

  none-low : (h : Head) (ls : List ℕ) → not (key_lt k h.key) ≡ false → filter (is_low k) (keyed_cells (typed_cells h ls)) ≡ []
  none-low h [] l = refl
  none-low h (c ∷ cs) l = low_other k (record { id = h.id; key = h.key }) (keyed_cells (typed_cells (next_head h) cs)) l ∙ none-low (next_head h) cs (high-next h l)

  -- the parts of a filtered list
  parts-low : (cs ds : List Cell) → filter (is_low k) (keyed_cells (cs ++ ds)) ≡ filter (is_low k) (keyed_cells cs) ++ filter (is_low k) (keyed_cells ds)
  parts-low cs ds = ap (filter (is_low k)) (map-append (λ c. record { id = c.id; key = c.key }) cs ds) ∙ filter-append (is_low k) (keyed_cells cs) (keyed_cells ds)

  -- the first low cell is the first of a run that is low, and in no run that is not
  pub first-typed-low : (h : Head) (ls : List ℕ) (cs : List Cell) → 0 < length ls → not (key_lt k h.key) ≡ true → first_low k (keyed_cells (typed_cells h ls ++ cs)) ≡ Some h.id
  first-typed-low h [] cs l e = absurd (omega (arith, l))
  first-typed-low h (c ∷ ls) cs l e = ap first_id (low_one k (record { id = h.id; key = h.key }) (keyed_cells (typed_cells (next_head h) ls ++ cs)) e)

  pub past-typed : (h : Head) (ls : List ℕ) (cs : List Cell) → not (key_lt k h.key) ≡ false → first_low k (keyed_cells (typed_cells h ls ++ cs)) ≡ first_low k (keyed_cells cs)
  past-typed h ls cs e = ap first_id (parts-low (typed_cells h ls) cs ∙ ap (λ t. t ++ filter (is_low k) (keyed_cells cs)) (none-low h ls e))

  -- the first low cell of two parts
  pub first-front : (cs ds : List Cell) (y : Identifier) → first_low k (keyed_cells cs) ≡ Some y → first_low k (keyed_cells (cs ++ ds)) ≡ Some y
  first-front cs ds y e = ap first_id (parts-low cs ds) ∙ first_front (filter (is_low k) (keyed_cells cs)) (filter (is_low k) (keyed_cells ds)) y e

  pub first-past : (cs ds : List Cell) → first_low k (keyed_cells cs) ≡ None → first_low k (keyed_cells (cs ++ ds)) ≡ first_low k (keyed_cells ds)
  first-past cs ds e = ap first_id (parts-low cs ds ∙ ap (λ t. t ++ filter (is_low k) (keyed_cells ds)) (no_first (filter (is_low k) (keyed_cells cs)) e))

  -- the last low cell of two parts
  last-front : (cs ds : List Cell) → filter (is_low k) (keyed_cells ds) ≡ [] → last_low k (keyed_cells (cs ++ ds)) ≡ last_low k (keyed_cells cs)
  last-front cs ds e = ap last_id (parts-low cs ds ∙ ap (λ t. filter (is_low k) (keyed_cells cs) ++ t) e ∙ append-nil (filter (is_low k) (keyed_cells cs)))

  pub last-back : (cs ds : List Cell) (y : Identifier) → last_low k (keyed_cells ds) ≡ Some y → last_low k (keyed_cells (cs ++ ds)) ≡ Some y
  last-back cs ds y e = ap last_id (parts-low cs ds) ∙ last_tail (filter (is_low k) (keyed_cells cs)) (filter (is_low k) (keyed_cells ds)) y e

  pub last-none-back : (cs ds : List Cell) → last_low k (keyed_cells ds) ≡ None → last_low k (keyed_cells (cs ++ ds)) ≡ last_low k (keyed_cells cs)
  last-none-back cs ds e = last-front cs ds (no_last (filter (is_low k) (keyed_cells ds)) e)

  -- a cell that is low, and after which none is
  last-at : (cs : List Cell) (c : Cell) (ds : List Cell) → not (key_lt k c.key) ≡ true → filter (is_low k) (keyed_cells ds) ≡ []
      → last_low k (keyed_cells (cs ++ c ∷ ds)) ≡ Some c.id
  last-at cs c ds l e =
      ap last_id (parts-low cs (c ∷ ds) ∙ ap (λ t. filter (is_low k) (keyed_cells cs) ++ t)
      (low_one k (record { id = c.id; key = c.key }) (keyed_cells ds) l ∙ ap (λ t. record { id = c.id; key = c.key } ∷ t) e))
      ∙ last_push (filter (is_low k) (keyed_cells cs)) (record { id = c.id; key = c.key })

  -- by its depth a cell after the first is low, or not
  deep-low : (a : Key) → a.depth ≤ k.depth → a.forest ≡ 0 → not (key_lt k a) ≡ true
  deep-low a d f = grind (arith, nat_tests)

  deep-high : (a : Key) → k.depth < a.depth → not (key_lt k a) ≡ false
  deep-high a d = grind (arith, nat_tests)

  -- what stands after a place whose depth is as great is not low
  behind-high : (h : Head) (ls : List ℕ) (o : ℕ) → (suc o < length ls → k.depth ≤ h.key.depth + o)
      → filter (is_low k) (keyed_cells (typed_cells (head_after (suc o) h) (drop (suc o) ls))) ≡ []
  behind-high h ls o n =
      elim (cases_lt (suc o) (length ls)) [
        | inl l ↦ none-low (head_after (suc o) h) (drop (suc o) ls) (deep-high (head_after (suc o) h).key (omega (arith, n l, behind-depth (suc o) h)))
        | inr l ↦ ap (λ xs. filter (is_low k) (keyed_cells (typed_cells (head_after (suc o) h) xs))) (drop_all (suc o) ls l)
      ]

  -- the last low cell of a run stands at the last place whose depth is no greater
  pub last-offset : (h : Head) (ls : List ℕ) (o : ℕ) → 0 < o → o < length ls → h.key.depth + o ≤ k.depth → (suc o < length ls → k.depth ≤ h.key.depth + o)
      → last_low k (keyed_cells (typed_cells h ls)) ≡ Some (head_after o h).id
  last-offset h ls o p l d n =
      let c : Cell = cell_with_letter (head_after o h) (get_or ls o 0) in
      let behind : List Cell = typed_cells (head_after (suc o) h) (drop (suc o) ls) in
      let low = deep-low (head_after o h).key (omega (arith, d, behind-depth o h)) (behind-forest o h p) in
      ap (λ cs. last_low k (keyed_cells cs)) (typed-at h o ls l)
      ∙ last-at (typed_cells h (take o ls)) c behind low (behind-high h ls o n)

  -- it is the first one, where no other is low
  pub last-first : (h : Head) (ls : List ℕ) → 0 < length ls → not (key_lt k h.key) ≡ true → (1 < length ls → k.depth ≤ h.key.depth)
      → last_low k (keyed_cells (typed_cells h ls)) ≡ Some h.id
  last-first h [] l e n = absurd (omega (arith, l))
  last-first h (c ∷ []) l e n = last-at [] (cell_with_letter h c) [] e refl
  last-first h (c ∷ d ∷ cs) l e n =
      let deeper : k.depth < (next_head h).key.depth = omega (arith, n (omega arith)) in
      last-at [] (cell_with_letter h c) (typed_cells (next_head h) (d ∷ cs)) e (none-low (next_head h) (d ∷ cs) (deep-high (next_head h).key deeper))

  -- and there is none, where the first is not low
  pub last-high : (h : Head) (ls : List ℕ) → not (key_lt k h.key) ≡ false → last_low k (keyed_cells (typed_cells h ls)) ≡ None
  last-high h ls e = ap last_id (none-low h ls e)

  -- no letters have no cells
  pub last-empty : (h : Head) (ls : List ℕ) → length ls ≡ 0 → last_low k (keyed_cells (typed_cells h ls)) ≡ None
  last-empty h [] l = refl
  last-empty h (c ∷ cs) l = absurd (omega (arith, l))

  -- the first low cell from a place on that is not the first
  pub first-from : (h : Head) (ls : List ℕ) (o : ℕ) → 0 < o → o < length ls → h.key.depth + o ≤ k.depth
      → first_low k (keyed_cells (typed_cells (head_after o h) (drop o ls))) ≡ Some (head_after o h).id
  first-from h ls o p l d =
      ap (λ cs. first_low k (keyed_cells cs)) (sym (append-nil (typed_cells (head_after o h) (drop o ls))))
      ∙ first-typed-low (head_after o h) (drop o ls) [] (omega (arith, l, length-drop o ls))
      (deep-low (head_after o h).key (omega (arith, d, behind-depth o h)) (behind-forest o h p))

  pub none-from : (h : Head) (ls : List ℕ) (o : ℕ) → k.depth < h.key.depth + o → first_low k (keyed_cells (typed_cells (head_after o h) (drop o ls))) ≡ None
  none-from h ls o d = ap first_id (none-low (head_after o h) (drop o ls) (deep-high (head_after o h).key (omega (arith, d, behind-depth o h))))

  pub past-end : (h : Head) (ls : List ℕ) (o : ℕ) → length ls ≤ o → first_low k (keyed_cells (typed_cells (head_after o h) (drop o ls))) ≡ None
  past-end h ls o l = ap (λ xs. first_low k (keyed_cells (typed_cells (head_after o h) xs))) (drop_all o ls l)

  -- a run whose first cell is low has a last low one
  last-there : (h : Head) (ls : List ℕ) → 0 < length ls → not (key_lt k h.key) ≡ true → (z : Identifier) × (last_low k (keyed_cells (typed_cells h ls)) ≡ Some z)
  last-there h [] l e = absurd (omega (arith, l))
  last-there h (c ∷ cs) l e =
      let s = last_some (record { id = h.id; key = h.key }) (filter (is_low k) (keyed_cells (typed_cells (next_head h) cs))) in
      (s.0, ap last_id (low_one k (record { id = h.id; key = h.key }) (keyed_cells (typed_cells (next_head h) cs)) e) ∙ s.1)

  module _ (L : List (List ℕ)) (n : ℕ) (fits : k.forest < 2 ^ 32) (few : n < 2 ^ 32) where
    -- the rank of a run
    abbrev pub run_rank : Item → ℕ
    run_rank x = rank_of x.1.key

    rank-is : (x : Item) → IsRun L n x → nat_le (run_rank x) (rank_of k) ≡ not (key_lt k x.1.key)
    rank-is x r = rank-low k x.1.key fits (omega (arith, r.forests, few))

    has-letters : (x : Item) → IsRun L n x → 0 < length (letters_of L x.1)
    has-letters x r = omega (arith, r.some, length-letters L n x r)

    -- the first low cell of runs is the first of the first low run
    pub first-runs : (xs : List Item) → All (IsRun L n) xs → first_low k (keyed_cells (all_cells L xs)) ≡ option_map (λ x. x.0) (first_run run_rank (rank_of k) xs)
    first-runs [] a = refl
    first-runs (x ∷ xs) a =
        let r = All-head (IsRun L n) x xs a in
        let by_rank : Bool → Option Identifier = λ b. option_map (λ (z : Item). z.0) (or_else (cond b (Some x) None) (first_run run_rank (rank_of k) xs)) in
        elim (cases_Bool (not (key_lt k x.1.key))) [
          | inl e ↦ first-typed-low (first_of x.1) (letters_of L x.1) (all_cells L xs) (has-letters x r) e ∙ ap Some (sym r.named) ∙ ap by_rank (sym (rank-is x r ∙ e))
          | inr e ↦ past-typed (first_of x.1) (letters_of L x.1) (all_cells L xs) e ∙ first-runs xs (All-tail (IsRun L n) x xs a) ∙ ap by_rank (sym (rank-is x r ∙ e))
        ]

    -- the last low cell of a run that may be there
    abbrev pub last_in : Option Item → Option Identifier
    last_in None = None
    last_in (Some x) = last_low k (keyed_cells (cells_of L x.1))

    -- the last low run is one of the runs, and its first cell is low
    pub last-run-low : (xs : List Item) → All (IsRun L n) xs → (y : Item) → last_run run_rank (rank_of k) xs ≡ Some y
        → (not (key_lt k y.1.key) ≡ true) × ((i : ℕ) × (slice_get xs i ≡ Some y))
    last-run-low [] a y e = cc
    last-run-low (x ∷ xs) a y e =
        (elim (last_run run_rank (rank_of k) xs) as
        (λ o. last_run run_rank (rank_of k) xs ≡ o → or_else o (if_low run_rank (rank_of k) x) ≡ Some y
        → (not (key_lt k y.1.key) ≡ true) × ((i : ℕ) × (slice_get (x ∷ xs) i ≡ Some y))) [
          | Some z ↦ (λ f g. let p = last-run-low xs (All-tail (IsRun L n) x xs a) y (f ∙ g) in (p.0, (suc p.1.0, p.1.1)))
          | None ↦ (λ f g. own g)
        ]) refl e
      where
        own : if_low run_rank (rank_of k) x ≡ Some y → (not (key_lt k y.1.key) ≡ true) × ((i : ℕ) × (slice_get (x ∷ xs) i ≡ Some y))
        own g =
            elim (cases_Bool (nat_le (run_rank x) (rank_of k))) [
              | inl t ↦
                  let same : Some x ≡ Some y = ap (λ b. cond b (Some x) None) (sym t) ∙ g in
                  let d : x ≡ y = cc in
                  (ap (λ (z : Item). not (key_lt k z.1.key)) (sym d) ∙ sym (rank-is x (All-head (IsRun L n) x xs a)) ∙ t, (0, same))
              | inr t ↦ let none : None ≡ Some y = ap (λ b. cond b (Some x) None) (sym t) ∙ g in cc
            ]

    -- the last low cell of runs is that of the last low run
    pub last-runs : (xs : List Item) → All (IsRun L n) xs → last_low k (keyed_cells (all_cells L xs)) ≡ last_in (last_run run_rank (rank_of k) xs)
    last-runs [] a = refl
    last-runs (x ∷ xs) a =
        let r = All-head (IsRun L n) x xs a in
        let all = All-tail (IsRun L n) x xs a in
        let rest = last-runs xs all in
        (elim (last_run run_rank (rank_of k) xs) as (λ o. last_run run_rank (rank_of k) xs ≡ o → last_low k (keyed_cells (all_cells L xs)) ≡ last_in o
        → last_low k (keyed_cells (cells_of L x.1 ++ all_cells L xs)) ≡ last_in (or_else o (if_low run_rank (rank_of k) x))) [
          | Some y ↦ (λ f g.
              let p = last-run-low xs all y f in
              let q = run-in xs all y p.1.0 p.1.1 in
              let s = last-there (first_of y.1) (letters_of L y.1) (has-letters y q) p.0 in
              last-back (cells_of L x.1) (all_cells L xs) s.0 (g ∙ s.1) ∙ sym s.1)
          | None ↦ (λ f g. last-none-back (cells_of L x.1) (all_cells L xs) g ∙ own r)
        ]) refl rest
      where
        own : IsRun L n x → last_low k (keyed_cells (cells_of L x.1)) ≡ last_in (if_low run_rank (rank_of k) x)
        own r =
            elim (cases_Bool (not (key_lt k x.1.key))) [
              | inl e ↦ ap (λ b. last_in (cond b (Some x) None)) (sym (rank-is x r ∙ e))
              | inr e ↦ last-high (first_of x.1) (letters_of L x.1) e ∙ ap (λ b. last_in (cond b (Some x) None)) (sym (rank-is x r ∙ e))
            ]

        run-in : (xs : List Item) → All (IsRun L n) xs → (y : Item) (i : ℕ) → slice_get xs i ≡ Some y → IsRun L n y
        run-in [] a y i e = cc
        run-in (z ∷ zs) a y zero e = let d : z ≡ y = cc in subst (IsRun L n) d (All-head (IsRun L n) z zs a)
        run-in (z ∷ zs) a y (suc i) e = run-in zs (All-tail (IsRun L n) z zs a) y i e
