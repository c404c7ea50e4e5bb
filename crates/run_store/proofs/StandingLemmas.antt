-- Cells between two places of runs.
use Rattle.std.proofs.Common.{◌≡◌, ◌⊎◌, ℕ, zero, suc, ◌+◌, ◌<◌, ◌≤◌, List, [], ◌∷◌, ap, arith, inl, inr, length, length-append, refl, sym, take, ◌∙◌}
use Rattle.std.specs.Prelude.{Some, slice_get}
use Rattle.std.proofs.lemmas.List.{length-map, take_all}
use Rattle.fugue_ids.specs.Identifiers.{Identifier}
use Rattle.run_store.specs.Cells.{cell_ids}
use Rattle.run_store.specs.Heads.{head_after}
use Rattle.run_store.specs.Runs.{AreRuns, RunsView, all_cells, cells_in, cells_of, first_of, letters_of}
use Rattle.run_store.specs.Standings.{IsBegin, IsEndStanding, IsInRun, IsMemberWithin, cells_to, index_at}
use Rattle.run_store.specs.declared.cell.Cell.{Cell}
use Rattle.run_store.specs.declared.run.Run.{Run}
use Rattle.run_store.proofs.EarlierLemmas.{index-spot, run-width}
use Rattle.run_store.proofs.FindLemmas.{spot-held}
use Rattle.run_store.proofs.HeadLemmas.{length-typed}
use Rattle.run_store.proofs.PlaceLemmas.{at-within, run-at, value-there}
use Rattle.run_store.proofs.RunsLemmas.{Item, length-letters}
use Rattle.std.proofs.lemmas.Bool.{cases_lt}

module _ (r : RunsView) (s : AreRuns r) where
  -- the end of all
  pub end-index : index_at r (length r.rope) 0 ≡ length (cell_ids (cells_in r))
  end-index =
      omega (
        arith,
        ap (λ xs. length (all_cells r.letters xs)) (take_all (length r.rope) r.rope (omega arith)),
        length-map (cells_in r) (λ (c : Cell). c.id),
      )

  -- a cell of a run, between two offsets
  pub in-run : (run : Run) (i o from to : ℕ) (x : Identifier) → x ≡ (head_after o (first_of run)).id → slice_get r.rope i ≡ Some (run.id, run) → from ≤ o → o < to → o < run.len
      → IsInRun r.rope i from to x
  in-run run i o from to x e at low high inside = record {
    run = run;
    offset = o;
    at = at;
    spot = record { held = value-there r s i run.id run at; inside = inside; is = e };
    from = low;
    to = high;
  }

  item-at : (i : ℕ) → i < length r.rope → (x : Item) × (slice_get r.rope i ≡ Some x)
  item-at i l = by_rope r.rope i l
    where
      by_rope : (xs : List Item) (k : ℕ) → k < length xs → (x : Item) × (slice_get xs k ≡ Some x)
      by_rope [] k l = absurd (omega (arith, l))
      by_rope (x ∷ xs) zero l = (x, refl)
      by_rope (x ∷ xs) (suc k) l = by_rope xs k (omega (arith, l))

  -- where cells begin, and where they end
  module _ (i o j p : ℕ) (b : IsBegin r.rope i o) (e : IsEndStanding r.rope j p) where
    abbrev low : ℕ
    low = index_at r i o

    abbrev high : ℕ
    high = index_at r j p

    pub end-within : j ≤ length r.rope
    end-within = elim e [ inl z ↦ omega (arith, z.0) | inr x ↦ omega (arith, at-within r.rope j x.0 x.1) ]

    -- a run after the one with the beginning
    begin-before : (k : ℕ) → i < k → k ≤ length r.rope → low ≤ cells_to r.letters r.rope k
    begin-before k l m =
        let x = item-at i (omega (arith, l, m)) in
        let n = (run-width r s i k x.0 x.1 l) in
        elim b [
          | inl z ↦ omega (arith, z.1, n)
          | inr y ↦ let same : Some y.0 ≡ Some x.0 = sym y.1 ∙ x.1 in let is : y.0 ≡ x.0 = cc in omega (arith, y.2, n, ap (λ (z : Item). z.1.len) is)
        ]

    -- the beginning stands in no later run
    pub places-up : low ≤ high → i ≤ j
    places-up l = elim (cases_up i j) [
      | inl up ↦ up
      | inr down ↦ elim b [
        | inl z ↦ omega (arith, z.0)
        | inr y ↦
            let m = at-within r.rope i y.0 y.1 in
            elim e [
              | inl z ↦ absurd (omega (arith, z.0, m, down))
              | inr x ↦ absurd (omega (arith, run-width r s j i x.0 x.1 down, x.2, l))
            ]
      ]
    ]
      where
        cases_up : (a c : ℕ) → (a ≤ c) ⊎ (c < a)
        cases_up a c = grind arith

    within-by : (k from to : ℕ) (x : Identifier) → (c : IsInRun r.rope k from to x) → low ≤ cells_to r.letters r.rope k + c.offset → cells_to r.letters r.rope k + c.offset < high
        → IsMemberWithin (cell_ids (cells_in r)) low high x
    within-by k from to x c l h =
        let n = index-spot r s x c.run c.offset k c.spot c.at in
        record { held = spot-held r s x c.run c.offset c.spot; from = omega (arith, n, l); to = omega (arith, n, h) }

    -- both in one run
    pub some-same : i ≡ j → (x : Identifier) → IsInRun r.rope i o p x → IsMemberWithin (cell_ids (cells_in r)) low high x
    some-same q x c =
        let n = ap (cells_to r.letters r.rope) q in
        within-by i o p x c (omega (arith, c.from)) (omega (arith, c.to, n))

    pub none-same : i ≡ j → ((x : Item) → slice_get r.rope i ≡ Some x → o < p → x.1.len ≤ o) → high ≤ low
    none-same q none =
        let n = ap (cells_to r.letters r.rope) q in
        elim e [
          | inl z ↦ omega (arith, z.1, n)
          | inr x ↦
              let at = ap (slice_get r.rope) q ∙ x.1 in
              elim (cases_lt o p) [
                | inl l ↦ absurd (omega (arith, none x.0 at l, x.2, l))
                | inr l ↦ omega (arith, l, n)
              ]
        ]

    -- the first cell of a run between
    pub some-half : (k : ℕ) → i < k → k < j → (x : Identifier) → IsInRun r.rope k 0 1 x → IsMemberWithin (cell_ids (cells_in r)) low high x
    some-half k l m x c =
        within-by k 0 1 x c (omega (arith, begin-before k l (omega (arith, m, end-within))))
        (omega (arith, c.spot.inside, run-width r s k j (c.run.id, c.run) c.at m))

    -- the run with the beginning, where that with the end is the next one
    pub some-first : i < j → (to : ℕ) (x : Identifier) → IsInRun r.rope i o to x → IsMemberWithin (cell_ids (cells_in r)) low high x
    some-first l to x c = within-by i o to x c (omega (arith, c.from)) (omega (arith, c.spot.inside, run-width r s i j (c.run.id, c.run) c.at l))

    pub some-second : i < j → (x : Identifier) → IsInRun r.rope j 0 p x → IsMemberWithin (cell_ids (cells_in r)) low high x
    some-second l x c = within-by j 0 p x c (omega (arith, begin-before j l end-within)) (omega (arith, c.to))

    pub none-next : j ≡ suc i → (to : ℕ) → to ≡ 4294967295 → ((x : Item) → slice_get r.rope i ≡ Some x → o < to → x.1.len ≤ o)
        → ((x : Item) → slice_get r.rope j ≡ Some x → 0 < p → x.1.len ≤ 0) → high ≤ low
    none-next q to m first second =
        let x = item-at i (omega (arith, q, end-within)) in
        let this = run-at r s i x.0.0 x.0.1 x.1 in
        let len = length-typed (first_of x.0.1) (letters_of r.letters x.0.1) in
        let next = next-cells r.rope i x.0 x.1 in
        let begins : o ≤ x.0.1.len = elim b [
          | inl z ↦ omega (arith, z.1)
          | inr y ↦ let same : Some y.0 ≡ Some x.0 = sym y.1 ∙ x.1 in let is : y.0 ≡ x.0 = cc in omega (arith, y.2, ap (λ (z : Item). z.1.len) is)
        ] in
        let full = first x.0 x.1 (omega (arith, begins, this.depths, this.deep, s.few, m)) in
        let ends : p ≡ 0 = elim e [
          | inl z ↦ z.1
          | inr y ↦ elim (cases_none p) [
            | inl z ↦ z
            | inr l ↦ absurd (omega (arith, second y.0 y.1 l, y.2))
          ]
        ] in
        omega (arith, ends, full, next, len, length-letters r.letters r.count x.0 this, ap (cells_to r.letters r.rope) q)
      where
        cases_none : (a : ℕ) → (a ≡ 0) ⊎ (0 < a)
        cases_none a = grind arith

        next-cells : (xs : List Item) (k : ℕ) (x : Item) → slice_get xs k ≡ Some x → cells_to r.letters xs (suc k) ≡ cells_to r.letters xs k + length (cells_of r.letters x.1)
        next-cells [] k x f = cc
        next-cells (y ∷ xs) zero x f =
            let same : y ≡ x = cc in
            omega (arith, length-append (cells_of r.letters y.1) [], ap (λ (z : Item). length (cells_of r.letters z.1)) same)
        next-cells (y ∷ xs) (suc k) x f =
            omega (
              arith,
              next-cells xs k x f,
              length-append (cells_of r.letters y.1) (all_cells r.letters (take (suc k) xs)),
              length-append (cells_of r.letters y.1) (all_cells r.letters (take k xs)),
            )
