-- Where new cells join: after the last cell of a run, before its first one, or alone.
use Rattle.std.proofs.Common.{◌≡◌, ℕ, suc, ◌+◌, ◌-◌, ◌<◌, ◌≤◌, ◌^◌, List, [], ◌∷◌, ◌++◌, ap, append_assoc, arith, length, length-append, refl, subst, sym, ◌∙◌}
use Rattle.std.specs.Prelude.{None, Some, cond}
use Rattle.std.specs.List.{All}
use Rattle.std.proofs.lemmas.List.{length-map}
use Rattle.std.proofs.lemmas.List.Elements.{All-cons, All-nil, All-tail}
use Rattle.fugue_ids.specs.Identifiers.{Identifier, id_eq}
use Rattle.fugue_ids.specs.Listed.{index_of}
use Rattle.fugue_ids.proofs.ListLemmas.{all_before, all_after}
use Rattle.node_rope.specs.Beside.{put_under}
use Rattle.node_rope.specs.Items.{value_under}
use Rattle.run_store.specs.Cells.{cell_ids}
use Rattle.run_store.specs.Growth.{HasMoreLetters, MayComeTo, cells_inserted_before, cells_inserted_after, inserted_at, last_id_of_run}
use Rattle.run_store.specs.Heads.{head_after, typed_cells}
use Rattle.run_store.specs.Runs.{AreRuns, IsRun, RunsView, all_cells, cells_in, cells_of, first_of, letters_of}
use Rattle.run_store.specs.declared.cell.Cell.{Cell}
use Rattle.run_store.specs.declared.cell.Head.{Head}
use Rattle.run_store.specs.declared.run.Run.{Run}
use Rattle.run_store.proofs.CellLemmas.{inserted-at, others-absent}
use Rattle.run_store.proofs.GrowLemmas.{grown-cells, grown-runs}
use Rattle.run_store.proofs.HeadLemmas.{behind-id, length-typed, typed-append}
use Rattle.run_store.proofs.InsertLemmas.{fresh-first, index-placed, joined-sound}
use Rattle.run_store.proofs.PartLemmas.{all-between}
use Rattle.run_store.proofs.RopeLemmas.{found, put-at, value-none}
use Rattle.run_store.proofs.RunsLemmas.{Item, cells-append, few-runs, kept-run, keys-apart, keys-other, length-letters, placed}

module _ (r : RunsView) (s : AreRuns r) where
  -- a run, and where it stands
  module _ (run : Run) (front back : List Item) (is : r.rope ≡ front ++ (run.id, run) ∷ back) (this : IsRun r.letters r.count (run.id, run)) where
    abbrev pub to_run : List Cell
    to_run = all_cells r.letters front ++ cells_of r.letters run

    pub cells-there : cells_in r ≡ to_run ++ all_cells r.letters back
    cells-there =
        ap (all_cells r.letters) is ∙ cells-append r.letters front ((run.id, run) ∷ back)
        ∙ sym (append_assoc (all_cells r.letters front) (cells_of r.letters run) (all_cells r.letters back))

    length-to : length to_run ≡ length (all_cells r.letters front) + run.len
    length-to =
        omega (
          arith,
          length-append (all_cells r.letters front) (cells_of r.letters run),
          length-typed (first_of run) (letters_of r.letters run),
          length-letters r.letters r.count (run.id, run) this,
        )

    index-last : suc (index_of (cell_ids (cells_in r)) (last_id_of_run run)) ≡ length to_run
    index-last =
        let l : run.len - 1 < run.len = omega (arith, this.some) in
        omega (arith, length-to, index-placed r front run (run.len - 1) back (placed r s front run (run.len - 1) back is l) l, this.some)

    pub behind-within : suc (index_of (cell_ids (cells_in r)) (last_id_of_run run)) ≤ length (cells_in r)
    behind-within = omega (arith, index-last, ap length cells-there, length-append to_run (all_cells r.letters back))

    -- cells after the run
    pub behind-run : (new : List Cell) → to_run ++ (new ++ all_cells r.letters back) ≡ cells_inserted_after (last_id_of_run run) new (cells_in r)
    behind-run new =
        sym (inserted-at to_run new (all_cells r.letters back))
        ∙ (λ i. inserted_at (sym index-last i) new (sym cells-there i))

    index-first : index_of (cell_ids (cells_in r)) run.id ≡ length (all_cells r.letters front)
    index-first = omega (arith, index-placed r front run 0 back (placed r s front run 0 back is this.some) this.some)

    -- and before it
    pub before-run : (new : List Cell) → all_cells r.letters front ++ (new ++ (cells_of r.letters run ++ all_cells r.letters back)) ≡ cells_inserted_before run.id new (cells_in r)
    before-run new =
        let rest = cells_of r.letters run ++ all_cells r.letters back in
        let e = cells-there ∙ append_assoc (all_cells r.letters front) (cells_of r.letters run) (all_cells r.letters back) in
        sym (inserted-at (all_cells r.letters front) new rest) ∙ (λ i. inserted_at (sym index-first i) new (sym e i))

  module _ (h : Head) (text : List ℕ) (new : MayComeTo (cells_in r) h (length text)) where
    -- the new identifier is no key
    pub fresh-key : value_under h.id r.rope ≡ None
    fresh-key = value-none h.id r.rope (keys-other r.letters r.count h.id r.rope s.each (others-absent h.id (cells_in r) (fresh-first (cells_in r) h (length text) new)))

    pub join-room : length r.rope < 4194304
    join-room = omega (arith, few-runs r s, s.counted, new.room, new.some)

    pub count-fits : r.count + length text < 2 ^ 64
    count-fits = omega (arith, s.counted, new.room)

    -- a run with more letters
    module _ (run : Run) (v : value_under run.id r.rope ≡ Some run) (next : h ≡ head_after run.len (first_of run)) (M : List (List ℕ)) (longer : Run)
        (il : HasMoreLetters r.letters M run text longer) where
      abbrev pub extended : RunsView
      extended = record { rope = put_under run.id longer r.rope; letters = M; count = r.count + length text }

      this : IsRun r.letters r.count (run.id, run)
      this = kept-run r s run.id run v

      more : r.count ≤ r.count + length text
      more = omega arith

      longer-run : IsRun M (r.count + length text) (run.id, longer)
      longer-run =
          let n = ap (λ (z : Run). z.len) il.same in
          let i = ap (λ (z : Run). z.id) il.same in
          let k = ap (λ (z : Run). z.key) il.same in
          let c : h.id.counter ≡ run.id.counter + run.len = ap (λ (z : Head). z.id.counter) next ∙ ap (λ (x : Identifier). x.counter) (behind-id run.len (first_of run)) in
          record {
            named = sym i;
            some = omega (arith, n, this.some);
            within = il.within;
            counters = omega (arith, n, c, new.counters, ap (λ (x : Identifier). x.counter) i);
            ends = omega (arith, n, il.begin, this.ends);
            deep = omega (arith, this.deep, ap (λ x. x.depth) k);
            depths = omega (arith, n, this.depths, ap (λ x. x.depth) k);
            forests = omega (arith, this.forests, ap (λ x. x.forest) k);
          }

      longer-cells : cells_of M longer ≡ cells_of r.letters run ++ typed_cells h text
      longer-cells =
          let ls = letters_of r.letters run in
          (λ i. typed_cells (first_of (il.same i)) (il.letters i))
          ∙ typed-append (first_of run) ls text
          ∙ ap (λ k. typed_cells (first_of run) ls ++ typed_cells k text) (ap (λ n. head_after n (first_of run)) (length-letters r.letters r.count (run.id, run) this) ∙ sym next)

      module _ (front back : List Item) (is : r.rope ≡ front ++ (run.id, run) ∷ back) where
        put-is : put_under run.id longer r.rope ≡ front ++ (run.id, longer) ∷ back
        put-is =
            let k = keys-apart r s front run 0 back is this.some in
            ap (put_under run.id longer) is ∙ put-at run.id run longer front back k.0 k.1

        runs : All (IsRun r.letters r.count) (front ++ (run.id, run) ∷ back)
        runs = subst (All (IsRun r.letters r.count)) is s.each

        extended-is : cells_in extended ≡ cells_inserted_after (last_id_of_run run) (typed_cells h text) (cells_in r)
        extended-is =
            let P = IsRun r.letters r.count in
            let f = grown-cells r.letters M il.grown r.count (r.count + length text) more front (all_before P front ((run.id, run) ∷ back) runs) in
            let b = grown-cells r.letters M il.grown r.count (r.count + length text) more back (All-rest back (all_after P front ((run.id, run) ∷ back) runs)) in
            ap (all_cells M) put-is
            ∙ cells-append M front ((run.id, longer) ∷ back)
            ∙ (λ i. f i ++ (longer-cells i ++ b i))
            ∙ ap (λ cs. all_cells r.letters front ++ cs) (append_assoc (cells_of r.letters run) (typed_cells h text) (all_cells r.letters back))
            ∙ sym (append_assoc (all_cells r.letters front) (cells_of r.letters run) (typed_cells h text ++ all_cells r.letters back))
            ∙ behind-run run front back is this (typed_cells h text)
          where
            All-rest : (xs : List Item) → All (IsRun r.letters r.count) ((run.id, run) ∷ xs) → All (IsRun r.letters r.count) xs
            All-rest xs a = All-tail (IsRun r.letters r.count) (run.id, run) xs a

        extended-each : All (IsRun M (r.count + length text)) (put_under run.id longer r.rope)
        extended-each =
            let P = IsRun M (r.count + length text) in
            subst (All P) (sym put-is)
            (all-between P front (run.id, run) ((run.id, longer) ∷ []) back
            (grown-runs r.letters M il.grown r.count (r.count + length text) more (front ++ (run.id, run) ∷ back) runs) (All-cons P (run.id, longer) [] longer-run (All-nil P)))

      pub extended-cells : cells_in extended ≡ cells_inserted_after (last_id_of_run run) (typed_cells h text) (cells_in r)
      extended-cells = let p = found run.id run r.rope v in extended-is p.front p.back p.is

      pub extended-sound : AreRuns extended
      extended-sound =
          let p = found run.id run r.rope v in
          joined-sound r s h text new extended (suc (index_of (cell_ids (cells_in r)) (last_id_of_run run))) (behind-within run p.front p.back p.is this)
          (extended-each p.front p.back p.is)
          extended-cells refl (il.few r.count this.ends s.letters)

      pub extended-length : length extended.rope ≡ length r.rope
      extended-length = length-map r.rope (λ (x : Item). (x.0, cond (id_eq x.0 run.id) longer x.1))
