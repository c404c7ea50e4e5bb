-- New cells in a run of their own.
use Rattle.std.proofs.Common.{◌≡◌, ℕ, ◌+◌, ◌<◌, ◌≤◌, List, [], ◌∷◌, ◌++◌, ap, append-nil, append_assoc, arith, length, length-append, refl, subst, sym, take, ◌∙◌}
use Rattle.std.specs.Prelude.{Some, slice_index_or, slice_set}
use Rattle.std.specs.List.{All}
use Rattle.std.proofs.lemmas.List.Elements.{All-append, All-cons}
use Rattle.std.proofs.Math.Seq.{take-append_seam}
use Rattle.fugue_ids.proofs.ListLemmas.{all_before, all_after}
use Rattle.node_rope.specs.Beside.{placed_after, placed_before}
use Rattle.node_rope.specs.Items.{value_under}
use Rattle.run_store.specs.Beginning.{CanBegin, begun_run, placed_at}
use Rattle.run_store.specs.Growth.{AreGrown, MayComeTo, inserted_at}
use Rattle.run_store.specs.Heads.{typed_cells}
use Rattle.run_store.specs.Runs.{AreRuns, IsRun, RunsView, all_cells, cells_in, cells_of}
use Rattle.run_store.specs.declared.insert.Beginning.{Beginning}
use Rattle.run_store.specs.declared.insert.Beginning.TheVariants.{Before, Behind, First}
use Rattle.run_store.specs.declared.cell.Head.{Head}
use Rattle.run_store.specs.declared.run.Run.{Run}
use Rattle.run_store.proofs.CellLemmas.{inserted-at}
use Rattle.run_store.proofs.EitherLemmas.{value-of}
use Rattle.run_store.proofs.GrowLemmas.{grown-cells, grown-runs, grown-set}
use Rattle.run_store.proofs.InsertLemmas.{alone-cells, alone-run, alone_run, begun-letters, joined-sound, letters_begun}
use Rattle.run_store.proofs.JoinLemmas.{before-run, behind-run}
use Rattle.run_store.proofs.RopeLemmas.{after-at, before-at, found}
use Rattle.run_store.proofs.RunsLemmas.{Item, cells-append, few-runs, kept-run, keys-apart}

-- without cells there is no run
pub no-runs : (r : RunsView) → AreRuns r → cells_in r ≡ [] → r.rope ≡ []
no-runs r s none = empty r.rope (omega (arith, few-runs r s, s.counted, ap length none))
  where
    empty : (xs : List Item) → length xs ≤ 0 → xs ≡ []
    empty [] l = refl
    empty (x ∷ xs) l = absurd (omega (arith, l))

module _ (r : RunsView) (s : AreRuns r) (h : Head) (text : List ℕ) (new : MayComeTo (cells_in r) h (length text)) (alone : Run)
    (e : alone ≡ alone_run r s h text new) where
  abbrev new_letters : List (List ℕ)
  new_letters = letters_begun r s h text new

  abbrev new_item : Item
  new_item = (h.id, alone)

  abbrev with_rope : List Item → RunsView
  with_rope rope = record { rope = rope; letters = new_letters; count = r.count + length text }

  abbrev pub begun_runs : Beginning → RunsView
  begun_runs at = with_rope (placed_at at new_item r.rope)

  -- what the runs are once the new one begins there
  pub record IsBegun (at : Beginning) : Type 0 where
    pub sound : AreRuns (begun_runs at)
    pub cells : cells_in (begun_runs at) ≡ begun_run at (typed_cells h text) (cells_in r)
    pub longer : length (placed_at at new_item r.rope) ≡ length r.rope + 1

  abbrev P : Item → Type 0
  P = IsRun r.letters r.count

  abbrev Q : Item → Type 0
  Q = IsRun new_letters (r.count + length text)

  g : AreGrown r.letters new_letters
  g = grown-set r.letters 0 text

  more : r.count ≤ r.count + length text
  more = omega arith

  new-run : Q new_item
  new-run = subst (λ (z : Run). Q (h.id, z)) (sym e) (alone-run r s h text new)

  new-cells : cells_of new_letters alone ≡ typed_cells h text
  new-cells = ap (cells_of new_letters) e ∙ alone-cells r s h text new

  same-cells : (xs : List Item) → All P xs → all_cells new_letters xs ≡ all_cells r.letters xs
  same-cells = grown-cells r.letters new_letters g r.count (r.count + length text) more

  same-runs : (xs : List Item) → All P xs → All Q xs
  same-runs = grown-runs r.letters new_letters g r.count (r.count + length text) more

  -- the new run between the others
  module _ (front back : List Item) (is : r.rope ≡ front ++ back) where
    abbrev between : List Item
    between = front ++ new_item ∷ back

    before : All P front
    before = all_before P front back (subst (All P) is s.each)

    behind : All P back
    behind = all_after P front back (subst (All P) is s.each)

    between-cells : all_cells new_letters between ≡ all_cells r.letters front ++ (typed_cells h text ++ all_cells r.letters back)
    between-cells =
        cells-append new_letters front (new_item ∷ back)
        ∙ (λ i. same-cells front before i ++ (new-cells i ++ same-cells back behind i))

    between-sound : AreRuns (with_rope between)
    between-sound =
        let k = length (all_cells r.letters front) in
        let old : cells_in r ≡ all_cells r.letters front ++ all_cells r.letters back = ap (all_cells r.letters) is ∙ cells-append r.letters front back in
        joined-sound r s h text new (with_rope between) k (omega (arith, ap length old, length-append (all_cells r.letters front) (all_cells r.letters back)))
        (All-append Q front (new_item ∷ back) (same-runs front before) (All-cons Q new_item back new-run (same-runs back behind)))
        (between-cells ∙ sym (inserted-at (all_cells r.letters front) (typed_cells h text) (all_cells r.letters back)) ∙ ap (inserted_at k (typed_cells h text)) (sym old)) refl
        (begun-letters r s h text new)

    begun-between : (at : Beginning) → placed_at at new_item r.rope ≡ between
        → all_cells r.letters front ++ (typed_cells h text ++ all_cells r.letters back) ≡ begun_run at (typed_cells h text) (cells_in r) → IsBegun at
    begun-between at put cells = record {
      sound = subst (λ xs. AreRuns (with_rope xs)) (sym put) between-sound;
      cells = ap (all_cells new_letters) put ∙ between-cells ∙ cells;
      longer = omega (arith, ap length put, ap length is, length-append front back, length-append front (new_item ∷ back));
    }

  -- the new run beside another one
  module _ (run : Run) (v : value_under run.id r.rope ≡ Some run) where
    this : P (run.id, run)
    this = kept-run r s run.id run v

    begun-before : IsBegun (Before run.id)
    begun-before =
        let p = found run.id run r.rope v in
        let k = keys-apart r s p.front run 0 p.back p.is this.some in
        begun-between p.front ((run.id, run) ∷ p.back) p.is (Before run.id)
        (ap (placed_before run.id new_item) p.is ∙ before-at run.id run new_item p.front p.back k.0 k.1)
        (before-run r s run p.front p.back p.is this (typed_cells h text))

    begun-behind : IsBegun (Behind run)
    begun-behind =
        let p = found run.id run r.rope v in
        let k = keys-apart r s p.front run 0 p.back p.is this.some in
        let x : List Item = (run.id, run) ∷ [] in
        begun-between (p.front ++ x) p.back (p.is ∙ sym (append_assoc p.front x p.back)) (Behind run)
        (ap (placed_after run.id new_item) p.is ∙ after-at run.id run new_item p.front p.back k.0 k.1 ∙ sym (append_assoc p.front x (new_item ∷ p.back)))
        (ap (λ cs. cs ++ (typed_cells h text ++ all_cells r.letters p.back))
        (cells-append r.letters p.front x ∙ ap (λ cs. all_cells r.letters p.front ++ cs) (append-nil (cells_of r.letters run)))
        ∙ behind-run r s run p.front p.back p.is this (typed_cells h text))

  pub is-begun : (at : Beginning) → CanBegin at r.rope → IsBegun at
  is-begun First none = begun-between [] [] none First refl (append-nil (typed_cells h text))
  is-begun (Before key) held =
      let w = value-of (value_under key r.rope) held in
      let n : key ≡ w.0.id = (kept-run r s key w.0 w.1).named in
      subst (λ k. IsBegun (Before k)) (sym n) (begun-before w.0 (ap (λ k. value_under k r.rope) (sym n) ∙ w.1))
  is-begun (Behind run) v = begun-behind run v

-- letters that are taken back
pub taken-back : (L : List (List ℕ)) (text : List ℕ) (start : ℕ) → 0 < length L → start ≡ length (slice_index_or L 0 [])
    → let M = slice_set L 0 (slice_index_or L 0 [] ++ text) in slice_set M 0 (take start (slice_index_or M 0 [])) ≡ L
taken-back [] text start l e = absurd (omega (arith, l))
taken-back (first ∷ L) text start l e = ap (λ n. take n (first ++ text) ∷ L) e ∙ ap (λ xs. xs ∷ L) (take-append_seam first text)
