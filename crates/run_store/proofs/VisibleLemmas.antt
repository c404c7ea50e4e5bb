-- The cells of runs that are not hidden, by their weight.
use Rattle.std.proofs.Common.{◌≡◌, ℕ, zero, suc, ◌+◌, ◌<◌, ◌≤◌, Bool, true, false, not, List, [], ◌∷◌, ◌++◌, ap, arith, inl, inr, length, length-append, min, refl, subst, sym, ◌∙◌}
use Rattle.std.specs.Prelude.{IfSome, Option, None, Some, if◌then◌else◌, slice_get}
use Rattle.std.specs.List.{All}
use Rattle.std.proofs.lemmas.Bool.{cases_Bool, true≢false}
use Rattle.std.proofs.lemmas.List.{length-map, map-append}
use Rattle.std.proofs.lemmas.List.Sums.{sum_by-cons}
use Rattle.std.proofs.lemmas.List.Elements.{All-head, All-tail, filter-append}
use Rattle.std.proofs.lemmas.Option.{slice_get_past}
use Rattle.fugue_ids.specs.Identifiers.{Identifier}
use Rattle.fugue_ids.specs.declared.limits.TheConstants.{MOST_OPERATIONS}
use Rattle.fugue_ids.proofs.ListLemmas.{all_before, all_after, slice_get-behind}
use Rattle.node_rope.specs.Items.{value_under}
use Rattle.node_rope.specs.Places.{IsUnit, weight_sum}
use Rattle.run_store.specs.Cells.{cell_ids, cells_shown}
use Rattle.run_store.specs.Heads.{head_after, cell_with_letter, next_head, typed_cells}
use Rattle.run_store.specs.Runs.{AreRuns, IsRun, RunsView, all_cells, cells_in, cells_of, first_of, letters_of, visible_weight}
use Rattle.run_store.specs.Shown.{IsInHand}
use Rattle.run_store.specs.declared.cell.Cell.{Cell}
use Rattle.run_store.specs.declared.find.Spot.{Spot}
use Rattle.run_store.specs.declared.cell.Head.{Head}
use Rattle.run_store.specs.declared.run.Run.{Run}
use Rattle.run_store.proofs.HeadLemmas.{behind-next, length-typed}
use Rattle.run_store.proofs.RopeLemmas.{value-at}
use Rattle.run_store.proofs.RunsLemmas.{Item, cells-append, kept-run, keys-apart, length-letters}

pub visible-append : (xs ys : List Cell) → cells_shown (xs ++ ys) ≡ cells_shown xs ++ cells_shown ys
visible-append = filter-append (λ c. not c.hidden)

pub visible-typed : (h : Head) (ls : List ℕ) → h.hidden ≡ false → cells_shown (typed_cells h ls) ≡ typed_cells h ls
visible-typed h [] e = refl
visible-typed h (l ∷ ls) e =
    ap (λ b. if not b then cell_with_letter h l ∷ cells_shown (typed_cells (next_head h) ls) else cells_shown (typed_cells (next_head h) ls)) e
    ∙ ap (λ cs. cell_with_letter h l ∷ cs) (visible-typed (next_head h) ls e)

pub hidden-typed : (h : Head) (ls : List ℕ) → h.hidden ≡ true → cells_shown (typed_cells h ls) ≡ []
hidden-typed h [] e = refl
hidden-typed h (l ∷ ls) e =
    ap (λ b. if not b then cell_with_letter h l ∷ cells_shown (typed_cells (next_head h) ls) else cells_shown (typed_cells (next_head h) ls)) e ∙ hidden-typed (next_head h) ls e

pub get-typed : (h : Head) (ls : List ℕ) (o : ℕ) (cs : List Cell) → o < length ls → slice_get (cell_ids (typed_cells h ls ++ cs)) o ≡ Some (head_after o h).id
get-typed h [] o cs l = absurd (omega (arith, l))
get-typed h (x ∷ ls) zero cs l = refl
get-typed h (x ∷ ls) (suc o) cs l = get-typed (next_head h) ls o cs (omega (arith, l)) ∙ ap (λ (k : Head). Some k.id) (behind-next o h)

module _ (L : List (List ℕ)) (n : ℕ) (few : n ≤ MOST_OPERATIONS) where
  visible-run : (x : Item) → IsRun L n x → length (cells_shown (cells_of L x.1)) ≡ visible_weight x.1
  visible-run x r = elim (cases_Bool x.1.hidden) [
    | inl t ↦ ap length (hidden-typed (first_of x.1) (letters_of L x.1) t) ∙ ap (λ b. if b then 0 else min x.1.len MOST_OPERATIONS) (sym t)
    | inr f ↦
        let m : x.1.len ≡ min x.1.len MOST_OPERATIONS = omega (arith, r.depths, r.deep, few) in
        ap length (visible-typed (first_of x.1) (letters_of L x.1) f) ∙ length-typed (first_of x.1) (letters_of L x.1) ∙ length-letters L n x r ∙ m
        ∙ ap (λ b. if b then 0 else min x.1.len MOST_OPERATIONS) (sym f)
  ]

  -- the visible cells of runs are as many as their weight
  pub visible-weight : (xs : List Item) → All (IsRun L n) xs → length (cells_shown (all_cells L xs)) ≡ weight_sum visible_weight xs
  visible-weight [] a = refl
  visible-weight (x ∷ xs) a =
      let e = ap length (visible-append (cells_of L x.1) (all_cells L xs)) in
      omega (
        arith,
        e,
        length-append (cells_shown (cells_of L x.1)) (cells_shown (all_cells L xs)),
        visible-run x (All-head (IsRun L n) x xs a),
        visible-weight xs (All-tail (IsRun L n) x xs a),
        sum_by-cons (λ (z : Item). visible_weight z.1) x xs,
      )

-- what counts for a unit is not hidden
is-shown : (b : Bool) (m v : ℕ) → v < (if b then 0 else min m MOST_OPERATIONS) → (b ≡ false) × (v < m)
is-shown true m v l = absurd (omega (arith, l))
is-shown false m v l = (refl, omega (arith, l))

-- the visible cell of a unit of weight
module _ (r : RunsView) (s : AreRuns r) where
  pub visible-all : length (cells_shown (cells_in r)) ≡ weight_sum visible_weight r.rope
  visible-all = visible-weight r.letters r.count s.few r.rope s.each

  pub no-unit : (w : ℕ) → weight_sum visible_weight r.rope ≤ w → slice_get (cell_ids (cells_shown (cells_in r))) w ≡ None
  no-unit w l =
      slice_get_past (cell_ids (cells_shown (cells_in r))) w
      (omega (arith, l, visible-all, length-map (cells_shown (cells_in r)) (λ (z : Cell). z.id)))

  pub unit-cell : (w : ℕ) (k : Identifier) (u : ℕ) (p : IsUnit visible_weight r.rope w k u)
      → (u < p.value.len) × (slice_get (cell_ids (cells_shown (cells_in r))) w ≡ Some (head_after u (first_of p.value)).id)
  unit-cell w k u p =
      let P = IsRun r.letters r.count in
      let L = r.letters in
      let runs = subst (All P) p.split s.each in
      let this = All-head P (k, p.value) p.back (all_after P p.front ((k, p.value) ∷ p.back) runs) in
      let shown = is-shown p.value.hidden p.value.len u p.inside in
      let V = cells_shown (all_cells L p.front) in
      let B = cells_shown (all_cells L p.back) in
      let ls = letters_of L p.value in
      let cells : cells_shown (cells_in r) ≡ V ++ (typed_cells (first_of p.value) ls ++ B) =
      ap (λ xs. cells_shown (all_cells L xs)) p.split
      ∙ ap cells_shown (cells-append L p.front ((k, p.value) ∷ p.back))
      ∙ visible-append (all_cells L p.front) (cells_of L p.value ++ all_cells L p.back)
      ∙ ap (λ cs. V ++ cs) (visible-append (cells_of L p.value) (all_cells L p.back) ∙ ap (λ cs. cs ++ B) (visible-typed (first_of p.value) ls shown.0)) in
      let front = visible-weight L r.count s.few p.front (all_before P p.front ((k, p.value) ∷ p.back) runs) in
      let at : w ≡ length (cell_ids V) + u = omega (arith, p.before, front, length-map V (λ (z : Cell). z.id)) in (
        shown.1,
        (λ i. slice_get (cell_ids (cells i)) (at i))
            ∙ ap (λ is. slice_get is (length (cell_ids V) + u)) (map-append (λ (z : Cell). z.id) V (typed_cells (first_of p.value) ls ++ B))
            ∙ slice_get-behind (cell_ids V) (cell_ids (typed_cells (first_of p.value) ls ++ B)) u
            ∙ get-typed (first_of p.value) ls u B (omega (arith, shown.1, length-letters L r.count (k, p.value) this)),
      )

  -- the same, by the run that is kept under the key
  pub unit-held : (w : ℕ) (k : Identifier) (u : ℕ) (p : IsUnit visible_weight r.rope w k u) → value_under k r.rope ≡ Some p.value
  unit-held w k u p =
      let P = IsRun r.letters r.count in
      let this = All-head P (k, p.value) p.back (all_after P p.front ((k, p.value) ∷ p.back) (subst (All P) p.split s.each)) in
      let is : r.rope ≡ p.front ++ (p.value.id, p.value) ∷ p.back = p.split ∙ (λ i. p.front ++ (this.named i, p.value) ∷ p.back) in
      ap (λ i. value_under i r.rope) this.named ∙ ap (value_under p.value.id) is
      ∙ value-at p.value.id p.value p.front p.back (keys-apart r s p.front p.value 0 p.back is this.some).0

  pub unit-run : (w : ℕ) (k : Identifier) (u : ℕ) → IsUnit visible_weight r.rope w k u → (run : Run) → value_under k r.rope ≡ Some run
      → (u < run.len) × (slice_get (cell_ids (cells_shown (cells_in r))) w ≡ Some (head_after u (first_of run)).id)
  unit-run w k u p run v =
      let e : Some p.value ≡ Some run = sym (unit-held w k u p) ∙ v in
      let same : p.value ≡ run = cc in
      subst (λ (z : Run). (u < z.len) × (slice_get (cell_ids (cells_shown (cells_in r))) w ≡ Some (head_after u (first_of z)).id)) same (unit-cell w k u p)

  -- the run with the cells after it
  pub unit-hand : (w : ℕ) (k : Identifier) (u : ℕ) → IsUnit visible_weight r.rope w k u → (run : Run) → value_under k r.rope ≡ Some run
      → IsInHand (cell_ids (cells_shown (cells_in r))) w run u
  unit-hand w k u p run v =
      let this = kept-run r s k run v in
      let held : Some p.value ≡ Some run = sym (unit-held w k u p) ∙ v in
      let same : p.value ≡ run = cc in
      let n = ap (λ (z : Run). z.len) same in
      let shown = is-shown p.value.hidden p.value.len u p.inside in
      record {
        inside = (unit-run w k u p run v).0;
        counters = this.counters;
        depths = omega (arith, this.depths, s.few);
        cells = λ j l.
            let more : u + j < p.value.len = omega (arith, l, n) in
            let q : IsUnit visible_weight r.rope (w + j) k (u + j) = record {
              front = p.front;
              value = p.value;
              back = p.back;
              split = p.split;
              before = omega (arith, p.before);
              inside = weighs p.value.hidden p.value.len (u + j) shown.0 more (this-small k p.value run same this);
            } in
            (unit-run (w + j) k (u + j) q run v).1;
      }
    where
      weighs : (b : Bool) (m v : ℕ) → b ≡ false → v < m → m ≤ MOST_OPERATIONS → v < (if b then 0 else min m MOST_OPERATIONS)
      weighs true m v e l few = absurd (true≢false e)
      weighs false m v e l few = omega (arith, l, few)

      this-small : (i : Identifier) (z run : Run) → z ≡ run → IsRun r.letters r.count (i, run) → z.len ≤ MOST_OPERATIONS
      this-small i z run e this = omega (arith, this.depths, this.deep, s.few, ap (λ (y : Run). y.len) e)

-- a step along a run in hand
pub hand-next : (shown : List Identifier) (passed : ℕ) (run : Run) (o : ℕ) → IsInHand shown passed run o → suc o < run.len → IsInHand shown (passed + 1) run (suc o)
hand-next shown passed run o h l = record {
  inside = l;
  counters = h.counters;
  depths = h.depths;
  cells = λ k m.
      let p : passed + suc k ≡ (passed + 1) + k = omega arith in
      let q : o + suc k ≡ suc o + k = omega arith in
      ap (slice_get shown) (sym p) ∙ h.cells (suc k) (omega (arith, m)) ∙ ap (λ j. Some (head_after j (first_of run)).id) q;
}

-- the first cell in hand
pub hand-first : (shown : List Identifier) (passed : ℕ) (run : Run) (o : ℕ) → IsInHand shown passed run o → slice_get shown passed ≡ Some (head_after o (first_of run)).id
hand-first shown passed run o h =
    let p : passed + 0 ≡ passed = omega arith in
    let q : o + 0 ≡ o = omega arith in
    ap (slice_get shown) (sym p) ∙ h.cells 0 (omega (arith, h.inside)) ∙ ap (λ j. Some (head_after j (first_of run)).id) q

-- and what is in hand then
pub hand-behind : (shown : List Identifier) (passed : ℕ) (run : Run) (o : ℕ) → IsInHand shown passed run o → (next : Option Spot)
    → IfSome next (λ h. (h.run ≡ run) × (h.offset ≡ suc o) × (suc o < run.len)) → IfSome next (λ h. IsInHand shown (passed + 1) h.run h.offset)
hand-behind shown passed run o h None e = tt
hand-behind shown passed run o h (Some n) e =
    subst (λ k. IsInHand shown (passed + 1) n.run k) (sym e.1)
    (subst (λ (z : Run). IsInHand shown (passed + 1) z (suc o)) (sym e.0) (hand-next shown passed run o h e.2))
