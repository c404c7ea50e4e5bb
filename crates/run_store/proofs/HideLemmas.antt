-- Cells that are hidden, in a run of their own.
use Rattle.std.proofs.Common.{◌≡◌, ◌≢◌, ◌+◌, ◌<◌, ◌≤◌, ℕ, zero, suc, true, false, List, [], ◌∷◌, ◌++◌, ap, append_assoc, arith, length, length-drop, refl, subst, sym, take, drop}
use Rattle.std.proofs.Common.{◌∙◌}
use Rattle.std.specs.Prelude.{Bool, OnErr, OnOk, Result, Some, cond, if◌then◌else◌, map}
use Rattle.std.specs.List.{All, AllPairs}
use Rattle.std.proofs.lemmas.List.{length-map, length-take-le, take-append-drop}
use Rattle.std.proofs.lemmas.List.Elements.{All-cons, All-nil}
use Rattle.fugue_ids.specs.Identifiers.{Identifier, id_eq}
use Rattle.fugue_ids.specs.Runs.{id_after}
use Rattle.fugue_ids.proofs.RunLemmas.{none_after, one_after}
use Rattle.node_rope.specs.Beside.{put_under}
use Rattle.node_rope.specs.Items.{value_under}
use Rattle.run_store.specs.Cells.{cell_hiding, cell_ids, cells_hiding, is_hidden_cell}
use Rattle.run_store.specs.Changes.{HidesPart, MakesCells}
use Rattle.run_store.specs.Heads.{head_after, cell_with_letter, next_head, typed_cells}
use Rattle.run_store.specs.Runs.{AreLetters, AreRuns, IsRun, IsCellSpot, RunsView, all_cells, cells_in, first_of, letters_of, rope_parted}
use Rattle.run_store.specs.Stored.{IsRaisedBy}
use Rattle.run_store.specs.declared.cell.Cell.{Cell}
use Rattle.run_store.specs.declared.cell.Head.{Head}
use Rattle.run_store.specs.declared.run.Run.{Run}
use Rattle.run_store.proofs.CellLemmas.{hidden-at, hiding-at, others-back, others-front}
use Rattle.run_store.proofs.CutLemmas.{cut-cells, cut-longer, cut-sound, cut_runs}
use Rattle.run_store.proofs.EitherLemmas.{any-ok, either, kept-raised, on-ok, one-raised, raised-twice, where-err, where-ok}
use Rattle.run_store.proofs.HeadLemmas.{behind-hidden, typed-append}
use Rattle.run_store.proofs.PartLemmas.{all-between}
use Rattle.run_store.proofs.RopeLemmas.{found, put-at}
use Rattle.run_store.proofs.RunsLemmas.{Item, cell_there, cells-append, cells_before, cells_after, kept-run, keys-apart, length-letters, located}

-- the identifiers stay
same_id : (x : Identifier) (c : Cell) → (cell_hiding x c).id ≡ c.id
same_id x c = elim (id_eq c.id x) as (λ b. ◌≡◌ {A = Identifier} ((if b then record c { hidden = true } else c).id) c.id) [ true ↦ refl | false ↦ refl ]

ids-hiding : (x : Identifier) (cs : List Cell) → cell_ids (map (cell_hiding x) cs) ≡ cell_ids cs
ids-hiding x [] = refl
ids-hiding x (c ∷ cs) = λ i. same_id x c i ∷ ids-hiding x cs i

pub hiding-ids : (n : ℕ) (x : Identifier) (cs : List Cell) → cell_ids (cells_hiding x n cs) ≡ cell_ids cs
hiding-ids zero x cs = refl
hiding-ids (suc n) x cs = hiding-ids n (id_after x 1) (map (cell_hiding x) cs) ∙ ids-hiding x cs

all-hiding : (n : ℕ) (x : Identifier) (cs : List Cell) → length (cells_hiding x n cs) ≡ length cs
all-hiding zero x cs = refl
all-hiding (suc n) x cs = all-hiding n (id_after x 1) (map (cell_hiding x) cs) ∙ length-map cs (cell_hiding x)

-- some are hidden, and then those after them
pub hiding-more : (m n : ℕ) (x : Identifier) (cs : List Cell) → cells_hiding (id_after x m) n (cells_hiding x m cs) ≡ cells_hiding x (m + n) cs
hiding-more zero n x cs = let e : n ≡ 0 + n = omega arith in λ i. cells_hiding (none_after x i) (e i) cs
hiding-more (suc m) n x cs =
    let e : suc (m + n) ≡ suc m + n = omega arith in
    ap (λ y. cells_hiding y n (cells_hiding (id_after x 1) m (map (cell_hiding x) cs))) (sym (one_after x m))
    ∙ hiding-more m n (id_after x 1) (map (cell_hiding x) cs)
    ∙ ap (λ k. cells_hiding x k cs) e

-- a store whose cells are those of another one with some hidden
pub marked-sound : (r : RunsView) → AreRuns r → (x : Identifier) (n : ℕ) (now : RunsView) → now.count ≡ r.count → now.letters ≡ r.letters
    → All (IsRun now.letters now.count) now.rope
    → cells_in now ≡ cells_hiding x n (cells_in r) → AreRuns now
marked-sound r s x n now count letters each cells = record {
  each = each;
  distinct = subst (AllPairs (λ y z. y ≢ z)) (sym (ap cell_ids cells ∙ hiding-ids n x (cells_in r))) s.distinct;
  counted = count ∙ s.counted ∙ sym (ap length cells ∙ all-hiding n x (cells_in r));
  few = omega (arith, s.few, count);
  letters = subst (AreLetters now.letters) (sym count) (subst (λ L. AreLetters L r.count) (sym letters) s.letters);
}

-- a cell with those around it, once it is hidden
hides-one : (cs : List Cell) → AllPairs (λ x y. x ≢ y) (cell_ids cs) → (front : List Cell) (c : Cell) (back : List Cell) → cs ≡ front ++ c ∷ back
    → map (cell_hiding c.id) cs ≡ front ++ record c { hidden = true } ∷ back
hides-one cs d front c back e =
    let apart = subst (λ zs. AllPairs (λ x y. x ≢ y) (cell_ids zs)) e d in
    ap (map (cell_hiding c.id)) e ∙ hiding-at c.id front c back (others-front front c back apart) (others-back front c back apart) refl

-- the cells of letters with those around them, once they are hidden
pub hides-typed : (ls : List ℕ) (h : Head) (front back cs : List Cell) → AllPairs (λ x y. x ≢ y) (cell_ids cs) → cs ≡ front ++ (typed_cells h ls ++ back)
    → cells_hiding h.id (length ls) cs ≡ front ++ (typed_cells (record h { hidden = true }) ls ++ back)
hides-typed [] h front back cs d e = e
hides-typed (ch ∷ ls) h front back cs d e =
    let hidden : Cell = cell_with_letter (record h { hidden = true }) ch in
    let rest : List Cell = typed_cells (next_head h) ls ++ back in
    let one : map (cell_hiding h.id) cs ≡ front ++ hidden ∷ rest = hides-one cs d front (cell_with_letter h ch) rest e in
    let apart = subst (AllPairs (λ x y. x ≢ y)) (sym (ids-hiding h.id cs)) d in
    hides-typed ls (next_head h) (front ++ hidden ∷ []) back (map (cell_hiding h.id) cs) apart (one ∙ sym (append_assoc front (hidden ∷ []) rest))
    ∙ append_assoc front (hidden ∷ []) (typed_cells (next_head (record h { hidden = true })) ls ++ back)

-- the numbers of a run do not hang on its mark
pub marked-run : (L : List (List ℕ)) (n : ℕ) (k : Identifier) (run : Run) (m : Bool) → IsRun L n (k, run) → IsRun L n (k, record run { hidden = m })
marked-run L n k run m this = record {
  named = this.named;
  some = this.some;
  within = this.within;
  counters = this.counters;
  ends = this.ends;
  deep = this.deep;
  depths = this.depths;
  forests = this.forests;
}

-- the mark of the cell at a spot is that of its run
module _ (r : RunsView) (s : AreRuns r) (x : Identifier) (run : Run) (o : ℕ) (spot : IsCellSpot r.rope x run o) where
  pub spot-hidden : is_hidden_cell (cells_in r) x ≡ run.hidden
  spot-hidden =
      let l = located r s run o spot.held spot.inside in
      let F = cells_before r.letters l.front run o in
      let B = cells_after r.letters run (suc o) l.back in
      (λ i. is_hidden_cell (l.place.cells_is i) (spot.is i))
      ∙ hidden-at (head_after o (first_of run)).id F (cell_there r.letters run o) B l.place.before l.place.behind refl
      ∙ behind-hidden o (first_of run)

  -- those of a hidden run that are hidden again stay
  pub hidden-again : (n : ℕ) → o + n ≤ run.len → run.hidden ≡ true → cells_in r ≡ cells_hiding x n (cells_in r)
  hidden-again n inside h =
      let L = r.letters in
      let p = found run.id run r.rope spot.held in
      let f = first_of run in
      let ls = letters_of L run in
      let count : length ls ≡ run.len = length-letters L r.count (run.id, run) (kept-run r s run.id run spot.held) in
      let before : length (take o ls) ≡ o = length-take-le o ls (omega (arith, count, inside)) in
      let part = take n (drop o ls) in
      let there : length part ≡ n = length-take-le n (drop o ls) (omega (arith, count, inside, length-drop o ls)) in
      let head = head_after o f in
      let A = all_cells L p.front in
      let T = typed_cells f (take o ls) in
      let P = typed_cells head part in
      let R = typed_cells (head_after (length part) head) (drop n (drop o ls)) in
      let B = all_cells L p.back in
      let parts : typed_cells f ls ≡ T ++ (P ++ R) =
      ap (typed_cells f) (sym (take-append-drop o ls)) ∙ typed-append f (take o ls) (drop o ls)
      ∙ ap (λ k. T ++ typed_cells (head_after k f) (drop o ls)) before
      ∙ ap (λ cs. T ++ cs) (ap (typed_cells head) (sym (take-append-drop n (drop o ls))) ∙ typed-append head part (drop n (drop o ls))) in
      let is : cells_in r ≡ (A ++ T) ++ (P ++ (R ++ B)) =
      ap (all_cells L) p.is ∙ cells-append L p.front ((run.id, run) ∷ p.back) ∙ ap (λ cs. A ++ (cs ++ B)) parts
      ∙ ap (λ cs. A ++ cs) (append_assoc T (P ++ R) B ∙ ap (λ cs. T ++ cs) (append_assoc P R B)) ∙ sym (append_assoc A T (P ++ (R ++ B))) in
      let marked : head.hidden ≡ true = behind-hidden o f ∙ h in
      is
      ∙ (λ i. (A ++ T) ++ (typed_cells (record head { hidden = marked i }) part ++ (R ++ B)))
      ∙ sym (hides-typed part head (A ++ T) (R ++ B) (cells_in r) s.distinct is)
      ∙ (λ i. cells_hiding (sym spot.is i) (there i) (cells_in r))

-- a run, hidden
module _ (r : RunsView) (s : AreRuns r) (run : Run) (v : value_under run.id r.rope ≡ Some run) where
  abbrev pub hidden_run : Run
  hidden_run = record run { hidden = true }

  abbrev pub hidden_runs : RunsView
  hidden_runs = record { rope = put_under run.id hidden_run r.rope; letters = r.letters; count = r.count }

  this : IsRun r.letters r.count (run.id, run)
  this = kept-run r s run.id run v

  hidden-run : IsRun r.letters r.count (run.id, hidden_run)
  hidden-run = marked-run r.letters r.count run.id run true this

  module _ (front back : List Item) (is : r.rope ≡ front ++ (run.id, run) ∷ back) where
    put-is : put_under run.id hidden_run r.rope ≡ front ++ (run.id, hidden_run) ∷ back
    put-is =
        let k = keys-apart r s front run 0 back is this.some in
        ap (put_under run.id hidden_run) is ∙ put-at run.id run hidden_run front back k.0 k.1

    cells-hidden : cells_in hidden_runs ≡ cells_hiding run.id run.len (cells_in r)
    cells-hidden =
        let L = r.letters in
        ap (all_cells L) put-is
        ∙ cells-append L front ((run.id, hidden_run) ∷ back)
        ∙ sym (hides-typed (letters_of L run) (first_of run) (all_cells L front) (all_cells L back) (cells_in r) s.distinct
        (ap (all_cells L) is ∙ cells-append L front ((run.id, run) ∷ back)))
        ∙ ap (λ n. cells_hiding run.id n (cells_in r)) (length-letters L r.count (run.id, run) this)

  pub hiding-cells : cells_in hidden_runs ≡ cells_hiding run.id run.len (cells_in r)
  hiding-cells = let p = found run.id run r.rope v in cells-hidden p.front p.back p.is

  pub hiding-sound : AreRuns hidden_runs
  hiding-sound =
      let p = found run.id run r.rope v in
      let P = IsRun r.letters r.count in
      let each = subst (All P) (sym (put-is p.front p.back p.is))
      (all-between P p.front (run.id, run) ((run.id, hidden_run) ∷ []) p.back (subst (All P) p.is s.each) (All-cons P (run.id, hidden_run) [] hidden-run (All-nil P))) in
      marked-sound r s run.id run.len hidden_runs refl refl each hiding-cells

  pub hiding-length : length hidden_runs.rope ≡ length r.rope
  hiding-length = length-map r.rope (λ (x : Item). (x.0, cond (id_eq x.0 run.id) hidden_run x.1))

-- a part of a run, hidden
module _ (r : RunsView) (s : AreRuns r) (run : Run) (at : ℕ) (v : value_under run.id r.rope ≡ Some run) (behind : 0 < at) (before : at < run.len) (part : Run)
    (held : value_under part.id (rope_parted at run r.rope) ≡ Some part) where
  abbrev cut : RunsView
  cut = cut_runs r s run at v behind before

  sound : AreRuns cut
  sound = cut-sound r s run at v behind before

  abbrev to : RunsView
  to = hidden_runs cut sound part held

  abbrev with_rope : List Item → RunsView
  with_rope xs = record { rope = xs; letters = r.letters; count = r.count }

  -- what a call left that puts it so, or changes nothing for lack of memory
  module _ {T E : Type 0} (res : Result T E) (now rope : List Item) (e : rope ≡ put_under part.id (record part { hidden = true }) (rope_parted at run r.rope))
      (ok : OnOk res (now ≡ rope))
      (err : OnErr res (now ≡ r.rope)) where
    made : OnOk res (now ≡ to.rope)
    made = on-ok res (now ≡ rope) (now ≡ to.rope) (λ q. q ∙ e) ok

    pub hides-sound : AreRuns (with_rope now)
    hides-sound = either (λ (xs : List Item). AreRuns (with_rope xs)) res to.rope r.rope now made err (hiding-sound cut sound part held) s

    pub hides-part : HidesPart res r (with_rope now) part.id part.len
    hides-part = record {
      ok = where-ok (λ (xs : List Item). cells_in (with_rope xs) ≡ cells_hiding part.id part.len (cells_in r)) res to.rope now made
          (hiding-cells cut sound part held ∙ ap (cells_hiding part.id part.len) (cut-cells r s run at v behind before));
      raised = either (λ (xs : List Item). IsRaisedBy 1 (length r.rope) (length xs)) res to.rope r.rope now made err
          (one-raised (length r.rope) (length to.rope) (hiding-length cut sound part held ∙ cut-longer r s run at v behind before)) (kept-raised 1 (length r.rope));
      err = where-err (λ (xs : List Item). ◌≡◌ {A = RunsView} (with_rope xs) r) res r.rope now err refl;
    }

-- by at most one run more is by at most two
pub hides-makes : {T E : Type 0} (res : Result T E) (old cut new : RunsView) (x : Identifier) (n : ℕ) → cells_in cut ≡ cells_in old
    → IsRaisedBy 1 (length old.rope) (length cut.rope)
    → HidesPart res cut new x n → MakesCells res old new (cells_hiding x n (cells_in old))
hides-makes res old cut new x n cells more h = record {
  ok = on-ok res (cells_in new ≡ cells_hiding x n (cells_in cut)) (cells_in new ≡ cells_hiding x n (cells_in old)) (λ q. q ∙ ap (cells_hiding x n) cells) h.ok;
  err = where-err (λ (z : RunsView). cells_in z ≡ cells_in old) res cut new h.err cells;
  raised = any-ok res (IsRaisedBy 2 (length old.rope) (length new.rope)) (raised-twice 1 1 (length old.rope) (length cut.rope) (length new.rope) more h.raised);
  refused = where-err (λ (z : RunsView). IsRaisedBy 1 (length old.rope) (length z.rope)) res cut new h.err more;
}
