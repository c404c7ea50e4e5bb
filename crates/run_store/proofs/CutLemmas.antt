-- A run that is cut in two.
use Rattle.std.proofs.Common.{◌≡◌, ◌≢◌, ℕ, ◌+◌, ◌-◌, ◌<◌, ◌^◌, false, List, [], ◌∷◌, ◌++◌, ap, append_assoc, arith, length, length-append, refl, subst, sym, take, drop, ◌∙◌}
use Rattle.std.specs.Prelude.{Bool, None, Some, Result, OnErr, OnOk, slice_index_or}
use Rattle.std.specs.List.{All, AllPairs}
use Rattle.std.proofs.lemmas.List.Elements.{All-cons, All-nil}
use Rattle.fugue_ids.specs.Identifiers.{Identifier, id_eq}
use Rattle.fugue_ids.specs.declared.limits.TheConstants.{MOST_OPERATIONS}
use Rattle.fugue_ids.proofs.IdentifierLemmas.{ne-id_eq}
use Rattle.node_rope.specs.Beside.{put_under}
use Rattle.node_rope.specs.Items.{value_under}
use Rattle.run_store.specs.Cells.{cell_ids}
use Rattle.run_store.specs.Heads.{head_after, typed_cells}
use Rattle.run_store.specs.Runs.{AreRuns, IsRun, RunsView, all_cells, cells_in, cells_of, first_of, rope_parted, parted_as, run_after, run_to}
use Rattle.run_store.specs.Stored.{IsRaisedBy}
use Rattle.run_store.specs.declared.run.Run.{Run}
use Rattle.run_store.proofs.EitherLemmas.{either, kept-raised, one-raised, where-ok}
use Rattle.run_store.proofs.HeadLemmas.{behind-depth, behind-forest, behind-id, behind-other, typed-append}
use Rattle.run_store.proofs.PartLemmas.{all-between, part-parts}
use Rattle.run_store.proofs.RopeLemmas.{after-at, found, keys-append, put-at, value-at, value-none}
use Rattle.run_store.proofs.RunsLemmas.{Item, cells-append, few-runs, kept-run, keys-apart, length-letters}

-- the numbers of a cell of a run fit
pub cell-fits : (r : RunsView) → AreRuns r → (k : Identifier) (run : Run) (o : ℕ) → value_under k r.rope ≡ Some run → o < run.len
    → (run.id.counter + o < 2 ^ 32) × (run.key.depth + o < 2 ^ 32) × (run.start + o < 2 ^ 32)
cell-fits r s k run o v l =
    let x = kept-run r s k run v in
    (omega (arith, x.counters, l), omega (arith, x.depths, l, s.few), omega (arith, x.ends, l, s.few))

-- what a cut leaves, by its answer: the same cells, and the two parts of the run where it was made
pub record IsCut {T E : Type 0} (res : Result T E) (run : Run) (at : ℕ) (old new : RunsView) : Type 0 where
  pub cells : cells_in new ≡ cells_in old
  pub front : OnOk res (value_under run.id new.rope ≡ Some (run_to at run))
  pub raised : IsRaisedBy 1 (length old.rope) (length new.rope)

-- the parts of a run
module _ (L : List (List ℕ)) (n : ℕ) (run : Run) (at : ℕ) (this : IsRun L n (run.id, run)) (behind : 0 < at) (before : at < run.len) where
  pub front-part : IsRun L n (run.id, run_to at run)
  front-part = record {
    named = refl;
    some = behind;
    within = omega (arith, this.within, before);
    counters = omega (arith, this.counters, before);
    ends = omega (arith, this.ends, before);
    deep = this.deep;
    depths = omega (arith, this.depths, before);
    forests = this.forests;
  }

  pub back-part : IsRun L n ((head_after at (first_of run)).id, run_after at run)
  back-part =
      let c : (head_after at (first_of run)).id.counter ≡ run.id.counter + at = ap (λ (x : Identifier). x.counter) (behind-id at (first_of run)) in
      let d = behind-depth at (first_of run) in
      let f = behind-forest at (first_of run) behind in
      record {
        named = refl;
        some = omega (arith, before);
        within = omega (arith, this.within, before);
        counters = omega (arith, this.counters, before, c);
        ends = omega (arith, this.ends, before);
        deep = omega (arith, d, behind);
        depths = omega (arith, this.depths, before, d);
        forests = omega (arith, f);
      }

module _ (r : RunsView) (s : AreRuns r) (run : Run) (at : ℕ) (v : value_under run.id r.rope ≡ Some run) (behind : 0 < at) (before : at < run.len) where
  abbrev pub rest_id : Identifier
  rest_id = (head_after at (first_of run)).id

  abbrev pub cut_rope : List Item
  cut_rope = rope_parted at run r.rope

  abbrev pub cut_runs : RunsView
  cut_runs = record { rope = rope_parted at run r.rope; letters = r.letters; count = r.count }

  this : IsRun r.letters r.count (run.id, run)
  this = kept-run r s run.id run v

  some : 0 < run.len
  some = omega (arith, behind, before)

  rest_other : id_eq rest_id run.id ≡ false
  rest_other = ne-id_eq rest_id run.id (behind-other at (first_of run) behind)

  run_other : id_eq run.id rest_id ≡ false
  run_other = ne-id_eq run.id rest_id (λ e. behind-other at (first_of run) behind (sym e))

  pub rest-fresh : value_under rest_id r.rope ≡ None
  rest-fresh =
      let p = found run.id run r.rope v in
      let a = keys-apart r s p.front run at p.back p.is before in
      ap (value_under rest_id) p.is ∙ value-none rest_id (p.front ++ (run.id, run) ∷ p.back) (keys-append rest_id p.front ((run.id, run) ∷ p.back) a.0 (run_other, a.1))

  -- the run's items, where it stands, and those of two runs in its place
  module _ (front back : List Item) (is : r.rope ≡ front ++ (run.id, run) ∷ back) where
    pair-is : (a b : Run) → id_eq b.id run.id ≡ false → parted_as run.id a b r.rope ≡ front ++ (run.id, a) ∷ (b.id, b) ∷ back
    pair-is a b other =
        let k = keys-apart r s front run 0 back is some in
        ap (parted_as run.id a b) is
        ∙ ap (put_under run.id a) (after-at run.id run (b.id, b) front back k.0 k.1)
        ∙ put-at run.id run a front ((b.id, b) ∷ back) k.0 (other, k.1)

    parted-is : rope_parted at run r.rope ≡ front ++ (run.id, run_to at run) ∷ (rest_id, run_after at run) ∷ back
    parted-is = pair-is (run_to at run) (run_after at run) rest_other

  front-run : IsRun r.letters r.count (run.id, run_to at run)
  front-run = front-part r.letters r.count run at this behind before

  back-run : IsRun r.letters r.count (rest_id, run_after at run)
  back-run = back-part r.letters r.count run at this behind before

  -- a run's cells are those of its parts
  same-cells : cells_of r.letters run ≡ cells_of r.letters (run_to at run) ++ cells_of r.letters (run_after at run)
  same-cells =
      let xs = slice_index_or r.letters run.stretch [] in
      let l : length (take at (drop run.start xs)) ≡ at = length-letters r.letters r.count (run.id, run_to at run) front-run in
      ap (typed_cells (first_of run)) (part-parts run.start at run.len xs (omega (arith, before)))
      ∙ typed-append (first_of run) (take at (drop run.start xs)) (take (run.len - at) (drop (run.start + at) xs))
      ∙ ap (λ n. typed_cells (first_of run) (take at (drop run.start xs)) ++ typed_cells (head_after n (first_of run)) (take (run.len - at) (drop (run.start + at) xs))) l

  pub cut-cells : all_cells r.letters cut_rope ≡ cells_in r
  cut-cells =
      let p = found run.id run r.rope v in
      let L = r.letters in
      let f = cells_of L (run_to at run) in
      let g = cells_of L (run_after at run) in
      ap (all_cells L) (parted-is p.front p.back p.is)
      ∙ cells-append L p.front ((run.id, run_to at run) ∷ (rest_id, run_after at run) ∷ p.back)
      ∙ ap (λ cs. all_cells L p.front ++ cs) (sym (append_assoc f g (all_cells L p.back)) ∙ ap (λ cs. cs ++ all_cells L p.back) (sym same-cells))
      ∙ sym (cells-append L p.front ((run.id, run) ∷ p.back))
      ∙ sym (ap (all_cells L) p.is)

  pub cut-sound : AreRuns cut_runs
  cut-sound =
      let p = found run.id run r.rope v in
      let P = IsRun r.letters r.count in
      let back_items = (rest_id, run_after at run) ∷ [] in
      record {
        each = subst (All P) (sym (parted-is p.front p.back p.is))
            (all-between P p.front (run.id, run) ((run.id, run_to at run) ∷ (rest_id, run_after at run) ∷ []) p.back (subst (All P) p.is s.each)
            (All-cons P (run.id, run_to at run) back_items front-run (All-cons P (rest_id, run_after at run) [] back-run (All-nil P))));
        distinct = subst (λ cs. AllPairs (λ x y. x ≢ y) (cell_ids cs)) (sym cut-cells) s.distinct;
        counted = s.counted ∙ ap length (sym cut-cells);
        few = s.few;
        letters = s.letters;
      }

  pub front-held : value_under run.id cut_rope ≡ Some (run_to at run)
  front-held =
      let p = found run.id run r.rope v in
      ap (value_under run.id) (parted-is p.front p.back p.is)
      ∙ value-at run.id (run_to at run) p.front ((rest_id, run_after at run) ∷ p.back) (keys-apart r s p.front run 0 p.back p.is some).0

  pub back-held : value_under rest_id cut_rope ≡ Some (run_after at run)
  back-held =
      let p = found run.id run r.rope v in
      let a = keys-apart r s p.front run at p.back p.is before in
      let new : Item = (run.id, run_to at run) in
      ap (value_under rest_id) (parted-is p.front p.back p.is ∙ sym (append_assoc p.front (new ∷ []) ((rest_id, run_after at run) ∷ p.back)))
      ∙ value-at rest_id (run_after at run) (p.front ++ new ∷ []) p.back (keys-append rest_id p.front (new ∷ []) a.0 (run_other, tt))

  pub cut-longer : length cut_rope ≡ length r.rope + 1
  cut-longer =
      let p = found run.id run r.rope v in
      omega (
        arith,
        ap length (parted-is p.front p.back p.is),
        ap length p.is,
        length-append p.front ((run.id, run) ∷ p.back),
        length-append p.front ((run.id, run_to at run) ∷ (rest_id, run_after at run) ∷ p.back),
      )

  -- whatever was answered
  pub cut-left : {T E : Type 0} (res : Result T E) (now : List Item) → OnOk res (now ≡ cut_rope) → OnErr res (now ≡ r.rope)
      → AreRuns (record { rope = now; letters = r.letters; count = r.count })
  cut-left res now ok err = either (λ (xs : List Item). AreRuns (record { rope = xs; letters = r.letters; count = r.count })) res cut_rope r.rope now ok err cut-sound s

  pub is-cut : {T E : Type 0} (res : Result T E) (now : RunsView) → OnOk res (now ≡ cut_runs) → OnErr res (now ≡ r) → IsCut res run at r now
  is-cut res now ok err = record {
    cells = either (λ (n : RunsView). cells_in n ≡ cells_in r) res cut_runs r now ok err cut-cells refl;
    front = where-ok (λ (n : RunsView). value_under run.id n.rope ≡ Some (run_to at run)) res cut_runs now ok front-held;
    raised = either (λ (n : RunsView). IsRaisedBy 1 (length r.rope) (length n.rope)) res cut_runs r now ok err
        (one-raised (length r.rope) (length cut_rope) cut-longer) (kept-raised 1 (length r.rope));
  }

  pub cut-room : length r.rope < MOST_OPERATIONS
  cut-room = omega (arith, cut-longer, few-runs cut_runs cut-sound, s.few)

  -- another mark for one of the parts
  module _ (m : Bool) where
    abbrev pub front_marked : Run
    front_marked = record (run_to at run) { hidden = m }

    abbrev pub rest_marked : Run
    rest_marked = record (run_after at run) { hidden = m }

    pub front-marked : parted_as run.id front_marked (run_after at run) r.rope ≡ put_under run.id front_marked cut_rope
    front-marked =
        let p = found run.id run r.rope v in
        let k = keys-apart r s p.front run 0 p.back p.is some in
        pair-is p.front p.back p.is front_marked (run_after at run) rest_other
        ∙ sym (ap (put_under run.id front_marked) (parted-is p.front p.back p.is)
        ∙ put-at run.id (run_to at run) front_marked p.front ((rest_id, run_after at run) ∷ p.back) k.0 (rest_other, k.1))

    pub rest-marked : parted_as run.id (run_to at run) rest_marked r.rope ≡ put_under rest_id rest_marked cut_rope
    rest-marked =
        let p = found run.id run r.rope v in
        let a = keys-apart r s p.front run at p.back p.is before in
        let new : Item = (run.id, run_to at run) in
        let old_rest : Item = (rest_id, run_after at run) in
        let new_rest : Item = (rest_id, rest_marked) in
        pair-is p.front p.back p.is (run_to at run) rest_marked rest_other
        ∙ sym (append_assoc p.front (new ∷ []) (new_rest ∷ p.back))
        ∙ sym (ap (put_under rest_id rest_marked) (parted-is p.front p.back p.is ∙ sym (append_assoc p.front (new ∷ []) (old_rest ∷ p.back)))
        ∙ put-at rest_id (run_after at run) rest_marked (p.front ++ new ∷ []) p.back (keys-append rest_id p.front (new ∷ []) a.0 (run_other, tt)) a.1)
