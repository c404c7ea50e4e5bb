-- What finding an identifier answers.
use Rattle.std.proofs.Common.{◌≡◌, ℕ, zero, suc, ◌+◌, ◌-◌, ◌<◌, ◌≤◌, ◌^◌, ◌∷◌, ◌++◌, ap, arith, length, refl, subst, sym, ◌∙◌}
use Rattle.std.specs.Prelude.{None, Some}
use Rattle.std.specs.List.{Contains}
use Rattle.fugue_ids.specs.Identifiers.{Identifier}
use Rattle.fugue_ids.proofs.ListLemmas.{contains_middle}
use Rattle.fugue_ids.proofs.OrderLemmas.{at_most_from_le}
use Rattle.fugue_ids.specs.Runs.{id_after}
use Rattle.node_rope.specs.Items.{value_under}
use Rattle.node_rope.specs.Places.{IsFloor}
use Rattle.std.proofs.lemmas.List.{map-append}
use Rattle.std.proofs.lemmas.Option.{none-some}
use Rattle.run_store.specs.Cells.{cell_of, cell_ids}
use Rattle.run_store.specs.Heads.{head_after}
use Rattle.run_store.specs.Runs.{AreRuns, IsCellSpot, RunsView, cells_in, first_of}
use Rattle.run_store.specs.declared.cell.Cell.{Cell}
use Rattle.run_store.specs.declared.run.Run.{Run}
use Rattle.run_store.proofs.CellLemmas.{cell-at, cell-none, others-absent}
use Rattle.run_store.proofs.FloorLemmas.{contains-run, floor-is}
use Rattle.run_store.proofs.HeadLemmas.{behind-depth, behind-id}
use Rattle.run_store.proofs.CutLemmas.{cell-fits}
use Rattle.run_store.proofs.RunsLemmas.{cell_there, cells_before, cells_after, kept-run, located}

module _ (r : RunsView) (s : AreRuns r) (x : Identifier) where
  pub no-floor : IsFloor r.rope x None → Contains (cell_ids (cells_in r)) x → ⊥
  no-floor f c = let p = contains-run r.letters r.count r.rope x s.each c in none-some p.run.id (floor-is r s x None f p).0

  -- a cell whose identifier is one of those of a run
  pub spot-in : (k : Identifier) (run : Run) (o : ℕ) → value_under k r.rope ≡ Some run → k.replica ≡ x.replica → x.counter ≡ k.counter + o → o < run.len
      → IsCellSpot r.rope x run o
  spot-in k run o v e d l =
      let n : k ≡ run.id = (kept-run r s k run v).named in
      record {
        held = ap (λ i. value_under i r.rope) (sym n) ∙ v;
        inside = l;
        is = (λ i. record { replica = sym e i; counter = d i }) ∙ ap (λ y. id_after y o) n ∙ sym (behind-id o (first_of run));
      }

  module _ (k : Identifier) (f : IsFloor r.rope x (Some k)) where
    pub not-there : (run : Run) → value_under k r.rope ≡ Some run → (k.replica ≡ x.replica → run.len ≤ x.counter - k.counter) → Contains (cell_ids (cells_in r)) x → ⊥
    not-there run v far c =
        let p = contains-run r.letters r.count r.rope x s.each c in
        let q = floor-is r s x (Some k) f p in
        let e : k ≡ p.run.id = cc in
        let w : Some run ≡ Some p.run = sym v ∙ ap (λ i. value_under i r.rope) e ∙ q.1 in
        let same : run ≡ p.run = cc in
        let at : x ≡ id_after p.run.id p.offset = p.named ∙ behind-id p.offset (first_of p.run) in
        let replicas : k.replica ≡ x.replica = ap (λ (i : Identifier). i.replica) e ∙ sym (ap (λ (i : Identifier). i.replica) at) in
        omega (arith, far replicas, p.inside, ap (λ (i : Identifier). i.counter) at, ap (λ (i : Identifier). i.counter) e, ap (λ (z : Run). z.len) same)

    pub counters-up : k.replica ≡ x.replica → k.counter ≤ x.counter
    counters-up e = let up = at_most_from_le k x f.1 in grind (arith, up, e)

  -- the cell at a spot
  pub cell-found : (run : Run) (o : ℕ) → IsCellSpot r.rope x run o → cell_of (cells_in r) x ≡ Some (cell_there r.letters run o)
  cell-found run o spot =
      let l = located r s run o spot.held spot.inside in
      let e = sym spot.is in
      ap (λ cs. cell_of cs x) l.place.cells_is
      ∙ ap (cell_of (cells_before r.letters l.front run o ++ cell_there r.letters run o ∷ cells_after r.letters run (suc o) l.back)) (spot.is)
      ∙ cell-at (head_after o (first_of run)).id (cells_before r.letters l.front run o) (cell_there r.letters run o)
      (cells_after r.letters run (suc o) l.back) l.place.before refl

  pub cell-missing : (Contains (cell_ids (cells_in r)) x → ⊥) → cell_of (cells_in r) x ≡ None
  cell-missing n = cell-none x (cells_in r) (others-absent x (cells_in r) n)

  pub spot-held : (run : Run) (o : ℕ) → IsCellSpot r.rope x run o → Contains (cell_ids (cells_in r)) x
  spot-held run o spot =
      let l = located r s run o spot.held spot.inside in
      let as_ids = map-append (λ (z : Cell). z.id) (cells_before r.letters l.front run o) (cell_there r.letters run o ∷ cells_after r.letters run (suc o) l.back) in
      subst (Contains (cell_ids (cells_in r))) (sym spot.is)
      (subst (λ is. Contains is (head_after o (first_of run)).id) (sym (ap cell_ids l.place.cells_is ∙ as_ids))
      (contains_middle (cell_ids (cells_before r.letters l.front run o)) (head_after o (first_of run)).id (cell_ids (cells_after r.letters run (suc o) l.back))))

  -- the numbers of the cell at a spot
  pub spot-depth : (run : Run) (o : ℕ) → IsCellSpot r.rope x run o → (head_after o (first_of run)).key.depth ≤ length (cells_in r)
  spot-depth run o spot = let k = kept-run r s run.id run spot.held in omega (arith, behind-depth o (first_of run), k.depths, spot.inside, s.counted)

  pub spot-forest : (run : Run) (o : ℕ) → IsCellSpot r.rope x run o → (head_after o (first_of run)).key.forest ≤ length (cells_in r)
  spot-forest run zero spot = let k = kept-run r s run.id run spot.held in omega (arith, k.forests, s.counted)
  spot-forest run (suc o) spot = omega arith

  pub spot-fits : (run : Run) (o : ℕ) → IsCellSpot r.rope x run o → (run.id.counter + o < 2 ^ 32) × (run.key.depth + o < 2 ^ 32) × (run.start + o < 2 ^ 32)
  spot-fits run o spot = cell-fits r s run.id run o spot.held spot.inside
