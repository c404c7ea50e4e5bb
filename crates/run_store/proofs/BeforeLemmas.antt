-- A gap before a cell is one after the cell before it.
use Rattle.std.proofs.Common.{◌≡◌, ◌≢◌, ◌⊎◌, suc, true, List, [], ◌∷◌, ◌++◌, ap, append_assoc, arith, inl, inr, length, length-append, refl, subst, sym, ◌∙◌}
use Rattle.std.specs.Prelude.{None, Some, is_some, slice_get}
use Rattle.std.specs.List.{AllPairs, Contains}
use Rattle.fugue_ids.specs.Identifiers.{Identifier}
use Rattle.fugue_ids.specs.Keys.{first_id, front_of, last_id}
use Rattle.fugue_ids.specs.Listed.{index_of}
use Rattle.fugue_ids.proofs.IdentifierLemmas.{not_some}
use Rattle.fugue_ids.proofs.ListLemmas.{contains_cases, contains_middle, contains_none}
use Rattle.node_rope.specs.Items.{value_under}
use Rattle.std.proofs.lemmas.List.{map-append}
use Rattle.std.proofs.lemmas.Option.{none-some}
use Rattle.run_store.specs.Cells.{cell_of, cell_ids, keyed_cells}
use Rattle.run_store.specs.NewCells.{cell_before}
use Rattle.run_store.specs.Runs.{AreRuns, RunsView, cells_in}
use Rattle.run_store.specs.declared.cell.Cell.{Cell}
use Rattle.run_store.proofs.CellLemmas.{cell-at, front-at, index-at, others-front}
use Rattle.run_store.proofs.PlaceLemmas.{first-cells, key-there, last-keyed, value-there}

-- the cells around a held one
pub record IsAround (cs : List Cell) (x : Identifier) : Type 0 where
  pub front : List Cell
  pub cell : Cell
  pub back : List Cell
  pub is : cs ≡ front ++ cell ∷ back
  pub named : cell.id ≡ x

pub around : (cs : List Cell) (x : Identifier) → Contains (cell_ids cs) x → IsAround cs x
around [] x c = absurd (contains_none x c)
around (d ∷ cs) x c = elim (contains_cases d.id (cell_ids cs) x c) [
  | inl e ↦ record { front = []; cell = d; back = cs; is = refl; named = e }
  | inr m ↦ let p = around cs x m in record { front = d ∷ p.front; cell = p.cell; back = p.back; is = ap (λ zs. d ∷ zs) p.is; named = p.named }
]

-- a list has a last member, or none
last-member : (cs : List Cell) → (cs ≡ []) ⊎ ((front : List Cell) × (d : Cell) × (cs ≡ front ++ d ∷ []))
last-member [] = inl refl
last-member (c ∷ cs) = elim (last-member cs) [
  | inl e ↦ inr ([], c, ap (λ zs. c ∷ zs) e)
  | inr p ↦ inr (c ∷ p.0, p.1, ap (λ zs. c ∷ zs) p.2)
]

get-at : (front : List Cell) (d : Cell) (back : List Cell) → slice_get (front ++ d ∷ back) (length front) ≡ Some d
get-at [] d back = refl
get-at (c ∷ front) d back = get-at front d back

-- what stands directly before a held cell
pub record IsAfter (cs : List Cell) (x y : Identifier) : Type 0 where
  pub held : Contains (cell_ids cs) y
  pub index : index_of (cell_ids cs) x ≡ suc (index_of (cell_ids cs) y)
  pub cell : cell_before cs (index_of (cell_ids cs) x) ≡ cell_of cs y

module _ (cs : List Cell) (d : AllPairs (λ x y. x ≢ y) (cell_ids cs)) (x : Identifier) (c : Contains (cell_ids cs) x) where
  front-other : (p : IsAround cs x) → front_of (Some x) (keyed_cells cs) ≡ keyed_cells p.front
  front-other p =
      let e = subst (λ zs. AllPairs (λ a b. a ≢ b) (cell_ids zs)) p.is d in
      ap (λ zs. front_of (Some x) (keyed_cells zs)) p.is
      ∙ ap (λ y. front_of (Some y) (keyed_cells (p.front ++ p.cell ∷ p.back))) (sym p.named)
      ∙ front-at p.cell.id p.front p.cell p.back (others-front p.front p.cell p.back e) refl

  index-other : (p : IsAround cs x) → index_of (cell_ids cs) x ≡ length p.front
  index-other p =
      let e = subst (λ zs. AllPairs (λ a b. a ≢ b) (cell_ids zs)) p.is d in
      (λ i. index_of (cell_ids (p.is i)) (sym p.named i)) ∙ index-at p.cell.id p.front p.cell p.back (others-front p.front p.cell p.back e) refl

  pub is-behind : (y : Identifier) → Some y ≡ last_id (front_of (Some x) (keyed_cells cs)) → IsAfter cs x y
  is-behind y e =
      let p = around cs x c in
      elim (last-member p.front) [
        | inl none ↦ absurd (not_some y (e ∙ ap last_id (front-other p) ∙ ap (λ zs. last_id (keyed_cells zs)) none))
        | inr q ↦
            let f : Some y ≡ Some q.1.id = e ∙ ap last_id (front-other p) ∙ ap (λ zs. last_id (keyed_cells zs)) q.2 ∙ last-keyed q.0 q.1 in
            let same : y ≡ q.1.id = cc in
            let back = p.cell ∷ p.back in
            let is : cs ≡ q.0 ++ q.1 ∷ back = p.is ∙ ap (λ zs. zs ++ back) q.2 ∙ append_assoc q.0 (q.1 ∷ []) back in
            let apart = subst (λ zs. AllPairs (λ a b. a ≢ b) (cell_ids zs)) is d in
            let others = others-front q.0 q.1 back apart in
            let k : index_of (cell_ids cs) y ≡ length q.0 = (λ i. index_of (cell_ids (is i)) (same i)) ∙ index-at q.1.id q.0 q.1 back others refl in
            let n : index_of (cell_ids cs) x ≡ suc (length q.0) = omega (arith, index-other p, ap length q.2, length-append q.0 (q.1 ∷ [])) in
            record {
              held = subst (λ zs. Contains zs y) (sym (ap cell_ids is ∙ map-append (λ (z : Cell). z.id) q.0 (q.1 ∷ back)))
                  (subst (Contains (cell_ids q.0 ++ q.1.id ∷ cell_ids back)) (sym same) (contains_middle (cell_ids q.0) q.1.id (cell_ids back)));
              index = omega (arith, k, n);
              cell = ap (cell_before cs) n ∙ ap (λ zs. slice_get zs (length q.0)) is ∙ get-at q.0 q.1 back
                  ∙ sym ((λ i. cell_of (is i) (same i)) ∙ cell-at q.1.id q.0 q.1 back others refl);
            }
      ]

  -- nothing stands before the first one
  pub is-first : None ≡ last_id (front_of (Some x) (keyed_cells cs)) → (index_of (cell_ids cs) x ≡ 0) × (first_id (keyed_cells cs) ≡ Some x)
  is-first e =
      let p = around cs x c in
      elim (last-member p.front) [
        | inl none ↦ (
          index-other p ∙ ap (λ (zs : List Cell). length zs) none,
          ap (λ zs. first_id (keyed_cells zs)) (p.is ∙ ap (λ zs. zs ++ p.cell ∷ p.back) none)
              ∙ ap Some p.named,
        )
        | inr q ↦ absurd (none-some q.1.id (e ∙ ap last_id (front-other p) ∙ ap (λ zs. last_id (keyed_cells zs)) q.2 ∙ last-keyed q.0 q.1))
      ]

-- the first cell is the key of a run
pub first-key : (r : RunsView) → AreRuns r → (x : Identifier) → first_id (keyed_cells (cells_in r)) ≡ Some x → is_some (value_under x r.rope) ≡ true
first-key r s x e =
    let p = key-there r.rope 0 x (sym (first-cells r.letters r.count r.rope s.each) ∙ e) in
    ap is_some (value-there r s 0 x p.0 p.1)
