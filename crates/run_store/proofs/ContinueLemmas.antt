-- A cell that continues a run.
use Rattle.std.proofs.Common.{◌≡◌, ℕ, suc, ◌+◌, ◌<◌, Bool, true, false, ap, arith, inl, inr, refl, subst, sym, ◌∙◌}
use Rattle.std.specs.Prelude.{Some, if◌then◌else◌}
use Rattle.std.proofs.lemmas.Bool.{and_parts, cases_lt, not-true}
use Rattle.fugue_ids.proofs.IdentifierLemmas.{id_eq-true, origin_eq-refl, origin_eq-true}
use Rattle.fugue_ids.specs.Runs.{id_after, next_id}
use Rattle.node_rope.specs.Items.{value_under}
use Rattle.std.specs.List.{Contains}
use Rattle.run_store.specs.Cells.{cell_of_origin, cell_ids}
use Rattle.run_store.specs.Growth.{MayComeTo}
use Rattle.run_store.specs.Heads.{head_after, cell_with_letter}
use Rattle.run_store.specs.NewCells.{cell_depth, forest_beside, has_right, is_continued, shares_right}
use Rattle.run_store.specs.Runs.{AreRuns, RunsView, cells_in, first_of}
use Rattle.run_store.specs.declared.cell.Head.{Head}
use Rattle.run_store.specs.declared.run.Run.{Run}
use Rattle.run_store.proofs.FindLemmas.{cell-found, spot-held}
use Rattle.run_store.proofs.InsertLemmas.{fresh-first}
use Rattle.run_store.proofs.HeadLemmas.{behind-depth, behind-hidden, behind-id, behind-right}
use Rattle.run_store.proofs.RunsLemmas.{cell_there}

-- what the test says
pub record IsNext (last h : Head) : Type 0 where
  pub left : h.left ≡ Some last.id
  pub id : h.id ≡ id_after last.id 1
  pub right : h.right ≡ last.right
  pub shown : last.hidden ≡ false

pub continued-is : (last h : Head) (ch : ℕ) → is_continued (Some (cell_with_letter last ch)) h.id h.left h.right ≡ true → IsNext last h
continued-is last h ch t =
    let a = and_parts _ _ t in
    let b = and_parts _ _ a.1 in
    let d = and_parts _ _ b.1 in
    record {
      left = origin_eq-true h.left (Some last.id) a.0;
      id = id_eq-true h.id (next_id last.id) b.0;
      right = origin_eq-true h.right last.right d.0;
      shown = not-true last.hidden d.1;
    }

-- the same of an answer
pub next-by : (b : Bool) (last k h : Head) → b ≡ is_continued (Some (cell_with_letter last 0)) h.id h.left h.right → b ≡ true → last ≡ k → IsNext k h
next-by b last k h e t same = subst (λ (j : Head). IsNext j h) same (continued-is last h 0 (sym e ∙ t))

module _ (r : RunsView) (s : AreRuns r) (run : Run) (o : ℕ) (v : value_under run.id r.rope ≡ Some run) (l : o < run.len) (h : Head) (count : ℕ)
    (new : MayComeTo (cells_in r) h count)
    (n : IsNext (head_after o (first_of run)) h) where
  abbrev last : Head
  last = head_after o (first_of run)

  id-is : h.id ≡ id_after run.id (suc o)
  id-is =
      let e : (run.id.counter + o) + 1 ≡ run.id.counter + suc o = omega arith in
      n.id ∙ ap (λ x. id_after x 1) (behind-id o (first_of run)) ∙ (λ i. record { replica = run.id.replica; counter = e i })

  -- it stands after the last cell of the run
  pub next-last : suc o ≡ run.len
  next-last = elim (cases_lt (suc o) run.len) [
    | inl more ↦ absurd (fresh-first (cells_in r) h count new (subst (Contains (cell_ids (cells_in r))) (sym id-is)
        (spot-held r s (id_after run.id (suc o)) run (suc o) (record { held = v; inside = more; is = refl }))))
    | inr none ↦ omega (arith, l, none)
  ]

  left-cell : cell_of_origin (cells_in r) h.left ≡ Some (cell_there r.letters run o)
  left-cell = ap (cell_of_origin (cells_in r)) n.left ∙ cell-found r s last.id run o (record { held = v; inside = l; is = refl })

  depth-is : h.key.depth ≡ run.key.depth + suc o
  depth-is = omega (arith, ap (λ k. k.depth) new.head.key, ap cell_depth left-cell, behind-depth o (first_of run))

  shares : shares_right (cells_in r) h.left h.right ≡ true
  shares = (λ i. has_right (left-cell i) (n.right i)) ∙ origin_eq-refl last.right

  forest-is : h.key.forest ≡ 0
  forest-is = ap (λ k. k.forest) new.head.key ∙ ap (λ b. if b then 0 else forest_beside (cells_in r) h.left h.right) shares

  -- and is the next one
  pub next-is : h ≡ head_after run.len (first_of run)
  next-is =
      (λ i. record {
        id = id-is i;
        left = (n.left ∙ ap Some (behind-id o (first_of run))) i;
        right = (n.right ∙ behind-right o (first_of run)) i;
        hidden = (new.head.shown ∙ sym n.shown ∙ behind-hidden o (first_of run)) i;
        key = record { depth = depth-is i; forest = forest-is i };
      })
      ∙ ap (λ k. head_after k (first_of run)) next-last
