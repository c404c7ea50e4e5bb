-- Cells of identifiers that follow one another are hidden run by run.
use Rattle.std.proofs.Common.{◌≡◌, ◌+◌, ◌-◌, ◌<◌, ◌≤◌, ℕ, true, ap, arith, refl, subst, sym, ◌∙◌}
use Rattle.std.specs.Prelude.{Contains, Err, Ok}
use Rattle.fugue_ids.specs.Identifiers.{Identifier}
use Rattle.fugue_ids.specs.Runs.{id_after}
use Rattle.run_store.specs.Cells.{cell_ids, cells_hiding, is_hidden_cell}
use Rattle.run_store.specs.Changes.{HidesSome, IsHiddenTo}
use Rattle.run_store.specs.Hiding.{HaveCells, AreHidden}
use Rattle.run_store.specs.Runs.{RunsView, cells_in}
use Rattle.run_store.proofs.HideLemmas.{hiding-ids, hiding-more}

module _ (old : RunsView) (x : Identifier) (count : ℕ) where
  -- the first are hidden; where all were, nothing has changed
  pub record IsHidingRun (now : RunsView) (done : ℕ) : Type 0 where
    pub within : done ≤ count
    pub hidden : IsHiddenTo old x done 0 now
    pub again : AreHidden (cells_in old) x count → now ≡ old

  pub hiding-none : IsHidingRun old 0
  hiding-none = record { within = omega arith; hidden = record { cells = refl; raised = record { kept = omega arith; bound = omega arith } }; again = λ a. refl }

  pub hiding-all : (now : RunsView) (done : ℕ) → IsHidingRun now done → count ≤ done → IsHiddenTo old x count 0 now
  hiding-all now done w all = let e : done ≡ count = omega (arith, w.within, all) in subst (λ n. IsHiddenTo old x n 0 now) e w.hidden

  module _ (now : RunsView) (done : ℕ) (w : IsHidingRun now done) (less : done < count) where
    pub next-held : HaveCells (cells_in old) x count → Contains (cell_ids (cells_in now)) (id_after x done)
    next-held held = subst (λ ids. Contains ids (id_after x done)) (sym (ap cell_ids w.hidden.cells ∙ hiding-ids done x (cells_in old))) (held done less)

    module _ (next : RunsView) (again : is_hidden_cell (cells_in now) (id_after x done) ≡ true → next ≡ now) where
      pub stays-hidden : AreHidden (cells_in old) x count → next ≡ old
      stays-hidden a =
          let same = w.again a in
          again (subst (λ (z : RunsView). is_hidden_cell (cells_in z) (id_after x done) ≡ true) (sym same) (a done less)) ∙ same

      pub hiding-next : {E : Type 0} (n : ℕ) → HidesSome {E = E} (Ok n) now next (id_after x done) (count - done) → IsHidingRun next (done + n)
      hiding-next n h =
          record {
            within = omega (arith, w.within, h.bound);
            hidden = record {
              cells = h.ok ∙ ap (cells_hiding (id_after x done) n) w.hidden.cells ∙ hiding-more done n x (cells_in old);
              raised = record { kept = omega (arith, w.hidden.raised.kept, h.raised.kept); bound = omega (arith, w.hidden.raised.bound, h.raised.bound, h.some) };
            };
            again = stays-hidden;
          }

    pub hiding-stopped : {E : Type 0} (e : E) (next : RunsView) → HidesSome {E = E} (Err e) now next (id_after x done) (count - done) → IsHiddenTo old x done 1 next
    hiding-stopped e next h =
        record {
          cells = h.err ∙ w.hidden.cells;
          raised = record { kept = omega (arith, w.hidden.raised.kept, h.refused.kept); bound = omega (arith, w.hidden.raised.bound, h.refused.bound) };
        }
