use Rattle.std.proofs.Common.{ap, arith, drop, length, sym, ◌∙◌, ◌≤◌}
use Rattle.std.specs.Prelude.{Some, slice_get}
use Rattle.std.proofs.lemmas.List.{drop-drop, drop_all, length-map}
use Rattle.run_store.specs.Cells.{cell_ids, cells_shown}
use Rattle.run_store.specs.declared.cell.Cell.{Cell}
use Rattle.run_store.specs.declared.cell.Head.{Head}
use Rattle.run_store.proofs.PlaceLemmas.{drop-first}
use Rattle.run_store.proofs.VisibleLemmas.{hand-behind, hand-first}
use Rattle.run_store.proofs.shown.Shown.step.Goals as goal

pub overflow_add-self : goal.overflow_add-self
overflow_add-self c = omega (arith, c.if-self-visible_count.false, c.visible_count.type_inv)

pub returns-then-self-visible_count : goal.returns-then-self-visible_count
returns-then-self-visible_count c =
    let xs = cell_ids (cells_shown c.self.inside.store.now.cells) in
    let l : length xs ≤ c.self.inside.passed =
    omega (arith, c.if-self-visible_count.true, c.visible_count.ensures, length-map (cells_shown c.self.inside.store.now.cells) (λ (z : Cell). z.id)) in
    let none = drop_all c.self.inside.passed xs l in
    record {
      first = sym (ap (λ ys. slice_get ys 0) (sym c.self.view_is ∙ none));
      rest = sym c.self.view_is ∙ none ∙ sym (ap (drop 1) (sym c.self.view_is ∙ none));
    }

pub invariant_of-self : goal.invariant_of-self
invariant_of-self c =
    let xs = cell_ids (cells_shown c.self.inside.store.now.cells) in
    let spot = c.in_ok-spot.spot in
    hand-behind xs c.self.inside.passed spot.run spot.offset c.in_ok-spot.ensures.some c.behind-self-inside.result c.behind-self-inside.ensures

pub returns : goal.returns
returns c =
    let xs = cell_ids (cells_shown c.self.inside.store.now.cells) in
    let spot = c.in_ok-spot.spot in
    record {
      first =
          ap (λ (h : Head). Some h.id) c.cell_at.ensures
          ∙ sym (hand-first xs c.self.inside.passed spot.run spot.offset c.in_ok-spot.ensures.some)
          ∙ sym (drop-first xs c.self.inside.passed) ∙ ap (λ ys. slice_get ys 0) c.self.view_is;
      rest = sym (drop-drop 1 c.self.inside.passed xs) ∙ ap (drop 1) c.self.view_is;
    }
