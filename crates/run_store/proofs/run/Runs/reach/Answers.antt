use Rattle.std.proofs.Common.{List, subst}
use Rattle.std.specs.Prelude.{IfNone}
use Rattle.std.specs.List.{Contains}
use Rattle.run_store.specs.Cells.{cell_ids}
use Rattle.run_store.specs.Runs.{RunsView, cells_in}
use Rattle.run_store.proofs.RunsLemmas.{Item}
use Rattle.run_store.proofs.run.Runs.reach.Goals as goal

pub returns-in-None-clause-none : goal.returns-in-None-clause-none
returns-in-None-clause-none c =
    let i = c.self.inside in
    subst (λ (z : RunsView). IfNone c.find.result (Contains (cell_ids (cells_in z)) c.args.id → ⊥)) c.self.view_is
    (subst (λ (xs : List Item). IfNone c.find.result (Contains (cell_ids (cells_in (record { rope = xs; letters = i.letters; count = i.count }))) c.args.id → ⊥))
    c.keep_at_hand.ensures c.find.ensures.none)
