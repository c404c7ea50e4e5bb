use Rattle.std.proofs.Common.{subst, sym}
use Rattle.std.specs.Prelude.{AllPairs, ◌≢◌}
use Rattle.std.specs.List.{All, Contains}
use Rattle.fugue_ids.specs.Keys.{HasKey, IsFit}
use Rattle.run_store.specs.Cells.{cell_of, cell_ids, keyed_cells}
use Rattle.run_store.specs.Runs.{cells_in}
use Rattle.run_store.specs.Stored.{Stored}
use Rattle.run_store.specs.declared.cell.Head.{Head}
use Rattle.run_store.proofs.CellLemmas.{from-head, from-no-head}
use Rattle.run_store.proofs.KeyLemmas.{all-fit, has-key, keyed-ids, missing}
use Rattle.run_store.proofs.store.RunStoreOrderOf.key.Goals as goal

pub returns-in-Some-clause-key : goal.returns-in-Some-clause-key
returns-in-Some-clause-key c =
    let cs = cells_in c.self.inside.runs in
    let p = from-head (cell_of cs c.args.id) c.in-Some.head c.in-Some.ensures.is in
    subst (λ (s : Stored). HasKey (keyed_cells s.cells) c.args.id c.in-Some.head.key) c.self.view_is
    (subst (λ (h : Head). HasKey (keyed_cells cs) c.args.id h.key) p.2 (has-key c.args.id cs p.0 p.1))

pub returns-in-Some-clause-fit : goal.returns-in-Some-clause-fit
returns-in-Some-clause-fit c = subst (λ (s : Stored). All IsFit (keyed_cells s.cells)) c.self.view_is (all-fit c.self.inside.runs c.sound.ensures)

pub returns-in-None-clause-key : goal.returns-in-None-clause-key
returns-in-None-clause-key c =
    let cs = cells_in c.self.inside.runs in
    let held = subst (λ is. Contains is c.args.id) (keyed-ids c.args.self.now.cells) c.requires.held in
    absurd (missing c.args.id cs (from-no-head (cell_of cs c.args.id) c.in-None.ensures.is)
    (subst (λ (s : Stored). Contains (cell_ids s.cells) c.args.id) (sym c.self.view_is) held))

pub returns-in-None-clause-fit : goal.returns-in-None-clause-fit
returns-in-None-clause-fit c = subst (λ (s : Stored). All IsFit (keyed_cells s.cells)) c.self.view_is (all-fit c.self.inside.runs c.sound.ensures)

pub returns-in-Some-clause-distinct : goal.returns-in-Some-clause-distinct
returns-in-Some-clause-distinct c =
    subst (AllPairs (λ x y. x ≢ y)) (sym (keyed-ids c.args.self.now.cells))
    (subst (λ (s : Stored). AllPairs (λ x y. x ≢ y) (cell_ids s.cells)) c.self.view_is c.sound.ensures.distinct)

pub returns-in-None-clause-distinct : goal.returns-in-None-clause-distinct
returns-in-None-clause-distinct c =
    subst (AllPairs (λ x y. x ≢ y)) (sym (keyed-ids c.args.self.now.cells))
    (subst (λ (s : Stored). AllPairs (λ x y. x ≢ y) (cell_ids s.cells)) c.self.view_is c.sound.ensures.distinct)
