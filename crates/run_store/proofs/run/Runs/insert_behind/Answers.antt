use Rattle.std.proofs.Common.{length, subst, sym, true, ◌≡◌}
use Rattle.std.specs.Prelude.{OnOk, Option}
use Rattle.fugue_ids.specs.Identifiers.{Identifier}
use Rattle.run_store.specs.Changes.{MakesCells}
use Rattle.run_store.specs.Growth.{cells_inserted_after}
use Rattle.run_store.specs.Heads.{typed_cells}
use Rattle.run_store.specs.NewCells.{is_continued}
use Rattle.run_store.specs.Runs.{cells_in}
use Rattle.run_store.specs.declared.cell.Cell.{Cell}
use Rattle.run_store.proofs.FindLemmas.{cell-found}
use Rattle.run_store.proofs.run.Runs.insert_behind.Goals as goal

pub returns-clause-makes : goal.returns-clause-makes
returns-clause-makes c =
    subst (λ (x : Identifier). MakesCells c.insert_at.result c.args.self.now c.insert_at.new.self
    (cells_inserted_after x (typed_cells c.args.head.now c.args.text.now) (cells_in c.args.self.now)))
    (sym c.in-Some.ensures.some.is) c.insert_at.ensures.makes

pub returns-clause-continued : goal.returns-clause-continued
returns-clause-continued c =
    let h = c.args.head.now in
    let r = c.args.self.now in
    subst (λ (o : Option Cell). OnOk c.insert_at.result (is_continued o h.id h.left h.right ≡ true → length c.insert_at.new.self.rope ≡ length r.rope))
    (sym (cell-found r c.sound.ensures c.args.at c.in-Some.spot.run c.in-Some.spot.offset c.in-Some.ensures.some)) c.insert_at.ensures.continued
