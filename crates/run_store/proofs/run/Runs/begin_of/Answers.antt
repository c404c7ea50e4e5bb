use Rattle.std.proofs.Common.{ap, arith, inl, refl, subst, sym, ◌+◌, ◌∙◌}
use Rattle.std.specs.Prelude.{Some}
use Rattle.run_store.specs.Cells.{cell_ids}
use Rattle.run_store.specs.Runs.{cells_in}
use Rattle.run_store.specs.Standings.{BeginsAfter, begin_index}
use Rattle.run_store.proofs.FoundLemmas.{found-begin, found-small}
use Rattle.run_store.proofs.run.Runs.begin_of.Goals as goal

pub overflow_add-result : goal.overflow_add-result
overflow_add-result c = omega (arith, found-small c.args.self.now c.sound.ensures c.found-cell.result c.found-cell.ensures.found)

pub returns-in-Some : goal.returns-in-Some
returns-in-Some c =
    let f = c.found-cell.result in
    subst (λ o. BeginsAfter c.args.self.now o (record { place = f.at.place; offset = f.at.offset + 1 })) (ap Some c.found-cell.ensures.same ∙ sym c.in-Some.is)
    (found-begin c.args.self.now c.sound.ensures f c.found-cell.ensures.found)

pub returns-in-None : goal.returns-in-None
returns-in-None c = record { stands = inl (refl, refl); at = ap (begin_index (cell_ids (cells_in c.args.self.now))) (sym c.in-None.is) }
