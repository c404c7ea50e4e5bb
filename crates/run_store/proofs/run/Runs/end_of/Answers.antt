use Rattle.std.proofs.Common.{ap, inl, refl, subst, sym, ◌∙◌}
use Rattle.std.specs.Prelude.{Some}
use Rattle.run_store.specs.Cells.{cell_ids}
use Rattle.run_store.specs.Runs.{cells_in}
use Rattle.run_store.specs.Standings.{EndsBefore, end_index, index_at}
use Rattle.run_store.proofs.FoundLemmas.{found-end}
use Rattle.run_store.proofs.StandingLemmas.{end-index}
use Rattle.run_store.proofs.run.Runs.end_of.Goals as goal

pub returns-in-Some : goal.returns-in-Some
returns-in-Some c =
    let f = c.found.result in
    subst (λ o. EndsBefore c.args.self.now o f.at) (ap Some c.found.ensures.same ∙ sym c.in-Some.is) (found-end c.args.self.now c.sound.ensures f c.found.ensures.found)

pub returns-in-None : goal.returns-in-None
returns-in-None c =
    let r = c.args.self.now in
    record {
      stands = inl (c.run_count.ensures, refl);
      at = ap (λ n. index_at r n 0) c.run_count.ensures ∙ end-index r c.sound.ensures ∙ ap (end_index (cell_ids (cells_in r))) (sym c.in-None.is);
    }
