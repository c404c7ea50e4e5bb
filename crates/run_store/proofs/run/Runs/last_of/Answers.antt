use Rattle.std.proofs.Common.{ap, arith, suc, sym, take, ◌-◌, ◌∙◌, ◌≡◌}
use Rattle.std.specs.Prelude.{Some}
use Rattle.fugue_ids.specs.Keys.{last_id}
use Rattle.run_store.specs.Cells.{keyed_cells}
use Rattle.run_store.specs.Runs.{all_cells}
use Rattle.run_store.specs.declared.cell.Head.{Head}
use Rattle.run_store.proofs.PlaceLemmas.{run-named}
use Rattle.run_store.proofs.WalkLemmas.{last-of}
use Rattle.run_store.proofs.run.Runs.last_of.Goals as goal

pub returns : goal.returns
returns c =
    let r = c.args.self.now in
    let n : suc (c.args.runs - 1) ≡ c.args.runs = omega (arith, c.if-runs-eq0.false) in
    ap (λ (h : Head). Some h.id) c.cell_at.ensures
    ∙ sym (last-of r c.sound.ensures (c.args.runs - 1) c.in_ok-run.run' (run-named r c.sound.ensures (c.args.runs - 1) c.in_ok-run.run' (sym c.in_ok-run.ensures)))
    ∙ ap (λ k. last_id (keyed_cells (all_cells r.letters (take k r.rope)))) n
