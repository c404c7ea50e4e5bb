use Rattle.std.proofs.Common.{ap, arith, drop, sym, ◌∙◌}
use Rattle.std.proofs.lemmas.List.Elements.{All-drop}
use Rattle.fugue_ids.specs.Keys.{first_low}
use Rattle.node_rope.specs.Places.{first_low_key}
use Rattle.run_store.specs.Cells.{keyed_cells}
use Rattle.run_store.specs.Heads.{rank_of}
use Rattle.run_store.specs.Runs.{IsRun, RunsView, all_cells}
use Rattle.run_store.specs.declared.run.Run.{Run}
use Rattle.run_store.proofs.LowLemmas.{first-runs}
use Rattle.run_store.proofs.run.Runs.first_low_from.Goals as goal

pub returns : goal.returns
returns c =
    let r = c.self.inside in
    let s = c.self.invariant in
    c.first_low.ensures
    ∙ ap (λ m. first_low_key (λ (z : Run). rank_of z.key) m (drop c.args.runs r.rope)) c.rank_of.ensures
    ∙ sym (first-runs c.args.most r.letters r.count (omega arith) (omega (arith, s.few)) (drop c.args.runs r.rope) (All-drop (IsRun r.letters r.count) c.args.runs r.rope s.each))
    ∙ ap (λ (z : RunsView). first_low c.args.most (keyed_cells (all_cells z.letters (drop c.args.runs z.rope)))) c.self.view_is
