use Rattle.std.proofs.Common.{arith, length, refl, sym, ◌∙◌, ◌<◌}
use Rattle.std.specs.Prelude.{Some}
use Rattle.run_store.proofs.CutLemmas.{is-cut}
use Rattle.run_store.proofs.EitherLemmas.{kept-raised}
use Rattle.run_store.proofs.run.Runs.cut_after.Goals as goal

pub returns-then-end-run : goal.returns-then-end-run
returns-then-end-run c = record {
  cells = refl;
  held = c.requires.held ∙ (λ i. Some (record c.args.run.now { len = sym c.if-end-run.true i }));
  raised = kept-raised 1 (length c.args.self.now.rope);
  err = tt;
}

pub returns : goal.returns
returns c =
    let inside : c.args.end < c.args.run.now.len = omega (arith, c.requires.within, c.if-end-run.false) in
    let cut =
    is-cut c.args.self.now c.sound.ensures c.args.run.now c.args.end c.requires.held c.requires.some inside c.split.result c.split.new.self c.split.ensures.ok
    c.split.ensures.err in
    record { cells = cut.cells; held = cut.front; raised = cut.raised; err = c.split.ensures.err }
