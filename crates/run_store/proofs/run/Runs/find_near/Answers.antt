use Rattle.std.proofs.Common.{subst, sym}
use Rattle.run_store.specs.Runs.{AreRuns}
use Rattle.run_store.proofs.FindLemmas.{spot-in}
use Rattle.run_store.proofs.run.Runs.find_near.Goals as goal

pub returns : goal.returns
returns c =
    spot-in c.args.self.now (subst AreRuns c.self.view_is c.self.invariant) c.args.id c.in_ok-key.key c.in_ok-run.run' c.in_ok-offset.offset
    (sym c.in_ok-run.ensures) c.in_ok-offset.ensures.same
    c.in_ok-offset.ensures.behind c.in_ok-offset.ensures.inside
