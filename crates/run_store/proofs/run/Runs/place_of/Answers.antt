use Rattle.std.proofs.Common.{subst}
use Rattle.node_rope.specs.Places.{StandsAt}
use Rattle.run_store.specs.Runs.{AreRuns, RunsView}
use Rattle.run_store.proofs.PlaceLemmas.{stands-run}
use Rattle.run_store.proofs.run.Runs.place_of.Goals as goal

pub returns-in-Some : goal.returns-in-Some
returns-in-Some c =
    stands-run c.args.self.now (subst AreRuns c.self.view_is c.self.invariant) c.in-Some.place c.args.run.now
    (subst (λ (z : RunsView). StandsAt z.rope c.in-Some.place c.args.run.now.id) c.self.view_is c.in-Some.ensures.some) c.requires
