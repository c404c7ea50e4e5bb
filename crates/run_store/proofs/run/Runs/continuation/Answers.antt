use Rattle.std.proofs.Common.{arith, subst, sym, ◌∙◌}
use Rattle.run_store.specs.Boundaries.{IsBoundary}
use Rattle.run_store.specs.Runs.{RunsView}
use Rattle.run_store.proofs.BoundaryLemmas.{boundary-found}
use Rattle.run_store.proofs.RunsLemmas.{held-in, kept-run}
use Rattle.run_store.proofs.run.Runs.continuation.Goals as goal

pub goes_on-requires-clause-some : goal.goes_on-requires-clause-some
goes_on-requires-clause-some c =
    let held = held-in c.self.view_is c.args.front.now c.requires in
    (kept-run _ c.self.invariant c.args.front.now.id c.args.front.now held).some

pub goes_on-requires-clause-counters : goal.goes_on-requires-clause-counters
goes_on-requires-clause-counters c =
    let held = held-in c.self.view_is c.args.front.now c.requires in
    (kept-run _ c.self.invariant c.args.front.now.id c.args.front.now held).counters

pub goes_on-requires-clause-depths : goal.goes_on-requires-clause-depths
goes_on-requires-clause-depths c =
    let held = held-in c.self.view_is c.args.front.now c.requires in
    omega (arith, (kept-run _ c.self.invariant c.args.front.now.id c.args.front.now held).depths, c.self.invariant.few)

pub goes_on-requires-clause-fits : goal.goes_on-requires-clause-fits
goes_on-requires-clause-fits c =
    let held = held-in c.self.view_is c.args.front.now c.requires in
    omega (arith, (kept-run _ c.self.invariant c.args.front.now.id c.args.front.now held).ends, c.self.invariant.few)

pub returns-in-Some : goal.returns-in-Some
returns-in-Some c =
    let front = c.args.front.now in
    let back = c.in-Some.item.1.now in
    let held = held-in c.self.view_is front c.requires in
    subst (λ (z : RunsView). IsBoundary z.rope front back) c.self.view_is
    (boundary-found _ c.self.invariant front back c.in-Some.item.0 held c.in-Some.ensures.some c.in-Some.ensures.value (sym c.goes_on.ensures ∙ c.if-goes_on.true))
