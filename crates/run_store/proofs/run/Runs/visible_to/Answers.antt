use Rattle.std.proofs.Common.{arith, subst, take, ℕ, ◌≡◌}
use Rattle.std.specs.Prelude.{IfSome}
use Rattle.node_rope.specs.Places.{StandsAt, weight_sum}
use Rattle.run_store.specs.Runs.{RunsView, visible_weight}
use Rattle.run_store.proofs.BeforeShownLemmas.{weight-few}
use Rattle.run_store.proofs.RunsLemmas.{held-in}
use Rattle.run_store.proofs.run.Runs.visible_to.Goals as goal

pub returns-clause-visible : goal.returns-clause-visible
returns-clause-visible c =
    let id = c.args.run.now.id in
    subst (λ (z : RunsView). (i : ℕ) × StandsAt z.rope i id × (c.unwrap.result ≡ weight_sum visible_weight (take i z.rope))) c.self.view_is
    (subst (λ o. IfSome o (λ w. (i : ℕ) × StandsAt c.self.inside.rope i id × (w ≡ weight_sum visible_weight (take i c.self.inside.rope)))) c.unwrap.ensures
    c.weight_before.ensures.some)

pub returns-clause-few : goal.returns-clause-few
returns-clause-few c =
    let rope = c.self.inside.rope in
    let id = c.args.run.now.id in
    let at = subst (λ o. IfSome o (λ w. (i : ℕ) × StandsAt rope i id × (w ≡ weight_sum visible_weight (take i rope)))) c.unwrap.ensures c.weight_before.ensures.some in
    omega (arith, at.2, weight-few _ c.self.invariant c.args.run.now at.0 at.1 (held-in c.self.view_is c.args.run.now c.requires))
