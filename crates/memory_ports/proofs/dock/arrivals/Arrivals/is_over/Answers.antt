use Rattle.std.proofs.Common.{inl, inr, ◌<◌, length, ap, arith}
use Rattle.std.proofs.lemmas.Bool.{cases_lt, eqb-false}
use Rattle.outer_ports.specs.dock.Steps.{calls_for_all}
use Rattle.memory_ports.proofs.dock.StepsLemmas.{some_calls}
use Rattle.memory_ports.proofs.dock.arrivals.Arrivals.is_over.Goals as goal

pub returns-clause-some : goal.returns-clause-some
returns-clause-some c going =
    let a = c.self.inside in
    let below : c.self.inside.at < length c.self.inside.steps.items =
    elim (cases_lt c.self.inside.at (length c.self.inside.steps.items)) [
      | inl inside ↦ inside
      | inr past ↦ absurd (eqb-false c.self.inside.at c.len.result going (omega (arith, past, c.self.invariant.0, c.len.ensures)))
    ] in
    omega (arith, some_calls a.steps.items a.at a.offset below c.self.invariant.2, ap (λ v. calls_for_all v.coming) c.self.view_is)
