use Rattle.std.proofs.Common.{◌≡◌, ◌<◌, length, ap, sym, ◌∙◌, arith}
use Rattle.outer_ports.specs.dock.Steps.{with_bytes, given_part, calls_for, calls_for_all}
use Rattle.memory_ports.specs.dock.Arrivals.{from, step_at, coming_of}
use Rattle.outer_ports.specs.declared.dock.MemStep.{MemStep}
use Rattle.memory_ports.proofs.dock.StepsLemmas.{coming_long, step_is, gives_next, fewer_calls}
use Rattle.memory_ports.proofs.dock.arrivals.Arrivals.take.Goals as goal

pub returns-clause-gives : goal.returns-clause-gives
returns-clause-gives c =
    let a = c.self.inside in
    let came : coming_of c.self.inside.steps.items c.self.inside.at c.self.inside.offset ≡ c.args.self.now.coming = ap (λ v. v.coming) c.self.view_is in
    let below : c.self.inside.at < length c.self.inside.steps.items = omega (arith, ap length came, coming_long a.steps.items a.at a.offset, c.requires.some) in
    let first : step_at c.self.inside.steps.items c.self.inside.at ≡ c.index-first.result.now = step_is _ _ _ below c.index-first.ensures in
    let calls : c.most_calls.result ≡ calls_for (step_at c.self.inside.steps.items c.self.inside.at) = c.most_calls.ensures ∙ ap calls_for (sym first) in
    let given : with_bytes c.give-step.result c.give-step.new.buf ≡ given_part c.args.most (from c.self.inside.offset (step_at c.self.inside.steps.items c.self.inside.at))
    = c.give-step.ensures.gives ∙ ap (λ (s : MemStep). given_part c.args.most (from c.self.inside.offset s)) (sym first) in
    rw (sym came) (gives_next _ _ _ _ _ below given _ _ (omega (arith, c.requires.most.0))
    (λ left. c.behind.ensures.partly (omega (arith, left, calls))) (λ all. c.behind.ensures.whole (omega (arith, all, calls))))

pub returns-clause-fewer : goal.returns-clause-fewer
returns-clause-fewer c =
    let a = c.self.inside in
    let came : coming_of c.self.inside.steps.items c.self.inside.at c.self.inside.offset ≡ c.args.self.now.coming = ap (λ v. v.coming) c.self.view_is in
    let below : c.self.inside.at < length c.self.inside.steps.items = omega (arith, ap length came, coming_long a.steps.items a.at a.offset, c.requires.some) in
    let first : step_at c.self.inside.steps.items c.self.inside.at ≡ c.index-first.result.now = step_is _ _ _ below c.index-first.ensures in
    let calls : c.most_calls.result ≡ calls_for (step_at c.self.inside.steps.items c.self.inside.at) = c.most_calls.ensures ∙ ap calls_for (sym first) in
    let fewer = fewer_calls a.steps.items a.at a.offset below c.self.invariant.2 c.args.most c.behind.result.0 c.behind.result.1 (omega (arith, c.requires.most.0))
    (λ left. c.behind.ensures.partly (omega (arith, left, calls))) (λ all. c.behind.ensures.whole (omega (arith, all, calls))) in
    omega (arith, fewer, ap calls_for_all came)
