use Rattle.std.proofs.Common.{◌≡◌, ap, sym, refl, ◌∙◌, arith}
use Rattle.std.specs.Prelude.{Result, Ok, Err, IsErr, OnErr}
use Rattle.outer_ports.specs.Calls.{CallsView, risen}
use Rattle.memory_ports.proofs.dock.RefusedLemmas.{refused_sends}
use Rattle.memory_ports.proofs.dock.mem_dock.MemDockDock.send.Goals as goal

on_err : {T E : Type 0} {P : Type 0} (r : Result T E) → IsErr r → OnErr r P → P
on_err (Ok x) is p = absurd (cc is)
on_err (Err e) is p = p

pub returns-in_err-begin-clause-sends : goal.returns-in_err-begin-clause-sends
returns-in_err-begin-clause-sends c =
    let faults : c.begin.new.self.faults ≡ risen c.self.inside.calls.faults = ap (λ (v : CallsView). v.faults) c.in_err-begin.ensures.failed in
    rw (sym c.self.view_is) (refused_sends _ _ refl c.begin.ensures.later (omega (arith, faults)) (λ s. refl) c.from_residual.result _ _ c.from_residual.ensures.0)

pub returns-then-is_err-clause-sends : goal.returns-then-is_err-clause-sends
returns-then-is_err-clause-sends c =
    let began : c.begin.new.self.faults ≡ c.self.inside.calls.faults = ap (λ (v : CallsView). v.faults) c.in_ok-begin.ensures.passed in
    let faults : c.fail.new.self.faults ≡ risen c.begin.new.self.faults = ap (λ (v : CallsView). v.faults) c.fail.ensures.faults in
    let same : c.ensure.new.self ≡ c.self.inside.transcripts = on_err c.ensure.result (sym c.is_err.ensures.value ∙ c.if-is_err.true) c.ensure.ensures.err in
    rw (sym c.self.view_is, same)
    (refused_sends _ _ refl (omega (arith, began, c.fail.ensures.later)) (omega (arith, began, faults)) (λ s. refl) _ _ _ refl)
