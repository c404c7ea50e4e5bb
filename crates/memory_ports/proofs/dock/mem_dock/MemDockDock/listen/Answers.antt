use Rattle.std.proofs.Common.{◌≡◌, ap, sym, refl, arith}
use Rattle.outer_ports.specs.Calls.{CallsView, risen}
use Rattle.memory_ports.proofs.dock.RefusedLemmas.{refused_listens}
use Rattle.memory_ports.proofs.dock.mem_dock.MemDockDock.listen.Goals as goal

pub returns-in_err-begin-clause-listens : goal.returns-in_err-begin-clause-listens
returns-in_err-begin-clause-listens c =
    let faults : c.begin.new.self.faults ≡ risen c.self.inside.calls.faults = ap (λ (v : CallsView). v.faults) c.in_err-begin.ensures.failed in
    rw (sym c.self.view_is) (refused_listens _ _ refl c.begin.ensures.later (omega (arith, faults)) c.from_residual.result _ c.from_residual.ensures.0)
