use Rattle.std.proofs.Common.{◌≡◌, ap, sym, refl, arith}
use Rattle.std.specs.Prelude.{Some}
use Rattle.outer_ports.specs.Calls.{CallsView, risen}
use Rattle.memory_ports.proofs.dock.RefusedLemmas.{refused_takes}
use Rattle.memory_ports.proofs.dock.mem_dock.MemDockDock.next.Goals as goal

pub returns-in_err-begin-clause-takes : goal.returns-in_err-begin-clause-takes
returns-in_err-begin-clause-takes c =
    let faults : c.begin.new.self.faults ≡ risen c.self.inside.calls.faults = ap (λ (v : CallsView). v.faults) c.in_err-begin.ensures.failed in
    rw (sym c.self.view_is) (refused_takes _ _ refl c.begin.ensures.later (omega (arith, faults)) c.from_residual.result _ c.from_residual.ensures.0)

pub returns-in-None-clause-takes : goal.returns-in-None-clause-takes
returns-in-None-clause-takes c =
    let began : c.begin.new.self.faults ≡ c.self.inside.calls.faults = ap (λ (v : CallsView). v.faults) c.in_ok-begin.ensures.passed in
    let faults : c.fail.new.self.faults ≡ risen c.begin.new.self.faults = ap (λ (v : CallsView). v.faults) c.fail.ensures.faults in
    let kept = c.in-None.ensures.kept refl in
    rw (sym c.self.view_is, kept.0, kept.1) (refused_takes _ _ refl (omega (arith, began, c.fail.ensures.later)) (omega (arith, began, faults)) _ _ refl)

pub returns-in-Some-clause-takes : goal.returns-in-Some-clause-takes
returns-in-Some-clause-takes c =
    let faults : c.begin.new.self.faults ≡ c.self.inside.calls.faults = ap (λ (v : CallsView). v.faults) c.in_ok-begin.ensures.passed in
    rw (sym c.self.view_is) (record {
      fits = c.in-Some.ensures.fits;
      taken = ap Some c.in-Some.ensures.taken;
      came = (c.min.result, omega (arith, c.min.ensures, c.self.invariant, c.requires.room), c.in-Some.ensures.gives);
      kept = tt;
      nothing_sent = record { sent = λ s. refl; room = λ s. refl };
      listens = refl;
      ended = refl;
      ended_at = refl;
      ends = refl;
      count = record { cause = record { later = c.begin.ensures.later; failed = tt }; excused = tt; counts_no_fault = tt };
      specified_no_fault = λ tells. faults;
    })
