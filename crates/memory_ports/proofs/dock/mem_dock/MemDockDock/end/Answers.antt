use Rattle.std.proofs.Common.{◌≡◌, ◌++◌, List, ℕ, [], ◌∷◌, ap, sym, refl, ◌∙◌, arith}
use Rattle.std.specs.Prelude.{Some}
use Rattle.outer_ports.specs.Calls.{CallsView, risen}
use Rattle.memory_ports.proofs.dock.RefusedLemmas.{refused_ends}
use Rattle.memory_ports.proofs.dock.mem_dock.MemDockDock.end.Goals as goal

pub returns-in_err-begin-clause-ends : goal.returns-in_err-begin-clause-ends
returns-in_err-begin-clause-ends c =
    let faults : c.begin.new.self.faults ≡ risen c.self.inside.calls.faults = ap (λ (v : CallsView). v.faults) c.in_err-begin.ensures.failed in
    rw (sym c.self.view_is) (refused_ends _ _ refl c.begin.ensures.later (omega (arith, faults)) c.from_residual.result _ c.from_residual.ensures.0)

pub returns-then-is_err-clause-ends : goal.returns-then-is_err-clause-ends
returns-then-is_err-clause-ends c =
    let began : c.begin.new.self.faults ≡ c.self.inside.calls.faults = ap (λ (v : CallsView). v.faults) c.in_ok-begin.ensures.passed in
    let faults : c.fail.new.self.faults ≡ risen c.begin.new.self.faults = ap (λ (v : CallsView). v.faults) c.fail.ensures.faults in
    rw (sym c.self.view_is, c.reserve_both.ensures.items.0, c.reserve_both.ensures.items.1)
    (refused_ends _ _ refl (omega (arith, began, c.fail.ensures.later)) (omega (arith, began, faults)) _ _ refl)

pub returns-clause-ends : goal.returns-clause-ends
returns-clause-ends c =
    let faults : c.begin.new.self.faults ≡ c.self.inside.calls.faults = ap (λ (v : CallsView). v.faults) c.in_ok-begin.ensures.passed in
    rw (sym c.self.view_is) (record {
      ended = ap Some (c.add.ensures.items ∙ ap (λ (l : List ℕ). l ++ c.args.session ∷ []) c.reserve_both.ensures.items.0);
      kept = tt;
      ended_at = ap Some (c.add-2.ensures.items ∙ rw (c.reserve_both.ensures.items.1, c.sent.ensures) refl);
      kept_at = tt;
      ends = refl;
      same_ends = tt;
      nothing_sent = record { sent = λ s. refl; room = λ s. refl };
      nothing_taken = record { taken = refl; coming = refl };
      listens = refl;
      count = record { cause = record { later = c.begin.ensures.later; failed = tt }; excused = tt; counts_no_fault = tt };
      specified_no_fault = λ tells. faults;
      within = tt;
    })
