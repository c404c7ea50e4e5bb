use Rattle.std.proofs.Common.{[], List, length, ◌+◌, ◌≡◌}
use Rattle.relay_sync.specs.Over.{IsOver}
use Rattle.relay_sync.specs.Sending.{DockRisesFor}
use Rattle.relay_sync.specs.Serving.{NoneAfter, Serves, ServedStep, over_after}
use Rattle.relay_sync.proofs.serving.serve.Given as goal

-- the turns so far, and no step was asked for once enough sessions were over
abbrev pub invariant-steps : goal.invariant-steps
invariant-steps g l = record {
  turns : List ServedStep;
  serves : Serves l.fn.relay l.relay (g.D.Dock.seen l.fn.dock) (g.D.Dock.seen l.dock) turns;
  reported : DockRisesFor ⊥ (g.D.Dock.seen l.fn.dock) (g.D.Dock.seen l.dock);
  over : IsOver l.over (over_after [] turns);
  none : NoneAfter l.sessions turns;
  steps : length turns + l.left ≡ l.steps;
}

abbrev pub decreases-steps : goal.decreases-steps
decreases-steps g l = l.left
