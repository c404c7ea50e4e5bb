use Rattle.std.proofs.Common.{◌≡◌, take}
use Rattle.outer_ports.specs.dock.Steps.{calls_for_all}
use Rattle.memory_ports.proofs.dock.arrivals.most_calls_of.Given as goal

abbrev pub invariant-loop-step : goal.invariant-loop-step
invariant-loop-step l = l.calls ≡ calls_for_all (take l.step-index l.steps)
