use Rattle.std.proofs.Common.{All}
use Rattle.outer_ports.specs.dock.Steps.{BringsSome}
use Rattle.command_tests.proofs.sessions.steps.Given as goal

abbrev pub invariant-loop-coming : goal.invariant-loop-coming
invariant-loop-coming g l = All BringsSome l.steps.items
