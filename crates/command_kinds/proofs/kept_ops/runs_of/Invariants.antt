use Rattle.std.specs.Prelude.{take, ◌≡◌}
use Rattle.command_kinds.proofs.kept_ops.runs_of.Given as goal

abbrev pub invariant-ops : goal.invariant-ops
invariant-ops l = l.runs ≡ take l.op-index l.fn.ops.items
