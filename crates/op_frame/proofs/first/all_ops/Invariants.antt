use Rattle.std.proofs.Common.{◌++◌, length}
use Rattle.origin_model.specs.declared.grammar.Grammar.TheVariants.{Version2}
use Rattle.origin_model.specs.frames.Frames.{IsFrame}
use Rattle.op_frame.proofs.first.all_ops.Given as goal

abbrev pub invariant-ops : goal.invariant-ops
invariant-ops l = IsFrame Version2 (record { bytes = l.frame; ops = l.ops.items ++ l.rest })

abbrev pub decreases-ops : goal.decreases-ops
decreases-ops l = length l.rest
