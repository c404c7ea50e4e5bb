use Rattle.std.specs.Str.Iter.{chars_rest}
use Rattle.cluster_text.specs.Cuts.{SplitsAt}
use Rattle.cluster_text.proofs.scalars.pass_scalars.Given as goal

abbrev pub invariant-passed : goal.invariant-passed
invariant-passed l = SplitsAt l.text (chars_rest l.scalars) l.counter
