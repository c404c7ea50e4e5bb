use Rattle.std.proofs.Common.{length}
use Rattle.std.specs.Str.{chars}
use Rattle.bulk_world.proofs.SumLemmas.{IsSummed}
use Rattle.bulk_world.proofs.summary.sum_of.Given as goal

abbrev pub invariant-summed : goal.invariant-summed
invariant-summed l = IsSummed (chars l.text) (length l.yielded) l.place l.sum
