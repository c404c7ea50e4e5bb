use Rattle.std.proofs.Common.{map, ◌++◌, ◌≡◌}
use Rattle.batch_moments.proofs.CountLemmas.{as_part}
use Rattle.batch_moments.proofs.counting.text_parts.Given as goal

-- what is pushed, and the parts that are left, are those of all entries
abbrev pub invariant-texts : goal.invariant-texts
invariant-texts l = l.parts.items ++ map as_part l.replica-iterator ≡ map as_part l.counts.texts.entries
