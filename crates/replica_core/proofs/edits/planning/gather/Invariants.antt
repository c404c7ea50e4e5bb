use Rattle.std.proofs.Common.{◌≡◌, drop, take}
use Rattle.replica_core.proofs.edits.planning.gather.Given as goal

abbrev pub invariant-taken : goal.invariant-taken
invariant-taken l = (l.walk ≡ drop l.counter l.initial.walk) × (l.part.items ≡ take l.counter l.initial.walk)
