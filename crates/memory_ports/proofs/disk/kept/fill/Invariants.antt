use Rattle.std.proofs.Common.{◌≡◌, drop}
use Rattle.memory_ports.specs.disk.Picks.{ranges_filled}
use Rattle.memory_ports.proofs.disk.kept.fill.Given as goal

abbrev pub invariant-loop-at : goal.invariant-loop-at
invariant-loop-at l = ranges_filled (drop l.at-index l.ranges) l.byte l.bytes ≡ ranges_filled l.ranges l.byte l.initial.bytes
