use Rattle.std.specs.Io.KnownBytes.{Keeps}
use Rattle.outer_ports.proofs.retry.write.Given as goal

abbrev pub invariant-calls : goal.invariant-calls
invariant-calls g l = Keeps (g.S.Write.contents l.initial.stream) (g.S.Write.contents l.stream)
