use Rattle.std.proofs.Common.{◌≡◌, length}
use Rattle.std.specs.Io.KnownBytes.{Keeps}
use Rattle.outer_ports.proofs.retry.read.Given as goal

abbrev pub invariant-calls : goal.invariant-calls
invariant-calls g l = Keeps (g.S.Read.remaining l.initial.stream) (g.S.Read.remaining l.stream) × (length l.buf ≡ length l.initial.buf)
