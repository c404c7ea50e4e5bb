use Rattle.std.proofs.Common.{◌≡◌, length}
use Rattle.outer_ports.proofs.retry.read_at.Given as goal

abbrev pub invariant-calls : goal.invariant-calls
invariant-calls g l = length l.buf ≡ length l.initial.buf
