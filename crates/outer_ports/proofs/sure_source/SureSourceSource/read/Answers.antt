use Rattle.std.proofs.Common.{◌≡◌, ◌+◌, ◌-◌, drop, ap, arith}
use Rattle.outer_ports.proofs.FrontLemmas.{reads_front}
use Rattle.outer_ports.proofs.sure_source.SureSourceSource.read.Goals as goal

pub returns-clause-reads : goal.returns-clause-reads
returns-clause-reads c =
    let left : drop c.self.inside.at c.self.inside.bytes.items ≡ c.args.self.now.left = ap (λ s. s.left) c.self.view_is in
    let count : c.self.inside.at + c.min-count.result - c.self.inside.at ≡ c.min-count.result = omega arith in
    reads_front _ _ _ _ _ _ _ left (cc) (omega arith) (omega arith) (omega arith)
