use Rattle.std.proofs.Common.{ap, ◌∙◌, ◌-◌, ◌≡◌, arith, drop, take, length, length-take}
use Rattle.op_frame.specs.Windows.{Window}
use Rattle.outer_ports.proofs.FrontLemmas.{skipped}
use Rattle.op_frame.proofs.unread.Unread.skip.Goals as goal

pub returns : goal.returns
returns c =
    let same : take (c.self.inside.end - c.self.inside.start) (drop c.self.inside.start c.self.inside.buffer.items) ≡ c.args.self.now.bytes
    = ap (λ (w : Window). w.bytes) c.self.view_is in
    skipped c.self.inside.start c.self.inside.end c.args.len c.self.inside.buffer.items
    (omega (arith, ap length same, length-take (c.self.inside.end - c.self.inside.start) (drop c.self.inside.start c.self.inside.buffer.items), c.requires, c.self.invariant.1))
    ∙ ap (drop c.args.len) same
