use Rattle.std.proofs.Common.{ap, arith, drop, length, length-take, take, ◌-◌, ◌≡◌}
use Rattle.op_frame.specs.Windows.{Window}
use Rattle.op_frame.proofs.unread.Unread.fit.Goals as goal

pub returns : goal.returns
returns c =
    let u = c.self.inside in
    let same : take (u.end - u.start) (drop u.start u.buffer.items) ≡ c.args.self.now.bytes = ap (λ (w : Window). w.bytes) c.self.view_is in
    omega (arith, ap length same, length-take (u.end - u.start) (drop u.start u.buffer.items), c.self.invariant.2)
