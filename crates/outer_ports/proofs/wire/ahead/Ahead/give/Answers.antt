use Rattle.std.proofs.Common.{◌+◌, ◌-◌, ◌≤◌, ◌++◌, take, drop, length, sym, ap, ◌∙◌, arith, length-append, length-drop, length-take, length-take-le}
use Rattle.outer_ports.proofs.FrontLemmas.{skipped}
use Rattle.outer_ports.proofs.wire.ahead.Ahead.give.Goals as goal

pub returns-clause-bytes : goal.returns-clause-bytes
returns-clause-bytes c =
    let a = c.self.inside in
    let n = c.in_ok-count.count in
    let given = take n c.read.new.buf in
    let split = c.in_ok-count.ensures.bytes.0 in
    let rest = c.in_ok-count.ensures.rest in
    let enough : a.start + n ≤ a.end = omega (
      arith,
      ap length split,
      ap length rest,
      length-append given c.read.new.self.now,
      length-take-le n c.read.new.buf c.in_ok-count.ensures.bound.0,
      length-drop n (take (a.end - a.start) (drop a.start a.buffer)),
      length-take (a.end - a.start) (drop a.start a.buffer),
      c.self.invariant.0,
    ) in
    sym c.self.view_is ∙ split ∙ ap (λ l. given ++ l) (rest ∙ sym (skipped a.start a.end n a.buffer enough))
