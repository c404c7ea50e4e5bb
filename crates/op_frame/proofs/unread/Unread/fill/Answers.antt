use Rattle.std.proofs.Common.{ap, sym, ◌∙◌, ◌-◌, ◌+◌, ◌≡◌, arith}
use Rattle.std.proofs.lemmas.Result.{err_from_is_err_and}
use Rattle.op_frame.specs.Windows.{Window}
use Rattle.op_frame.proofs.WindowLemmas.{filled_in, not_filled_in}
use Rattle.op_frame.proofs.unread.Unread.fill.Goals as goal

pub returns-in_err-count : goal.returns-in_err-count
returns-in_err-count g c =
    let p = err_from_is_err_and c.from_residual.result c.from_residual.ensures.1 in
    rw p.1 (not_filled_in c.in_err-count.field-0.0 p.0 c.self.inside.end c.self.inside.start
    (c.self.inside.end + c.min.result) c.args.most c.self.inside.buffer.len c.self.inside.buffer.items
    c.deref_mut.result.now c.read_into.new.buffer c.args.self.now.bytes _ _ c.in_err-count.ensures (omega arith) (omega arith)
    (omega (arith, c.deref_mut.ensures.len, c.min.ensures, c.self.invariant.0, c.self.invariant.2)) c.deref_mut.ensures.len c.deref_mut.ensures.value
    (sym (ap (λ (w : Window). w.bytes) c.self.view_is ∙ c.make_room.ensures.same)))

pub returns : goal.returns
returns g c =
    let free : 4096 - c.self.inside.end ≡ c.make_room.new.self.free = ap (λ (w : Window). w.free) c.self.view_is in
    filled_in c.self.inside.end c.self.inside.start (c.self.inside.end + c.min.result) c.args.most c.self.inside.buffer.len c.in_ok-count.count c.self.inside.buffer.items
    c.deref_mut.result.now c.read_into.new.buffer c.args.self.now.bytes _ _ c.in_ok-count.ensures (omega arith)
    (omega (arith, free, c.make_room.ensures.room, c.min.ensures, c.requires.some))
    (omega (arith, c.deref_mut.ensures.len, c.min.ensures, c.self.invariant.0, c.self.invariant.2)) c.deref_mut.ensures.len (omega (arith, c.min.ensures)) c.deref_mut.ensures.value
    (sym (ap (λ (w : Window). w.bytes) c.self.view_is ∙ c.make_room.ensures.same))
