use Rattle.std.proofs.Common.{ap, arith, length}
use Rattle.causal_inbox.proofs.SpacedLemmas.{length_between}
use Rattle.causal_inbox.proofs.gapped.Gapped.remove.Goals as goal

pub take_out-item-requires-clause-room : goal.take_out-item-requires-clause-room
take_out-item-requires-clause-room g c =
    let before = c.self.inside in
    let whole = length_between before.items.items before.gone before.gaps.items c.self.invariant.in_order in
    omega (arith, before.gaps.ok.0, c.self.invariant.room (omega (arith, whole, c.requires, ap (λ l. length l.items) c.self.view_is)))
