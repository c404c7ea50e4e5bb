use Rattle.std.proofs.Common.{ap, arith, sym, ◌∙◌, ◌+◌, length}
use Rattle.std.specs.Prelude.{slice_get}
use Rattle.causal_inbox.specs.Gap.{gaps_before}
use Rattle.causal_inbox.proofs.SpacedLemmas.{item_at}
use Rattle.causal_inbox.proofs.gapped.Gapped.get.Goals as goal

pub returns : goal.returns
returns g c =
    let before = c.self.inside in
    ap (λ l. slice_get l.items c.args.position) (sym c.self.view_is)
    ∙ item_at before.items.items before.gone before.gaps.items c.args.position c.place_of-at.result c.index.result.now c.self.invariant.in_order
    (omega (arith, c.requires, ap (λ l. length l.items) c.self.view_is))
    (c.place_of-at.ensures.place ∙ ap (λ l. before.gone + c.args.position + gaps_before l (before.gone + c.args.position)) c.deref-2.ensures.value) c.index.ensures
