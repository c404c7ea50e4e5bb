use Rattle.std.proofs.Common.{ap, arith, sym, ℕ, ◌+◌, ◌≡◌, ◌∙◌, length, set}
use Rattle.std.specs.Prelude.{slice_get}
use Rattle.causal_inbox.specs.Gap.{between_gaps, gaps_before}
use Rattle.causal_inbox.proofs.SpacedLemmas.{item_at, item_put, lies_at}
use Rattle.causal_inbox.proofs.gapped.Gapped.put.Goals as goal

pub returns-clause-before : goal.returns-clause-before
returns-clause-before g c =
    let before = c.self.inside in
    let place : ℕ = before.gone + c.args.position in
    ap (λ l. slice_get l.items c.args.position) (sym c.self.view_is)
    ∙ item_at before.items.items before.gone before.gaps.items c.args.position c.place_of-at.result c.replace.result c.self.invariant.in_order
    (omega (arith, c.requires, ap (λ l. length l.items) c.self.view_is))
    (c.place_of-at.ensures.place ∙ ap (λ l. place + gaps_before l place) c.deref-2.ensures.value) cc

pub returns-clause-items : goal.returns-clause-items
returns-clause-items g c =
    let before = c.self.inside in
    let place : ℕ = before.gone + c.args.position in
    let at : ℕ = c.place_of-at.result in
    let s = lies_at before.items.items before.gone before.gaps.items c.args.position at c.self.invariant.in_order
    (omega (arith, c.requires, ap (λ l. length l.items) c.self.view_is))
    (c.place_of-at.ensures.place ∙ ap (λ l. place + gaps_before l place) c.deref-2.ensures.value) in
    let items : between_gaps (set before.items.items at c.replace.new.dest) before.gone before.gaps.items ≡ set c.args.self.now.items c.args.position c.args.item =
    ap (λ x. between_gaps (set before.items.items at x) before.gone before.gaps.items) c.replace.ensures.after
    ∙ item_put before.items.items before.gone before.gaps.items c.args.position at c.index_mut.result.now c.args.item s c.index_mut.ensures.value
    ∙ ap (λ l. set l.items c.args.position c.args.item) c.self.view_is in
    λ i. record { items = items i; gaps = (ap (λ l. l.gaps) c.self.view_is) i }
