use Rattle.std.proofs.Common.{ap, arith, subst, sym, ℕ, ◌+◌, ◌-◌, ◌≡◌, ◌∙◌, length, set, length-set}
use Rattle.std.specs.Prelude.{Some}
use Rattle.std.specs.List.{insert}
use Rattle.causal_inbox.specs.Gap.{AreGaps, between_gaps, gaps_before}
use Rattle.causal_inbox.proofs.SpacedLemmas.{item_at, item_gone, lies_at, passed_within}
use Rattle.causal_inbox.proofs.gapped.take_out.Goals as goal

pub note_gap-requires-clause-within : goal.note_gap-requires-clause-within
note_gap-requires-clause-within g c =
    let place : ℕ = c.args.gone + c.args.position in
    omega (arith, c.place_of-at.ensures.place, ap (λ l. gaps_before l place) c.deref.ensures.value, passed_within c.args.gaps.now.items place)

pub returns-clause-item : goal.returns-clause-item
returns-clause-item g c =
    let place : ℕ = c.args.gone + c.args.position in
    item_at c.args.items.now c.args.gone c.args.gaps.now.items c.args.position c.place_of-at.result c.index-items-at.result c.requires.in_order c.requires.within
    (c.place_of-at.ensures.place ∙ ap (λ l. place + gaps_before l place) c.deref.ensures.value) c.index-items-at.is
    ∙ ap Some (c.index-items-at.is ∙ sym c.replace-item.ensures.value)

pub returns-clause-rest : goal.returns-clause-rest
returns-clause-rest g c =
    let items = c.args.items.now in
    let gaps = c.args.gaps.now.items in
    let at : ℕ = c.place_of-at.result in
    let place : ℕ = c.args.gone + c.args.position in
    let there : at ≡ place + gaps_before gaps place = c.place_of-at.ensures.place ∙ ap (λ l. place + gaps_before l place) c.deref.ensures.value in
    let before : at - c.args.gone - c.args.position ≡ gaps_before gaps place = omega (arith, there) in
    (λ i. between_gaps (set items at (c.replace-item.ensures.after i)) c.args.gone (c.note_gap.ensures.gaps i))
    ∙ ap (λ k. between_gaps (set items at c.args.filler) c.args.gone (insert gaps k at)) before
    ∙ item_gone items c.args.gone gaps c.args.position at c.index-items-at.result c.args.filler
    (lies_at items c.args.gone gaps c.args.position at c.requires.in_order c.requires.within there) c.index-items-at.is

pub returns-clause-in_order : goal.returns-clause-in_order
returns-clause-in_order g c =
    let items = c.args.items.now in
    let gaps = c.args.gaps.now.items in
    let at : ℕ = c.place_of-at.result in
    let place : ℕ = c.args.gone + c.args.position in
    let there : at ≡ place + gaps_before gaps place = c.place_of-at.ensures.place ∙ ap (λ l. place + gaps_before l place) c.deref.ensures.value in
    let before : at - c.args.gone - c.args.position ≡ gaps_before gaps place = omega (arith, there) in
    let long : length (set items at c.replace-item.new.dest) ≡ length items = length-set items at c.replace-item.new.dest in
    let noted : c.note_gap.new.gaps.items ≡ insert gaps (gaps_before gaps place) at = c.note_gap.ensures.gaps ∙ ap (λ k. insert gaps k at) before in
    subst (λ l. AreGaps c.args.gone l (length (set items at c.replace-item.new.dest))) (sym noted)
    (subst (AreGaps c.args.gone (insert gaps (gaps_before gaps place) at)) (sym long)
    (lies_at items c.args.gone gaps c.args.position at c.requires.in_order c.requires.within there).in_order)
