use Rattle.std.proofs.Common.{ap, arith, sym, subst, ◌++◌, ◌≡◌, ◌∙◌, ◌∷◌, [], length, length-append}
use Rattle.causal_inbox.specs.Gap.{AreGaps, between_gaps}
use Rattle.causal_inbox.proofs.SpacedLemmas.{between_push, gaps_longer}
use Rattle.causal_inbox.proofs.gapped.Gapped.push.Goals as goal

pub invariant_of-self-2 : goal.invariant_of-self-2
invariant_of-self-2 g c =
    let before = c.self.inside in
    let grown : c.push.new.self.items ≡ before.items.items ++ c.args.item ∷ [] = c.in_default.ensures.items in
    let gaps : c.has_room.new.gaps.items ≡ before.gaps.items = c.has_room.ensures.gaps in
    let more : AreGaps before.gone before.gaps.items (length (before.items.items ++ c.args.item ∷ [])) =
    gaps_longer before.gone before.gaps.items (length before.items.items) (length (before.items.items ++ c.args.item ∷ [])) c.self.invariant.in_order
    (omega (arith, length-append before.items.items (c.args.item ∷ []))) in
    record {
      in_order = subst (λ l. AreGaps before.gone l (length c.push.new.self.items)) (sym gaps) (subst (λ l. AreGaps before.gone before.gaps.items (length l)) (sym grown) more);
      room = λ some. omega (arith, c.has_room.new.gaps.ok.0, c.if-not-has_room.ensures.room);
    }

pub returns-clause-ok : goal.returns-clause-ok
returns-clause-ok g c =
    let before = c.self.inside in
    let items : between_gaps c.push.new.self.items before.gone c.has_room.new.gaps.items ≡ c.args.self.now.items ++ c.args.item ∷ [] =
    (λ i. between_gaps (c.in_default.ensures.items i) before.gone (c.has_room.ensures.gaps i))
    ∙ between_push before.items.items c.args.item before.gone before.gaps.items c.self.invariant.in_order
    ∙ ap (λ l. l.items ++ c.args.item ∷ []) c.self.view_is in
    λ i. record { items = items i; gaps = (ap length c.has_room.ensures.gaps ∙ ap (λ l. l.gaps) c.self.view_is) i }
