use Rattle.std.proofs.Common.{ap, subst, sym, true, ◌||◌, ◌∙◌, ◌≡◌}
use Rattle.std.specs.Prelude.{Some}
use Rattle.std.proofs.lemmas.Bool.{not-false, true≢false}
use Rattle.std.proofs.lemmas.Option.{same_Some}
use Rattle.fugue_ids.specs.Identifiers.{Identifier, id_eq}
use Rattle.fugue_ids.proofs.IdentifierLemmas.{id_eq-true}
use Rattle.origin_model.specs.declared.operations.Place.TheVariants.{Section as within}
use Rattle.origin_model.specs.order.Order.{before}
use Rattle.margin_notes.proofs.EntryLemmas.{section_none, section_some}
use Rattle.margin_notes.proofs.PlaceLemmas.{text_is_in}
use Rattle.margin_notes.proofs.placing.section_of.Goals as goal

pub returns-then-is_in_order : goal.returns-then-is_in_order
returns-then-is_in_order c = λ h st k e.
    let s = c.in_ok-section.section in
    let a = c.args.anchors.now in
    let same : c.in_ok-other.other ≡ s = id_eq-true c.in_ok-other.other s (not-false (id_eq c.in_ok-other.other s) (sym c.ne.ensures ∙ c.if-ne.false)) in
    let first = sym (c.in_ok-section.ensures h st) in
    let last = sym (c.in_ok-other.ensures h st) ∙ ap Some same in
    section_some h a k s e (record {
      first_in = first;
      last_in = last;
      in_order = sym (c.is_in_order.ensures h st (text_is_in h s a.first first) (text_is_in h s a.last last)) ∙ c.if-is_in_order.true;
    })

pub returns-else-is_in_order : goal.returns-else-is_in_order
returns-else-is_in_order c = λ h st k e.
    let s = c.in_ok-section.section in
    let a = c.args.anchors.now in
    section_none h a k e (λ t i.
    let first = sym (c.in_ok-section.ensures h st) in
    let d : t ≡ s = same_Some t s (sym i.first_in ∙ first) in
    let last = i.last_in ∙ ap Some d in
    true≢false (sym (subst (λ (z : Identifier). (id_eq a.first a.last || before (within z) h a.first a.last) ≡ true) d i.in_order)
    ∙ sym (c.is_in_order.ensures h st (text_is_in h s a.first first) (text_is_in h s a.last last)) ∙ c.if-is_in_order.false))
