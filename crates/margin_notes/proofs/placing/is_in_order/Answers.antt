use Rattle.std.proofs.Common.{ap, sym, ◌||◌, ◌∙◌}
use Rattle.origin_model.specs.declared.operations.Place.TheVariants.{Section as within}
use Rattle.origin_model.specs.order.Order.{before}
use Rattle.margin_notes.proofs.PlaceLemmas.{earlier_in, in_list, list_there, text_list}
use Rattle.margin_notes.proofs.placing.is_in_order.Goals as goal

pub returns-in-Some : goal.returns-in-Some
returns-in-Some c = λ h st m n.
    let s = c.args.section in
    let p = text_list c.args.places.now h s c.in-Some.list.now st c.in-Some.ensures.text in
    c.is_before.ensures.both (in_list (within s) h st.lawful c.in-Some.list.now p c.args.a m) (in_list (within s) h st.lawful c.in-Some.list.now p c.args.b n)
    ∙ earlier_in (within s) h st.lawful c.in-Some.list.now p c.args.a c.args.b m n
    ∙ sym (ap (λ t. t || before (within s) h c.args.a c.args.b) (sym c.eq.ensures ∙ c.if-eq.false))

pub returns-in-None : goal.returns-in-None
returns-in-None c = λ h st m n. absurd (list_there c.args.places.now h c.args.section c.args.a st m c.in-None.ensures.text)
