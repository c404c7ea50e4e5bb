use Rattle.std.proofs.Common.{refl, ◌∙◌}
use Rattle.origin_model.specs.declared.operations.Place.TheVariants.{Section as within}
use Rattle.margin_notes.proofs.PlaceLemmas.{counted, in_list, list_there, text_list}
use Rattle.margin_notes.proofs.placing.start_of.Goals as goal

pub returns-in-Some-visible_before : goal.returns-in-Some-visible_before
returns-in-Some-visible_before c = λ h st m.
    let p = text_list c.args.places.now h c.args.section c.in-Some.list.now st c.in-Some.ensures.text in
    c.in-Some-visible_before.ensures.some ∙ counted (within c.args.section) h st.lawful c.in-Some.list.now p c.args.first m

pub returns-in-None-visible_before : goal.returns-in-None-visible_before
returns-in-None-visible_before c = λ h st m.
    let p = text_list c.args.places.now h c.args.section c.in-Some.list.now st c.in-Some.ensures.text in
    absurd (c.in-None-visible_before.ensures.none.0 refl (in_list (within c.args.section) h st.lawful c.in-Some.list.now p c.args.first m))

pub returns-in-None : goal.returns-in-None
returns-in-None c = λ h st m. absurd (list_there c.args.places.now h c.args.section c.args.first st m c.in-None.ensures.text)
