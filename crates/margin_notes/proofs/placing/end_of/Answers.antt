use Rattle.std.proofs.Common.{arith, refl, sym, ◌∙◌}
use Rattle.origin_model.specs.declared.operations.Place.TheVariants.{Section as within}
use Rattle.margin_notes.proofs.PlaceLemmas.{counted, counted_hidden, counted_visible, few_texts, in_list, list_there, text_list}
use Rattle.margin_notes.proofs.placing.end_of.Goals as goal

pub overflow_add-result : goal.overflow_add-result
overflow_add-result c =
    omega (
      arith,
      c.in-Some-visible_before.ensures.some,
      few_texts c.args.places.now c.requires.history c.args.section c.args.last c.in-Some.list.now c.requires.represents c.in-Some.ensures.text,
      c.requires.few,
    )

pub returns-then-is_hidden : goal.returns-then-is_hidden
returns-then-is_hidden c = λ h st m.
    let s = c.args.section in
    let p = text_list c.args.places.now h s c.in-Some.list.now st c.in-Some.ensures.text in
    c.in-Some-visible_before.ensures.some ∙ counted (within s) h st.lawful c.in-Some.list.now p c.args.last m
    ∙ sym (counted_hidden (within s) h st.lawful c.in-Some.list.now p c.args.last m (sym c.is_hidden.ensures ∙ c.if-is_hidden.true))

pub returns-else-is_hidden : goal.returns-else-is_hidden
returns-else-is_hidden c = λ h st m.
    let s = c.args.section in
    let p = text_list c.args.places.now h s c.in-Some.list.now st c.in-Some.ensures.text in
    omega (
      arith,
      c.in-Some-visible_before.ensures.some ∙ counted (within s) h st.lawful c.in-Some.list.now p c.args.last m,
      counted_visible (within s) h st.lawful c.in-Some.list.now p c.args.last m (sym c.is_hidden.ensures ∙ c.if-is_hidden.false),
    )

pub returns-in-None-visible_before : goal.returns-in-None-visible_before
returns-in-None-visible_before c = λ h st m.
    let p = text_list c.args.places.now h c.args.section c.in-Some.list.now st c.in-Some.ensures.text in
    absurd (c.in-None-visible_before.ensures.none.0 refl (in_list (within c.args.section) h st.lawful c.in-Some.list.now p c.args.last m))

pub returns-in-None : goal.returns-in-None
returns-in-None c = λ h st m. absurd (list_there c.args.places.now h c.args.section c.args.last st m c.in-None.ensures.text)
