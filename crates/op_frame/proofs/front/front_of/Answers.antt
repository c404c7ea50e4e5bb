use Rattle.std.proofs.Common.{List, ℕ, arith, ap, drop, length, length-drop, refl, subst, sym, take, ◌++◌, ◌-◌, ◌∙◌, ◌≡◌, ◌≤◌}
use Rattle.std.proofs.Math.Seq.{take-add}
use Rattle.std.proofs.lemmas.List.{length-take-le, take-append-drop, take_all}
use Rattle.origin_model.specs.frames.Frames.{IsBad, IsPartial}
use Rattle.op_frame.specs.declared.grown.Grown.TheVariants.{Frame, Front}
use Rattle.op_frame.proofs.FrameFrontLemmas.{awaits_all, awaits_next, is_front, is_grown, next_field, none_begins}
use Rattle.op_frame.proofs.front.front_of.Goals as goal

pub fields-init : goal.fields-init
fields-init c = (omega arith, awaits_all c.args.grammar)

pub returns-then-is_whole : goal.returns-then-is_whole
returns-then-is_whole c =
    let a = c.fields.invariant.1 in
    (c.fields.invariant.0, is_grown c.args.grammar c.fields.due (take c.fields.at c.args.bytes.now) a.rest Frame (sym (c.is_whole.ensures.yes c.if-is_whole.true)) a.sound)

pub returns-then-end-at : goal.returns-then-end-at
returns-then-end-at c =
    let a = c.fields.invariant.1 in
    let over : length c.args.bytes.now ≤ c.fields.at = omega (arith, a.short, c.min-end.ensures, c.if-end-at.true, c.field_size.ensures) in
    subst (IsPartial c.args.grammar) (take_all c.fields.at c.args.bytes.now over)
    (is_grown c.args.grammar c.fields.due (take c.fields.at c.args.bytes.now) a.rest Front (sym (c.is_whole.ensures.no c.if-is_whole.false)) a.sound)

pub fields-preserved : goal.fields-preserved
fields-preserved c =
    let bytes : List ℕ = c.args.bytes.now in
    let end : ℕ = c.min-end.result in
    let others : take (length bytes - end) (drop end bytes) ≡ drop end bytes = take_all (length bytes - end) (drop end bytes) (omega (arith, length-drop end bytes)) in
    let field = awaits_next c.args.grammar c.fields.due c.in-Done.next (take c.fields.at bytes) _ _ 0 0 c.fields.invariant.1 c.in-Done.ensures
    (next_field bytes c.fields.at end (omega (arith, c.min-end.ensures, c.fields.invariant.0))) refl in (
      omega (arith, c.min-end.ensures, c.pass_scalars-next.ensures.within, length-drop end bytes),
      awaits_next c.args.grammar c.in-Done.next c.pass_scalars-next.result.0 (take end bytes) _ _ 0 0 field c.pass_scalars-next.ensures.leaves
          (ap (λ l. take end bytes ++ take c.pass_scalars-next.result.1 l) others ∙ sym (take-add end c.pass_scalars-next.result.1 bytes)) refl,
    )

pub returns-in-Front : goal.returns-in-Front
returns-in-Front c =
    let bytes : List ℕ = c.args.bytes.now in
    let at : ℕ = c.fields.at in
    let end : ℕ = c.min-end.result in
    let le : at ≤ end = omega (arith, c.min-end.ensures, c.fields.invariant.0) in
    let long : length (take (end - at) (drop at bytes)) ≡ end - at = length-take-le (end - at) (drop at bytes) (omega (arith, c.min-end.ensures, length-drop at bytes)) in
    subst (IsPartial c.args.grammar) (next_field bytes at end le ∙ take_all end bytes (omega (arith, c.min-end.ensures, c.in-Front.ensures.0, long, c.field_size.ensures)))
    (is_front c.args.grammar c.fields.due (take at bytes) c.fields.invariant.1.rest _ c.in-Front.ensures.1)

pub returns-in-Bad : goal.returns-in-Bad
returns-in-Bad c =
    let bytes : List ℕ = c.args.bytes.now in
    let at : ℕ = c.fields.at in
    let end : ℕ = c.min-end.result in
    let le : at ≤ end = omega (arith, c.min-end.ensures, c.fields.invariant.0) in
    let long : length (take (end - at) (drop at bytes)) ≡ end - at = length-take-le (end - at) (drop at bytes) (omega (arith, c.min-end.ensures, length-drop at bytes)) in
    subst (IsBad c.args.grammar) (ap (λ (l : List ℕ). l ++ drop end bytes) (next_field bytes at end le) ∙ take-append-drop end bytes)
    (none_begins c.args.grammar c.fields.due (take at bytes) _ (drop end bytes) c.fields.invariant.1 (c.is_whole.ensures.no c.if-is_whole.false)
    (omega (arith, long, c.min-end.ensures, c.field_size.ensures)) c.in-Bad.ensures)
