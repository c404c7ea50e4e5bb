use Rattle.origin_model.proofs.Words.{Err, List, Ok, ap, flat_map, reverse, subst, take_all, ℕ, ◌∙◌}
use Rattle.std.proofs.lemmas.Result.{err_from_is_err_and}
use Rattle.fugue_ids.specs.declared.out.Failed.{Failed}
use Rattle.fugue_ids.proofs.JoinLemmas.{parts_stop}
use Rattle.fugue_ids.specs.Outs.{WritesBytes}
use Rattle.origin_model.specs.declared.order.listing.Listed.{Listed}
use Rattle.origin_model.specs.declared.operations.Place.TheVariants.{Section}
use Rattle.origin_model.specs.order.Listed.{part, scalar_bytes_of}
use Rattle.origin_model.proofs.order.PrintedLemmas.{text_parts}
use Rattle.origin_model.proofs.order.printing.write_text.Goals as goal

pub returns-in_err-write_element : goal.returns-in_err-write_element
returns-in_err-write_element g c =
    let h = reverse c.args.ops.now in
    let es = c.args.listed.now in
    let f = part (scalar_bytes_of h) h (Section c.args.section) in
    let d = c.e-item.result in
    let p = err_from_is_err_and c.from_residual.result c.from_residual.ensures.1 in
    let failed = subst (λ (z : Listed). WritesBytes {E = Failed} {T = Unit {0}} (g.O.Out.seen c.elements.out) (g.O.Out.seen c.write_element.new.out)
    (Err c.in_err-write_element.field-0.0) (f z)) c.e-item.is c.in_err-write_element.ensures in
    let stopped = parts_stop f es c.elements.e-index d _ tt _ _ _ c.elements-test.true c.elements.invariant failed in
    rw p.1 (subst (λ (t : List ℕ). WritesBytes {E = Failed} {T = Unit {0}} (g.O.Out.seen c.args.out.now) (g.O.Out.seen c.write_element.new.out)
    (Err c.in_err-write_element.field-0.0) t) (text_parts h c.args.section es c.requires) stopped)

pub returns : goal.returns
returns g c =
    let h = reverse c.args.ops.now in
    let es = c.args.listed.now in
    let f = part (scalar_bytes_of h) h (Section c.args.section) in
    let all = ap (flat_map f) (take_all c.elements.e-index es c.elements-test.false) ∙ text_parts h c.args.section es c.requires in
    subst (λ (t : List ℕ). WritesBytes {E = Failed} {T = Unit {0}} (g.O.Out.seen c.args.out.now) (g.O.Out.seen c.elements.out) (Ok tt) t) all c.elements.invariant
