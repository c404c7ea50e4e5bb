use Rattle.origin_model.proofs.Words.{Catalogue, Err, List, Ok, ap, flat_map, printed_section, reverse, subst, take_all, ℕ, ◌∙◌}
use Rattle.std.proofs.lemmas.Result.{err_from_is_err_and}
use Rattle.fugue_ids.specs.declared.out.Failed.{Failed}
use Rattle.fugue_ids.proofs.JoinLemmas.{parts_stop}
use Rattle.fugue_ids.specs.Outs.{WritesBytes}
use Rattle.origin_model.specs.declared.order.listing.Listed.{Listed}
use Rattle.origin_model.specs.order.Listed.{part}
use Rattle.origin_model.proofs.order.PrintedLemmas.{manuscript_parts}
use Rattle.origin_model.proofs.order.printing.write_manuscript.Goals as goal

pub returns-in_err-write_section : goal.returns-in_err-write_section
returns-in_err-write_section g c =
    let h = reverse c.args.ops.now in
    let es = c.args.listed.now in
    let f = part (printed_section h) h Catalogue in
    let d = c.e-item.result in
    let p = err_from_is_err_and c.from_residual.result c.from_residual.ensures.1 in
    let failed = subst (λ (z : Listed). WritesBytes {E = Failed} {T = Unit {0}} (g.O.Out.seen c.sections.out) (g.O.Out.seen c.write_section.new.out)
    (Err c.in_err-write_section.field-0.0) (f z)) c.e-item.is c.in_err-write_section.ensures in
    let stopped = parts_stop f es c.sections.e-index d _ tt _ _ _ c.sections-test.true c.sections.invariant failed in
    rw p.1 (subst (λ (t : List ℕ). WritesBytes {E = Failed} {T = Unit {0}} (g.O.Out.seen c.args.out.now) (g.O.Out.seen c.write_section.new.out)
    (Err c.in_err-write_section.field-0.0) t) (manuscript_parts h es c.requires) stopped)

pub returns : goal.returns
returns g c =
    let h = reverse c.args.ops.now in
    let es = c.args.listed.now in
    let f = part (printed_section h) h Catalogue in
    let all = ap (flat_map f) (take_all c.sections.e-index es c.sections-test.false) ∙ manuscript_parts h es c.requires in
    subst (λ (t : List ℕ). WritesBytes {E = Failed} {T = Unit {0}} (g.O.Out.seen c.args.out.now) (g.O.Out.seen c.sections.out) (Ok tt) t) all c.sections.invariant
