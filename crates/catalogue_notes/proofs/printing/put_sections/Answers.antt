use Rattle.std.proofs.Common.{List, ap, arith, get_or, length, subst, ◌<◌, ◌∙◌, ◌≡◌}
use Rattle.std.specs.Prelude.{Err, Ok}
use Rattle.std.proofs.lemmas.Result.{err_from_is_err_and}
use Rattle.fugue_ids.specs.Gathers.{GathersText}
use Rattle.fugue_ids.specs.Identifiers.{Identifier}
use Rattle.fugue_ids.proofs.GatherLemmas.{gathers_none, gathers_parts_grow, gathers_parts_stop}
use Rattle.catalogue_notes.specs.Printing.{printed_by}
use Rattle.catalogue_notes.proofs.printing.put_sections.Goals as goal

pub sections-init : goal.sections-init
sections-init g c = gathers_none tt _ _

pub sections-preserved : goal.sections-preserved
sections-preserved g c =
    let f = printed_by c.args.places.now c.args.replica.now.held.history c.args.layout.now in
    let xs : List Identifier = c.args.layout.now.arrangement.sections.items in
    let below : c.sections.section-index < length xs = omega (arith, c.sections-test.true, c.as_slice-section-items.ensures.len) in
    let is : c.section-item.result ≡ get_or xs c.sections.section-index c.section-item.result =
    c.section-item.is ∙ ap (λ ys. get_or ys c.sections.section-index c.section-item.result) c.as_slice-section-items.ensures.value in
    gathers_parts_grow f xs c.sections.section-index c.section-item.result tt tt _ _ _ _ _ _ below c.sections.invariant
    (subst (λ x. GathersText {T = Unit {0}} (g.O.Out.seen c.sections.output) (g.O.Out.seen c.put_section.new.output) c.sections.gather c.put_section.new.gather (Ok tt) (f x)) is
    c.in_ok-put_section.ensures)

pub returns-in_err-put_section : goal.returns-in_err-put_section
returns-in_err-put_section g c =
    let f = printed_by c.args.places.now c.args.replica.now.held.history c.args.layout.now in
    let xs : List Identifier = c.args.layout.now.arrangement.sections.items in
    let below : c.sections.section-index < length xs = omega (arith, c.sections-test.true, c.as_slice-section-items.ensures.len) in
    let is : c.section-item.result ≡ get_or xs c.sections.section-index c.section-item.result =
    c.section-item.is ∙ ap (λ ys. get_or ys c.sections.section-index c.section-item.result) c.as_slice-section-items.ensures.value in
    let p = err_from_is_err_and c.from_residual.result c.from_residual.ensures.1 in
    rw p.1 (gathers_parts_stop f xs c.sections.section-index c.section-item.result tt _ _ _ _ _ _ below c.sections.invariant
    (subst (λ x. GathersText {T = Unit {0}} (g.O.Out.seen c.sections.output) (g.O.Out.seen c.put_section.new.output) c.sections.gather c.put_section.new.gather (Err (record {}))
    (f x)) is c.in_err-put_section.ensures))
