use Rattle.std.proofs.Common.{List, ap, arith, get_or, length, subst, ◌<◌, ◌∙◌, ◌≡◌}
use Rattle.std.specs.Prelude.{Err, Ok}
use Rattle.std.proofs.lemmas.Result.{err_from_is_err_and}
use Rattle.fugue_ids.specs.Gathers.{GathersText}
use Rattle.fugue_ids.specs.Identifiers.{Identifier}
use Rattle.fugue_ids.proofs.GatherLemmas.{gathers_none, gathers_parts_grow, gathers_parts_stop}
use Rattle.catalogue_notes.specs.Arranged.{arranged}
use Rattle.change_marks.specs.Changes.{section_changes}
use Rattle.catalogue_notes.proofs.RetitlingLemmas.{arranged_section}
use Rattle.change_marks.proofs.LaterLemmas.{arranged_listed, arranged_member}
use Rattle.change_marks.proofs.changes.put_sections.Goals as goal

pub walk-init : goal.walk-init
walk-init g c = gathers_none tt _ _

pub walk-preserved : goal.walk-preserved
walk-preserved g c =
    let f = section_changes c.args.then.now c.args.now.now in
    let xs : List Identifier = arranged c.args.now.now in
    let below : c.walk.section-index < length xs = omega (arith, c.walk-test.true, ap length c.sections-sections.ensures) in
    let is : c.section-item.result ≡ get_or xs c.walk.section-index c.section-item.result =
    c.section-item.is ∙ ap (λ ys. get_or ys c.walk.section-index c.section-item.result) c.sections-sections.ensures in
    gathers_parts_grow f xs c.walk.section-index c.section-item.result tt tt _ _ _ _ _ _ below c.walk.invariant
    (subst (λ x. GathersText {T = Unit {0}} (g.O.Out.seen c.walk.output) (g.O.Out.seen c.put_section.new.output) c.walk.gather c.put_section.new.gather (Ok tt) (f x)) is
    c.in_ok-put_section.ensures)

pub returns-in_err-put_section : goal.returns-in_err-put_section
returns-in_err-put_section g c =
    let f = section_changes c.args.then.now c.args.now.now in
    let xs : List Identifier = arranged c.args.now.now in
    let below : c.walk.section-index < length xs = omega (arith, c.walk-test.true, ap length c.sections-sections.ensures) in
    let is : c.section-item.result ≡ get_or xs c.walk.section-index c.section-item.result =
    c.section-item.is ∙ ap (λ ys. get_or ys c.walk.section-index c.section-item.result) c.sections-sections.ensures in
    let p = err_from_is_err_and c.from_residual.result c.from_residual.ensures.1 in
    rw p.1 (gathers_parts_stop f xs c.walk.section-index c.section-item.result tt _ _ _ _ _ _ below c.walk.invariant
    (subst (λ x. GathersText {T = Unit {0}} (g.O.Out.seen c.walk.output) (g.O.Out.seen c.put_section.new.output) c.walk.gather c.put_section.new.gather (Err (record {})) (f x)) is
    c.in_err-put_section.ensures))

pub put_section-requires-clause-section : goal.put_section-requires-clause-section
put_section-requires-clause-section g c =
    let h = c.args.now.now in
    let xs : List Identifier = arranged h in
    let below : c.walk.section-index < length xs = omega (arith, c.walk-test.true, ap length c.sections-sections.ensures) in
    let is : c.section-item.result ≡ get_or xs c.walk.section-index c.section-item.result =
    c.section-item.is ∙ ap (λ ys. get_or ys c.walk.section-index c.section-item.result) c.sections-sections.ensures in
    arranged_section h c.section-item.result c.requires.lawful (arranged_member h c.walk.section-index c.section-item.result below is)

pub put_section-requires-clause-listed : goal.put_section-requires-clause-listed
put_section-requires-clause-listed g c =
    let h = c.args.now.now in
    let xs : List Identifier = arranged h in
    let below : c.walk.section-index < length xs = omega (arith, c.walk-test.true, ap length c.sections-sections.ensures) in
    let is : c.section-item.result ≡ get_or xs c.walk.section-index c.section-item.result =
    c.section-item.is ∙ ap (λ ys. get_or ys c.walk.section-index c.section-item.result) c.sections-sections.ensures in
    (arranged_listed h c.section-item.result (arranged_member h c.walk.section-index c.section-item.result below is)).0
