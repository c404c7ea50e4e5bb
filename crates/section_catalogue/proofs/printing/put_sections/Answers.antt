use Rattle.std.proofs.Common.{length, subst, sym, ◌<◌, ◌∙◌}
use Rattle.std.specs.Prelude.{flat_map}
use Rattle.std.proofs.lemmas.Result.{err_from_is_err_and}
use Rattle.run_store.specs.Cells.{cell_ids, cells_shown}
use Rattle.section_catalogue.specs.Section.{printed_at}
use Rattle.section_catalogue.proofs.PrintingLemmas.{IsUnderWay, fewer, next_part, no_part, under_way_ends, under_way_grows, under_way_start, under_way_stops}
use Rattle.section_catalogue.proofs.printing.put_sections.Goals as goal

pub sections-init : goal.sections-init
sections-init g c =
    let f = printed_at c.args.sections.now.entries in
    let whole = flat_map f (cell_ids (cells_shown c.args.catalogue.now.cells)) in
    subst (λ xs. IsUnderWay (g.O.Out.seen c.args.output.now) (g.O.Out.seen c.args.output.now) c.args.gather.now c.args.gather.now whole (flat_map f xs)) (sym c.shown-shown.ensures)
    (under_way_start (g.O.Out.seen c.args.output.now) c.args.gather.now whole)

pub sections-preserved : goal.sections-preserved
sections-preserved g c =
    let f = printed_at c.args.sections.now.entries in
    subst (λ xs. IsUnderWay (g.O.Out.seen c.args.output.now) (g.O.Out.seen c.put_at.new.output) c.args.gather.now c.put_at.new.gather
    (flat_map f (cell_ids (cells_shown c.args.catalogue.now.cells))) (flat_map f xs))
    (sym c.step.ensures.rest)
    (under_way_grows _ _ _ _ _ _ _ _ _ _ c.sections.invariant (next_part f c.sections.shown c.in-Some.id (sym c.in-Some.is ∙ c.step.ensures.first)) c.in_ok-put_at.ensures)

pub sections-smaller : goal.sections-smaller
sections-smaller g c = subst (λ xs. length xs < length c.sections.shown) (sym c.step.ensures.rest) (fewer c.sections.shown c.in-Some.id (sym c.in-Some.is ∙ c.step.ensures.first))

pub returns-in_err-put_at : goal.returns-in_err-put_at
returns-in_err-put_at g c =
    let f = printed_at c.args.sections.now.entries in
    let p = err_from_is_err_and c.from_residual.result c.from_residual.ensures.1 in
    rw p.1 (under_way_stops _ _ _ _ _ _ _ _ _ _ c.sections.invariant (next_part f c.sections.shown c.in-Some.id (sym c.in-Some.is ∙ c.step.ensures.first)) c.in_err-put_at.ensures)

pub returns : goal.returns
returns g c =
    under_way_ends _ _ _ _ _ _ c.sections.invariant (no_part (printed_at c.args.sections.now.entries) c.sections.shown (sym c.in_default.is ∙ c.step.ensures.first))
