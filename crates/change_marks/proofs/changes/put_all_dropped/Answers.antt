use Rattle.std.proofs.Common.{List, ap, arith, get_or, length, subst, ◌<◌, ◌∙◌, ◌≡◌}
use Rattle.std.specs.Prelude.{Err, Ok}
use Rattle.std.proofs.lemmas.Result.{err_from_is_err_and}
use Rattle.fugue_ids.specs.Gathers.{GathersText}
use Rattle.fugue_ids.specs.Identifiers.{Identifier}
use Rattle.fugue_ids.proofs.GatherLemmas.{gathers_none, gathers_parts_grow, gathers_parts_stop}
use Rattle.catalogue_notes.specs.Arranged.{arranged}
use Rattle.change_marks.specs.Steps.{dropped_part}
use Rattle.change_marks.proofs.changes.put_all_dropped.Goals as goal

pub walk-init : goal.walk-init
walk-init g c = gathers_none tt _ _

pub walk-preserved : goal.walk-preserved
walk-preserved g c =
    let f = dropped_part c.args.then.now c.args.now.now in
    let xs : List Identifier = arranged c.args.then.now in
    let below : c.walk.section-index < length xs = omega (arith, c.walk-test.true, ap length c.sections-sections.ensures) in
    let is : c.section-item.result ≡ get_or xs c.walk.section-index c.section-item.result =
    c.section-item.is ∙ ap (λ ys. get_or ys c.walk.section-index c.section-item.result) c.sections-sections.ensures in
    gathers_parts_grow f xs c.walk.section-index c.section-item.result tt tt _ _ _ _ _ _ below c.walk.invariant
    (subst (λ x. GathersText {T = Unit {0}} (g.O.Out.seen c.walk.output) (g.O.Out.seen c.put_where_dropped.new.output) c.walk.gather c.put_where_dropped.new.gather (Ok tt) (f x))
    is c.in_ok-put_where_dropped.ensures)

pub returns-in_err-put_where_dropped : goal.returns-in_err-put_where_dropped
returns-in_err-put_where_dropped g c =
    let f = dropped_part c.args.then.now c.args.now.now in
    let xs : List Identifier = arranged c.args.then.now in
    let below : c.walk.section-index < length xs = omega (arith, c.walk-test.true, ap length c.sections-sections.ensures) in
    let is : c.section-item.result ≡ get_or xs c.walk.section-index c.section-item.result =
    c.section-item.is ∙ ap (λ ys. get_or ys c.walk.section-index c.section-item.result) c.sections-sections.ensures in
    let p = err_from_is_err_and c.from_residual.result c.from_residual.ensures.1 in
    rw p.1 (gathers_parts_stop f xs c.walk.section-index c.section-item.result tt _ _ _ _ _ _ below c.walk.invariant
    (subst (λ x. GathersText {T = Unit {0}} (g.O.Out.seen c.walk.output) (g.O.Out.seen c.put_where_dropped.new.output) c.walk.gather c.put_where_dropped.new.gather
    (Err (record {})) (f x)) is c.in_err-put_where_dropped.ensures))
