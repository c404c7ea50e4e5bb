use Rattle.std.proofs.Common.{ap, length, subst, sym, ◌<◌}
use Rattle.std.specs.Prelude.{Err, IfSome, None, Some}
use Rattle.std.specs.List.{Contains}
use Rattle.std.proofs.lemmas.Result.{err_from_is_err_and}
use Rattle.fugue_ids.specs.Gathers.{GathersText}
use Rattle.origin_model.specs.edits.Landing.{following}
use Rattle.section_catalogue.proofs.PrintingLemmas.{IsUnderWay, under_way_grows, under_way_start, under_way_stops}
use Rattle.run_store.specs.Cells.{cell_ids}
use Rattle.change_marks.specs.Marks.{printed_mark}
use Rattle.change_marks.specs.Steps.{parts_from}
use Rattle.change_marks.proofs.RunLemmas.{parts_marked}
use Rattle.change_marks.proofs.WritingLemmas.{under_way_last}
use Rattle.change_marks.proofs.WalkLemmas.{follows_in, from_first, from_next, one_less, turn}
use Rattle.change_marks.proofs.runs.put_runs.Goals as goal

pub elements-init : goal.elements-init
elements-init g c =
    let ids = cell_ids c.args.list.now.cells in
    let h = c.args.replica.now.held.history in
    let key = printed_mark c.args.is_dropped c.args.front.now.held.history h in
    let u = g.O.Out.seen c.args.output.now in
    let p = c.args.gather.now in
    let whole = parts_from h key None ids in
    let start = subst (λ l. IsUnderWay u u p p whole (parts_from h key None l)) (sym (from_first ids)) (under_way_start u p whole) in (
      subst (λ o. IsUnderWay u u p p whole (parts_from h key None (from_next ids o))) (sym c.after-next.ensures) start,
      subst (λ o. IfSome o (Contains ids)) (sym c.after-next.ensures) (follows_in ids None),
    )

pub returns-in_err-put_element : goal.returns-in_err-put_element
returns-in_err-put_element g c =
    let ids = cell_ids c.args.list.now.cells in
    let h = c.args.replica.now.held.history in
    let key = printed_mark c.args.is_dropped c.args.front.now.held.history h in
    let p = err_from_is_err_and c.from_residual.result c.from_residual.ensures.1 in
    rw p.1 (subst (GathersText {T = Unit {0}} (g.O.Out.seen c.args.output.now) (g.O.Out.seen c.put_element.new.output) c.args.gather.now c.put_element.new.gather
    (Err (record {}))) (parts_marked h key ids)
    (under_way_stops _ _ _ _ _ _ _ _ _ _ c.elements.invariant.0
    (ap (parts_from h key c.elements.begun) (turn ids c.elements.next c.in-Some.id c.requires.once c.elements.invariant.1 c.in-Some.is)) c.in_err-put_element.ensures.text))

pub elements-smaller : goal.elements-smaller
elements-smaller g c =
    let ids = cell_ids c.args.list.now.cells in
    subst (λ o. length (from_next ids o) < length (from_next ids c.elements.next)) (sym c.after-next-in-Some.ensures)
    (one_less ids c.elements.next c.in-Some.id c.requires.once c.elements.invariant.1 c.in-Some.is)

pub elements-preserved : goal.elements-preserved
elements-preserved g c =
    let ids = cell_ids c.args.list.now.cells in
    let h = c.args.replica.now.held.history in
    let key = printed_mark c.args.is_dropped c.args.front.now.held.history h in
    let u = g.O.Out.seen c.args.output.now in
    let v = g.O.Out.seen c.put_element.new.output in
    let whole = parts_from h key None ids in
    let grown = under_way_grows _ _ _ _ _ _ _ _ _ _ c.elements.invariant.0
    (ap (parts_from h key c.elements.begun) (turn ids c.elements.next c.in-Some.id c.requires.once c.elements.invariant.1 c.in-Some.is)) c.in_ok-put_element.ensures.text in
    let begun = subst (λ o. IsUnderWay u v c.args.gather.now c.put_element.new.gather whole (parts_from h key o (from_next ids (following ids (Some c.in-Some.id)))))
    (sym c.in_ok-put_element.ensures.begun) grown in (
      subst (λ o. IsUnderWay u v c.args.gather.now c.put_element.new.gather whole (parts_from h key c.put_element.new.begun (from_next ids o)))
          (sym c.after-next-in-Some.ensures) begun,
      subst (λ o. IfSome o (Contains ids)) (sym c.after-next-in-Some.ensures) (follows_in ids (Some c.in-Some.id)),
    )

pub returns : goal.returns
returns g c =
    let ids = cell_ids c.args.list.now.cells in
    let h = c.args.replica.now.held.history in
    let key = printed_mark c.args.is_dropped c.args.front.now.held.history h in
    subst (GathersText {T = Unit {0}} (g.O.Out.seen c.args.output.now) (g.O.Out.seen c.put_closing.new.output) c.args.gather.now c.put_closing.new.gather c.put_closing.result)
    (parts_marked h key ids)
    (under_way_last c.put_closing.result _ _ _ _ _ _ _ _ _ c.elements.invariant.0
    (ap (λ o. parts_from h key c.elements.begun (from_next ids o)) c.in_default.is) c.put_closing.ensures)
