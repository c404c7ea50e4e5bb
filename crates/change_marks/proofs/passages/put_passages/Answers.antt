use Rattle.std.proofs.Common.{ap, arith, length, subst, sym, ◌∙◌}
use Rattle.std.specs.Prelude.{Err, None, drop}
use Rattle.std.proofs.lemmas.Result.{err_from_is_err_and}
use Rattle.fugue_ids.specs.Gathers.{GathersText}
use Rattle.section_catalogue.proofs.PrintingLemmas.{IsUnderWay, under_way_grows, under_way_start, under_way_stops}
use Rattle.run_store.specs.Cells.{cell_ids, cells_shown}
use Rattle.change_marks.specs.Steps.{count_in, passage_lines}
use Rattle.change_marks.proofs.PassageLemmas.{counts_on, first_is, lines_of_passages, none_first}
use Rattle.change_marks.proofs.WritingLemmas.{under_way_last}
use Rattle.change_marks.proofs.passages.put_passages.Goals as goal

pub letters-init : goal.letters-init
letters-init g c =
    let all = cell_ids (cells_shown c.args.list.now.cells) in
    let u = g.O.Out.seen c.args.output.now in
    let p = c.args.gather.now in (
      subst (λ xs. IsUnderWay u u p p (passage_lines None all) (passage_lines None xs)) (sym c.shown-shown.ensures) (under_way_start u p (passage_lines None all)),
      omega (arith, ap length c.shown-shown.ensures),
    )

pub letters-preserved : goal.letters-preserved
letters-preserved g c =
    let all = cell_ids (cells_shown c.args.list.now.cells) in
    let u = g.O.Out.seen c.args.output.now in
    let v = g.O.Out.seen c.put_letter.new.output in
    let here = first_is c.letters.shown c.in-Some.id (sym c.in-Some.is ∙ c.step.ensures.first) in
    let grown = under_way_grows _ _ _ _ _ _ _ _ _ _ c.letters.invariant.0 (ap (passage_lines c.letters.begun) here) c.in_ok-put_letter.ensures.text in
    let begun = subst (λ o. IsUnderWay u v c.args.gather.now c.put_letter.new.gather (passage_lines None all) (passage_lines o (drop 1 c.letters.shown)))
    (sym c.in_ok-put_letter.ensures.begun) grown in (
      subst (λ xs. IsUnderWay u v c.args.gather.now c.put_letter.new.gather (passage_lines None all) (passage_lines c.put_letter.new.begun xs)) (sym c.step.ensures.rest) begun,
      omega (arith, ap count_in c.in_ok-put_letter.ensures.begun, counts_on c.letters.begun c.in-Some.id, ap length here, ap length c.step.ensures.rest, c.letters.invariant.1),
    )

pub returns-in_err-put_letter : goal.returns-in_err-put_letter
returns-in_err-put_letter g c =
    let all = cell_ids (cells_shown c.args.list.now.cells) in
    let here = first_is c.letters.shown c.in-Some.id (sym c.in-Some.is ∙ c.step.ensures.first) in
    let p = err_from_is_err_and c.from_residual.result c.from_residual.ensures.1 in
    rw p.1 (subst (GathersText {T = Unit {0}} (g.O.Out.seen c.args.output.now) (g.O.Out.seen c.put_letter.new.output) c.args.gather.now c.put_letter.new.gather (Err (record {})))
    (lines_of_passages all)
    (under_way_stops _ _ _ _ _ _ _ _ _ _ c.letters.invariant.0 (ap (passage_lines c.letters.begun) here) c.in_err-put_letter.ensures.text))

pub returns : goal.returns
returns g c =
    let all = cell_ids (cells_shown c.args.list.now.cells) in
    subst (GathersText {T = Unit {0}} (g.O.Out.seen c.args.output.now) (g.O.Out.seen c.put_end.new.output) c.args.gather.now c.put_end.new.gather c.put_end.result)
    (lines_of_passages all)
    (under_way_last c.put_end.result _ _ _ _ _ _ _ _ _ c.letters.invariant.0
    (ap (passage_lines c.letters.begun) (none_first c.letters.shown (sym c.in_default.is ∙ c.step.ensures.first))) c.put_end.ensures)
