use Rattle.std.proofs.Common.{sym, ◌∙◌}
use Rattle.draft_plan.proofs.PartLemmas.{not_at_heading, not_empty, passed_line, passed_none, text_passed}
use Rattle.draft_plan.proofs.reading.split_text.Goals as goal

pub lines-init : goal.lines-init
lines-init c = passed_none c.args.draft.now

pub lines-preserved : goal.lines-preserved
lines-preserved c =
    let on = sym c.ends_text.ensures ∙ c.lines-test.true in
    passed_line c.args.draft.now c.lines.rest.now c.split_line.result.0.now c.split_line.result.1.now (not_empty c.lines.rest.now on) c.lines.invariant
    c.split_line.ensures (not_at_heading c.lines.rest.now c.split_line.result.0.now c.split_line.result.1.now on c.split_line.ensures)

pub split_line-requires : goal.split_line-requires
split_line-requires c = not_empty c.lines.rest.now (sym c.ends_text.ensures ∙ c.lines-test.true)

pub returns : goal.returns
returns c =
    text_passed c.args.draft.now c.lines.rest.now c.without_line_feed.result.now c.lines.invariant (sym c.ends_text.ensures ∙ c.lines-test.false) c.without_line_feed.ensures
