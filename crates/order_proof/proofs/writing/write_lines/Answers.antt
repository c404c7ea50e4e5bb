use Rattle.std.proofs.Common.{subst}
use Rattle.std.specs.Prelude.{Err}
use Rattle.std.proofs.lemmas.Result.{err_from_is_err_and}
use Rattle.fugue_ids.specs.Outs.{WritesBytes}
use Rattle.fugue_ids.specs.declared.out.Failed.{Failed}
use Rattle.fugue_ids.proofs.JoinLemmas.{parts_stop}
use Rattle.order_proof.specs.declared.writing.Line.{Line}
use Rattle.order_proof.specs.Texts.{word_with_ids}
use Rattle.order_proof.proofs.writing.write_lines.Goals as goal

pub returns-in_err-write_line : goal.returns-in_err-write_line
returns-in_err-write_line g c =
    let p = err_from_is_err_and c.from_residual.result c.from_residual.ensures.1 in
    let failed = subst (λ (z : Line). WritesBytes {E = Failed} {T = Unit {0}} (g.O.Out.seen c.lines.out) (g.O.Out.seen c.write_line.new.out) (Err c.in_err-write_line.field-0.0)
    (word_with_ids z.word.now z.ids.now)) c.line-item.is c.in_err-write_line.ensures in
    rw p.1 (parts_stop (λ (line : Line). word_with_ids line.word.now line.ids.now) c.args.lines.now c.lines.line-index c.line-item.result _ tt _ _ _ c.lines-test.true
    c.lines.invariant failed)
