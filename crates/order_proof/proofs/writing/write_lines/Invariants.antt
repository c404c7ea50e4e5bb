use Rattle.std.proofs.Common.{take}
use Rattle.std.specs.Prelude.{Ok, flat_map}
use Rattle.fugue_ids.specs.Outs.{WritesBytes}
use Rattle.fugue_ids.specs.declared.out.Failed.{Failed}
use Rattle.order_proof.specs.Texts.{word_with_ids}
use Rattle.order_proof.proofs.writing.write_lines.Given as goal

abbrev pub invariant-lines : goal.invariant-lines
invariant-lines g l = WritesBytes {E = Failed} {T = Unit {0}} (g.O.Out.seen l.initial.out) (g.O.Out.seen l.out) (Ok tt)
    (flat_map (λ line. word_with_ids line.word.now line.ids.now) (take l.line-index l.lines))
