use Rattle.std.proofs.Common.{◌∙◌, ◌-◌, ap, sym}
use Rattle.std.specs.Prelude.{slice_get}
use Rattle.op_runs.specs.Parts.{part_ops}
use Rattle.op_runs.proofs.FindLemmas.{last_read}
use Rattle.op_runs.proofs.find.last_op.Goals as goal

pub returns-in-Some : goal.returns-in-Some
returns-in-Some c =
    let letters = c.args.letters.now in
    let others = c.args.others.now in
    c.op_in.ensures
    ∙ ap (λ n. slice_get (part_ops letters others c.in-Some.part) (n - 1)) c.len-len.ensures.is
    ∙ sym (last_read letters others c.args.parts.now c.in-Some.part c.in-Some.ensures.some c.requires)
