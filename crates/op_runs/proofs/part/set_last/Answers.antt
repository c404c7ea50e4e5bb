use Rattle.std.proofs.Common.{◌≡◌, ◌-◌, ◌∙◌, ap, length}
use Rattle.std.specs.Prelude.{set}
use Rattle.op_runs.proofs.PartLemmas.{set_last}
use Rattle.op_runs.proofs.part.set_last.Goals as goal

pub returns : goal.returns
returns c = λ front last e.
    let n : length c.as_slice.result.now ≡ length c.args.parts.now.items = ap length c.as_slice.ensures.value in
    (λ i. set (e i) ((n ∙ ap length e) i - 1) c.args.part) ∙ set_last front last c.args.part
