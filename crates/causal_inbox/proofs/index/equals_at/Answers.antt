use Rattle.std.proofs.Common.{ap, arith, sym, ◌≡◌, ◌∙◌}
use Rattle.std.proofs.lemmas.Grind.{common_steps}
use Rattle.std.specs.Prelude.{Some}
use Rattle.causal_inbox.specs.Index.{is_equal}
use Rattle.causal_inbox.proofs.index.equals_at.Goals as goal

pub returns : goal.returns
returns c =
    let here : c.eq.result ≡ is_equal c.args.op.now (Some c.get.result.now) = grind (arith, common_steps) in
    here ∙ sym (ap (is_equal c.args.op.now) c.get.ensures)
