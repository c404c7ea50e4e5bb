use Rattle.std.proofs.Common.{ap, reverse, sym, ◌∙◌}
use Rattle.order_proof.specs.Chains.{beside_up}
use Rattle.order_proof.specs.Positions.{history_at}
use Rattle.order_proof.proofs.BesideLemmas.{rights_beside}
use Rattle.order_proof.proofs.chains.rights_of.Goals as goal

pub returns : goal.returns
returns g c =
    let h = history_at (g.P.Positions.operations c.args.held.now) c.args.end in
    c.reverse.ensures.items ∙ ap reverse (c.in_ok-found.ensures ∙ ap (λ l. beside_up h l c.args.x) c.left_at.ensures) ∙ sym (rights_beside h c.args.x)
