use Rattle.std.proofs.Common.{ap, refl, sym, ◌∙◌}
use Rattle.origin_model.proofs.SharedLemmas.{right_by}
use Rattle.op_runs.specs.Finding.{op_of}
use Rattle.order_proof.proofs.PositionLemmas.{holder_at, holder_none}
use Rattle.order_proof.proofs.look_ups.right_at.Goals as goal

pub returns-in-Some : goal.returns-in-Some
returns-in-Some g c =
    c.right_of.ensures ∙ sym
    (ap right_by (holder_at (g.P.Positions.operations c.args.held.now) c.args.end c.args.x c.in-Some.field-0-0 (op_of c.in-Some.op) c.in-Some.ensures.some))

pub returns-in-None : goal.returns-in-None
returns-in-None g c = sym (ap right_by (holder_none (g.P.Positions.operations c.args.held.now) c.args.end c.args.x (c.in-None.ensures.none refl)))
