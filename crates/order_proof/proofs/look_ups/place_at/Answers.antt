use Rattle.std.proofs.Common.{ap, refl, sym, ◌∙◌}
use Rattle.op_runs.specs.Finding.{op_of}
use Rattle.order_proof.proofs.PositionLemmas.{holder_at, holder_none, place_by}
use Rattle.order_proof.proofs.look_ups.place_at.Goals as goal

pub returns-in-Some : goal.returns-in-Some
returns-in-Some g c =
    c.place_of.ensures ∙ sym
    (ap place_by (holder_at (g.P.Positions.operations c.args.held.now) c.args.end c.args.x c.in-Some.field-0-0 (op_of c.in-Some.op) c.in-Some.ensures.some))

pub returns-in-None : goal.returns-in-None
returns-in-None g c = sym (ap place_by (holder_none (g.P.Positions.operations c.args.held.now) c.args.end c.args.x (c.in-None.ensures.none refl)))
