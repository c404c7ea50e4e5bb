use Rattle.std.proofs.Common.{subst}
use Rattle.fugue_ids.specs.Outs.{WritesBytes}
use Rattle.fugue_ids.specs.declared.out.Failed.{Failed}
use Rattle.origin_model.specs.order.Printed.{manuscript as manuscript_on}
use Rattle.replica_core.proofs.accepted.Accepted.write_manuscript.Goals as goal

pub returns : goal.returns
returns g c =
    subst (λ h. WritesBytes {E = Failed} {T = Unit {0}} (g.O.Out.seen c.args.output.now) (g.O.Out.seen c.write_all.new.output) c.write_all.result (manuscript_on h)) c.self.view_is
    (c.write_all.ensures.text c.self.inside.history c.self.invariant.represents)
