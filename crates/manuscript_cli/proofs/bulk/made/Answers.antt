use Rattle.std.proofs.Common.{ap, subst}
use Rattle.bulk_world.specs.Summary.{summary_text}
use Rattle.command_kinds.specs.TextOut.{GoesOut}
use Rattle.command_kinds.specs.Changes.{change}
use Rattle.manuscript_cli.proofs.bulk.made.Goals as goal

pub returns : goal.returns
returns g c =
    subst (λ text. GoesOut text (change (g.O.Out.seen c.args.output.now) (g.O.Out.seen c.write_summary.new.output)) c.gone_out.result) (ap summary_text c.in_ok-summary.ensures)
    (c.gone_out.ensures _ _ _ c.write_summary.ensures)
