use Rattle.std.proofs.Common.{subst}
use Rattle.std.specs.Prelude.{Ok}
use Rattle.origin_model.specs.order.Printed.{manuscript}
use Rattle.command_kinds.proofs.ActLemmas.{reported_performs}
use Rattle.command_kinds.specs.Changes.{change}
use Rattle.command_kinds.specs.TextOut.{GoesOut, printing}
use Rattle.command_kinds.proofs.printing.print.Goals as goal

pub returns-in-Ok : goal.returns-in-Ok
returns-in-Ok g c =
    let output = change (g.O.Out.seen c.args.output.now) (g.O.Out.seen c.write_manuscript.new.output) in
    record {
      result = Ok tt;
      did = subst (GoesOut (manuscript c.args.replica.now.held.history) output) c.in-Ok.is (c.gone_out.ensures _ _ _ c.write_manuscript.ensures.text);
      reported = record { noted = rw c.of.ensures at c.note.ensures.meets; counts_no_fault = c.note.ensures.counts_no_fault; blameless = c.note.ensures.blameless };
    }

pub returns-in-Err : goal.returns-in-Err
returns-in-Err g c =
    let output = change (g.O.Out.seen c.args.output.now) (g.O.Out.seen c.write_manuscript.new.output) in
    rw c.tell.ensures.status (reported_performs (printing c.args.replica.now.held c.args.tally output) _ c.in-Err.why
    (subst (GoesOut (manuscript c.args.replica.now.held.history) output) c.in-Err.is (c.gone_out.ensures _ _ _ c.write_manuscript.ensures.text))
    c.tell.ensures.reported)
