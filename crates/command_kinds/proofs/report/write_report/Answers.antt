use Rattle.std.proofs.Common.{refl}
use Rattle.command_kinds.proofs.ReportLemmas.{load_refused, report_written}
use Rattle.command_kinds.proofs.report.write_report.Goals as goal

pub returns-in-Ok : goal.returns-in-Ok
returns-in-Ok g c = report_written _ c.laws.ensures _ _ _ _ c.in-Ok.ensures _ _ c.write_held-status.ensures

pub returns-in-Err : goal.returns-in-Err
returns-in-Err g c =
    rw c.tell.ensures.status (rw c.from.ensures (load_refused _ c.laws.ensures _ _ _ refl c.in-Err.fault c.in-Err.ensures (rw c.from.ensures at c.tell.ensures.reported)))
