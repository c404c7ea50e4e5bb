use Rattle.std.proofs.Common.{refl}
use Rattle.command_kinds.proofs.ReportLemmas.{load_refused, report_written}
use Rattle.manuscript_cli.specs.Moments.{moments_reports}
use Rattle.manuscript_cli.proofs.MomentsLemmas.{moments_of_some, moments_reported_once}
use Rattle.manuscript_cli.proofs.moments.write_moments.Goals as goal

pub returns-in-Ok : goal.returns-in-Ok
returns-in-Ok g c =
    let moments = c.in-Ok.moments.items in
    record {
      moments = moments;
      are = λ replica end holds. c.in-Ok.ensures.moments;
      reports = report_written (moments_reports moments) (moments_reported_once moments) _ _ _ _ c.in-Ok.ensures.meets _ _ c.write_held-status.ensures;
    }

pub returns-in-Err : goal.returns-in-Err
returns-in-Err g c =
    let some = moments_of_some (g.H.Disk.seen c.args.home.now) in
    record {
      moments = some.0;
      are = some.1;
      reports = rw c.tell.ensures.status (rw c.from.ensures
          (load_refused (moments_reports some.0) (moments_reported_once some.0) _ _ _ refl c.in-Err.fault c.in-Err.ensures.meets (rw c.from.ensures at c.tell.ensures.reported)));
    }
