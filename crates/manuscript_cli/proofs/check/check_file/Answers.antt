use Rattle.std.proofs.Common.{inl, inr, refl}
use Rattle.replica_file.proofs.LoadLemmas.{loaded_synced}
use Rattle.command_kinds.proofs.CrashLemmas.{kept_never_torn}
use Rattle.command_kinds.proofs.LoadedLemmas.{keeps_file}
use Rattle.command_kinds.proofs.ReportLemmas.{load_refused, report_written}
use Rattle.command_kinds.specs.Changes.{change}
use Rattle.manuscript_cli.specs.Check.{check_reports, nothing_said}
use Rattle.manuscript_cli.proofs.CheckLemmas.{check_once}
use Rattle.manuscript_cli.proofs.check.check_file.Goals as goal

pub returns-in-Ok : goal.returns-in-Ok
returns-in-Ok g c =
    let loaded = c.in-Ok.ensures in
    let file = change (g.H.Disk.seen c.args.home.now) (g.H.Disk.seen c.load.new.disk) in
    elim c.check_held-status.ensures [
      | inl k ↦ inl (record {
        text = k.text;
        read = k.read;
        count = k.count;
        loaded = (_, _, loaded.cause, k.writes);
        reports = report_written (check_reports k.text) (check_once k.text) _ _ _ _ loaded _ _ k.writes;
      })
      | inr k ↦
          let keeps = keeps_file file _ loaded in
          let synced = (loaded_synced _ file.old file.new _ loaded).0 in
          inr (inl (record {
            none = k;
            holds = (_, _, loaded.cause);
            synced = synced;
            keeps = keeps;
            crash = kept_never_torn _ _ keeps (λ done. synced);
            file_blameless = λ tells not. loaded.faults.specified_no_fault tells (λ is. cc is);
          }))
    ]

pub returns-in-Err : goal.returns-in-Err
returns-in-Err g c =
    inr (inr (record {
      unread = refl;
      reports = rw c.tell.ensures.status (rw c.from.ensures
          (load_refused nothing_said (λ replica lawful a b one two. absurd one) _ _ _ refl c.in-Err.fault c.in-Err.ensures (rw c.from.ensures at c.tell.ensures.reported)));
    }))
