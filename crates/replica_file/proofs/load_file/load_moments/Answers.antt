use Rattle.std.proofs.lemmas.Result.{IfOk-weaker, err_from_is_err_and}
use Rattle.replica_file.specs.Moments.{HasMoments}
use Rattle.replica_file.proofs.LoadLemmas.{loads_settled, seen_stays, sync_fails}
use Rattle.replica_file.proofs.load_file.load_moments.Goals as goal

pub returns-in_err-sync-clause-meets : goal.returns-in_err-sync-clause-meets
returns-in_err-sync-clause-meets g c =
    let p = err_from_is_err_and c.from_residual.result c.from_residual.ensures.1 in
    rw (p.1, p.2) (sync_fails c.args.most (g.H.Disk.seen c.args.disk.now) (g.H.Disk.seen c.sync.new.self) _ c.in_err-sync.ensures)

pub returns-clause-meets : goal.returns-clause-meets
returns-clause-meets g c =
    let read = c.read_all.ensures in
    loads_settled c.args.most (g.H.Disk.seen c.args.disk.now) (g.H.Disk.seen c.sync.new.self)
    (g.H.Disk.seen c.read_all.new.disk) _ c.in_ok-sync.ensures c.read_all.result read.looks read.cause read.ready
    read.reaches read.reach

pub returns-clause-moments : goal.returns-clause-moments
returns-clause-moments g c =
    IfOk-weaker c.read_all.result _ _
    (λ loaded. seen_stays (λ bytes. HasMoments bytes loaded.2.items) (g.H.Disk.seen c.args.disk.now).past (g.H.Disk.seen c.sync.new.self).past c.in_ok-sync.ensures.settled)
    c.read_all.ensures.moments_are
