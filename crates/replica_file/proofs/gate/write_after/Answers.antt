use Rattle.replica_file.proofs.ExitLemmas.{at_write, at_sync, at_open, at_end, at_done}
use Rattle.replica_file.proofs.HonestLemmas.{honest_at_write, honest_at_sync, honest_at_open, honest_at_end}
use Rattle.replica_file.proofs.gate.write_after.Goals as goal

pub returns-in_err-write_at-clause-moments : goal.returns-in_err-write_at-clause-moments
returns-in_err-write_at-clause-moments g c = at_write c.args.gate _ _ _ c.requires.agrees c.in_err-write_at.ensures.writes.torn

pub returns-in_err-sync-clause-moments : goal.returns-in_err-sync-clause-moments
returns-in_err-sync-clause-moments g c =
    at_sync c.args.gate _ _ _ _ c.requires.agrees c.in_ok-write_at.ensures.writes.wrote c.in_err-sync.ensures.past

pub returns-in_err-write_at-2-clause-moments : goal.returns-in_err-write_at-2-clause-moments
returns-in_err-write_at-2-clause-moments g c =
    at_open c.args.gate _ _ _ _ _ c.requires.agrees c.in_ok-write_at.ensures.writes.wrote c.in_ok-sync.ensures.settled c.in_err-write_at-2.ensures.writes.torn

pub returns-clause-moments : goal.returns-clause-moments
returns-clause-moments g c =
    at_end c.args.gate _ _ _ _ _ _ _ c.requires.agrees c.in_ok-write_at.ensures.writes.wrote c.in_ok-sync.ensures.settled
    c.in_ok-write_at-2.ensures.writes.wrote c.sync-2.ensures.settled c.sync-2.ensures.past

pub returns-clause-opened : goal.returns-clause-opened
returns-clause-opened g c =
    at_done c.args.gate _ _ _ _ _ _ _ c.requires.agrees c.in_ok-write_at.ensures.writes.wrote c.in_ok-sync.ensures.settled
    c.in_ok-write_at-2.ensures.writes.wrote c.sync-2.ensures.settled

pub returns-in_err-write_at-clause-honest : goal.returns-in_err-write_at-clause-honest
returns-in_err-write_at-clause-honest g c = honest_at_write c.args.gate _ _ _ c.requires.agrees c.in_err-write_at.ensures.writes.torn

pub returns-in_err-sync-clause-honest : goal.returns-in_err-sync-clause-honest
returns-in_err-sync-clause-honest g c =
    honest_at_sync c.args.gate _ _ _ c.requires.agrees c.in_ok-write_at.ensures.writes.wrote _ c.in_err-sync.ensures.past

pub returns-in_err-write_at-2-clause-honest : goal.returns-in_err-write_at-2-clause-honest
returns-in_err-write_at-2-clause-honest g c =
    honest_at_open c.args.gate _ _ _ c.requires.agrees c.in_ok-write_at.ensures.writes.wrote _ c.in_ok-sync.ensures.settled _ c.in_err-write_at-2.ensures.writes.torn

pub returns-clause-honest : goal.returns-clause-honest
returns-clause-honest g c =
    honest_at_end c.args.gate _ _ _ c.requires.agrees c.in_ok-write_at.ensures.writes.wrote _ c.in_ok-sync.ensures.settled
    _ _ _ c.in_ok-write_at-2.ensures.writes.wrote c.sync-2.ensures.settled c.sync-2.ensures.past
