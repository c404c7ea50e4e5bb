use Rattle.std.specs.Prelude.{Ok, Err}
use Rattle.command_kinds.proofs.ActLemmas.{reported_result}
use Rattle.manuscript_cli.proofs.RelayLemmas.{relay_ends}
use Rattle.manuscript_cli.proofs.relay.relay.Goals as goal

pub returns-in-Ok : goal.returns-in-Ok
returns-in-Ok g c =
    let served = c.in-Ok.ensures in
    relay_ends _ _ _ _ _ _ (Ok c.in-Ok.logged) served.counts_no_fault served.meets served.dock served.reported
    (record { noted = c.note.ensures.meets; counts_no_fault = c.note.ensures.counts_no_fault; blameless = c.note.ensures.blameless })

pub returns-in-Err : goal.returns-in-Err
returns-in-Err g c =
    let served = c.in-Err.ensures in
    rw c.tell.ensures.status (relay_ends _ _ _ _ _ _ (Err c.in-Err.why) served.counts_no_fault served.meets served.dock served.reported
    (reported_result _ _ c.in-Err.why _ c.tell.ensures.reported))
