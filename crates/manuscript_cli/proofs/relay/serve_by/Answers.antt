use Rattle.std.proofs.Common.{refl}
use Rattle.manuscript_cli.proofs.RelayLemmas.{all_served, not_all_served, served_blameless, stopped_blameless, stopped_reported}
use Rattle.manuscript_cli.proofs.relay.serve_by.Goals as goal

pub returns-in-Ok-clause-meets : goal.returns-in-Ok-clause-meets
returns-in-Ok-clause-meets g c =
    let opened = c.in_ok-open.ensures.meets in
    all_served _ _ _ _ _ opened.0 opened.1 opened.2 _ _ c.log_len.ensures (rw c.requires at c.in-Ok.ensures.ok)

pub returns-in-Err-clause-meets : goal.returns-in-Err-clause-meets
returns-in-Err-clause-meets g c =
    let opened = c.in_ok-open.ensures.meets in
    rw c.from.ensures (not_all_served _ _ _ _ _ opened.0 opened.1 opened.2 _ c.in-Err.fault _ refl (rw c.requires at c.in-Err.ensures.too_long)
    (rw c.requires at c.in-Err.ensures.partly)
    c.in-Err.ensures.dock_fault)

pub returns-in-Ok-clause-dock : goal.returns-in-Ok-clause-dock
returns-in-Ok-clause-dock g c =
    let opened = c.in_ok-open.ensures.meets in
    served_blameless _ _ _ _ _ opened.0 opened.1 opened.2 c.serve.new.relay _ _ (rw c.requires at c.in-Ok.ensures.dock)

pub returns-in-Err-clause-dock : goal.returns-in-Err-clause-dock
returns-in-Err-clause-dock g c =
    let opened = c.in_ok-open.ensures.meets in
    rw c.from.ensures (stopped_blameless _ _ _ _ _ opened.0 opened.1 opened.2 c.serve.new.relay c.in-Err.fault (rw c.requires at c.in-Err.ensures.dock))

pub returns-in-Err-clause-reported : goal.returns-in-Err-clause-reported
returns-in-Err-clause-reported g c =
    let opened = c.in_ok-open.ensures in
    rw c.from.ensures (stopped_reported _ _ _ _ opened.meets.1 opened.reported c.in-Err.fault c.in-Err.ensures.reported)
