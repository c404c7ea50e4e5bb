use Rattle.std.proofs.Common.{◌≡◌, refl, ap}
use Rattle.std.specs.Prelude.{Err}
use Rattle.command_kinds.proofs.ActLemmas.{goes_blameless, performs_met_none, reported_performs}
use Rattle.command_kinds.proofs.ShowLemmas.{output_no_fault, printed_performs, refused_comes, shows}
use Rattle.command_kinds.specs.Changes.{Streams, change}
use Rattle.command_kinds.specs.Refusal.{status_of}
use Rattle.command_kinds.specs.Show.{showing}
use Rattle.command_kinds.specs.declared.refusal.Refusal.TheVariants.{Outside}
use Rattle.command_kinds.proofs.showing.show_by.Goals as goal

pub returns-in-Ok : goal.returns-in-Ok
returns-in-Ok g c =
    let taken = rw c.requires at c.in-Ok.ensures.ok in
    let printed = c.print.ensures in
    let old : Streams = record { input = g.S.Source.seen c.args.input.now; output = g.O.Out.seen c.args.output.now; notes = g.N.Out.seen c.args.notes.now } in
    let new : Streams = record { input = g.S.Source.seen c.take_in-taken.new.source; output = g.O.Out.seen c.print.new.output; notes = g.N.Out.seen c.print.new.notes } in
    shows _ old new _ (printed_performs _ old new _ _ _ _ _ taken printed) c.in-Ok.ensures.count.counts_no_fault
    (output_no_fault _ old new _ _ _ _ taken printed.did.counts_no_fault)
    (λ tells not. c.in-Ok.ensures.count.specified_no_fault tells (λ is. cc is)) (goes_blameless _ _ printed.result _ printed.did (performs_met_none _ _ _ printed))

pub returns-in-Err : goal.returns-in-Err
returns-in-Err g c =
    let stops = rw c.requires at c.in-Err.ensures.err in
    let came = refused_comes c.in-Err.why _ _ _ stops (λ is. c.in-Err.ensures.count.faulted (ap Err is)) (λ sure is. c.in-Err.ensures.count.succeeds sure (ap Err is)) refl in
    let performs = reported_performs (showing _ _ _) (change (g.N.Out.seen c.args.notes.now) (g.N.Out.seen c.tell.new.notes)) c.in-Err.why came c.tell.ensures.reported in
    rw c.tell.ensures.status (shows _ _ _ _ performs c.in-Err.ensures.count.counts_no_fault (λ specified found is has. refl)
    (λ tells not. c.in-Err.ensures.count.specified_no_fault tells (λ is. let same : c.in-Err.why ≡ Outside = cc is in not (ap status_of same))) (λ tells not. refl))
