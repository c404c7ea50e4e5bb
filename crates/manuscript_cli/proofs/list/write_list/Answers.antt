use Rattle.std.proofs.Common.{subst}
use Rattle.std.specs.Prelude.{Err, Ok, flat_map}
use Rattle.std.proofs.lemmas.Result.{err_from_is_err_and}
use Rattle.fugue_ids.specs.Gathers.{GathersText}
use Rattle.fugue_ids.specs.Outs.{WritesBytes}
use Rattle.fugue_ids.specs.declared.out.Failed.{Failed}
use Rattle.fugue_ids.proofs.GatherLemmas.{flush_writes, gathers_join, gathers_stop, stop_writes}
use Rattle.manuscript_cli.specs.Listing.{counted_line, replica_line}
use Rattle.manuscript_cli.proofs.ListingLemmas.{few_entries, few_numbers, listed}
use Rattle.manuscript_cli.proofs.list.write_list.Goals as goal

pub returns-in_err-put_replica : goal.returns-in_err-put_replica
returns-in_err-put_replica g c =
    let first = replica_line c.args.replica.now in
    let lines = flat_map (counted_line c.args.entries.now) c.args.counts.now in
    let p = err_from_is_err_and c.from_residual.result c.from_residual.ensures.1 in
    rw p.1 (subst (WritesBytes {E = Failed} {T = Unit {0}} (g.O.Out.seen c.args.output.now) (g.O.Out.seen c.put_replica.new.output) (Err (record {})))
    (listed _ _ _ c.requires.sound c.requires.outline c.requires.counts)
    (stop_writes {T = Unit {0}} {S = Unit {0}} _ _ _ _ (gathers_stop {T = Unit {0}} {S = Unit {0}} _ _ _ _ first lines
    (subst (λ w. GathersText {T = Unit {0}} (g.O.Out.seen c.args.output.now) (g.O.Out.seen c.put_replica.new.output) w c.put_replica.new.gather (Err (record {})) first)
    c.new-gather.ensures c.in_err-put_replica.ensures))))

pub returns-in_err-put_all : goal.returns-in_err-put_all
returns-in_err-put_all g c =
    let first = replica_line c.args.replica.now in
    let lines = flat_map (counted_line c.args.entries.now) c.args.counts.now in
    let p = err_from_is_err_and c.from_residual-in_err-put_all.result c.from_residual-in_err-put_all.ensures.1 in
    rw p.1 (subst (WritesBytes {E = Failed} {T = Unit {0}} (g.O.Out.seen c.args.output.now) (g.O.Out.seen c.put_all.new.output) (Err (record {})))
    (listed _ _ _ c.requires.sound c.requires.outline c.requires.counts)
    (stop_writes {T = Unit {0}} {S = Unit {0}} _ _ _ _ (gathers_join {T = Unit {0}} {S = Unit {0}} tt (Err (record {})) _ _ _ _ _ _ first lines
    (subst (λ w. GathersText {T = Unit {0}} (g.O.Out.seen c.args.output.now) (g.O.Out.seen c.put_replica.new.output) w c.put_replica.new.gather (Ok tt) first) c.new-gather.ensures
    c.in_ok-put_replica.ensures)
    c.in_err-put_all.ensures)))

pub returns : goal.returns
returns g c =
    let first = replica_line c.args.replica.now in
    let lines = flat_map (counted_line c.args.entries.now) c.args.counts.now in
    subst (WritesBytes {E = Failed} {T = Unit {0}} (g.O.Out.seen c.args.output.now) (g.O.Out.seen c.flush.new.out) c.flush.result)
    (listed _ _ _ c.requires.sound c.requires.outline c.requires.counts)
    (flush_writes {T = Unit {0}} {S = Unit {0}} tt c.flush.result _ _ _ _ _
    (gathers_join {T = Unit {0}} {S = Unit {0}} tt (Ok tt) _ _ _ _ _ _ first lines
    (subst (λ w. GathersText {T = Unit {0}} (g.O.Out.seen c.args.output.now) (g.O.Out.seen c.put_replica.new.output) w c.put_replica.new.gather (Ok tt) first) c.new-gather.ensures
    c.in_ok-put_replica.ensures)
    c.in_ok-put_all.ensures)
    c.flush.ensures.text)

pub put_all-requires-clause-places : goal.put_all-requires-clause-places
put_all-requires-clause-places g c = few_entries c.args.replica.now c.requires.sound c.args.entries.now c.requires.outline

pub put_all-requires-clause-numbers : goal.put_all-requires-clause-numbers
put_all-requires-clause-numbers g c k d below = few_numbers c.args.replica.now c.requires.sound _ (c.requires.outline.each k d below)
