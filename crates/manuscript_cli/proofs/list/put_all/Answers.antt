use Rattle.std.proofs.Common.{List, arith, length, ◌<◌}
use Rattle.std.proofs.lemmas.Result.{err_from_is_err_and}
use Rattle.fugue_ids.proofs.GatherLemmas.{gathers_none, gathers_parts_grow, gathers_parts_stop}
use Rattle.manuscript_cli.specs.Listing.{counted_line}
use Rattle.manuscript_cli.specs.declared.list.Counted.{Counted}
use Rattle.manuscript_cli.proofs.list.put_all.Goals as goal

pub counts-init : goal.counts-init
counts-init g c = gathers_none tt _ _

pub counts-preserved : goal.counts-preserved
counts-preserved g c =
    let f = counted_line c.args.entries.now in
    let xs : List Counted = c.args.counts.now in
    let below : c.counts.counted-index < length xs = omega (arith, c.counts-test.true) in
    gathers_parts_grow f xs c.counts.counted-index _ tt tt _ _ _ _ _ _ below c.counts.invariant c.in_ok-put_counted.ensures

pub returns-in_err-put_counted : goal.returns-in_err-put_counted
returns-in_err-put_counted g c =
    let f = counted_line c.args.entries.now in
    let xs : List Counted = c.args.counts.now in
    let below : c.counts.counted-index < length xs = omega (arith, c.counts-test.true) in
    let p = err_from_is_err_and c.from_residual.result c.from_residual.ensures.1 in
    rw p.1 (gathers_parts_stop f xs c.counts.counted-index _ tt _ _ _ _ _ _ below c.counts.invariant c.in_err-put_counted.ensures)
