use Rattle.std.proofs.Common.{List, arith, get_or, length, reverse, subst, ◌<◌, ◌≡◌}
use Rattle.std.specs.Prelude.{Err, Ok}
use Rattle.std.proofs.lemmas.Result.{err_from_is_err_and}
use Rattle.fugue_ids.specs.Gathers.{GathersText}
use Rattle.fugue_ids.proofs.GatherLemmas.{gathers_none, gathers_parts_grow, gathers_parts_stop}
use Rattle.margin_notes.specs.Listing.{entry_bytes}
use Rattle.margin_notes.specs.declared.listing.Entry.{Entry}
use Rattle.margin_notes.proofs.printing.put_lines.Goals as goal

pub entries-init : goal.entries-init
entries-init g c = gathers_none tt _ _

pub entries-preserved : goal.entries-preserved
entries-preserved g c =
    let f = entry_bytes (reverse c.args.replica.now.held.history) in
    let xs : List Entry = c.args.entries.now in
    let below : c.entries.entry-index < length xs = omega (arith, c.entries-test.true) in
    let is : c.entry-item.result ≡ get_or xs c.entries.entry-index c.entry-item.result = c.entry-item.is in
    gathers_parts_grow f xs c.entries.entry-index c.entry-item.result tt tt _ _ _ _ _ _ below c.entries.invariant
    (subst (λ x. GathersText {T = Unit {0}} (g.O.Out.seen c.entries.output) (g.O.Out.seen c.put_line.new.output) c.entries.gather c.put_line.new.gather (Ok tt) (f x)) is
    c.in_ok-put_line.ensures)

pub returns-in_err-put_line : goal.returns-in_err-put_line
returns-in_err-put_line g c =
    let f = entry_bytes (reverse c.args.replica.now.held.history) in
    let xs : List Entry = c.args.entries.now in
    let below : c.entries.entry-index < length xs = omega (arith, c.entries-test.true) in
    let is : c.entry-item.result ≡ get_or xs c.entries.entry-index c.entry-item.result = c.entry-item.is in
    let p = err_from_is_err_and c.from_residual.result c.from_residual.ensures.1 in
    rw p.1 (gathers_parts_stop f xs c.entries.entry-index c.entry-item.result tt _ _ _ _ _ _ below c.entries.invariant
    (subst (λ x. GathersText {T = Unit {0}} (g.O.Out.seen c.entries.output) (g.O.Out.seen c.put_line.new.output) c.entries.gather c.put_line.new.gather (Err (record {})) (f x)) is
    c.in_err-put_line.ensures))
