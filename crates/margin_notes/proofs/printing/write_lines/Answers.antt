use Rattle.std.proofs.Common.{reverse, subst}
use Rattle.std.specs.Prelude.{Err, Ok, flat_map}
use Rattle.std.proofs.lemmas.Result.{err_from_is_err_and}
use Rattle.fugue_ids.specs.Gathers.{GathersText}
use Rattle.fugue_ids.proofs.GatherLemmas.{flush_writes, stop_writes}
use Rattle.margin_notes.specs.Listing.{entry_bytes}
use Rattle.margin_notes.proofs.printing.write_lines.Goals as goal

pub returns-in_err-put_lines : goal.returns-in_err-put_lines
returns-in_err-put_lines g c =
    let p = err_from_is_err_and c.from_residual.result c.from_residual.ensures.1 in
    rw p.1 (stop_writes {T = Unit {0}} {S = Unit {0}} _ _ _ _
    (subst (λ w. GathersText {T = Unit {0}} (g.O.Out.seen c.args.output.now) (g.O.Out.seen c.put_lines.new.output) w c.put_lines.new.gather (Err (record {}))
    (flat_map (entry_bytes (reverse c.args.replica.now.held.history)) c.args.entries.now)) c.new-gather.ensures c.in_err-put_lines.ensures))

pub returns : goal.returns
returns g c =
    flush_writes {T = Unit {0}} {S = Unit {0}} tt c.flush.result _ _ _ _ _
    (subst (λ w. GathersText {T = Unit {0}} (g.O.Out.seen c.args.output.now) (g.O.Out.seen c.put_lines.new.output) w c.put_lines.new.gather (Ok tt)
    (flat_map (entry_bytes (reverse c.args.replica.now.held.history)) c.args.entries.now)) c.new-gather.ensures c.in_ok-put_lines.ensures)
    c.flush.ensures.text
