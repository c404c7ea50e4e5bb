use Rattle.std.proofs.lemmas.Result.{err_from_is_err_and}
use Rattle.fugue_ids.proofs.JoinLemmas.{text_joins, text_stops}
use Rattle.command_kinds.specs.Counts.{counts_line, cursor_line}
use Rattle.command_kinds.proofs.SyncLemmas.{exchange_short}
use Rattle.command_kinds.proofs.counts.write_exchange.Goals as goal

pub returns-in_err-write_tally-clause-text : goal.returns-in_err-write_tally-clause-text
returns-in_err-write_tally-clause-text g c =
    let p = err_from_is_err_and c.from_residual.result c.from_residual.ensures.1 in
    rw (p.1, p.2) (text_stops c.in_err-write_tally.field-0.0 _ _ _ (cursor_line c.args.cursor) c.in_err-write_tally.ensures.text)

pub returns-in_err-write_tally-clause-short : goal.returns-in_err-write_tally-clause-short
returns-in_err-write_tally-clause-short g c =
    exchange_short (counts_line c.args.counts.now.tally c.args.counts.now.waiting) c.args.cursor c.ranges.cursor.fits c.write_tally.ensures.short

pub returns-clause-text : goal.returns-clause-text
returns-clause-text g c = text_joins c.in_ok-write_tally.field-0 _ _ _ _ _ _ c.in_ok-write_tally.ensures.text c.write_cursor.ensures.text
