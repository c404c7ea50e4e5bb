use Rattle.std.proofs.Common.{ap, reverse, subst, ◌∙◌}
use Rattle.std.specs.Prelude.{flat_map}
use Rattle.margin_notes.specs.Listing.{WritesMargins, entry_bytes}
use Rattle.margin_notes.proofs.SortedLemmas.{entries_write}
use Rattle.margin_notes.proofs.printing.write_comments.Goals as goal

pub returns-clause-text : goal.returns-clause-text
returns-clause-text g c =
    let h = c.args.replica.now.held.history in
    subst (WritesMargins (g.O.Out.seen c.args.output.now) (g.O.Out.seen c.write_lines.new.output) c.or_sink_fault.result)
    (ap (flat_map (entry_bytes (reverse h))) c.as_slice.ensures.value
    ∙ entries_write h c.in_ok-entries.entries.items c.in_ok-entries.ensures.entries)
    (c.or_sink_fault.ensures _ _ _ c.write_lines.ensures)
