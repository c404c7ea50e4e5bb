use Rattle.std.proofs.Common.{reverse, take}
use Rattle.std.specs.Prelude.{Ok, flat_map}
use Rattle.fugue_ids.specs.Gathers.{GathersText}
use Rattle.margin_notes.specs.Listing.{entry_bytes}
use Rattle.margin_notes.proofs.printing.put_lines.Given as goal

-- the lines of the entries that were passed are gathered
abbrev pub invariant-entries : goal.invariant-entries
invariant-entries g l =
    GathersText {T = Unit {0}} (g.O.Out.seen l.initial.output) (g.O.Out.seen l.output) l.initial.gather l.gather (Ok tt)
    (flat_map (entry_bytes (reverse l.replica.held.history)) (take l.entry-index l.entries))
