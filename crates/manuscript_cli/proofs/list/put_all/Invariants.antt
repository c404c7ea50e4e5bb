use Rattle.std.proofs.Common.{take}
use Rattle.std.specs.Prelude.{Ok, flat_map}
use Rattle.fugue_ids.specs.Gathers.{GathersText}
use Rattle.manuscript_cli.specs.Listing.{counted_line}
use Rattle.manuscript_cli.proofs.list.put_all.Given as goal

-- the lines of those that were passed are gathered
abbrev pub invariant-counts : goal.invariant-counts
invariant-counts g l =
    GathersText {T = Unit {0}} (g.O.Out.seen l.initial.output) (g.O.Out.seen l.output) l.initial.gather l.gather (Ok tt)
    (flat_map (counted_line l.entries) (take l.counted-index l.counts))
