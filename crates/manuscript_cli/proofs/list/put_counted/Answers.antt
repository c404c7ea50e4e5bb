use Rattle.std.proofs.Common.{List, None, Option, Some, [], ap, length, subst, sym, ◌≤◌}
use Rattle.std.specs.Prelude.{Ok}
use Rattle.std.proofs.lemmas.Option.{slice_get_past}
use Rattle.fugue_ids.specs.Gathers.{GathersText}
use Rattle.fugue_ids.proofs.GatherLemmas.{gathers_none}
use Rattle.catalogue_notes.specs.declared.entry.Entry.{Entry}
use Rattle.manuscript_cli.specs.Listing.{entry_line}
use Rattle.manuscript_cli.proofs.list.put_counted.Goals as goal

pub returns-in-None : goal.returns-in-None
returns-in-None g c =
    let entries : List Entry = c.args.entries.now in
    let past : length entries ≤ c.args.counted.now.at = c.in-None.ensures.lookup.3 in
    subst (GathersText {T = Unit {0}} (g.O.Out.seen c.args.output.now) (g.O.Out.seen c.args.output.now) c.args.gather.now c.args.gather.now (Ok tt))
    (sym (ap (λ (o : Option Entry). elim o [ None ↦ [] | Some e ↦ entry_line c.args.counted.now.at e c.args.counted.now.clusters ])
    (slice_get_past entries c.args.counted.now.at past)))
    (gathers_none tt _ _)
