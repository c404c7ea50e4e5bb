use Rattle.std.proofs.Common.{take}
use Rattle.std.specs.Prelude.{Ok, flat_map}
use Rattle.fugue_ids.specs.Gathers.{GathersText}
use Rattle.catalogue_notes.specs.Printing.{printed_by}
use Rattle.catalogue_notes.proofs.printing.put_sections.Given as goal

-- the sections that were passed are gathered
abbrev pub invariant-sections : goal.invariant-sections
invariant-sections g l =
    GathersText {T = Unit {0}} (g.O.Out.seen l.initial.output) (g.O.Out.seen l.output) l.initial.gather l.gather (Ok tt)
    (flat_map (printed_by l.places l.replica.held.history l.layout) (take l.section-index l.layout.arrangement.sections.items))
