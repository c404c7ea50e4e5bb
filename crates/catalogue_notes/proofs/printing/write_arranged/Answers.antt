use Rattle.std.proofs.Common.{subst}
use Rattle.catalogue_notes.specs.Printing.{WritesText}
use Rattle.catalogue_notes.proofs.PrintingLemmas.{printed_all}
use Rattle.catalogue_notes.proofs.printing.write_arranged.Goals as goal

pub returns-clause-text : goal.returns-clause-text
returns-clause-text g c =
    subst (WritesText (g.O.Out.seen c.args.output.now) (g.O.Out.seen c.write_sections.new.output) c.or_sink_fault.result)
    (printed_all c.places.result.now c.args.replica.now.held.history c.in_ok-layout.layout c.places.ensures.sound.lawful c.places.ensures.lists c.in_ok-layout.ensures.layout)
    (c.or_sink_fault.ensures _ _ _ c.write_sections.ensures)
