use Rattle.std.proofs.Common.{take}
use Rattle.std.specs.Prelude.{flat_map}
use Rattle.catalogue_notes.specs.Outlining.{entry_sections}
use Rattle.passage_remarks.specs.Finding.{AreFoundAt, section_places}
use Rattle.passage_remarks.proofs.finding.find_in_sections.Given as goal

-- of the sections that were passed everything is found
abbrev pub invariant-sections : goal.invariant-sections
invariant-sections l = AreFoundAt l.replica.held.history l.passage
    (flat_map (section_places l.replica.held.history l.passage) (take l.section-index (entry_sections l.sections))) l.found
