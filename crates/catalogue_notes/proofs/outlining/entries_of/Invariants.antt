use Rattle.std.proofs.Common.{take}
use Rattle.catalogue_notes.specs.Outlining.{AreEntries}
use Rattle.catalogue_notes.proofs.outlining.entries_of.Given as goal

-- the sections that were passed have their entries
abbrev pub invariant-sections : goal.invariant-sections
invariant-sections l = AreEntries l.replica.held.history (take l.section-index l.section-items) l.entries.items
