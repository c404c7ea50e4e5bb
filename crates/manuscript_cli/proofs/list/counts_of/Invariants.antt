use Rattle.std.proofs.Common.{take, ◌≡◌}
use Rattle.catalogue_notes.specs.Outlining.{entry_sections}
use Rattle.manuscript_cli.specs.Listing.{counted_from}
use Rattle.manuscript_cli.proofs.list.counts_of.Given as goal

abbrev pub invariant-entries : goal.invariant-entries
invariant-entries l = l.counts.items ≡ counted_from l.replica.held.history 0 (take l.at (entry_sections l.entries))
