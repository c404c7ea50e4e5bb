use Rattle.std.proofs.Common.{reverse}
use Rattle.margin_notes.specs.Listing.{line_of_entry, listed_line}
use Rattle.margin_notes.proofs.WalkedLemmas.{IsPutDown}
use Rattle.replica_core.proofs.WalkLemmas.{Walks}
use Rattle.margin_notes.proofs.listing.entries_of.Given as goal

-- the entries are those of the operations that were passed
abbrev pub invariant-walk : goal.invariant-walk
invariant-walk l = Walks (IsPutDown (listed_line l.replica.held.history) (line_of_entry (reverse l.replica.held.history)) (reverse l.replica.held.history) l.entries.items)
    (reverse l.replica.held.history) l.at-items l.at-index
