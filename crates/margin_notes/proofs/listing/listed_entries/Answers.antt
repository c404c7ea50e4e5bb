use Rattle.margin_notes.proofs.SortedLemmas.{sorted_lines}
use Rattle.margin_notes.proofs.listing.listed_entries.Goals as goal

pub returns-clause-entries : goal.returns-clause-entries
returns-clause-entries c =
    sorted_lines c.args.replica.now.held.history c.in_ok-entries.ensures.sound.lawful c.in_ok-entries.entries.items c.sort_unstable.new.self.items
    c.in_ok-entries.ensures.entries c.sort_unstable.ensures.permutation c.sort_unstable.ensures.sorted
