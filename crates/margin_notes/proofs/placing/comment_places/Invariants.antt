use Rattle.std.proofs.Common.{reverse}
use Rattle.margin_notes.specs.Placing.{comment_placed, placed_in}
use Rattle.margin_notes.proofs.WalkedLemmas.{IsPutDown}
use Rattle.replica_core.proofs.WalkLemmas.{Walks}
use Rattle.margin_notes.proofs.placing.comment_places.Given as goal

-- the places are those of the operations that were passed
abbrev pub invariant-walk : goal.invariant-walk
invariant-walk l = Walks (IsPutDown (placed_in l.replica.held.history) (comment_placed (reverse l.replica.held.history)) (reverse l.replica.held.history) l.places.items)
    (reverse l.replica.held.history) l.at-items l.at-index
