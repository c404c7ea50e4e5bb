use Rattle.std.proofs.Common.{reverse, take, ◌≡◌}
use Rattle.replica_core.proofs.WalkLemmas.{Walks}
use Rattle.version_views.proofs.VersionLemmas.{newest}
use Rattle.version_views.proofs.listing.find_version.Given as goal

-- what was found is the newest of those that were passed
abbrev pub invariant-walk : goal.invariant-walk
invariant-walk l = Walks (λ i. l.found ≡ newest l.replica.number l.replica.held.history l.name (reverse (take i (reverse l.replica.held.history))))
    (reverse l.replica.held.history) l.count-items l.count-index
