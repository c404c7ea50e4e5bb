use Rattle.std.proofs.Common.{ap, reverse, ◌∙◌}
use Rattle.std.specs.Prelude.{option_and_then}
use Rattle.replica_core.proofs.WalkLemmas.{read_at}
use Rattle.version_views.specs.Versions.{name_in}
use Rattle.version_views.proofs.VersionLemmas.{no_name}
use Rattle.version_views.proofs.listing.name_at.Goals as goal

pub returns-in-Some : goal.returns-in-Some
returns-in-Some c =
    let s = c.args.replica.now in
    c.name_of.ensures ∙ ap (option_and_then (name_in s.number s.held.history)) c.in-Some.ensures.found
    ∙ read_at (name_in s.number s.held.history) (no_name s.number s.held.history) (reverse s.held.history) c.args.count

pub returns-in-None : goal.returns-in-None
returns-in-None c =
    let s = c.args.replica.now in
    ap (option_and_then (name_in s.number s.held.history)) c.in-None.ensures.found
    ∙ read_at (name_in s.number s.held.history) (no_name s.number s.held.history) (reverse s.held.history) c.args.count
