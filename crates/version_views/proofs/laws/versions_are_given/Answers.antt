use Rattle.version_views.proofs.GivenLemmas.{versions_are_given}
use Rattle.version_views.proofs.laws.versions_are_given.Goals as goal

pub returns : goal.returns
returns c = versions_are_given
