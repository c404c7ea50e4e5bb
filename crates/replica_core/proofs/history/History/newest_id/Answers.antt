use Rattle.std.proofs.Common.{ap, ◌∙◌}
use Rattle.replica_core.specs.Due.{newest_id}
use Rattle.replica_core.proofs.NotingLemmas.{newest_last}
use Rattle.replica_core.proofs.history.History.newest_id.Goals as goal

pub returns-in-Some : goal.returns-in-Some
returns-in-Some c = c.id.ensures ∙ newest_last c.self.inside.ops _ c.in-Some.ensures ∙ ap newest_id c.self.view_is

pub returns-in-None : goal.returns-in-None
returns-in-None c = newest_last c.self.inside.ops _ c.in-None.ensures ∙ ap newest_id c.self.view_is
