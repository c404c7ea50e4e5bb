use Rattle.std.proofs.Common.{ap, ◌∙◌}
use Rattle.std.specs.Prelude.{slice_get}
use Rattle.replica_core.proofs.NotingLemmas.{newest_found}
use Rattle.replica_core.proofs.history.History.newest.Goals as goal

pub returns : goal.returns
returns c = newest_found c.self.inside.ops _ c.last.ensures ∙ ap (λ h. slice_get h 0) c.self.view_is
