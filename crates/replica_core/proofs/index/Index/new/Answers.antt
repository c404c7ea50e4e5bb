use Rattle.std.proofs.Common.{ap, ◌∙◌}
use Rattle.std.specs.FinMap.{get, get-empty}
use Rattle.fugue_ids.specs.Identifiers.{id_cmp}
use Rattle.replica_core.proofs.index.Index.new.Goals as goal

pub returns-clause-found : goal.returns-clause-found
returns-clause-found c x = ap (λ m. get m x) c.new.ensures.values ∙ get-empty id_cmp x
