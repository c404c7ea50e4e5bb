use Rattle.std.proofs.Common.{ap, ◌∙◌}
use Rattle.std.specs.Prelude.{reverse}
use Rattle.origin_model.specs.operations.History.{is_own}
use Rattle.replica_core.specs.Index.{newest_position}
use Rattle.replica_core.proofs.IndexLemmas.{position_at}
use Rattle.replica_core.proofs.history.History.position.Goals as goal

pub returns : goal.returns
returns c =
    let i = c.self.inside in
    c.position.ensures ∙ position_at i.index.positions.values (reverse i.ops) c.args.id c.self.invariant.indexed
    ∙ ap (newest_position (is_own c.args.id)) c.self.view_is
