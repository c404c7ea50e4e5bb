use Rattle.std.proofs.Common.{ap, ◌∙◌}
use Rattle.std.specs.Prelude.{is_some, reverse}
use Rattle.origin_model.specs.operations.History.{holds}
use Rattle.replica_core.proofs.IndexLemmas.{has_position, position_at}
use Rattle.replica_core.proofs.history.History.holds.Goals as goal

pub returns : goal.returns
returns c =
    let i = c.self.inside in
    let h = reverse i.ops in
    c.is_some.ensures ∙ ap is_some (c.position.ensures ∙ position_at i.index.positions.values h c.args.id c.self.invariant.indexed)
    ∙ has_position h c.args.id
    ∙ ap (λ h. holds h c.args.id) c.self.view_is
