use Rattle.std.proofs.Common.{ap, sym, ◌∙◌}
use Rattle.std.specs.Prelude.{reverse}
use Rattle.origin_model.specs.operations.History.{holder}
use Rattle.replica_core.proofs.IndexLemmas.{position_free, position_held}
use Rattle.replica_core.proofs.history.History.holder.Goals as goal

pub returns-in-Some-clause-held : goal.returns-in-Some-clause-held
returns-in-Some-clause-held c =
    let inside = c.self.inside in
    c.get.ensures
    ∙ position_held inside.index.positions.values inside.ops c.args.id c.in-Some.position c.self.invariant.indexed
    (sym c.in-Some.is ∙ c.position.ensures)
    ∙ ap (λ h. holder h c.args.id) c.self.view_is

pub returns-in-None-clause-held : goal.returns-in-None-clause-held
returns-in-None-clause-held c =
    let inside = c.self.inside in
    position_free inside.index.positions.values (reverse inside.ops) c.args.id c.self.invariant.indexed (sym c.in-None.is ∙ c.position.ensures)
    ∙ ap (λ h. holder h c.args.id) c.self.view_is
