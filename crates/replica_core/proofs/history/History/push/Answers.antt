use Rattle.std.proofs.Common.{ap, ◌∙◌}
use Rattle.std.specs.Prelude.{reverse}
use Rattle.origin_model.specs.operations.Verdict.{verdict}
use Rattle.replica_core.proofs.IndexLemmas.{unnoted}
use Rattle.replica_core.proofs.history.History.push.Goals as goal

pub note-requires : goal.note-requires
note-requires c =
    let index = c.self.inside.index in
    unnoted index.positions.values (reverse c.self.inside.ops) c.args.op c.self.invariant.indexed
    (ap (λ h. verdict h c.args.op) c.self.view_is ∙ c.requires.ready)
