use Rattle.std.proofs.Common.{ap, sym, ◌∙◌}
use Rattle.origin_model.specs.edits.State.{State}
use Rattle.origin_model.specs.order.Printed.{is_withdrawn}
use Rattle.origin_model.proofs.SharedLemmas.{hidden-has}
use Rattle.replica_core.proofs.replica.Replica.is_withdrawn.Goals as goal

pub returns-clause-withdrawn : goal.returns-clause-withdrawn
returns-clause-withdrawn c =
    c.has_delete.ensures ∙ sym (hidden-has c.self-inside.inside.0.0.accepted c.args.note)
    ∙ ap (λ (s : State). is_withdrawn s.held.history c.args.note) (ap (λ r. r.inner.state) c.self-inside.view_is ∙ c.self.view_is)
