use Rattle.std.proofs.Common.{ap, subst, ◌∙◌}
use Rattle.origin_model.specs.edits.State.{State}
use Rattle.section_catalogue.specs.Manuscript.{LookUpsAgree}
use Rattle.section_catalogue.proofs.ShownLemmas.{look_ups_agree}
use Rattle.replica_core.proofs.replica.Replica.places.Goals as goal

pub returns-clause-lists : goal.returns-clause-lists
returns-clause-lists c =
    let m = c.places.result.now in
    subst (λ (s : State). LookUpsAgree m s.held.history) (ap (λ r. r.inner.state) c.self-inside.view_is ∙ c.self.view_is)
    (look_ups_agree m c.self-inside.inside.0.0.accepted c.places.ensures)
