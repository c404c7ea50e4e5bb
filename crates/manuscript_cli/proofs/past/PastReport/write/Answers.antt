use Rattle.std.proofs.Common.{ap, inl, length, subst, sym, ◌∙◌, ◌≡◌, ◌≤◌}
use Rattle.std.specs.Prelude.{IfSome}
use Rattle.origin_model.specs.edits.State.{State}
use Rattle.catalogue_notes.specs.Arranged.{arranged_text}
use Rattle.version_views.specs.Fronts.{replica_at}
use Rattle.command_kinds.specs.Findings.{Does}
use Rattle.manuscript_cli.proofs.PastLemmas.{past_within}
use Rattle.manuscript_cli.proofs.past.PastReport.write.Goals as goal

pub returns : goal.returns
returns g c =
    let s = c.args.replica.now in
    let n = c.args.self.now.count in
    let is : c.in-Some.past ≡ replica_at n s = subst (λ o. IfSome o (λ f. f ≡ replica_at n s)) c.in-Some.is c.in_ok-past.ensures.some in
    let within : n ≤ length s.held.history = subst (λ o. IfSome o (λ f. n ≤ length s.held.history)) c.in-Some.is c.in_ok-past.ensures.within in
    inl (
      arranged_text c.in-Some.past.held.history,
      ap (λ (t : State). Does (arranged_text t.held.history)) is ∙ sym (past_within n s.held.history within),
      c.put_arrangement-reported.ensures,
    )
