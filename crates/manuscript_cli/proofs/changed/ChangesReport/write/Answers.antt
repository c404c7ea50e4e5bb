use Rattle.std.proofs.Common.{ap, inl, length, subst, sym, ◌∙◌, ◌≡◌, ◌≤◌}
use Rattle.std.specs.Prelude.{IfSome}
use Rattle.origin_model.specs.edits.State.{State}
use Rattle.version_views.specs.Fronts.{replica_at}
use Rattle.change_marks.specs.Changes.{changes_text}
use Rattle.command_kinds.specs.Findings.{Does}
use Rattle.manuscript_cli.proofs.ChangedLemmas.{changes_within, front_is_earlier}
use Rattle.manuscript_cli.proofs.changed.ChangesReport.write.Goals as goal

pub put_changes-reported-requires : goal.put_changes-reported-requires
put_changes-reported-requires g c =
    let s = c.args.replica.now in
    let n = c.args.self.now.count in
    front_is_earlier n s c.in-Some.then (subst (λ o. IfSome o (λ f. f ≡ replica_at n s)) c.in-Some.is c.in_ok-then.ensures.some)

pub returns : goal.returns
returns g c =
    let s = c.args.replica.now in
    let n = c.args.self.now.count in
    let is : c.in-Some.then ≡ replica_at n s = subst (λ o. IfSome o (λ f. f ≡ replica_at n s)) c.in-Some.is c.in_ok-then.ensures.some in
    let within : n ≤ length s.held.history = subst (λ o. IfSome o (λ f. n ≤ length s.held.history)) c.in-Some.is c.in_ok-then.ensures.within in
    inl (
      changes_text c.in-Some.then.held.history s.held.history,
      ap (λ (t : State). Does (changes_text t.held.history s.held.history)) is ∙ sym (changes_within n s.held.history within),
      c.put_changes-reported.ensures,
    )
