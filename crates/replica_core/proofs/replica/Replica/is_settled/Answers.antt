use Rattle.origin_model.specs.taking.Taking.{IsSettled}
use Rattle.std.proofs.Common.{◌≡◌, ◌∙◌, ap, sym, subst, true, false, List, Bool}
use Rattle.std.specs.Prelude.{All}
use Rattle.fugue_ids.specs.declared.op.Op.{Op}
use Rattle.origin_model.specs.edits.State.{State}
use Rattle.replica_core.proofs.MarkLemmas.{clear_settled, settled_clear}
use Rattle.replica_core.proofs.replica.Replica.is_settled.Goals as goal

pub returns-clause-settled : goal.returns-clause-settled
returns-clause-settled c =
    let inner = c.self-inside.inside.0.0 in
    let h : List Op = inner.accepted in
    let w : List Op = inner.inbox.ops in
    let marks = c.self-inside.invariant.marks in
    let IsClear : List Bool → Type 0 = λ marks. All (λ m. m ≡ false) marks in
    let Decides : State → Type 0 = λ s. (c.is_clear.result ≡ true → IsSettled s.held) × (IsSettled s.held → c.is_clear.result ≡ true) in
    subst Decides (ap (λ r. r.inner.state) c.self-inside.view_is ∙ c.self.view_is) (
      λ clear. clear_settled h w (subst IsClear marks (c.is_clear.ensures.0 clear)),
      λ settled. c.is_clear.ensures.1 (subst IsClear (sym marks) (settled_clear h w settled)),
    )
