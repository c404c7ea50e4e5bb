use Rattle.std.proofs.Common.{ap, subst, sym, ◌++◌, ◌∙◌, ◌≡◌}
use Rattle.std.specs.Prelude.{reverse}
use Rattle.op_runs.specs.Deletions.{deletes_up}
use Rattle.origin_model.specs.edits.Edits.{ReadyInTurn, history_with}
use Rattle.origin_model.specs.operations.Verdict.{Lawful}
use Rattle.origin_model.proofs.edits.MadeLemmas.{ready_lawful}
use Rattle.section_catalogue.proofs.UnchangedLemmas.{either}
use Rattle.stretch_map.proofs.ResultLemmas.{ok_makes}
use Rattle.replica_core.specs.Index.{ArePositions, sections_and_notes}
use Rattle.replica_core.proofs.NotingLemmas.{appended_joins, row_listed, row_noted}
use Rattle.replica_core.proofs.history.History.push_deletes.Goals as goal

pub returns-clause-ok : goal.returns-clause-ok
returns-clause-ok c =
    let row = deletes_up c.args.first c.args.count in
    ok_makes _ _ c.push_deletes.result (λ pushed. appended_joins c.self.inside.ops c.push_deletes.new.self row pushed ∙ ap (λ h. history_with h row) c.self.view_is)
    c.push_deletes.ensures.ok

pub invariant_of-self : goal.invariant_of-self
invariant_of-self c =
    let i = c.self.inside in
    let new = c.push_deletes.new.self in
    let x = c.args.first in
    let n = c.args.count in
    let row = deletes_up x n in
    let h = reverse i.ops in
    let ready : ReadyInTurn h row = subst (λ z. ReadyInTurn z row) (sym c.self.view_is) c.requires.ready in
    either c.push_deletes.result (new ≡ i.ops ++ row) (new ≡ i.ops) _ c.push_deletes.ensures.ok c.push_deletes.ensures.err
    (λ pushed.
    let joins : reverse new ≡ history_with h row = appended_joins i.ops new row pushed in
    record {
      lawful = subst Lawful (sym joins) (ready_lawful h row c.self.invariant.lawful ready);
      indexed = subst (ArePositions i.index.positions.values) (sym joins) (row_noted n i.index.positions.values x h c.self.invariant.indexed);
      listed = c.self.invariant.listed ∙ sym (row_listed n x h) ∙ ap sections_and_notes (sym joins);
    })
    (λ same. record {
      lawful = subst (λ ops. Lawful (reverse ops)) (sym same) c.self.invariant.lawful;
      indexed = subst (λ ops. ArePositions i.index.positions.values (reverse ops)) (sym same) c.self.invariant.indexed;
      listed = c.self.invariant.listed ∙ ap (λ ops. sections_and_notes (reverse ops)) (sym same);
    })
