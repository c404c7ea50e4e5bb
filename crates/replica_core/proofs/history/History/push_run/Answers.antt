use Rattle.std.proofs.Common.{ap, arith, length, length-append, subst, sym, ◌∙◌, ◌≡◌}
use Rattle.std.specs.Prelude.{reverse}
use Rattle.std.proofs.lemmas.List.{length-reverse}
use Rattle.fugue_ids.specs.Runs.{run_from}
use Rattle.origin_model.specs.edits.Edits.{ReadyInTurn, history_with}
use Rattle.origin_model.specs.operations.Verdict.{Lawful}
use Rattle.origin_model.proofs.edits.MadeLemmas.{ready_lawful}
use Rattle.replica_core.specs.Index.{ArePositions, sections_and_notes, with_positions}
use Rattle.replica_core.proofs.FeedingLemmas.{length-run}
use Rattle.replica_core.proofs.NotingLemmas.{appended_joins, back_again, run_free, run_listed, run_noted}
use Rattle.replica_core.proofs.history.History.push_run.Goals as goal

pub note_run-requires-clause-free : goal.note_run-requires-clause-free
note_run-requires-clause-free c =
    let i = c.self.inside in
    let start = c.args.start.now in
    let text = c.args.text.now in
    run_free i.index.positions.values (reverse i.ops) start text c.self.invariant.indexed
    (subst (λ h. ReadyInTurn h (run_from start text)) (sym c.self.view_is) c.requires.ready)

pub invariant_of-self-in-Ok : goal.invariant_of-self-in-Ok
invariant_of-self-in-Ok c =
    let i = c.self.inside in
    let start = c.args.start.now in
    let text = c.args.text.now in
    let run = run_from start text in
    let h = reverse i.ops in
    let ready : ReadyInTurn h run = subst (λ z. ReadyInTurn z run) (sym c.self.view_is) c.requires.ready in
    let joins : reverse c.push_run.new.self ≡ history_with h run = appended_joins i.ops c.push_run.new.self run c.in_ok-push_run.ensures.ok in
    let at : c.len-position.result ≡ length h = c.len-position.ensures ∙ sym (length-reverse i.ops) in
    let positions : c.note_run.new.self.positions.values ≡ with_positions start.id (length h) (length text) i.index.positions.values =
    c.in-Ok.ensures.ok ∙ ap (λ n. with_positions start.id n (length text) i.index.positions.values) at in
    let noted : ArePositions c.note_run.new.self.positions.values (history_with h run) =
    subst (λ z. ArePositions z (history_with h run)) (sym positions) (run_noted i.index.positions.values h start text c.self.invariant.indexed) in
    record {
      lawful = subst Lawful (sym joins) (ready_lawful h run c.self.invariant.lawful ready);
      indexed = subst (ArePositions c.note_run.new.self.positions.values) (sym joins) noted;
      listed = ap (λ z. z.items) c.in-Ok.ensures.listed ∙ c.self.invariant.listed ∙ sym (run_listed h start text) ∙ ap sections_and_notes (sym joins);
    }

pub returns-clause-ok : goal.returns-clause-ok
returns-clause-ok c =
    let run = run_from c.args.start.now c.args.text.now in
    appended_joins c.self.inside.ops c.push_run.new.self run c.in_ok-push_run.ensures.ok ∙ ap (λ h. history_with h run) c.self.view_is

pub pop-requires : goal.pop-requires
pop-requires c =
    let run = run_from c.args.start.now c.args.text.now in
    omega (arith, ap length c.in_ok-push_run.ensures.ok, length-append c.self.inside.ops run, length-run c.args.start.now c.args.text.now)

pub returns-in_default-clause-err : goal.returns-in_default-clause-err
returns-in_default-clause-err c =
    let run = run_from c.args.start.now c.args.text.now in
    ap reverse (back_again c.self.inside.ops run c.push_run.new.self c.pop.new.self (length c.args.text.now) c.in_ok-push_run.ensures.ok
    (length-run c.args.start.now c.args.text.now) c.pop.ensures) ∙ c.self.view_is

pub invariant_of-self-in_default : goal.invariant_of-self-in_default
invariant_of-self-in_default c =
    let i = c.self.inside in
    let run = run_from c.args.start.now c.args.text.now in
    let same : c.pop.new.self ≡ i.ops =
    back_again i.ops run c.push_run.new.self c.pop.new.self (length c.args.text.now) c.in_ok-push_run.ensures.ok (length-run c.args.start.now c.args.text.now) c.pop.ensures in
    let index : c.note_run.new.self ≡ i.index = c.in_default.ensures.err in
    record {
      lawful = subst (λ ops. Lawful (reverse ops)) (sym same) c.self.invariant.lawful;
      indexed = subst (λ ops. ArePositions c.note_run.new.self.positions.values (reverse ops)) (sym same)
          (subst (λ z. ArePositions z.positions.values (reverse i.ops)) (sym index) c.self.invariant.indexed);
      listed = ap (λ z. z.sections_and_notes.items) index ∙ c.self.invariant.listed ∙ ap (λ ops. sections_and_notes (reverse ops)) (sym same);
    }
