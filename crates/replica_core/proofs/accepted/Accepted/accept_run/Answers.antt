use Rattle.std.proofs.Common.{ap, arith, drop, length, subst, sym, ◌∙◌}
use Rattle.fugue_ids.specs.Runs.{run_from}
use Rattle.fugue_ids.specs.declared.op.Op.TheVariants.{Text}
use Rattle.fugue_ids.proofs.RunLemmas.{length-typed}
use Rattle.origin_model.specs.edits.Edits.{ReadyInTurn, history_with}
use Rattle.section_catalogue.specs.Manuscript.{Represents}
use Rattle.section_catalogue.proofs.BoundLemmas.{places_bounded}
use Rattle.replica_core.specs.Withdrawn.{HasWithdrawn}
use Rattle.replica_core.proofs.RunLemmas.{length-extended, taken_back}
use Rattle.replica_core.proofs.WithdrawnLemmas.{run_withdrawn}
use Rattle.replica_core.proofs.accepted.Accepted.accept_run.Goals as goal

pub insert_run-requires-clause-room : goal.insert_run-requires-clause-room
insert_run-requires-clause-room c =
    let start = c.args.start.now in
    let bound = places_bounded c.self.inside.manuscript c.self.inside.history (Text start.id start.section start.left start.right 0) c.self.invariant.represents in
    omega (arith, bound, c.requires.room, ap length c.self.view_is)

pub pop_all-requires : goal.pop_all-requires
pop_all-requires c =
    let start = c.args.start.now in
    let text = c.args.text.now in
    let h = c.self.inside.history in
    omega (arith, ap length c.in_ok-push_run.ensures.ok, length-extended (run_from start text) h, length-typed start.id start.section start.left start.right text)

pub returns-in-Err-clause-err : goal.returns-in-Err-clause-err
returns-in-Err-clause-err c =
    let start = c.args.start.now in
    let text = c.args.text.now in
    let h = c.self.inside.history in
    let ops = run_from start text in
    c.pop_all.ensures ∙ ap (drop (length text)) c.in_ok-push_run.ensures.ok
    ∙ ap (λ n. drop n (history_with h ops)) (sym (length-typed start.id start.section start.left start.right text)) ∙ taken_back ops h
    ∙ c.self.view_is

pub invariant_of-self-in-Err : goal.invariant_of-self-in-Err
invariant_of-self-in-Err c =
    let same = c.self.view_is ∙ sym (returns-in-Err-clause-err c) in
    record {
      represents = subst (Represents c.insert_run.new.self) same ((c.in-Err.ensures.err c.self.inside.history).0 c.self.invariant.represents);
      withdrawn_are = subst (HasWithdrawn c.self.inside.withdrawn.values) same c.self.invariant.withdrawn_are;
    }

pub invariant_of-self-in-Ok : goal.invariant_of-self-in-Ok
invariant_of-self-in-Ok c =
    let start = c.args.start.now in
    let text = c.args.text.now in
    let h = c.self.inside.history in
    let ready = subst (λ z. ReadyInTurn z (run_from start text)) (sym c.self.view_is) c.requires.ready in
    record {
      represents = subst (Represents c.insert_run.new.self) (sym c.in_ok-push_run.ensures.ok) (c.in-Ok.ensures.ok h c.self.invariant.represents ready);
      withdrawn_are = subst (HasWithdrawn c.self.inside.withdrawn.values) (sym c.in_ok-push_run.ensures.ok)
          (run_withdrawn text c.self.inside.withdrawn.values start.id start.section start.left start.right h ready c.self.invariant.withdrawn_are);
    }
