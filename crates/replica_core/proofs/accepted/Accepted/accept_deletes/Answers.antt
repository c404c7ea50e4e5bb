use Rattle.std.proofs.Common.{false, ap, arith, drop, length, refl, subst, sym, ◌-◌, ◌≤◌, ◌∙◌}
use Rattle.op_runs.specs.Deletions.{deletes_up}
use Rattle.op_runs.proofs.DeletionLemmas.{length-deletes}
use Rattle.origin_model.specs.edits.Edits.{ReadyInTurn, history_with}
use Rattle.section_catalogue.specs.Manuscript.{Represents}
use Rattle.replica_core.specs.Deleting.{AreWithin, ids_from}
use Rattle.replica_core.specs.Withdrawn.{HasWithdrawn}
use Rattle.replica_core.proofs.DeletingLemmas.{others_taken_back, placed_each, stands_deleted}
use Rattle.replica_core.proofs.RunLemmas.{length-extended}
use Rattle.replica_core.proofs.WithdrawnLemmas.{front_withdrawn}
use Rattle.replica_core.proofs.accepted.Accepted.accept_deletes.Goals as goal

pub hide_run-requires-clause-placed : goal.hide_run-requires-clause-placed
hide_run-requires-clause-placed c =
    placed_each c.args.count c.args.first c.args.section.now c.self.inside.manuscript c.self.inside.history c.self.invariant.represents
    (subst (λ h. AreWithin c.args.section.now h (ids_from c.args.first c.args.count)) (sym c.self.view_is) c.requires.within)

pub pop_all-requires : goal.pop_all-requires
pop_all-requires c =
    let x = c.args.first in
    let n = c.args.count in
    let h = c.self.inside.history in
    omega (arith, ap length c.in-Ok.ensures.ok, length-extended (deletes_up x n) h, length-deletes false x n)

pub returns-in-Err-clause-err : goal.returns-in-Err-clause-err
returns-in-Err-clause-err c =
    let x = c.args.first in
    let n = c.args.count in
    let done = c.in-Err.stopped.done in
    let h = c.self.inside.history in
    let l : done ≤ n = omega (arith, c.in-Err.ensures.fewer) in
    c.pop_all.ensures ∙ ap (drop (n - done)) c.in-Ok.ensures.ok ∙ others_taken_back n done (n - done) x h l refl ∙ ap (λ z. history_with z (deletes_up x done)) c.self.view_is

pub invariant_of-self-in-Err : goal.invariant_of-self-in-Err
invariant_of-self-in-Err c =
    let x = c.args.first in
    let n = c.args.count in
    let done = c.in-Err.stopped.done in
    let i = c.self.inside in
    let h = i.history in
    let l : done ≤ n = omega (arith, c.in-Err.ensures.fewer) in
    let ready = subst (λ z. ReadyInTurn z (deletes_up x n)) (sym c.self.view_is) c.requires.ready in
    let inside = subst (λ z. AreWithin c.args.section.now z (ids_from x n)) (sym c.self.view_is) c.requires.within in
    let same = ap (λ z. history_with z (deletes_up x done)) c.self.view_is ∙ sym (returns-in-Err-clause-err c) in
    record {
      represents = subst (Represents c.hide_run.new.self) same
          (stands_deleted i.manuscript c.hide_run.new.self n done x h l ready c.self.invariant.represents c.in-Err.ensures.err);
      withdrawn_are = subst (HasWithdrawn i.withdrawn.values) same (front_withdrawn i.withdrawn.values n done x c.args.section.now h l ready inside c.self.invariant.withdrawn_are);
    }

pub invariant_of-self-in-Ok-hide_run : goal.invariant_of-self-in-Ok-hide_run
invariant_of-self-in-Ok-hide_run c =
    let x = c.args.first in
    let n = c.args.count in
    let i = c.self.inside in
    let h = i.history in
    let ready = subst (λ z. ReadyInTurn z (deletes_up x n)) (sym c.self.view_is) c.requires.ready in
    let inside = subst (λ z. AreWithin c.args.section.now z (ids_from x n)) (sym c.self.view_is) c.requires.within in
    let same = sym c.in-Ok.ensures.ok in
    record {
      represents = subst (Represents c.hide_run.new.self) same
          (stands_deleted i.manuscript c.hide_run.new.self n n x h (omega arith) ready c.self.invariant.represents c.in-Ok-hide_run.ensures.ok);
      withdrawn_are = subst (HasWithdrawn i.withdrawn.values) same
          (front_withdrawn i.withdrawn.values n n x c.args.section.now h (omega arith) ready inside c.self.invariant.withdrawn_are);
    }
