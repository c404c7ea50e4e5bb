use Rattle.std.proofs.Common.{refl, sym, ◌∙◌, subst, ap, List, ◌∷◌, drop}
use Rattle.std.specs.Prelude.{Some, Result, Ok, Err, OnErr}
use Rattle.fugue_ids.specs.declared.op.Op.{Op}
use Rattle.origin_model.specs.taking.Taking.{Held, IsSettled}
use Rattle.origin_model.specs.edits.State.{State}
use Rattle.replica_core.specs.Replica.{replica_state}
use Rattle.replica_core.specs.Answering.{JoinsNext, Settles}
use Rattle.replica_core.specs.declared.replica.Settled.TheVariants.{Accepted, DroppedStray}
use Rattle.replica_core.proofs.MarkLemmas.{first_due, due_position, marks_left}
use Rattle.replica_core.proofs.StepLemmas.{none_left}
use Rattle.replica_core.proofs.StepStandingLemmas.{IsStep, accepted_step, dropped_step, joins_next}
use Rattle.replica_core.proofs.open_replica.OpenReplica.step.Goals as goal

pub returns-in_default-clause-step : goal.returns-in_default-clause-step
returns-in_default-clause-step c =
    let Settled : State → Type 0 = λ s. IsSettled s.held in (
      subst Settled (ap (λ x. x.state) c.self.view_is)
          (none_left (record { history = c.self.inside.accepted; waiting = c.self.inside.inbox.ops }) c.first.result
          (c.first.ensures.first ∙ first_due c.self.inside.accepted c.self.inside.inbox.ops c.self.inside.due c.self.invariant.marks) c.in_default.not-Some),
      ap (λ (s : State). s.held) (ap (λ x. x.state) c.self.view_is),
    )

on_err : {E T P : Type 0} (result : Result T E) → P → OnErr result P
on_err (Ok v) p = tt
on_err (Err e) p = p

pub returns-in_err-copy-in-Ready-clause-wanting : goal.returns-in_err-copy-in-Ready-clause-wanting
returns-in_err-copy-in-Ready-clause-wanting c =
    let h : List Op = c.self.inside.accepted in
    let w : List Op = c.self.inside.inbox.ops in
    let Next : State → Type 0 = λ s. OnErr c.from_residual.result (JoinsNext s.held) in
    subst Next (ap (λ x. x.state) c.self.view_is)
    (on_err c.from_residual.result (joins_next (record { history = h; waiting = w }) c.in-Some.position c.op_at-op.result.now
    (due_position h w c.self.inside.due c.first.result c.in-Some.position c.self.invariant.marks c.first.ensures.first c.in-Some.is)
    c.op_at-op.ensures (sym c.verdict.ensures ∙ c.in-Ready.is)))

pub returns-in_default-accept-clause-wanting : goal.returns-in_default-accept-clause-wanting
returns-in_default-accept-clause-wanting c =
    let h : List Op = c.self.inside.accepted in
    let w : List Op = c.self.inside.inbox.ops in
    let Next : State → Type 0 = λ s. JoinsNext s.held in
    subst Next (ap (λ x. x.state) c.self.view_is)
    (joins_next (record { history = h; waiting = w }) c.in-Some.position c.op_at-op.result.now
    (due_position h w c.self.inside.due c.first.result c.in-Some.position c.self.invariant.marks c.first.ensures.first c.in-Some.is)
    c.op_at-op.ensures (sym c.verdict.ensures ∙ c.in-Ready.is))

-- the step of an operation that was Ready, before the others are woken
joins : (c : goal.After-wake-arg-in-Ready-2-1) → IsStep
    (replica_state c.self.inside.number c.self.inside.hold c.self.inside.most c.self.inside.accepted c.self.inside.inbox)
    (record { history = c.accept.new.self; waiting = c.leave-op.new.inbox.ops }) (Accepted c.leave-op.result)
joins c =
    let h : List Op = c.self.inside.accepted in
    let w : List Op = c.self.inside.inbox.ops in
    let s : State = replica_state c.self.inside.number c.self.inside.hold c.self.inside.most h c.self.inside.inbox in
    accepted_step s c.self.inside.inbox c.leave-op.new.inbox c.in-Some.position c.op_at-op.result.now c.leave-op.result c.accept.new.self
    refl (due_position h w c.self.inside.due c.first.result c.in-Some.position c.self.invariant.marks c.first.ensures.first c.in-Some.is) c.op_at-op.ensures
    (sym c.verdict.ensures ∙ c.in-Ready.is)
    (c.in-Ok.ensures.ok ∙ ap (λ (o : Op). o ∷ h) c.in_ok-copy-in-Ready.ensures) c.leave-op.ensures.op c.leave-op.ensures.rest c.self.invariant.sound

pub wake-requires-clause-marks : goal.wake-requires-clause-marks
wake-requires-clause-marks c =
    marks_left c.self.inside.accepted c.self.inside.inbox.ops (drop 1 c.accept.new.self) c.leave-op.new.inbox.ops c.in-Some.position c.first.new.self c.leave-op.new.due
    (c.first.ensures.same ∙ c.self.invariant.marks) c.leave-op.ensures.mark (ap (λ (l : List Op). drop 1 l) c.in-Ok.ensures.ok) c.leave-op.ensures.rest

pub wake-requires-clause-once : goal.wake-requires-clause-once
wake-requires-clause-once c = (joins c).sound.once

pub wake-requires-clause-own_ids : goal.wake-requires-clause-own_ids
wake-requires-clause-own_ids c = (joins c).sound.own_ids

-- the step of an operation that was Ready
joined : (c : goal.After-wake) → IsStep
    (replica_state c.self.inside.number c.self.inside.hold c.self.inside.most c.self.inside.accepted c.self.inside.inbox)
    (record { history = c.accept.new.self; waiting = c.leave-op.new.inbox.ops }) (Accepted c.leave-op.result)
joined c =
    let s : State = replica_state c.self.inside.number c.self.inside.hold c.self.inside.most c.self.inside.accepted c.self.inside.inbox in
    let position = due_position c.self.inside.accepted c.self.inside.inbox.ops c.self.inside.due c.first.result c.in-Some.position c.self.invariant.marks c.first.ensures.first
    c.in-Some.is in
    accepted_step s c.self.inside.inbox c.leave-op.new.inbox c.in-Some.position c.op_at-op.result.now c.leave-op.result c.accept.new.self
    refl position c.op_at-op.ensures
    (sym c.verdict.ensures ∙ c.in-Ready.is)
    (c.in-Ok.ensures.ok ∙ ap (λ (o : Op). o ∷ c.self.inside.accepted) c.in_ok-copy-in-Ready.ensures) c.leave-op.ensures.op c.leave-op.ensures.rest c.self.invariant.sound

pub invariant_of-self-in-Ready : goal.invariant_of-self-in-Ready
invariant_of-self-in-Ready c = record {
  same_hold = c.leave-op.ensures.hold ∙ c.self.invariant.same_hold;
  sound = (joined c).sound;
  marks = c.wake.ensures;
}

pub returns-in-Ok-clause-step : goal.returns-in-Ok-clause-step
returns-in-Ok-clause-step c =
    let Steps : State → Type 0 = λ s. Settles s.held (record { history = c.accept.new.self; waiting = c.leave-op.new.inbox.ops }) (Some (Accepted c.leave-op.result)) in
    subst Steps (ap (λ x. x.state) c.self.view_is) (joined c).settles

pub returns-in-Ok-clause-sound : goal.returns-in-Ok-clause-sound
returns-in-Ok-clause-sound c = (joined c).sound

-- the step of an operation that was stray
dropped : (c : goal.After-leave-op-in_default-verdict) → IsStep
    (replica_state c.self.inside.number c.self.inside.hold c.self.inside.most c.self.inside.accepted c.self.inside.inbox)
    (record { history = c.self.inside.accepted; waiting = c.leave-op-in_default-verdict.new.inbox.ops }) (DroppedStray c.leave-op-in_default-verdict.result)
dropped c =
    let h : List Op = c.self.inside.accepted in
    let w : List Op = c.self.inside.inbox.ops in
    let s : State = replica_state c.self.inside.number c.self.inside.hold c.self.inside.most h c.self.inside.inbox in
    dropped_step s c.self.inside.inbox c.leave-op-in_default-verdict.new.inbox c.in-Some.position c.op_at-op.result.now c.leave-op-in_default-verdict.result
    refl (due_position h w c.self.inside.due c.first.result c.in-Some.position c.self.invariant.marks c.first.ensures.first c.in-Some.is) c.op_at-op.ensures
    (λ ready. c.in_default-verdict.not-Ready (c.verdict.ensures ∙ ready))
    c.leave-op-in_default-verdict.ensures.op c.leave-op-in_default-verdict.ensures.rest c.self.invariant.sound

pub invariant_of-self-in_default-verdict : goal.invariant_of-self-in_default-verdict
invariant_of-self-in_default-verdict c = record {
  same_hold = c.leave-op-in_default-verdict.ensures.hold ∙ c.self.invariant.same_hold;
  sound = (dropped c).sound;
  marks = marks_left c.self.inside.accepted c.self.inside.inbox.ops c.self.inside.accepted c.leave-op-in_default-verdict.new.inbox.ops c.in-Some.position c.first.new.self
      c.leave-op-in_default-verdict.new.due (c.first.ensures.same ∙ c.self.invariant.marks) c.leave-op-in_default-verdict.ensures.mark refl
      c.leave-op-in_default-verdict.ensures.rest;
}

pub returns-in_default-verdict : goal.returns-in_default-verdict
returns-in_default-verdict c =
    let held : Held = record { history = c.self.inside.accepted; waiting = c.leave-op-in_default-verdict.new.inbox.ops } in
    let Steps : State → Type 0 = λ s. Settles s.held held (Some (DroppedStray c.leave-op-in_default-verdict.result)) in
    record {
      step = subst Steps (ap (λ x. x.state) c.self.view_is) (dropped c).settles;
      others = ap (λ (s : State). record s { held = held }) (ap (λ x. x.state) c.self.view_is);
      err = tt;
      wanting = tt;
      sound = (dropped c).sound;
    }
