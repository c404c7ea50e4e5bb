use Rattle.std.proofs.Common.{◌≡◌, refl, sym, ◌∙◌, subst, ap, ℕ, List, length, nat_eq, if◌then◌else◌, ◌++◌, ◌∷◌, [], false, Bool}
use Rattle.fugue_ids.specs.declared.op.Op.{Op}
use Rattle.causal_inbox.specs.Waiting.{OpenWaiting}
use Rattle.origin_model.specs.taking.Taking.{answer, Accepted, Full, Waits}
use Rattle.origin_model.specs.edits.State.{State, IsSound}
use Rattle.origin_model.proofs.SharedLemmas.{accepted_is_ready}
use Rattle.replica_core.specs.Replica.{replica_state}
use Rattle.replica_core.specs.Due.{due_marks}
use Rattle.replica_core.proofs.DecisionLemmas.{may_wait, may_wait-decided, waits_undecided}
use Rattle.replica_core.proofs.MarkLemmas.{marks_pushed}
use Rattle.replica_core.proofs.StandingLemmas.{stands_same, stands_by_accept, stands_by_push}
use Rattle.replica_core.proofs.open_replica.OpenReplica.deliver.Goals as goal
use Rattle.replica_core.proofs.open_replica.OpenReplica.deliver.Goals.{in-Ok-wait, in-Err-Full, in-Err-NoMemory}

-- what is so after `accept`
accepts : (s now : State) (new : List Op) (op : Op) → s ≡ now → answer now.hold now.most now.held op ≡ Accepted → new ≡ op ∷ s.held.history → IsSound s
    → IsSound (record s { held = record { history = new; waiting = s.held.waiting } })
accepts s now new op same answered is sound =
    let IsAccepted : State → Type 0 = λ x. answer x.hold x.most x.held op ≡ Accepted in
    stands_by_accept s new op (subst IsAccepted (sym same) answered) is sound

pub accept-requires-clause-ready : goal.accept-requires-clause-ready
accept-requires-clause-ready c =
    let i = c.self.inside in
    let s : State = replica_state i.number i.hold i.most i.accepted i.inbox in
    accepted_is_ready s.hold s.most s.held c.args.op
    (subst (λ (x : State). answer x.hold x.most x.held c.args.op ≡ Accepted) (sym (ap (λ x. x.state) c.self.view_is)) c.in-Ready.ensures)

pub wake-requires-clause-once : goal.wake-requires-clause-once
wake-requires-clause-once c =
    (accepts _ c.args.self.now.state c.accept.new.self c.args.op (ap (λ x. x.state) c.self.view_is) c.in-Ready.ensures c.in-Ok.ensures.ok c.self.invariant.sound).once

pub wake-requires-clause-own_ids : goal.wake-requires-clause-own_ids
wake-requires-clause-own_ids c =
    (accepts _ c.args.self.now.state c.accept.new.self c.args.op (ap (λ x. x.state) c.self.view_is) c.in-Ready.ensures c.in-Ok.ensures.ok c.self.invariant.sound).own_ids

pub invariant_of-self : goal.invariant_of-self
invariant_of-self c = record {
  same_hold = c.self.invariant.same_hold;
  sound = accepts _ c.args.self.now.state c.accept.new.self c.args.op (ap (λ x. x.state) c.self.view_is) c.in-Ready.ensures c.in-Ok.ensures.ok c.self.invariant.sound;
  marks = c.wake.ensures;
}

pub returns-in-Ok-clause-sound : goal.returns-in-Ok-clause-sound
returns-in-Ok-clause-sound c =
    accepts _ c.args.self.now.state c.accept.new.self c.args.op (ap (λ x. x.state) c.self.view_is) c.in-Ready.ensures c.in-Ok.ensures.ok c.self.invariant.sound

-- what is so after `wait`
record Waited (s : State) (inbox : OpenWaiting) (marks : List Bool) : Type 0 where
  same_hold : inbox.hold ≡ s.hold
  sound : IsSound (record s { held = record { history = s.held.history; waiting = inbox.ops } })
  marks_right : marks ≡ due_marks s.held.history inbox.ops

waited : (c : goal.Joined-wait) → Waited
    (replica_state c.self.inside.number c.self.inside.hold c.self.inside.most c.self.inside.accepted c.self.inside.inbox)
    c.wait.new.inbox c.wait.new.due
waited c =
    let h : List Op = c.self.inside.accepted in
    let w : List Op = c.self.inside.inbox.ops in
    let s : State = replica_state c.self.inside.number c.self.inside.hold c.self.inside.most h c.self.inside.inbox in
    let Comes : State → Type 0 = λ x. answer x.hold x.most x.held c.args.op ≡ (if nat_eq (length x.held.waiting) x.hold then Full else Waits) in
    let comes : Comes s = subst Comes (sym (ap (λ x. x.state) c.self.view_is)) c.in-Missing.ensures in
    let hold_of : OpenWaiting → ℕ = λ i. i.hold in
    let ops_of : OpenWaiting → List Op = λ i. i.ops in
    let same : c.wait.new.inbox.ops ≡ w → c.wait.new.due ≡ c.self.inside.due → Waited s c.wait.new.inbox c.wait.new.due =
    λ e d. record {
      same_hold = c.wait.ensures.hold ∙ c.self.invariant.same_hold;
      sound = stands_same s (record { history = h; waiting = c.wait.new.inbox.ops }) (ap (λ (ops : List Op). record { history = h; waiting = ops }) e) c.self.invariant.sound;
      marks_right = d ∙ c.self.invariant.marks ∙ ap (due_marks h) (sym e);
    } in
    elim c.match-wait.branch [
      | in-Ok-wait v ↦ record {
        same_hold = ap hold_of v.in-Ok-wait.ensures.ok ∙ c.self.invariant.same_hold;
        sound = stands_by_push s c.self.inside.inbox c.wait.new.inbox c.args.op refl c.self.invariant.same_hold comes
            v.in-Ok-wait.ensures.ok c.wait.ensures.within c.self.invariant.sound;
        marks_right = v.in-Ok-wait.ensures.mark
            ∙ ap (λ (l : List Bool). l ++ false ∷ []) c.self.invariant.marks
            ∙ marks_pushed h w c.args.op (waits_undecided s.hold s.most s.held c.args.op (ap may_wait comes ∙ may_wait-decided (nat_eq (length w) s.hold)))
            ∙ ap (due_marks h) (sym (ap ops_of v.in-Ok-wait.ensures.ok));
      }
      | in-Err-Full v ↦ same v.in-Err-Full.ensures.err v.in-Err-Full.ensures.marks
      | in-Err-NoMemory v ↦ same v.in-Err-NoMemory.ensures.err v.in-Err-NoMemory.ensures.marks
    ]

pub invariant_of-self-in-Missing : goal.invariant_of-self-in-Missing
invariant_of-self-in-Missing c = let p = waited c in record { same_hold = p.same_hold; sound = p.sound; marks = p.marks_right }

pub returns-after-wait-clause-sound : goal.returns-after-wait-clause-sound
returns-after-wait-clause-sound c = (waited c).sound
