-- What the steps of a replica's settling leave.
use Rattle.std.proofs.Common.{◌≡◌, refl, sym, ◌∙◌, ap, subst, ℕ, ◌<◌, length, List, ◌∷◌}
use Rattle.std.specs.Prelude.{Some, position, remove, slice_get}
use Rattle.std.proofs.lemmas.Option.{same_Some, slice_get_within}
use Rattle.fugue_ids.specs.declared.op.Op.{Op}
use Rattle.origin_model.specs.operations.Verdict.{verdict}
use Rattle.origin_model.specs.declared.operations.Verdict.TheVariants.{Ready}
use Rattle.origin_model.specs.taking.Taking.{Held, decided_on}
use Rattle.causal_inbox.specs.Waiting.{OpenWaiting}
use Rattle.origin_model.specs.edits.State.{State, IsSound}
use Rattle.replica_core.specs.Answering.{JoinsNext, Settles}
use Rattle.replica_core.specs.declared.replica.Settled.{Settled}
use Rattle.replica_core.specs.declared.replica.Settled.TheVariants.{Accepted, DroppedStray}
use Rattle.replica_core.proofs.EarliestLemmas.{earliest_at}
use Rattle.replica_core.proofs.StandingLemmas.{stands_dropped, stands_joined}
use Rattle.replica_core.proofs.StepLemmas.{step_joined, step_dropped}

-- a step of settling, and what is so after it
pub record IsStep (s : State) (new : Held) (settled : Settled) : Type 0 where
  pub settles : Settles s.held new (Some settled)
  pub sound : IsSound (record s { held = new })

-- the Ready operation at the first position of a decided one was accepted and removed
pub accepted_step : (s : State) (inbox new : OpenWaiting) (k : ℕ) (op removed : Op) (history : List Op)
    → inbox.ops ≡ s.held.waiting → position (decided_on s.held.history) s.held.waiting ≡ Some k
    → slice_get s.held.waiting k ≡ Some op → verdict s.held.history op ≡ Ready
    → history ≡ op ∷ s.held.history → slice_get s.held.waiting k ≡ Some removed → new.ops ≡ remove inbox.ops k → IsSound s
    → IsStep s (record { history = history; waiting = new.ops }) (Accepted removed)
accepted_step s inbox new k op removed history same first there ready is_history out is_new sound =
    let w : List Op = s.held.waiting in
    let it : op ≡ removed = same_Some op removed (sym there ∙ out) in
    let ready_removed : verdict s.held.history removed ≡ Ready = ap (verdict s.held.history) (sym it) ∙ ready in
    let longer : history ≡ removed ∷ s.held.history = is_history ∙ ap (λ (o : Op). o ∷ s.held.history) it in
    let rest : new.ops ≡ remove w k = is_new ∙ ap (λ (ops : List Op). remove ops k) same in
    let step = step_joined s.held k removed first out ready_removed in
    let new_held : Held = record { history = history; waiting = new.ops } in
    let is_held : record { history = removed ∷ s.held.history; waiting = remove w k } ≡ new_held = λ i. record { history = sym longer i; waiting = sym rest i } in
    record {
      settles = (
        step.0 ∙ ap (λ (h : Held). Some h) is_held,
        step.1 ∙ ap (λ (ops : List Op). Some (removed, ops)) (sym rest),
        longer,
      );
      sound = subst (λ (h : Held). IsSound (record s { held = h })) is_held (stands_joined s k removed sound out ready_removed);
    }

-- the operation at the first position of a decided one was not Ready and was removed
pub dropped_step : (s : State) (inbox new : OpenWaiting) (k : ℕ) (op removed : Op)
    → inbox.ops ≡ s.held.waiting → position (decided_on s.held.history) s.held.waiting ≡ Some k
    → slice_get s.held.waiting k ≡ Some op → (verdict s.held.history op ≡ Ready → ⊥)
    → slice_get s.held.waiting k ≡ Some removed → new.ops ≡ remove inbox.ops k → IsSound s
    → IsStep s (record { history = s.held.history; waiting = new.ops }) (DroppedStray removed)
dropped_step s inbox new k op removed same first there other out is_new sound =
    let w : List Op = s.held.waiting in
    let it : op ≡ removed = same_Some op removed (sym there ∙ out) in
    let rest : new.ops ≡ remove w k = is_new ∙ ap (λ (ops : List Op). remove ops k) same in
    let step = step_dropped s.held k removed first out (λ ready. other (ap (verdict s.held.history) it ∙ ready)) in
    let below : k < length w = slice_get_within w k removed out in
    let is_held : record { history = s.held.history; waiting = remove w k } ≡ record { history = s.held.history; waiting = new.ops } =
    ap (λ (ops : List Op). record { history = s.held.history; waiting = ops }) (sym rest) in
    record {
      settles = (
        step.0 ∙ ap (λ (h : Held). Some h) is_held,
        step.1 ∙ ap (λ (ops : List Op). Some (removed, ops)) (sym rest),
        refl,
      );
      sound = subst (λ (h : Held). IsSound (record s { held = h })) is_held (stands_dropped s k sound below);
    }

-- the Ready operation at the first position of a decided one is the next to leave
pub joins_next : (s : Held) (k : ℕ) (op : Op) → position (decided_on s.history) s.waiting ≡ Some k → slice_get s.waiting k ≡ Some op → verdict s.history op ≡ Ready
    → JoinsNext s
joins_next s k op first there ready = record { op = op; others = remove s.waiting k; next = earliest_at s.history s.waiting k op first there; ready = ready }
