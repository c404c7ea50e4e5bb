-- What taking in one operation comes to.
use Rattle.std.proofs.Common.{◌≡◌, sym, ◌∙◌, ap, subst, ℕ, ◌+◌, length, false, arith, inr}
use Rattle.std.proofs.lemmas.List.Elements.{All-push}
use Rattle.fugue_ids.specs.declared.op.Op.{Op}
use Rattle.origin_model.specs.operations.Verdict.{verdict}
use Rattle.origin_model.specs.declared.taking.Tally.{Tally}
use Rattle.origin_model.specs.taking.Taking.{Held, Answer, Accepted, Waits, answer, held_after, is_decided, is_kept, settle, intake, answer_counted, settling_counted}
use Rattle.origin_model.specs.taking.Taking.{intake_counted, IsSettled}
use Rattle.replica_core.specs.Settling.{SettlesTo}
use Rattle.replica_core.specs.Answering.{JoinsNext, StandsPartly, SettlesOn, LeavesAfterFault, total}
use Rattle.origin_model.specs.edits.State.{State}
use Rattle.replica_core.specs.declared.keeping.FeedFault.TheVariants.{NoMemory as FedNoMemory}
use Rattle.replica_core.proofs.DecisionLemmas.{may_wait, waits_undecided}
use Rattle.origin_model.proofs.SharedLemmas.{settle-settled}
use Rattle.replica_core.proofs.StepLemmas.{settle-reaches, reaches-settled}
use Rattle.replica_core.proofs.CountLemmas.{counted-none, reaches_grew}

-- what an operation leaves, and what is counted of it
pub record IsFed (hold most : ℕ) (s : Held) (op : Op) (before : Tally) (new : Held) (after : Tally) : Type 0 where
  pub held : new ≡ intake hold most s op
  pub counted : after ≡ intake_counted hold most s op before

-- an answer that leaves a settled state
pub fed_quietly : (hold most : ℕ) (s : Held) (op : Op) (a : Answer) (t : Tally) → answer hold most s op ≡ a → IsSettled (held_after a s op)
    → IsFed hold most s op t (held_after a s op) (answer_counted a t)
fed_quietly hold most s op a t e settled =
    let same : settle (held_after a s op) ≡ held_after a s op = settle-settled (held_after a s op) settled in
    record {
      held = sym (ap (λ (b : Answer). settle (held_after b s op)) e ∙ same);
      counted = sym (ap (λ (b : Answer). settling_counted (held_after b s op) (settle (held_after b s op)) (answer_counted b t)) e
          ∙ ap (λ (h : Held). settling_counted (held_after a s op) h (answer_counted a t)) same
          ∙ counted-none (held_after a s op) (answer_counted a t));
    }

-- an accepted operation, and the settling after it
pub fed_settled : (hold most : ℕ) (s u : Held) (op : Op) (t : Tally) → answer hold most s op ≡ Accepted → SettlesTo (held_after Accepted s op) u → IsSettled u
    → IsFed hold most s op t u (settling_counted (held_after Accepted s op) u (answer_counted Accepted t))
fed_settled hold most s u op t e r settled =
    let end : u ≡ settle (held_after Accepted s op) = reaches-settled (held_after Accepted s op) u r settled in
    record {
      held = end ∙ sym (ap (λ (b : Answer). settle (held_after b s op)) e);
      counted = ap (λ (h : Held). settling_counted (held_after Accepted s op) h (answer_counted Accepted t)) end
          ∙ sym (ap (λ (b : Answer). settling_counted (held_after b s op) (settle (held_after b s op)) (answer_counted b t)) e);
    }

-- an accepted operation, and some of the settling after it
pub fed_partly : (hold most : ℕ) (s u : Held) (op : Op) (t : Tally) → answer hold most s op ≡ Accepted → SettlesTo (held_after Accepted s op) u → JoinsNext u
    → StandsPartly hold most s u op t (settling_counted (held_after Accepted s op) u (answer_counted Accepted t))
fed_partly hold most s u op t e r stopped = record {
  steps = subst (λ b. SettlesTo (held_after b s op) u) (sym e) r;
  counted = sym (ap (λ (b : Answer). settling_counted (held_after b s op) u (answer_counted b t)) e);
  stopped = stopped;
  goes_on = settle-reaches (held_after Accepted s op) u r ∙ sym (ap (λ (b : Answer). settle (held_after b s op)) e);
}

-- an operation that comes to wait leaves a settled state settled
pub waits_settled : (hold most : ℕ) (s : Held) (op : Op) → answer hold most s op ≡ Waits → IsSettled s → IsSettled (held_after Waits s op)
waits_settled hold most s op e settled =
    All-push (λ o. is_decided (verdict s.history o) ≡ false) s.waiting op settled
    (waits_undecided hold most s op (ap may_wait e))

-- what a replica and its tally are after an operation was taken in
pub record IsFedState (s : State) (op : Op) (before : Tally) (new : State) (after : Tally) : Type 0 where
  pub held : new ≡ record s { held = intake s.hold s.most s.held op }
  pub counted : after ≡ intake_counted s.hold s.most s.held op before
  pub settled : IsSettled new.held
  pub once : total after + length new.held.waiting ≡ total before + length s.held.waiting + 1

-- an answer that leaves a settled replica
quiet_state : (s new : State) (op : Op) (a : Answer) (t : Tally) → answer s.hold s.most s.held op ≡ a → IsSettled (held_after a s.held op)
    → new ≡ record s { held = held_after a s.held op }
    → total (answer_counted a t) + length (held_after a s.held op).waiting ≡ total t + length s.held.waiting + 1 → IsFedState s op t new (answer_counted a t)
quiet_state s new op a t e settled is once =
    let fed = fed_quietly s.hold s.most s.held op a t e settled in
    let held_is : new.held ≡ held_after a s.held op = ap (λ (x : State). x.held) is in
    record {
      held = is ∙ ap (λ (h : Held). record s { held = h }) fed.held;
      counted = fed.counted;
      settled = subst IsSettled (sym held_is) settled;
      once = ap (λ (h : Held). total (answer_counted a t) + length h.waiting) held_is ∙ once;
    }

-- a refusal leaves a settled replica
pub refused_fed : (s new : State) (op : Op) (a : Answer) (t : Tally) → answer s.hold s.most s.held op ≡ a → held_after a s.held op ≡ s.held → IsSettled s.held → new ≡ s
    → total (answer_counted a t) ≡ total t + 1 → IsFedState s op t new (answer_counted a t)
refused_fed s new op a t e same settled is one =
    quiet_state s new op a t e (subst IsSettled (sym same) settled) (is ∙ ap (λ (h : Held). record s { held = h }) (sym same))
    (omega (arith, one, ap (λ (h : Held). length h.waiting) same))

-- an answer that takes the operation, or knows it already, and leaves a settled replica
pub taken_fed : (s new : State) (op : Op) (a : Answer) (t : Tally) → answer s.hold s.most s.held op ≡ a → IsSettled (held_after a s.held op)
    → new ≡ record s { held = held_after (answer s.hold s.most s.held op) s.held op }
    → total (answer_counted a t) + length (held_after a s.held op).waiting ≡ total t + length s.held.waiting + 1 → IsFedState s op t new (answer_counted a t)
taken_fed s new op a t e settled is once =
    quiet_state s new op a t e settled (is ∙ ap (λ (b : Answer). record s { held = held_after b s.held op }) e) once

accepted_mid : (s mid : State) (op : Op) → answer s.hold s.most s.held op ≡ Accepted → mid ≡ record s { held = held_after (answer s.hold s.most s.held op) s.held op }
    → mid ≡ record s { held = held_after Accepted s.held op }
accepted_mid s mid op e is = is ∙ ap (λ (b : Answer). record s { held = held_after b s.held op }) e

-- steps keep the number of those that are counted or wait
counted_once : (s u : Held) (t : Tally) → SettlesTo s u → total (settling_counted s u t) + length u.waiting ≡ total t + length s.waiting
counted_once s u t r = let g = reaches_grew s u r in omega (arith, g.later, g.together)

-- an accepted operation, and all of the settling after it
pub accepted_fed : (s mid new : State) (op : Op) (before after : Tally) → answer s.hold s.most s.held op ≡ Accepted
    → mid ≡ record s { held = held_after (answer s.hold s.most s.held op) s.held op }
    → SettlesOn mid new (answer_counted Accepted before) after → IsSettled new.held → IsFedState s op before new after
accepted_fed s mid new op before after e is so settled =
    let mid_is = accepted_mid s mid op e is in
    let held_is : mid.held ≡ held_after Accepted s.held op = ap (λ (x : State). x.held) mid_is in
    let fed = fed_settled s.hold s.most s.held new.held op before e (subst (λ (h : Held). SettlesTo h new.held) held_is so.steps) settled in
    record {
      held = so.others ∙ ap (λ (x : State). record x { held = new.held }) mid_is ∙ ap (λ (h : Held). record s { held = h }) fed.held;
      counted = so.counted ∙ ap (λ (h : Held). settling_counted h new.held (answer_counted Accepted before)) held_is ∙ fed.counted;
      settled = settled;
      once = ap (λ (t : Tally). total t + length new.held.waiting) so.counted
          ∙ counted_once mid.held new.held (answer_counted Accepted before) so.steps
          ∙ omega (arith, ap (λ (h : Held). length h.waiting) held_is);
    }

-- an accepted operation, and some of the settling after it
pub accepted_partly : (s mid new : State) (op : Op) (before after : Tally) → answer s.hold s.most s.held op ≡ Accepted
    → mid ≡ record s { held = held_after (answer s.hold s.most s.held op) s.held op }
    → SettlesOn mid new (answer_counted Accepted before) after → JoinsNext new.held → LeavesAfterFault s new op before after FedNoMemory
accepted_partly s mid new op before after e is so stopped =
    let mid_is = accepted_mid s mid op e is in
    let held_is : mid.held ≡ held_after Accepted s.held op = ap (λ (x : State). x.held) mid_is in
    let partly = fed_partly s.hold s.most s.held new.held op before e (subst (λ (h : Held). SettlesTo h new.held) held_is so.steps) stopped in
    let counted : after ≡ settling_counted (held_after Accepted s.held op) new.held (answer_counted Accepted before) =
    so.counted ∙ ap (λ (h : Held). settling_counted h new.held (answer_counted Accepted before)) held_is in (
      ap is_kept e,
      so.others ∙ ap (λ (x : State). record x { held = new.held }) mid_is,
      inr (subst (StandsPartly s.hold s.most s.held new.held op before) (sym counted) partly),
    )
