-- What settling is counted as.
use Rattle.std.proofs.Common.{◌≡◌, refl, sym, ◌∙◌, ap, subst, ℕ, suc, ◌+◌, ◌<◌, ◌≤◌, ◌^◌, length, ◌∷◌, true, arith, inl, inr}
use Rattle.std.specs.Prelude.{Option, Some}
use Rattle.fugue_ids.specs.declared.op.Op.{Op}
use Rattle.fugue_ids.specs.declared.limits.TheConstants.{GREATEST_HOLD}
use Rattle.origin_model.specs.declared.taking.Tally.{Tally}
use Rattle.origin_model.specs.taking.Taking.{Held, settle_step, count_joined, count_dropped, settling_counted}
use Rattle.origin_model.specs.edits.State.{State, IsSound}
use Rattle.replica_core.specs.Settling.{SettlesTo, Here, Step}
use Rattle.replica_core.specs.Answering.{IsTallied, Settles, SettlesOn}
use Rattle.replica_core.specs.declared.replica.Settled.{Settled}
use Rattle.replica_core.specs.declared.replica.Settled.TheVariants.{Accepted as SettledAccepted, DroppedStray}
use Rattle.replica_core.proofs.StepLemmas.{step_moves, reaches_then}

-- two tallies agree
pub tally_same : (t : Tally) (a b c d : ℕ) → a ≡ b → c ≡ d → record t { accepted = a; stray = c } ≡ record t { accepted = b; stray = d }
tally_same t a b c d e f = λ i. record t { accepted = e i; stray = f i }

-- no step counts as nothing
pub counted-none : (s : Held) (t : Tally) → settling_counted s s t ≡ t
counted-none s t = tally_same t (t.accepted + count_joined s s) t.accepted (t.stray + count_dropped s s) t.stray (omega arith) (omega arith)

-- a step by which an operation joins
pub counted_joined : (s u : Held) (op : Op) (t : Tally) → settle_step s ≡ Some u → u.history ≡ op ∷ s.history → record t { accepted = t.accepted + 1 } ≡ settling_counted s u t
counted_joined s u op t e is =
    let m = step_moves s u e in
    let longer : length u.history ≡ suc (length s.history) = ap length is in
    tally_same t (t.accepted + 1) (t.accepted + count_joined s u) t.stray (t.stray + count_dropped s u) (omega (arith, longer)) (omega (arith, longer, m.shorter))

-- a step by which an operation is dropped
pub counted_dropped : (s u : Held) (t : Tally) → settle_step s ≡ Some u → u.history ≡ s.history → record t { stray = t.stray + 1 } ≡ settling_counted s u t
counted_dropped s u t e is =
    let m = step_moves s u e in
    let same : length u.history ≡ length s.history = ap length is in
    tally_same t t.accepted (t.accepted + count_joined s u) (t.stray + 1) (t.stray + count_dropped s u) (omega (arith, same)) (omega (arith, same, m.shorter))

-- how steps change the lengths
pub record Grew (s t : Held) : Type 0 where
  pub later : length s.history ≤ length t.history
  pub together : length t.history + length t.waiting ≤ length s.history + length s.waiting

-- steps never shorten the history, and each operation that joins it has waited
pub reaches_grew : (s t : Held) → SettlesTo s t → Grew s t
reaches_grew _ _ (Here s) = record { later = omega arith; together = omega arith }
reaches_grew _ _ (Step s a t e r) =
    let m = step_moves s a e in
    let g = reaches_grew a t r in
    elim m.longer [
      | inl same ↦ record { later = omega (arith, g.later, same); together = omega (arith, g.together, same, m.shorter) }
      | inr more ↦ record { later = omega (arith, g.later, more); together = omega (arith, g.together, more, m.shorter) }
    ]

-- steps and one step more are counted together
pub counted_more : (s t u : Held) (x : Tally) → SettlesTo s t → settle_step t ≡ Some u → settling_counted t u (settling_counted s t x) ≡ settling_counted s u x
counted_more s t u x r e =
    let g = reaches_grew s t r in
    let m = step_moves t u e in
    elim m.longer [
      | inl same ↦ tally_same x (x.accepted + count_joined s t + count_joined t u) (x.accepted + count_joined s u)
          (x.stray + count_dropped s t + count_dropped t u) (x.stray + count_dropped s u)
          (omega (arith, g.later, same)) (omega (arith, g.later, g.together, same, m.shorter))
      | inr more ↦ tally_same x (x.accepted + count_joined s t + count_joined t u) (x.accepted + count_joined s u)
          (x.stray + count_dropped s t + count_dropped t u) (x.stray + count_dropped s u)
          (omega (arith, g.later, more)) (omega (arith, g.later, g.together, more, m.shorter))
    ]

-- how far settling has come, and what its loop needs
pub record IsSettling (start now : State) (before after : Tally) : Type 0 where
  pub way : SettlesOn start now before after
  pub sound : IsSound now
  pub few : length start.held.waiting ≤ GREATEST_HOLD
  pub accepted : before.accepted ≤ 2 ^ 31
  pub stray : before.stray < 2 ^ 31

-- settling that has not begun
pub settles_here : (s : State) (t : Tally) → SettlesOn s s t t
settles_here s t = record { steps = Here s.held; counted = sym (counted-none s.held t); others = refl }

-- the same, where a loop begins
pub settling_starts : (s : State) (t : Tally) → IsSound s → t.accepted ≤ 2 ^ 31 → t.stray < 2 ^ 31 → IsSettling s s t t
settling_starts s t sound accepted stray = record {
  way = settles_here s t;
  sound = sound;
  few = omega (arith, sound.few_wait, sound.hold_within.1);
  accepted = accepted;
  stray = stray;
}

-- one step more is counted in its turn
pub settling_more : (start now next : State) (before after then : Tally) → IsSettling start now before after → IsTallied now.held next.held after then true
    → next ≡ record now { held = next.held } → IsSound next → IsSettling start next before then
settling_more start now next before after then so step others sound = record {
  way = record {
    steps = reaches_then start.held now.held next.held so.way.steps step.0;
    counted = step.1 ∙ ap (settling_counted now.held next.held) so.way.counted ∙ counted_more start.held now.held next.held before so.way.steps step.0;
    others = others ∙ ap (λ (s : State). record s { held = next.held }) so.way.others;
  };
  sound = sound;
  few = so.few;
  accepted = so.accepted;
  stray = so.stray;
}

-- a step that is reported as one by which an operation joins
pub answer_joined : (s u : Held) (told : Option Settled) (op : Op) (t : Tally) → told ≡ Some (SettledAccepted op) → Settles s u told
    → (settle_step s ≡ Some u) × (record t { accepted = t.accepted + 1 } ≡ settling_counted s u t)
answer_joined s u told op t is step =
    let joined : Settles s u (Some (SettledAccepted op)) = subst (Settles s u) is step in
    (joined.0, counted_joined s u op t joined.0 joined.2)

-- a step that is reported as one by which an operation is dropped
pub answer_dropped : (s u : Held) (told : Option Settled) (op : Op) (t : Tally) → told ≡ Some (DroppedStray op) → Settles s u told
    → (settle_step s ≡ Some u) × (record t { stray = t.stray + 1 } ≡ settling_counted s u t)
answer_dropped s u told op t is step =
    let dropped : Settles s u (Some (DroppedStray op)) = subst (Settles s u) is step in
    (dropped.0, counted_dropped s u t dropped.0 dropped.2)
