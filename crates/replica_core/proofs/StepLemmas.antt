-- Steps of settling.
use Rattle.std.proofs.Common.{◌≡◌, refl, sym, ◌∙◌, ap, subst, ℕ, suc, ◌≤◌, length, List, [], ◌∷◌, ◌⊎◌, arith, inl, inr}
use Rattle.std.specs.Prelude.{Option, Some, None, position, remove, slice_get}
use Rattle.std.proofs.lemmas.List.{nil_from_length}
use Rattle.fugue_ids.specs.declared.op.Op.{Op}
use Rattle.origin_model.specs.operations.Verdict.{verdict}
use Rattle.origin_model.specs.declared.operations.Verdict.{Verdict}
use Rattle.origin_model.specs.declared.operations.Verdict.TheVariants.{Again, Conflict, Stray, Missing, Ready}
use Rattle.origin_model.specs.taking.Taking.{Held, earliest, joined, settle_step, settled_within, settle, decided_on, IsSettled}
use Rattle.origin_model.proofs.SharedLemmas.{earliest_found, settle-settled}
use Rattle.std.proofs.lemmas.Option.{none-some}
use Rattle.replica_core.proofs.EarliestLemmas.{earliest_at, earliest_settled}
use Rattle.replica_core.specs.Settling.{SettlesTo, Here, Step}
use Rattle.replica_core.proofs.PositionLemmas.{none_passes}

-- what is left after the earliest decided operation
abbrev pub after : Held → Op × List Op → Held
after s r = record { history = joined (verdict s.history r.0) r.0 s.history; waiting = r.1 }

-- no decided operation, no step
step-none : (s : Held) → earliest s.history s.waiting ≡ None → settle_step s ≡ None
step-none s e = rw (e, settle_step)

-- the step of the earliest decided operation
pub step-some : (s : Held) (r : Op × List Op) → earliest s.history s.waiting ≡ Some r → settle_step s ≡ Some (after s r)
step-some s r e = rw (e, settle_step)

-- a settled state takes no step
pub settled_stops : (s : Held) → IsSettled s → settle_step s ≡ None
settled_stops s settled = step-none s (earliest_settled s.history s.waiting settled)

-- the operation at the first position of a decided one that is Ready joins the history
pub step_joined : (s : Held) (k : ℕ) (op : Op) → position (decided_on s.history) s.waiting ≡ Some k → slice_get s.waiting k ≡ Some op → verdict s.history op ≡ Ready
    → (settle_step s ≡ Some (record { history = op ∷ s.history; waiting = remove s.waiting k })) × (earliest s.history s.waiting ≡ Some (op, remove s.waiting k))
step_joined s k op first at ready =
    let found = earliest_at s.history s.waiting k op first at in
    (step-some s (op, remove s.waiting k) found ∙ ap (λ (v : Verdict). Some (record { history = joined v op s.history; waiting = remove s.waiting k })) ready, found)

not_joined : (v : Verdict) (op : Op) (h : List Op) → (v ≡ Ready → ⊥) → joined v op h ≡ h
not_joined Again op h other = refl
not_joined Conflict op h other = refl
not_joined (Stray i) op h other = refl
not_joined (Missing i) op h other = refl
not_joined Ready op h other = absurd (other refl)

-- one that is not Ready is dropped
pub step_dropped : (s : Held) (k : ℕ) (op : Op) → position (decided_on s.history) s.waiting ≡ Some k → slice_get s.waiting k ≡ Some op → (verdict s.history op ≡ Ready → ⊥)
    → (settle_step s ≡ Some (record { history = s.history; waiting = remove s.waiting k })) × (earliest s.history s.waiting ≡ Some (op, remove s.waiting k))
step_dropped s k op first at other =
    let found = earliest_at s.history s.waiting k op first at in (
      step-some s (op, remove s.waiting k) found
          ∙ ap (λ (h : List Op). Some (record { history = h; waiting = remove s.waiting k })) (not_joined (verdict s.history op) op s.history other),
      found,
    )

-- where no decided operation is found, the replica is settled
pub none_left : (s : Held) (found : Option ℕ) → found ≡ position (decided_on s.history) s.waiting → ((k : ℕ) → found ≡ Some k → ⊥) → IsSettled s
none_left s None is other = none_passes (decided_on s.history) s.waiting (sym is)
none_left s (Some k) is other = absurd (other k refl)

-- one step more
pub reaches_then : (s t u : Held) → SettlesTo s t → settle_step t ≡ Some u → SettlesTo s u
reaches_then _ _ u (Here s) e = Step s u u e (Here u)
reaches_then _ _ u (Step s a t e r) f = Step s a u e (reaches_then a t u r f)

-- what an earliest operation leaves is one shorter
earliest_shorter : (h w : List Op) (r : Op × List Op) → earliest h w ≡ Some r → length w ≡ suc (length r.1)
earliest_shorter h w r e =
    elim (earliest_found h w) [
      | inl none ↦ absurd (none-some r (sym none.0 ∙ e))
      | inr found ↦ subst (λ (x : Op × List Op). length w ≡ suc (length x.1)) (some_same found.0 r (sym found.1 ∙ e)) found.2.fewer
    ]
  where
    some_same : (a b : Op × List Op) → Some a ≡ Some b → a ≡ b
    some_same a b e = cc

joined_length : (v : Verdict) (op : Op) (h : List Op) → (length (joined v op h) ≡ length h) ⊎ (length (joined v op h) ≡ suc (length h))
joined_length Again op h = inl refl
joined_length Conflict op h = inl refl
joined_length (Stray i) op h = inl refl
joined_length (Missing i) op h = inl refl
joined_length Ready op h = inr refl

-- a step takes one from those that wait, and adds at most one to the history
pub record Moves (s t : Held) : Type 0 where
  pub shorter : length s.waiting ≡ suc (length t.waiting)
  pub longer : (length t.history ≡ length s.history) ⊎ (length t.history ≡ suc (length s.history))

step_from : (s t : Held) (found : Option (Op × List Op)) → earliest s.history s.waiting ≡ found → settle_step s ≡ Some t → Moves s t
step_from s t None is e = absurd (no_state t (sym (step-none s is) ∙ e))
  where
    no_state : (t : Held) → None ≡ Some t → ⊥
    no_state t e = cc
step_from s t (Some r) is e =
    let same : after s r ≡ t = state_same (after s r) t (sym (step-some s r is) ∙ e) in
    subst (Moves s) same (record { shorter = earliest_shorter s.history s.waiting r is; longer = joined_length (verdict s.history r.0) r.0 s.history })
  where
    state_same : (a b : Held) → Some a ≡ Some b → a ≡ b
    state_same a b e = cc

-- every step does so
pub step_moves : (s t : Held) → settle_step s ≡ Some t → Moves s t
step_moves s t e = step_from s t (earliest s.history s.waiting) refl e

within-stop : (room : List Op) (s : Held) → settle_step s ≡ None → settled_within room s ≡ s
within-stop [] s e = refl
within-stop (o ∷ room) s e = rw (e, settled_within)

within-go : (o : Op) (room : List Op) (s t : Held) → settle_step s ≡ Some t → settled_within (o ∷ room) s ≡ settled_within room t
within-go o room s t e = rw (e, settled_within)

-- whether there is a step
step_cases : (found : Option Held) → (found ≡ None) ⊎ ((t : Held) × (found ≡ Some t))
step_cases None = inl refl
step_cases (Some t) = inr (t, refl)

-- where nothing waits there is no step
empty_stops : (s : Held) → s.waiting ≡ [] → settle_step s ≡ None
empty_stops s e = step-none s (ap (earliest s.history) e)

-- as many steps as the list has members are all
enough : (room more : List Op) (s : Held) → length s.waiting ≤ length room → length s.waiting ≤ length more → settled_within room s ≡ settled_within more s
enough [] more s le le_more = sym (within-stop more s (empty_stops s (nil_from_length s.waiting (omega (arith, le)))))
enough (o ∷ room) [] s le le_more = within-stop (o ∷ room) s (empty_stops s (nil_from_length s.waiting (omega (arith, le_more))))
enough (o ∷ room) (p ∷ more) s le le_more =
    elim (step_cases (settle_step s)) [
      | inl none ↦ within-stop (o ∷ room) s none ∙ sym (within-stop (p ∷ more) s none)
      | inr some ↦
          let m = step_moves s some.0 some.1 in
          within-go o room s some.0 some.1
          ∙ enough room more some.0 (omega (arith, m.shorter, le)) (omega (arith, m.shorter, le_more))
          ∙ sym (within-go p more s some.0 some.1)
    ]

settle-at : (room : List Op) (s t : Held) → s.waiting ≡ room → settle_step s ≡ Some t → settled_within room s ≡ settled_within t.waiting t
settle-at [] s t is e = absurd (no_state t (sym (empty_stops s is) ∙ e))
  where
    no_state : (t : Held) → None ≡ Some t → ⊥
    no_state t e = cc
settle-at (o ∷ room) s t is e =
    let m = step_moves s t e in
    within-go o room s t e ∙ enough room t.waiting t (omega (arith, m.shorter, ap length is)) (omega arith)

-- settling goes on from a step to where it would have come
pub settle-step : (s t : Held) → settle_step s ≡ Some t → settle s ≡ settle t
unfolding settle
settle-step s t e = settle-at s.waiting s t refl e

-- settling goes on from any state that it reaches to where it would have come
pub settle-reaches : (s t : Held) → SettlesTo s t → settle t ≡ settle s
settle-reaches _ _ (Here s) = refl
settle-reaches _ _ (Step s a t e r) = settle-reaches a t r ∙ sym (settle-step s a e)

-- a settled state that is reached is where settling ends
pub reaches-settled : (s t : Held) → SettlesTo s t → IsSettled t → t ≡ settle s
reaches-settled s t r settled = sym (settle-settled t settled) ∙ settle-reaches s t r
