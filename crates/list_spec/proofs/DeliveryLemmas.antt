-- What a delivery leaves: the history stays lawful, it and what waits stay in the pool, and what was held stays held.
use Rattle.std.proofs.Common.{List, [], inl, inr, ◌∙◌, ◌∷◌, ◌≡◌, refl, subst, sym, true, ℕ}
use Rattle.std.proofs.lemmas.Bool.{false≢true, or_cases, or_left, or_right}
use Rattle.fugue_ids.specs.Identifiers.{Identifier}
use Rattle.fugue_ids.specs.Ops.{op_eq}
use Rattle.fugue_ids.specs.declared.op.Op.{Op}
use Rattle.fugue_ids.proofs.OpLemmas.{op_eq-refl, op_eq-true}
use Rattle.origin_model.specs.declared.operations.Verdict.{Verdict}
use Rattle.origin_model.specs.declared.operations.Verdict.TheVariants.{Ready}
use Rattle.origin_model.specs.operations.History.{has_op, holds}
use Rattle.origin_model.specs.operations.Verdict.{Lawful, verdict}
use Rattle.origin_model.specs.order.Laws.{IsPartOf}
use Rattle.origin_model.specs.taking.Taking.{Accepted, Answer, Held, Waits, answer, intake, joined, settle, settled_within, held_after}
use Rattle.origin_model.proofs.SharedLemmas.{IsEarliest, earliest_found, has-append, holds-older, within-none, within-some, without}
use Rattle.origin_model.proofs.SharedLemmas.{accepted_is_ready}

-- an operation of the pool in front of a part of it
pub part_more : (pool h : List Op) (op : Op) → has_op pool op ≡ true → IsPartOf h pool → IsPartOf (op ∷ h) pool
part_more pool h op m f x k =
    elim (or_cases (op_eq op x) (has_op h x) k) [ inl q ↦ subst (λ y. has_op pool y ≡ true) (op_eq-true op x q) m | inr j ↦ f x j ]

-- a lawful history of the pool's operations that holds what an older one held; what waits is of the pool, too
pub record IsGrown (pool older : List Op) (s : Held) : Type 0 where
  pub lawful : Lawful s.history
  pub history_part : IsPartOf s.history pool
  pub waiting_part : IsPartOf s.waiting pool
  pub keeps : (i : Identifier) → holds older i ≡ true → holds s.history i ≡ true

-- a Ready operation of the pool joins the history
joins : (pool older w : List Op) (s : Held) (op : Op) → IsGrown pool older s → has_op pool op ≡ true → verdict s.history op ≡ Ready → IsPartOf w pool
    → IsGrown pool older (record { history = op ∷ s.history; waiting = w })
joins pool older w s op g m v f =
    record {
      lawful = (v, g.lawful);
      history_part = part_more pool s.history op m g.history_part;
      waiting_part = f;
      keeps = λ i k. holds-older op s.history i (g.keeps i k);
    }

-- one operation leaves those that wait
leaves : (pool older : List Op) (s : Held) (r : Op × List Op) → IsGrown pool older s → IsEarliest s.history s.waiting r → IsGrown pool older (without s r)
leaves pool older s r g e = by_verdict (verdict s.history r.0) refl
  where
    rest : IsPartOf r.1 pool
    rest x m = g.waiting_part x (e.same x ∙ or_right (op_eq r.0 x) (has_op r.1 x) m)

    it : has_op pool r.0 ≡ true
    it = g.waiting_part r.0 (e.same r.0 ∙ or_left (op_eq r.0 r.0) (has_op r.1 r.0) (op_eq-refl r.0))

    by_verdict : (v : Verdict) → verdict s.history r.0 ≡ v → IsGrown pool older (record { history = joined v r.0 s.history; waiting = r.1 })
    by_verdict Ready v = joins pool older r.1 s r.0 g it v rest
    by_verdict _ v = record { lawful = g.lawful; history_part = g.history_part; waiting_part = rest; keeps = g.keeps }

-- any number of steps
steps : (pool older room : List Op) (s : Held) → IsGrown pool older s → IsGrown pool older (settled_within room s)
steps pool older [] s g = g
steps pool older (o ∷ room) s g =
    elim (earliest_found s.history s.waiting) [
      | inl k ↦ subst (IsGrown pool older) (sym (within-none o room s k.0)) g
      | inr k ↦ subst (IsGrown pool older) (sym (within-some o room s k.0 k.1)) (steps pool older room (without s k.0) (leaves pool older s k.0 g k.2))
    ]

-- settling
settling : (pool older : List Op) (s : Held) → IsGrown pool older s → IsGrown pool older (settle s)
unfolding settle
settling pool older s g = steps pool older s.waiting s g

-- what the answer changes
answering : (hold most : ℕ) (pool older : List Op) (s : Held) (op : Op) → has_op pool op ≡ true → IsGrown pool older s
    → IsGrown pool older (held_after (answer hold most s op) s op)
answering hold most pool older s op m g = by_answer (answer hold most s op) refl
  where
    by_answer : (a : Answer) → answer hold most s op ≡ a → IsGrown pool older (held_after a s op)
    by_answer Accepted e = joins pool older s.waiting s op g m (accepted_is_ready hold most s op e) g.waiting_part
    by_answer Waits e =
        record {
          lawful = g.lawful;
          history_part = g.history_part;
          waiting_part = λ x k. elim (or_cases (has_op s.waiting x) (has_op (op ∷ []) x) (sym (has-append s.waiting (op ∷ []) x) ∙ k)) [
            | inl j ↦ g.waiting_part x j
            | inr j ↦ part_more pool [] op m (λ y n. absurd (false≢true n)) x j
          ];
          keeps = g.keeps;
        }
    by_answer _ e = g

-- taking in an operation of the pool
pub taking_in : (hold most : ℕ) (pool older : List Op) (s : Held) (op : Op) → has_op pool op ≡ true → IsGrown pool older s → IsGrown pool older (intake hold most s op)
taking_in hold most pool older s op m g = settling pool older (held_after (answer hold most s op) s op) (answering hold most pool older s op m g)
