-- What an author hears of.
use Rattle.std.proofs.Common.{List, [], ap, arith, false, drop, get_or, inl, inr, length, refl, subst, sym, take, true, ◌++◌, ◌+◌, ◌-◌, ◌<◌, ◌∙◌, ◌∷◌, ◌≡◌, ℕ}
use Rattle.std.specs.Prelude.{All, if◌then◌else◌, nat_eq}
use Rattle.std.proofs.lemmas.Bool.{cases_Bool, or_left}
use Rattle.std.proofs.lemmas.List.{at_drop_more, take-append-le, take_all}
use Rattle.std.proofs.lemmas.List.Elements.{All-append, All-cons, All-head, All-nil, All-tail, All-weaker}
use Rattle.fugue_ids.specs.Ops.{op_eq}
use Rattle.fugue_ids.specs.declared.op.Op.{Op}
use Rattle.fugue_ids.proofs.OpLemmas.{op_eq-refl}
use Rattle.origin_model.specs.operations.History.{has_op}
use Rattle.origin_model.specs.taking.Taking.{Held, held_from, intake}
use Rattle.origin_model.specs.edits.State.{State}
use Rattle.list_spec.specs.Worlds.{Deliver, Edit, Event, Noting, World, after_event, after_events, after_making, changed_replicas, replica_after_delivery, effect, made_at}
use Rattle.list_spec.specs.Worlds.{note_effect, pool_with}
use Rattle.list_spec.proofs.PoolLemmas.{pool_keeps}
use Rattle.list_spec.proofs.WorldLemmas.{events_keep}
use Rattle.bulk_world.specs.declared.making.TheConstants.{HOLD}
use Rattle.fugue_ids.specs.declared.limits.TheConstants.{MOST_OPERATIONS}
use Rattle.bulk_world.specs.Turns.{among, delivers, made_in, made_over}
use Rattle.bulk_world.proofs.TurnLemmas.{numbered}

-- hearing operations one after another
pub hears_next : (hold most : ℕ) (now start : Held) (op : Op) (ops : List Op) (k : ℕ) → k < length ops → op ≡ get_or ops k op
    → held_from hold most now (drop k ops) ≡ start → held_from hold most (intake hold most now op) (drop (k + 1) ops) ≡ start
hears_next hold most now start op ops k l is e = ap (λ x. held_from hold most now (x ∷ drop (k + 1) ops)) is ∙ sym (at_drop_more (held_from hold most now) ops k op l) ∙ e

-- the operation is of the pool
abbrev pub IsPooled : List Op → Op → Type 0
IsPooled pool op = has_op pool op ≡ true

-- what is made comes to the pool
one_pooled : (pool : List Op) (op : Op) → IsPooled (if has_op pool op then pool else op ∷ pool) op
one_pooled pool op =
    elim (cases_Bool (has_op pool op)) [
      | inl t ↦ subst (λ l. IsPooled l op) (sym (ap (λ b. if b then pool else op ∷ pool) t)) t
      | inr t ↦ subst (λ l. IsPooled l op) (sym (ap (λ b. if b then pool else op ∷ pool) t)) (or_left (op_eq op op) (has_op pool op) (op_eq-refl op))
    ]

all_pooled : (pool ops : List Op) → All (IsPooled (pool_with pool ops)) ops
all_pooled pool [] = All-nil (IsPooled pool)
all_pooled pool (op ∷ ops) =
    let first : List Op = if has_op pool op then pool else op ∷ pool in
    All-cons (IsPooled (pool_with first ops)) op ops (pool_keeps first ops op (one_pooled pool op)) (all_pooled first ops)

-- whatever was made at an event is in the pool after it
making_pooled : (n : ℕ) (w : World) (number : ℕ) (makes : State → List Op)
    → All (IsPooled (after_making w number makes).pool) (if nat_eq number n then made_at number makes w.replicas else [])
making_pooled n w number makes =
    let made : List Op = made_at number makes w.replicas in
    let P : Op → Type 0 = IsPooled (pool_with w.pool made) in
    elim (nat_eq number n) as (λ b. All P (if b then made else [])) [ true ↦ all_pooled w.pool made | false ↦ All-nil P ]

event_pooled : (n : ℕ) (w : World) (event : Event) → All (IsPooled (after_event w event).pool) (made_in n w event)
event_pooled n w (Edit number command) = making_pooled n w number (λ (s : State). effect s command)
event_pooled n w (Noting number named code body) = making_pooled n w number (λ (s : State). note_effect s named code body)
event_pooled n w (Deliver number op) = All-nil (IsPooled (after_event w (Deliver number op)).pool)

-- whatever was made in events is in the pool after them
pub made_pooled : (n : ℕ) (w : World) (events : List Event) → All (IsPooled (after_events w events).pool) (made_over n w events)
made_pooled n w [] = All-nil (IsPooled w.pool)
made_pooled n w (event ∷ events) =
    let next : World = after_event w event in
    let P : Op → Type 0 = IsPooled (after_events next events).pool in
    All-append P (made_in n w event) (made_over n next events)
    (All-weaker (IsPooled next.pool) P (λ op m. events_keep next events op m) (made_in n w event) (event_pooled n w event)) (made_pooled n next events)

-- a delivery of what was made
delivery : (pool : List Op) (op : Op) (n : ℕ) (one two : State) → IsPooled pool op
    → after_event (among pool one two) (Deliver n op) ≡ record { replicas = changed_replicas n (replica_after_delivery op) (one ∷ two ∷ []); pool = pool }
delivery pool op n one two m = ap (λ b. if b then record { replicas = changed_replicas n (replica_after_delivery op) (one ∷ two ∷ []); pool = pool } else among pool one two) m

-- replica 2 hears of operations that were made
pub second_hears : (pool ops : List Op) (h k : Held) → All (IsPooled pool) ops
    → after_events (among pool (numbered 1 h) (numbered 2 k)) (delivers 2 ops) ≡ among pool (numbered 1 h) (numbered 2 (held_from HOLD MOST_OPERATIONS k ops))
second_hears pool [] h k m = refl
second_hears pool (op ∷ ops) h k m =
    ap (λ w. after_events w (delivers 2 ops)) (delivery pool op 2 (numbered 1 h) (numbered 2 k) (All-head (IsPooled pool) op ops m))
    ∙ second_hears pool ops h (intake HOLD MOST_OPERATIONS k op) (All-tail (IsPooled pool) op ops m)

-- replica 1 hears of operations that were made
pub first_hears : (pool ops : List Op) (h k : Held) → All (IsPooled pool) ops
    → after_events (among pool (numbered 1 h) (numbered 2 k)) (delivers 1 ops) ≡ among pool (numbered 1 (held_from HOLD MOST_OPERATIONS h ops)) (numbered 2 k)
first_hears pool [] h k m = refl
first_hears pool (op ∷ ops) h k m =
    ap (λ w. after_events w (delivers 1 ops)) (delivery pool op 1 (numbered 1 h) (numbered 2 k) (All-head (IsPooled pool) op ops m))
    ∙ first_hears pool ops (intake HOLD MOST_OPERATIONS h op) k (All-tail (IsPooled pool) op ops m)

-- all operations but the first
pub after_first : (op : Op) (made all : List Op) → all ≡ (op ∷ []) ++ made → take (length all - 1) (drop 1 all) ≡ made
after_first op made all is =
    ap (λ l. take (length l - 1) (drop 1 l)) is ∙ take_all (length (op ∷ made) - 1) made (omega arith)

-- the same of a front
pub after_first_of : (op : Op) (made more all : List Op) (n : ℕ) → all ≡ ((op ∷ []) ++ made) ++ more → n ≡ length ((op ∷ []) ++ made) → take (n - 1) (drop 1 all) ≡ made
after_first_of op made more all n is counted =
    let few : n - 1 ≡ length made = omega (arith, counted) in
    ap (λ l. take (n - 1) (drop 1 l)) is ∙ ap (λ m. take m (made ++ more)) few ∙ take-append-le (length made) made more (omega arith) ∙ take_all (length made) made (omega arith)
