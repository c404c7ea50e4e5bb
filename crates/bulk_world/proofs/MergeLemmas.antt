-- Two authors who began with the same and then wrote apart: each accepts all that the other made, and both show the same.
use Rattle.std.proofs.Common.{Bool, List, [], ap, arith, false, length, refl, subst, sym, true, ◌+◌, ◌||◌, ◌∙◌, ◌∷◌, ◌≡◌, ◌≢◌, ◌≤◌, ℕ}
use Rattle.std.specs.Prelude.{All, None, Option, Some}
use Rattle.std.proofs.lemmas.Bool.{false_from_ne_true, ne_eqb, or_left, or_right}
use Rattle.std.proofs.lemmas.List.Elements.{All-cons, All-head, All-nil, All-tail, All-weaker}
use Rattle.fugue_ids.specs.Identifiers.{Identifier}
use Rattle.fugue_ids.specs.Ops.{id_of, key_of, op_eq}
use Rattle.fugue_ids.specs.declared.op.Op.{Op}
use Rattle.fugue_ids.specs.declared.op.OpKey.{OpKey}
use Rattle.fugue_ids.specs.declared.op.OpKey.TheVariants.{Own, Target}
use Rattle.fugue_ids.proofs.OpLemmas.{op_eq-refl, op_eq-true}
use Rattle.origin_model.specs.declared.operations.Verdict.TheVariants.{Ready}
use Rattle.origin_model.specs.operations.History.{has_op, holds}
use Rattle.origin_model.specs.operations.Verdict.{Lawful, id_held, verdict}
use Rattle.origin_model.specs.order.Laws.{SameOps}
use Rattle.origin_model.specs.taking.Taking.{Accepted, Held, IsSettled, answer, held_from, intake, settle, held_after}
use Rattle.origin_model.specs.edits.Edits.{ReadyInTurn, history_with, id_at}
use Rattle.origin_model.proofs.SharedLemmas.{holds-other, id_held-nil, settle-settled, swap_or, when_ready}
use Rattle.origin_model.proofs.edits.EditIntakeLemmas.{accepts}
use Rattle.origin_model.proofs.edits.MadeLemmas.{ready_lawful}
use Rattle.list_spec.proofs.DeliveryLemmas.{part_more}
use Rattle.list_spec.proofs.PoolLemmas.{IsBy, IsPoolOf, other_number, own_more, ready_there}

-- the identifier of a key
abbrev pub key_id : OpKey → Identifier
key_id (Own i) = i
key_id (Target i) = i

-- what an operation adds or deletes is an element of the replica n
abbrev pub IsOf : ℕ → Op → Type 0
IsOf n op = (key_id (key_of op)).replica ≡ n

-- the history has no such operation
abbrev pub IsAbsent : List Op → Op → Type 0
IsAbsent h op = has_op h op ≡ false

or_false : (a b : Bool) → (a || b) ≡ false → (a ≡ false) × (b ≡ false)
or_false true b e = cc
or_false false b e = (refl, e)

both_false : (a b : Bool) → a ≡ false → b ≡ false → (a || b) ≡ false
both_false a b e f = λ i. e i || f i

-- an operation is of one replica, so it is not among those of another
others_absent : (m n : ℕ) (ops : List Op) (op : Op) → m ≢ n → All (IsOf m) ops → IsOf n op → IsAbsent ops op
others_absent m n [] op d a e = refl
others_absent m n (o ∷ ops) op d a e =
    both_false (op_eq o op) (has_op ops op)
    (false_from_ne_true _ (λ t. d (sym (subst (IsOf m) (op_eq-true o op t) (All-head (IsOf m) o ops a)) ∙ e)))
    (others_absent m n ops op d (All-tail (IsOf m) o ops a) e)

-- an operation of a history that others joined
or_moved : (a b c : Bool) → (b || (a || c)) ≡ ((a || b) || c)
or_moved true true c = refl
or_moved true false c = refl
or_moved false true c = refl
or_moved false false c = refl

pub has-extended : (h ops : List Op) (x : Op) → has_op (history_with h ops) x ≡ (has_op ops x || has_op h x)
has-extended h [] x = refl
has-extended h (op ∷ ops) x = has-extended (op ∷ h) ops x ∙ or_moved (op_eq op x) (has_op ops x) (has_op h x)

-- operations that are Ready in turn are new
later_new : (h ops : List Op) → ReadyInTurn h ops → All (IsAbsent h) ops
later_new h [] r = All-nil (IsAbsent h)
later_new h (op ∷ ops) r =
    All-cons (IsAbsent h) op ops (when_ready h op r.0).absent
    (All-weaker (IsAbsent (op ∷ h)) (IsAbsent h) (λ x e. (or_false (op_eq op x) (has_op h x) e).1) ops (later_new (op ∷ h) ops r.1))

-- what is Ready in turn at one replica is so at another that has the same and more, where it is new
ready_beside : (r : ℕ) (ops h p : List Op) → IsPoolOf r h p → All (IsBy r) ops → ReadyInTurn h ops → All (IsAbsent p) ops → ReadyInTurn p ops
ready_beside r [] h p k by ready new = tt
ready_beside r (op ∷ ops) h p k by ready new =
    let now : verdict p op ≡ Ready = ready_there r h p op k (All-head (IsBy r) op ops by) ready.0 (All-head (IsAbsent p) op ops new) in
    let next : IsPoolOf r (op ∷ h) (op ∷ p) =
    record {
      lawful = (now, k.lawful);
      part = part_more (op ∷ p) h op (or_left (op_eq op op) (has_op p op) (op_eq-refl op)) (λ x m. or_right (op_eq op x) (has_op p x) (k.part x m));
      own = own_more r h p op k.own;
    } in
    let later : All (IsAbsent (op ∷ p)) ops = new_after op h p ops (later_new (op ∷ h) ops ready.1) (All-tail (IsAbsent p) op ops new) in (
      now,
      ready_beside r ops (op ∷ h) (op ∷ p) next (All-tail (IsBy r) op ops by) ready.1 later,
    )
  where
    new_after : (op : Op) (h p ops : List Op) → All (IsAbsent (op ∷ h)) ops → All (IsAbsent p) ops → All (IsAbsent (op ∷ p)) ops
    new_after op h p [] a b = All-nil (IsAbsent (op ∷ p))
    new_after op h p (o ∷ ops) a b =
        All-cons (IsAbsent (op ∷ p)) o ops
        (both_false (op_eq op o) (has_op p o) (or_false (op_eq op o) (has_op h o) (All-head (IsAbsent (op ∷ h)) o ops a)).0 (All-head (IsAbsent p) o ops b))
        (new_after op h p ops (All-tail (IsAbsent (op ∷ h)) o ops a) (All-tail (IsAbsent p) o ops b))

-- no identifier of another number comes
holds_before : (m : ℕ) (h ops : List Op) (i : Identifier) → i.replica ≢ m → All (IsBy m) ops → holds (history_with h ops) i ≡ true → holds h i ≡ true
holds_before m h [] i d by e = e
holds_before m h (op ∷ ops) i d by e =
    let k : holds (op ∷ h) i ≡ true = holds_before m (op ∷ h) ops i d (All-tail (IsBy m) op ops by) e in
    sym (holds-other op h i (other_number m op i d (All-head (IsBy m) op ops by))) ∙ k

-- nothing waits
abbrev pub quiet : List Op → Held
quiet h = record { history = h; waiting = [] }

none_waits : (h : List Op) → IsSettled (quiet h)
none_waits h = All-nil _

-- operations that are Ready in turn are accepted, where there is room
pub all_accepted : (hold most : ℕ) (p ops : List Op) → ReadyInTurn p ops → length p + length ops ≤ most → held_from hold most (quiet p) ops ≡ quiet (history_with p ops)
all_accepted hold most p [] r l = refl
all_accepted hold most p (op ∷ ops) r l =
    let ok : answer hold most (quiet p) op ≡ Accepted =
    accepts hold most p [] op (none_waits p) r.0 (id_held-nil (id_of op)) (ne_eqb (length p + 0) most (λ e. omega (arith, e, l))) in
    let next : intake hold most (quiet p) op ≡ quiet (op ∷ p) = ap (λ a. settle (held_after a (quiet p) op)) ok ∙ settle-settled (quiet (op ∷ p)) (none_waits (op ∷ p)) in
    ap (λ s. held_from hold most s ops) next ∙ all_accepted hold most (op ∷ p) ops r.1 (omega (arith, l))

-- what one author made after a history
pub record IsWritten (n : ℕ) (h ops : List Op) : Type 0 where
  pub ready : ReadyInTurn h ops
  pub by : All (IsBy n) ops
  pub of : All (IsOf n) ops

-- what one made comes after what the other made
pub comes_after : (m n : ℕ) (h a b : List Op) → m ≢ n → Lawful h → IsWritten m h a → IsWritten n h b → ReadyInTurn (history_with h a) b
comes_after m n h a b d w wa wb =
    ready_beside n b h (history_with h a)
    (record {
      lawful = ready_lawful h a w wa.ready;
      part = λ x k. has-extended h a x ∙ or_right (has_op a x) (has_op h x) k;
      own = λ c k. holds_before m h a (id_at n c) (λ e. d (sym e)) wa.by k;
    })
    wb.by wb.ready (absent_all b (later_new h b wb.ready) wb.of)
  where
    absent_all : (ops : List Op) → All (IsAbsent h) ops → All (IsOf n) ops → All (IsAbsent (history_with h a)) ops
    absent_all [] e f = All-nil (IsAbsent (history_with h a))
    absent_all (op ∷ ops) e f =
        All-cons (IsAbsent (history_with h a)) op ops
        (has-extended h a op ∙ both_false (has_op a op) (has_op h op) (others_absent m n a op d wa.of (All-head (IsOf n) op ops f)) (All-head (IsAbsent h) op ops e))
        (absent_all ops (All-tail (IsAbsent h) op ops e) (All-tail (IsOf n) op ops f))

-- both have the same operations then
pub same_after : (h a b : List Op) → SameOps (history_with (history_with h a) b) (history_with (history_with h b) a)
same_after h a b x =
    has-extended (history_with h a) b x ∙ ap (λ k. has_op b x || k) (has-extended h a x) ∙ swap_or (has_op b x) (has_op a x) (has_op h x)
    ∙ ap (λ k. has_op a x || k) (sym (has-extended h b x)) ∙ sym (has-extended (history_with h b) a x)
