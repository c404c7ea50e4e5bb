-- What an edit adds to the pool. The key fact: only the replica with a number makes identifiers with that number, and
-- it never forgets one, so the pool holds none of them that its own history lacks.
use Rattle.std.proofs.Common.{Bool, List, [], ap, false, inl, inr, ◌∙◌, ◌∷◌, ◌≡◌, ◌≢◌, refl, subst, sym, true, ℕ}
use Rattle.std.specs.Prelude.{All, IfSome, None, Option, Some, if◌then◌else◌}
use Rattle.std.proofs.lemmas.Bool.{cases_Bool, false_from_ne_true, or_left, or_right, true≢false}
use Rattle.std.proofs.lemmas.List.Elements.{All-head, All-tail}
use Rattle.fugue_ids.specs.Identifiers.{Identifier}
use Rattle.fugue_ids.specs.Ops.{id_of, op_eq}
use Rattle.fugue_ids.specs.declared.op.Op.{Op}
use Rattle.fugue_ids.proofs.OpLemmas.{op_eq-refl}
use Rattle.origin_model.specs.declared.operations.Verdict.TheVariants.{Ready}
use Rattle.origin_model.specs.operations.History.{has_op, holds, is_own}
use Rattle.origin_model.specs.operations.Verdict.{Lawful, id_held, names, verdict}
use Rattle.origin_model.specs.order.Laws.{IsPartOf}
use Rattle.origin_model.specs.edits.Edits.{ReadyInTurn, history_with, id_at}
use Rattle.origin_model.proofs.SharedLemmas.{Within-part, becomes_ready, holds-older, holds-other, holds-own, names_within, own_id, when_ready}
use Rattle.list_spec.specs.Worlds.{pool_with}
use Rattle.list_spec.proofs.DeliveryLemmas.{part_more}

-- an operation's own identifier, where it has one, has the number r
abbrev pub IsBy : ℕ → Op → Type 0
IsBy r op = IfSome (id_of op) (λ x. x.replica ≡ r)

-- each identifier of r that the pool holds is held by the history
abbrev pub HoldsOwn : ℕ → (history pool : List Op) → Type 0
HoldsOwn r h pool = (n : ℕ) → holds pool (id_at r n) ≡ true → holds h (id_at r n) ≡ true

-- the pool is lawful and has all of the history of replica r, whose identifiers are all in that history
pub record IsPoolOf (r : ℕ) (h pool : List Op) : Type 0 where
  pub lawful : Lawful pool
  pub part : IsPartOf h pool
  pub own : HoldsOwn r h pool

-- the pool with one operation, if it lacks it
abbrev with_one : List Op → Op → List Op
with_one pool op = if has_op pool op then pool else op ∷ pool

-- an identifier of r that the history lacks is not in the pool
not_pooled : (r : ℕ) (h pool : List Op) (o : Option Identifier) → HoldsOwn r h pool → IfSome o (λ x. x.replica ≡ r) → id_held h o ≡ false → id_held pool o ≡ false
not_pooled r h pool None own m f = refl
not_pooled r h pool (Some x) own m f =
    let is : id_at r x.counter ≡ x = ap (λ k. id_at k x.counter) (sym m) in
    let held : holds pool x ≡ true → holds h x ≡ true = subst (λ i. holds pool i ≡ true → holds h i ≡ true) is (own x.counter) in
    false_from_ne_true _ (λ t. true≢false (sym (held t) ∙ f))

-- what is Ready at the replica, and new to the pool, is Ready there
pub ready_there : (r : ℕ) (h pool : List Op) (op : Op) → IsPoolOf r h pool → IsBy r op → verdict h op ≡ Ready → has_op pool op ≡ false → verdict pool op ≡ Ready
ready_there r h pool op p m v new =
    let ready = when_ready h op v in
    let named = names_within h pool (names op) (Within-part h pool p.lawful p.part) ready.none_stray ready.none_missing in
    becomes_ready pool op new (not_pooled r h pool (id_of op) p.own m ready.fresh) named.0 named.1

-- the operation is in both, or in the history alone
pub own_more : (r : ℕ) (h pool : List Op) (op : Op) → HoldsOwn r h pool → HoldsOwn r (op ∷ h) (op ∷ pool)
own_more r h pool op own n k =
    elim (cases_Bool (is_own (id_at r n) op)) [
      | inl t ↦ holds-own op h (id_at r n) t
      | inr t ↦ holds-older op h (id_at r n) (own n (sym (holds-other op pool (id_at r n) t) ∙ k))
    ]

-- one operation of an edit
pool_one : (r : ℕ) (h pool : List Op) (op : Op) → IsPoolOf r h pool → IsBy r op → verdict h op ≡ Ready → IsPoolOf r (op ∷ h) (with_one pool op)
pool_one r h pool op p m v =
    let with : Bool → List Op = λ b. if b then pool else op ∷ pool in
    elim (cases_Bool (has_op pool op)) [
      | inl t ↦ subst (IsPoolOf r (op ∷ h)) (sym (ap with t))
          (record { lawful = p.lawful; part = part_more pool h op t p.part; own = λ n k. holds-older op h (id_at r n) (p.own n k) })
      | inr t ↦ subst (IsPoolOf r (op ∷ h)) (sym (ap with t))
          (record {
            lawful = (ready_there r h pool op p m v t, p.lawful);
            part = part_more (op ∷ pool) h op (or_left (op_eq op op) (has_op pool op) (op_eq-refl op)) (λ x k. or_right (op_eq op x) (has_op pool x) (p.part x k));
            own = own_more r h pool op p.own;
          })
    ]

-- the operations of an edit, one after another
pub pool_all : (r : ℕ) (h pool ops : List Op) → IsPoolOf r h pool → All (IsBy r) ops → ReadyInTurn h ops → IsPoolOf r (history_with h ops) (pool_with pool ops)
pool_all r h pool [] p m v = p
pool_all r h pool (op ∷ ops) p m v =
    pool_all r (op ∷ h) (with_one pool op) ops (pool_one r h pool op p (All-head (IsBy r) op ops m) v.0) (All-tail (IsBy r) op ops m) v.1

-- the pool loses nothing
one_keeps : (pool : List Op) (op : Op) → IsPartOf pool (with_one pool op)
one_keeps pool op x k =
    elim (has_op pool op) as (λ b. has_op (if b then pool else op ∷ pool) x ≡ true) [ true ↦ k | false ↦ or_right (op_eq op x) (has_op pool x) k ]

pub pool_keeps : (pool ops : List Op) → IsPartOf pool (pool_with pool ops)
pool_keeps pool [] x k = k
pool_keeps pool (op ∷ ops) x k = pool_keeps (with_one pool op) ops x (one_keeps pool op x k)

-- an operation of r has no identifier of another number
pub other_number : (r : ℕ) (op : Op) (i : Identifier) → i.replica ≢ r → IsBy r op → is_own i op ≡ false
other_number r op i n m = false_from_ne_true _ (λ t. n (subst (λ o. IfSome o (λ x. x.replica ≡ r)) (own_id op i t) m))

-- no identifier of another number comes to the pool
one_adds : (r : ℕ) (pool : List Op) (op : Op) (i : Identifier) → i.replica ≢ r → IsBy r op → holds (with_one pool op) i ≡ true → holds pool i ≡ true
one_adds r pool op i n m =
    elim (has_op pool op) as (λ b. holds (if b then pool else op ∷ pool) i ≡ true → holds pool i ≡ true) [
      | true ↦ (λ k. k)
      | false ↦ (λ k. sym (holds-other op pool i (other_number r op i n m)) ∙ k)
    ]

pub pool_adds : (r : ℕ) (pool ops : List Op) (i : Identifier) → i.replica ≢ r → All (IsBy r) ops → holds (pool_with pool ops) i ≡ true → holds pool i ≡ true
pool_adds r pool [] i n m k = k
pool_adds r pool (op ∷ ops) i n m k =
    one_adds r pool op i n (All-head (IsBy r) op ops m) (pool_adds r (with_one pool op) ops i n (All-tail (IsBy r) op ops m) k)
