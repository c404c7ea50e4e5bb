-- The earliest decided operation is the one at the first decided position, and the others are the list without it.
use Rattle.std.proofs.Common.{◌≡◌, refl, sym, ◌∙◌, ap, subst, ℕ, suc, List, [], ◌∷◌, length, Bool, true, false, cond, arith, inl, inr, ltb}
use Rattle.std.specs.Prelude.{All, Some, None, position, remove, slice_get}
use Rattle.std.specs.List.{position_or_len}
use Rattle.std.proofs.lemmas.Bool.{cases_Bool}
use Rattle.std.proofs.lemmas.List.Elements.{All-head, All-tail}
use Rattle.fugue_ids.specs.declared.op.Op.{Op}
use Rattle.origin_model.specs.taking.Taking.{decided_on, earliest}
use Rattle.origin_model.proofs.SharedLemmas.{earliest-no, earliest-yes, passed_over}

first-decided : (h : List Op) (o : Op) (w : List Op) → decided_on h o ≡ true → position_or_len (decided_on h) (o ∷ w) ≡ 0
first-decided h o w e = rw e

first-behind : (h : List Op) (o : Op) (w : List Op) → decided_on h o ≡ false → position_or_len (decided_on h) (o ∷ w) ≡ suc (position_or_len (decided_on h) w)
first-behind h o w e = rw e (omega arith)

-- where none is decided there is no earliest one
pub earliest_settled : (h w : List Op) → All (λ op. decided_on h op ≡ false) w → earliest h w ≡ None
earliest_settled h [] settled = refl
earliest_settled h (o ∷ w) settled =
    earliest-no h o w (All-head (λ op. decided_on h op ≡ false) o w settled)
    ∙ ap (passed_over o) (earliest_settled h w (All-tail (λ op. decided_on h op ≡ false) o w settled))

some_at : (h w : List Op) (op : Op) → slice_get w (position_or_len (decided_on h) w) ≡ Some op → earliest h w ≡ Some (op, remove w (position_or_len (decided_on h) w))
some_at h [] op is = cc
some_at h (o ∷ w) op is =
    elim (cases_Bool (decided_on h o)) [
      | inl e ↦
          let same : Some o ≡ Some op = subst (λ (k : ℕ). slice_get (o ∷ w) k ≡ Some op) (first-decided h o w e) is in
          let it : o ≡ op = cc same in
          earliest-yes h o w e
          ∙ ap (λ (x : Op). Some (x, w)) it
          ∙ ap (λ (k : ℕ). Some (op, remove (o ∷ w) k)) (sym (first-decided h o w e))
      | inr e ↦
          let further : slice_get w (position_or_len (decided_on h) w) ≡ Some op =
          subst (λ (k : ℕ). slice_get (o ∷ w) k ≡ Some op) (first-behind h o w e) is in
          earliest-no h o w e
          ∙ ap (passed_over o) (some_at h w op further)
          ∙ ap (λ (k : ℕ). Some (op, remove (o ∷ w) k)) (sym (first-behind h o w e))
    ]

-- the operation at the first decided position is the earliest one
pub earliest_at : (h w : List Op) (k : ℕ) (op : Op) → position (decided_on h) w ≡ Some k → slice_get w k ≡ Some op → earliest h w ≡ Some (op, remove w k)
earliest_at h w k op is at =
    let here : position_or_len (decided_on h) w ≡ k = position_is (ltb (position_or_len (decided_on h) w) (length w)) (position_or_len (decided_on h) w) is in
    let found : slice_get w (position_or_len (decided_on h) w) ≡ Some op = ap (slice_get w) here ∙ at in
    some_at h w op found ∙ ap (λ (j : ℕ). Some (op, remove w j)) here
  where
    position_is : (b : Bool) (n : ℕ) → cond b (Some n) None ≡ Some k → n ≡ k
    position_is true n e = cc
    position_is false n e = cc
