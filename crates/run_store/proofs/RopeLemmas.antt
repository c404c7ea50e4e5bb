-- An item among others that have other keys.
use Rattle.std.proofs.Common.{◌≡◌, false, List, [], ◌∷◌, ◌++◌, ap, inl, inr, refl, sym, ◌∙◌}
use Rattle.std.specs.Prelude.{None, Some, cond}
use Rattle.std.proofs.lemmas.Bool.{cases_Bool}
use Rattle.fugue_ids.specs.Identifiers.{Identifier, id_eq}
use Rattle.fugue_ids.proofs.IdentifierLemmas.{id_eq-refl, id_eq-true}
use Rattle.node_rope.specs.Beside.{placed_after, placed_before, put_under, items_rekeyed}
use Rattle.node_rope.specs.Items.{value_under}

module _ {T : Type 0} where
  -- no item has the key k
  abbrev pub OtherKeys : Identifier → List (Identifier × T) → Type 0
  OtherKeys k [] = Unit {0}
  OtherKeys k (x ∷ xs) = (id_eq x.0 k ≡ false) × OtherKeys k xs

  -- the list with the item of k at its place
  pub record IsParted (xs : List (Identifier × T)) (k : Identifier) (v : T) : Type 0 where
    pub front : List (Identifier × T)
    pub back : List (Identifier × T)
    pub is : xs ≡ front ++ (k, v) ∷ back
    pub before : OtherKeys k front

  pub found : (k : Identifier) (v : T) (xs : List (Identifier × T)) → value_under k xs ≡ Some v → IsParted xs k v
  found k v [] e = cc
  found k v (x ∷ xs) e = elim (cases_Bool (id_eq x.0 k)) [
    | inl t ↦
        let f : Some x.1 ≡ Some v = ap (λ b. cond b (Some x.1) (value_under k xs)) (sym t) ∙ e in
        let same : x.1 ≡ v = cc in
        record { front = []; back = xs; is = λ i. (id_eq-true x.0 k t i, same i) ∷ xs; before = tt }
    | inr f ↦
        let p = found k v xs (ap (λ b. cond b (Some x.1) (value_under k xs)) (sym f) ∙ e) in
        record { front = x ∷ p.front; back = p.back; is = ap (λ ys. x ∷ ys) p.is; before = (f, p.before) }
  ]

  pub value-at : (k : Identifier) (v : T) (front back : List (Identifier × T)) → OtherKeys k front → value_under k (front ++ (k, v) ∷ back) ≡ Some v
  value-at k v [] back o = ap (λ b. cond b (Some v) (value_under k back)) (id_eq-refl k)
  value-at k v (x ∷ front) back o = ap (λ b. cond b (Some x.1) (value_under k (front ++ (k, v) ∷ back))) o.0 ∙ value-at k v front back o.1

  pub value-none : (k : Identifier) (xs : List (Identifier × T)) → OtherKeys k xs → value_under k xs ≡ None
  value-none k [] o = refl
  value-none k (x ∷ xs) o = ap (λ b. cond b (Some x.1) (value_under k xs)) o.0 ∙ value-none k xs o.1

  pub keys-append : (k : Identifier) (xs ys : List (Identifier × T)) → OtherKeys k xs → OtherKeys k ys → OtherKeys k (xs ++ ys)
  keys-append k [] ys p q = q
  keys-append k (x ∷ xs) ys p q = (p.0, keys-append k xs ys p.1 q)

  pub put-none : (k : Identifier) (w : T) (xs : List (Identifier × T)) → OtherKeys k xs → put_under k w xs ≡ xs
  put-none k w [] o = refl
  put-none k w (x ∷ xs) o = λ i. (x.0, cond (o.0 i) w x.1) ∷ put-none k w xs o.1 i

  pub put-at : (k : Identifier) (v w : T) (front back : List (Identifier × T)) → OtherKeys k front → OtherKeys k back
      → put_under k w (front ++ (k, v) ∷ back) ≡ front ++ (k, w) ∷ back
  put-at k v w [] back p q = λ i. (k, cond (id_eq-refl k i) w v) ∷ put-none k w back q i
  put-at k v w (x ∷ front) back p q = λ i. (x.0, cond (p.0 i) w x.1) ∷ put-at k v w front back p.1 q i

  pub after-none : (k : Identifier) (new : Identifier × T) (xs : List (Identifier × T)) → OtherKeys k xs → placed_after k new xs ≡ xs
  after-none k new [] o = refl
  after-none k new (x ∷ xs) o =
      ap (λ b. cond b (x ∷ new ∷ []) (x ∷ []) ++ placed_after k new xs) o.0 ∙ ap (λ ys. x ∷ ys) (after-none k new xs o.1)

  pub after-at : (k : Identifier) (v : T) (new : Identifier × T) (front back : List (Identifier × T)) → OtherKeys k front → OtherKeys k back
      → placed_after k new (front ++ (k, v) ∷ back) ≡ front ++ (k, v) ∷ new ∷ back
  after-at k v new [] back p q =
      ap (λ b. cond b ((k, v) ∷ new ∷ []) ((k, v) ∷ []) ++ placed_after k new back) (id_eq-refl k) ∙ ap (λ ys. (k, v) ∷ new ∷ ys) (after-none k new back q)
  after-at k v new (x ∷ front) back p q =
      ap (λ b. cond b (x ∷ new ∷ []) (x ∷ []) ++ placed_after k new (front ++ (k, v) ∷ back)) p.0 ∙ ap (λ ys. x ∷ ys) (after-at k v new front back p.1 q)

  pub before-none : (k : Identifier) (new : Identifier × T) (xs : List (Identifier × T)) → OtherKeys k xs → placed_before k new xs ≡ xs
  before-none k new [] o = refl
  before-none k new (x ∷ xs) o =
      ap (λ b. cond b (new ∷ x ∷ []) (x ∷ []) ++ placed_before k new xs) o.0 ∙ ap (λ ys. x ∷ ys) (before-none k new xs o.1)

  pub before-at : (k : Identifier) (v : T) (new : Identifier × T) (front back : List (Identifier × T)) → OtherKeys k front → OtherKeys k back
      → placed_before k new (front ++ (k, v) ∷ back) ≡ front ++ new ∷ (k, v) ∷ back
  before-at k v new [] back p q =
      ap (λ b. cond b (new ∷ (k, v) ∷ []) ((k, v) ∷ []) ++ placed_before k new back) (id_eq-refl k) ∙ ap (λ ys. new ∷ (k, v) ∷ ys) (before-none k new back q)
  before-at k v new (x ∷ front) back p q =
      ap (λ b. cond b (new ∷ x ∷ []) (x ∷ []) ++ placed_before k new (front ++ (k, v) ∷ back)) p.0 ∙ ap (λ ys. x ∷ ys) (before-at k v new front back p.1 q)

  pub rekeyed-none : (k : Identifier) (new : Identifier × T) (xs : List (Identifier × T)) → OtherKeys k xs → items_rekeyed k new xs ≡ xs
  rekeyed-none k new [] o = refl
  rekeyed-none k new (x ∷ xs) o = λ i. cond (o.0 i) new x ∷ rekeyed-none k new xs o.1 i

  pub rekeyed-at : (k : Identifier) (v : T) (new : Identifier × T) (front back : List (Identifier × T)) → OtherKeys k front → OtherKeys k back
      → items_rekeyed k new (front ++ (k, v) ∷ back) ≡ front ++ new ∷ back
  rekeyed-at k v new [] back p q = λ i. cond (id_eq-refl k i) new (k, v) ∷ rekeyed-none k new back q i
  rekeyed-at k v new (x ∷ front) back p q = λ i. cond (p.0 i) new x ∷ rekeyed-at k v new front back p.1 q i
