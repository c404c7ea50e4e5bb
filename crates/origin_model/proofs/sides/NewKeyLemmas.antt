-- The key of a new element, and that later ones leave it.
use Rattle.origin_model.proofs.Words.{All, All-head, All-tail, Identifier, Lawful, List, None, Op, Option, Some, [], ap, arith, cases_Bool, cases_origin, false, false≢true}
use Rattle.origin_model.proofs.Words.{has_left, holder, if◌then◌else◌, inl, inr, is_own, is_some, left_at, left_of, lefts, next_left, next_right, order, refl, right_of, rights}
use Rattle.origin_model.proofs.Words.{suc, sym, true, true≢false, ◌++◌, ◌-◌, ◌∙◌, ◌∷◌, ◌≡◌}
use Rattle.origin_model.specs.sides.KeyLaws.{KeyBound, KeysStay, NewKey, RunKey}
use Rattle.origin_model.specs.declared.sides.Slot.TheVariants.{RightOf}
use Rattle.origin_model.specs.sides.KeyedGap.{child_key, slot_key}
use Rattle.origin_model.specs.sides.Keys.{depth_above, depth_of, forest_above, forest_of, search_key_of, with_keys, keyed_as, new_key}
use Rattle.origin_model.specs.sides.Slot.{slot_by}
use Rattle.origin_model.proofs.operations.LookupLemmas.{IsHeld, found, held_not_own, holder-other, holder-own, right_named, when_ready}
use Rattle.origin_model.proofs.operations.ElementLemmas.{element_own}
use Rattle.origin_model.proofs.order.{beside_is, chain-other, chain-own, chain_above, has_left-at, left_at-is, left_origin_held, lefts-above, lefts-at, right_origin_held}
use Rattle.origin_model.proofs.order.{rights-at}
use Rattle.origin_model.proofs.order.OrderLemmas.{order-held}
use Rattle.origin_model.proofs.order.PartLemmas.{has_left_by}
use Rattle.origin_model.proofs.sides.ChainLengthLemmas.{chain-bound, forest-rights, len, more}
use Rattle.origin_model.proofs.sides.SlotLemmas.{slot-no, slot-yes}

-- what a look-up found has a left origin only where it found something
found_left : (l : Option Identifier) (o : Option Op) → has_left_by l o ≡ true → is_some o ≡ true
found_left l None e = absurd (false≢true e)
found_left l (Some op) e = refl

-- what has a left origin is held
left_is_held : (h : List Op) (r : Identifier) (l : Option Identifier) → has_left h r l ≡ true → IsHeld h r
left_is_held h r l e = found_left l (holder h r) e

-- the depth of an origin is the length of the chain down to it
depth-above : (h : List Op) (o : Option Identifier) → depth_above h o ≡ len (chain_above next_left h o)
depth-above h None = refl
depth-above h (Some l) = refl

-- the forest above an element is the length of the chain above it
forest-above : (h : List Op) (o : Option Identifier) → ((r : Identifier) → o ≡ Some r → IsHeld h r) → forest_above h o ≡ len (chain_above next_right h o)
forest-above h None f = refl
forest-above h (Some r) f = forest-rights h r (f r refl)

-- the key of the newest element, by its origins
pub newest_key : (op : Op) (older : List Op) (x : Identifier) → is_own x op ≡ true → search_key_of (op ∷ older) x ≡ new_key older (left_of op) (right_of op)
newest_key op older x own =
    let h : List Op = op ∷ older in
    let l : len (lefts h x) ≡ suc (len (chain_above next_left older (left_of op))) =
    ap len (chain-own next_left op older x own) ∙ more (chain_above next_left older (left_of op)) x in
    let r : len (rights h x) ≡ suc (len (chain_above next_right older (next_right older op))) =
    ap len (chain-own next_right op older x own) ∙ more (chain_above next_right older (next_right older op)) x in
    let d : depth_of h x ≡ suc (depth_above older (left_of op)) = l ∙ ap suc (sym (depth-above older (left_of op))) in
    let f : forest_of h x ≡ len (chain_above next_right older (next_right older op)) = omega (arith, r) in
    let g : forest_of h x ≡ forest_above older (next_right older op) =
    f ∙ sym (forest-above older (next_right older op) (λ r e. left_is_held older r (left_of op) (beside_is older (left_of op) (right_of op) r e).1)) in
    λ i. record { depth = d i; forest = g i }

-- that is the law
pub new_key_is : NewKey
new_key_is p op older x w at = newest_key op older x (element_own p op x at)

-- a later operation leaves the key of another element
pub key-other : (op : Op) (older : List Op) (x : Identifier) → is_own x op ≡ false → keyed_as (op ∷ older) x ≡ keyed_as older x
key-other op older x n =
    let l = chain-other next_left op older x n in
    let r = chain-other next_right op older x n in
    λ i. record { id = x; key = record { depth = len (l i); forest = len (r i) - 1 } }

-- and those of all that is there
pub keys_stay : KeysStay
keys_stay p op older w = all (order p older) (order-held p older)
  where
    all : (xs : List Identifier) → All (IsHeld older) xs → with_keys (op ∷ older) xs ≡ with_keys older xs
    all [] k = refl
    all (x ∷ xs) k =
        let e = key-other op older x (held_not_own op older x (when_ready older op w.0) (All-head (IsHeld older) x xs k)) in
        let r = all xs (All-tail (IsHeld older) x xs k) in
        λ i. e i ∷ r i

-- no element has x as its left origin and is the right origin of x
pub never_both : (h : List Op) (x r : Identifier) (a b : Op) → Lawful h → holder h x ≡ Some a → holder h r ≡ Some b → right_of a ≡ Some r → left_of b ≡ Some x → ⊥
never_both [] x r a b w e f i j = cc
never_both (op ∷ older) x r a b w e f i j =
    let ready = when_ready older op w.0 in
    let rest : IsHeld older r → is_own x op ≡ false → ⊥ = λ k n.
    let g : holder older r ≡ Some b = sym (holder-other op older r (held_not_own op older r ready k)) ∙ f in
    never_both older x r a b w.1 (sym (holder-other op older x n) ∙ e) g i j in
    elim (cases_Bool (is_own x op)) [
      | inl o ↦
          let d : op ≡ a = cc (holder-own op older x o, e) in
          let hr : IsHeld older r = right_named older op r ready (ap right_of d ∙ i) in
          let g : holder older r ≡ Some b = sym (holder-other op older r (held_not_own op older r ready hr)) ∙ f in
          true≢false (sym o ∙ held_not_own op older x ready (left_origin_held older r b x w.1 g j))
      | inr o ↦
          let k : holder older x ≡ Some a = sym (holder-other op older x o) ∙ e in
          rest (right_origin_held older x a r w.1 k i) o
    ]

-- an element after its left origin, with the same right origin
pub run_key : RunKey
run_key h x y a b w e f i j =
    let ly : lefts h y ≡ lefts h x ++ y ∷ [] = lefts-at h y b w f ∙ ap (λ o. chain_above next_left h o ++ y ∷ []) i in
    let none : next_right h b ≡ None = elim (cases_origin (next_right h b)) [
      | inl n ↦ n
      | inr r ↦
          let k = beside_is h (left_of b) (right_of b) r.0 r.1 in
          let o = found (holder h r.0) (left_is_held h r.0 (left_of b) k.1) in
          let l : left_of o.0 ≡ left_of b = sym (left_at-is h r.0 o.0 o.1) ∙ has_left-at h r.0 (left_of b) k.1 in
          absurd (never_both h x r.0 a o.0 w e o.1 (sym j ∙ k.0) (l ∙ i))
    ] in
    let ry : rights h y ≡ y ∷ [] = rights-at h y b w f ∙ ap (λ o. chain_above next_right h o ++ y ∷ []) none in
    (ap len ly ∙ more (lefts h x) y, ap (λ c. len c - 1) ry)

-- no key has numbers greater than the number of operations
pub key_bound : KeyBound
key_bound h x k =
    let c = forest-rights h x k in
    let d = chain-bound next_right h x in
    (chain-bound next_left h x, omega (arith, c, d))

-- a new element has the key of the children of its slot
pub key_of_child : (h : List Op) (l r : Option Identifier) → Lawful h → new_key h l r ≡ child_key (slot_by h l r) (slot_key h (slot_by h l r))
key_of_child h None None w = refl
key_of_child h (Some l) None w = refl
key_of_child h l (Some q) w =
    elim (cases_Bool (has_left h q l)) [
      | inl k ↦
          let held : IsHeld h q = left_is_held h q l k in
          let d : depth_of h q ≡ suc (depth_above h l) =
          ap len (lefts-above h q w held) ∙ more (chain_above next_left h (left_at h q)) q ∙ ap (λ o. suc (len (chain_above next_left h o))) (has_left-at h q l k)
          ∙ ap suc (sym (depth-above h l)) in
          ap (λ b. record { depth = suc (depth_above h l); forest = forest_above h (if b then Some q else None) }) k
          ∙ ap (λ m. record { depth = m; forest = suc (forest_of h q) }) (sym d)
          ∙ ap (λ s. child_key s (slot_key h s)) (sym (slot-yes h l q k))
      | inr k ↦
          ap (λ b. record { depth = suc (depth_above h l); forest = forest_above h (if b then Some q else None) }) k
          ∙ right l
          ∙ ap (λ s. child_key s (slot_key h s)) (sym (slot-no h l q k))
    ]
  where
    right : (l : Option Identifier) → record { depth = suc (depth_above h l); forest = 0 } ≡ child_key (RightOf l) (slot_key h (RightOf l))
    right None = refl
    right (Some l) = refl
