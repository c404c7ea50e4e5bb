-- The order of a place: it agrees with the comparison of elements, older elements keep theirs as the history grows, and
-- the order has exactly the elements of the place, whose origins and chains are of the same place.
use Rattle.origin_model.proofs.Words.{All, All-contains, All-nil, All-push, All-weaker, Bool, Contains, Identifier, IsIn, IsOrderedBy, Lawful, List, None, Op, Option, Place, Some}
use Rattle.origin_model.proofs.Words.{[], all_insert, all_pairs_head, all_pairs_nil, all_pairs_tail, ap, arith, before_in, cases_Bool, cases_origin, chain, count_by, element_of}
use Rattle.origin_model.proofs.Words.{false, false_from_ne_true, fits, fork_before, get_or, id_eq-true, id_lt, id_of, index_of_origin, inl, inr, insert, is_own, is_some, left_of}
use Rattle.origin_model.proofs.Words.{lefts, length, next_left, next_right, older_of, order, origin_eq, placed, precedes, refl, right_at, right_of, rights, subst, suc, sym, true}
use Rattle.origin_model.proofs.Words.{true≢false, zero, ℕ, ◌&&◌, ◌<◌, ◌||◌, ◌∙◌, ◌∷◌, ◌≡◌, ◌≤◌, ◌⊎◌}
use Rattle.fugue_ids.proofs.ListLemmas.{contains_insert, contains_inserted}
use Rattle.origin_model.proofs.operations.LookupLemmas.{Fits, IsHeld, IsReady, held_not_own, holder-other, holder-own, holder_owns, holds-older, holds-own, left_fits, origin_role}
use Rattle.origin_model.proofs.operations.LookupLemmas.{own_id, role_by, right_at_held, right_by, right_fits, when_ready}
use Rattle.origin_model.proofs.operations.ElementLemmas.{element_own, element_stands, fits_element, role_in}
use Rattle.origin_model.proofs.order.ChainLemmas.{above-all, beside_is, chain-held, chain-other, chain-own, chain_above}
use Rattle.origin_model.proofs.order.OrderedListLemmas.{Ordered-agree, count-yes, none_before, none_pass, placed-ordered}
use Rattle.origin_model.proofs.order.PositionLemmas.{index-insert, shifted, shifted-eq, shifted-lt}
use Rattle.origin_model.proofs.order.StrictOrderLemmas.{before_agree, before_in-total, before_in-trans}
use Rattle.std.proofs.lemmas.List.Edits.{length-insert}
use Rattle.std.proofs.lemmas.List.Sums.{count_by-le-length}

-- an operation that is no element of the place leaves its order
pub order-none : (p : Place) (op : Op) (older : List Op) → element_of p op ≡ None → order p (op ∷ older) ≡ order p older
unfolding order
order-none p op older e = rw (e, order)

-- an element of the place goes in after those that stand before it
pub order-some : (p : Place) (op : Op) (older : List Op) (x : Identifier) → element_of p op ≡ Some x
    → order p (op ∷ older) ≡ placed (λ e. before_in (order p older) (op ∷ older) e x) (order p older) x
unfolding order
order-some p op older x e = rw (e, order)

-- an order has at most one member for each operation
pub order_bounded : (p : Place) (h : List Op) → length (order p h) ≤ length h
unfolding order
order_bounded p [] = omega arith
order_bounded p (op ∷ h) =
    let rest : length (order p h) ≤ length h = order_bounded p h in
    elim (cases_origin (element_of p op)) [
      | inl e ↦ omega (arith, ap length (order-none p op h e), rest)
      | inr f ↦
          let old : List Identifier = order p h in
          let b : Identifier → Bool = λ z. before_in old (op ∷ h) z f.0 in
          omega (arith, ap length (order-some p op h f.0 f.1), length-insert old (count_by b old) f.0 (count_by-le-length b old), rest)
    ]

-- no right origin is the newest element
right_not_newest : (op : Op) (older : List Op) (z c : Identifier) → Lawful (op ∷ older) → is_own z op ≡ true → origin_eq (right_at (op ∷ older) c) (Some z) ≡ false
right_not_newest op older z c w own =
    elim (cases_origin (right_at (op ∷ older) c)) [
      | inl e ↦ ap (λ o. origin_eq o (Some z)) e
      | inr f ↦ ap (λ o. origin_eq o (Some z)) f.1
          ∙ false_from_ne_true _ (λ t. true≢false (
          sym own ∙ ap (λ i. is_own i op) (sym (id_eq-true f.0 z t))
          ∙ held_not_own op older f.0 (when_ready older op w.0) (right_at_held (op ∷ older) c f.0 w f.1)))
    ]

-- one more element leaves the comparison of older right origins
pub fork_moved : (p : Place) (h : List Op) (c d : Identifier) → Lawful h → fork_before (order p h) h c d ≡ fork_before (order p (older_of h)) h c d
fork_moved p [] c d w = refl
fork_moved p (op ∷ older) c d w =
    let h : List Op = op ∷ older in
    elim (cases_origin (element_of p op)) [
      | inl e ↦ ap (λ o. fork_before o h c d) (order-none p op older e)
      | inr f ↦
          let o : List Identifier = order p older in
          let q : Identifier → Bool = λ e. before_in o h e f.0 in
          let n : ℕ = count_by q o in
          let own : is_own f.0 op ≡ true = element_own p op f.0 f.1 in
          let here : index_of_origin (insert o n f.0) (right_at h c) ≡ shifted n (index_of_origin o (right_at h c)) =
          index-insert o n f.0 (right_at h c) (count_by-le-length q o) (right_not_newest op older f.0 c w own) in
          let there : index_of_origin (insert o n f.0) (right_at h d) ≡ shifted n (index_of_origin o (right_at h d)) =
          index-insert o n f.0 (right_at h d) (count_by-le-length q o) (right_not_newest op older f.0 d w own) in
          ap (λ o. fork_before o h c d) (order-some p op older f.0 f.1)
          ∙ (λ i. precedes (here i) (there i) c d)
          ∙ (λ i. shifted-lt n (index_of_origin o (right_at h d)) (index_of_origin o (right_at h c)) i
          || (shifted-eq n (index_of_origin o (right_at h d)) (index_of_origin o (right_at h c)) i && id_lt c d))
    ]

-- one more operation leaves the comparison of held elements
module _ (p : Place) (op : Op) (older : List Op) (w : Lawful (op ∷ older)) where
  -- a held element is not the newest
  not_own : (c : Identifier) → IsHeld older c → is_own c op ≡ false
  not_own c k = held_not_own op older c (when_ready older op w.0) k

  -- a held element keeps its right origin
  pub right-older : (c : Identifier) → IsHeld older c → right_at (op ∷ older) c ≡ right_at older c
  right-older c k = ap right_by (holder-other op older c (not_own c k))

  -- held elements compare at a fork as before
  fork-older : (c d : Identifier) → IsHeld older c → IsHeld older d → fork_before (order p older) (op ∷ older) c d ≡ fork_before (order p (older_of older)) older c d
  fork-older c d k l =
      (λ i. precedes (index_of_origin (order p older) (right-older c k i)) (index_of_origin (order p older) (right-older d l i)) c d)
      ∙ fork_moved p older c d w.1

  -- held elements compare as before
  pub before_in-older : (x y : Identifier) → IsHeld older x → IsHeld older y → before_in (order p older) (op ∷ older) x y ≡ before_in (order p (older_of older)) older x y
  before_in-older x y k l =
      sym (before_agree (order p (older_of older)) (order p older) older (op ∷ older) (IsHeld older) (λ a b m n. sym (fork-older a b m n))
      (λ a m. sym (chain-other next_left op older a (not_own a m))) (λ a m. sym (chain-other next_right op older a (not_own a m)))
      (λ a _. chain-held next_left older a) (λ a _. chain-held next_right older a) x y k l)

-- the members of the order are held
pub order-held : (p : Place) (h : List Op) → All (IsHeld h) (order p h)
unfolding order
order-held p [] = All-nil (IsHeld [])
order-held p (op ∷ older) =
    let o : List Identifier = order p older in
    let held : All (IsHeld (op ∷ older)) o = All-weaker (IsHeld older) (IsHeld (op ∷ older)) (holds-older op older) o (order-held p older) in
    elim (cases_origin (element_of p op)) [
      | inl e ↦ subst (All (IsHeld (op ∷ older))) (sym (order-none p op older e)) held
      | inr f ↦ subst (All (IsHeld (op ∷ older))) (sym (order-some p op older f.0 f.1))
          (all_insert (IsHeld (op ∷ older)) o (count_by (λ e. before_in o (op ∷ older) e f.0) o) f.0 (holds-own op older f.0 (element_own p op f.0 f.1)) held)
    ]

-- older elements stay in order beside a newest operation
pub stay_ordered : (p : Place) (op : Op) (older : List Op) → Lawful (op ∷ older) → IsOrderedBy (before_in (order p (older_of older)) older) (order p older)
    → IsOrderedBy (before_in (order p older) (op ∷ older)) (order p older)
stay_ordered p op older w =
    Ordered-agree (before_in (order p (older_of older)) older) (before_in (order p older) (op ∷ older)) (IsHeld older) (λ a b k l. sym (before_in-older p op older w a b k l))
    (order p older) (order-held p older)

-- the order agrees with the comparison
pub order-ordered : (p : Place) (h : List Op) → Lawful h → IsOrderedBy (before_in (order p (older_of h)) h) (order p h)
unfolding order
order-ordered p [] w = all_pairs_nil (λ x y. before_in [] [] x y ≡ true)
order-ordered p (op ∷ older) w =
    let o : List Identifier = order p older in
    let h : List Op = op ∷ older in
    let R : Identifier → Identifier → Bool = before_in o h in
    let sorted : IsOrderedBy R o = stay_ordered p op older w (order-ordered p older w.1) in
    elim (cases_origin (element_of p op)) [
      | inl e ↦ subst (IsOrderedBy R) (sym (order-none p op older e)) sorted
      | inr f ↦ subst (IsOrderedBy R) (sym (order-some p op older f.0 f.1))
          (placed-ordered R (before_in-trans o h) f.0 o
          (All-weaker (IsHeld older) (λ e. R e f.0 ≡ false → R f.0 e ≡ true)
          (λ e k. before_in-total o h e f.0 (holds-older op older e k) (holds-own op older f.0 (element_own p op f.0 f.1))
          (λ d. true≢false (sym (element_own p op f.0 f.1) ∙ ap (λ i. is_own i op) (sym d) ∙ held_not_own op older e (when_ready older op w.0) k)))
          o (order-held p older))
          sorted)
    ]

-- an element of a place is held
pub IsIn-held : (p : Place) (h : List Op) (x : Identifier) → IsIn p h x → IsHeld h x
IsIn-held p h x m = ap is_some m.held

-- older elements stay in the place
pub IsIn-older : (p : Place) (op : Op) (older : List Op) (x : Identifier) → IsReady older op → IsIn p older x → IsIn p (op ∷ older) x
IsIn-older p op older x w m =
    record { op = m.op; held = holder-other op older x (held_not_own op older x w (IsIn-held p older x m)) ∙ m.held; place = m.place }

-- the newest element is in its place
pub IsIn-own : (p : Place) (op : Op) (older : List Op) (x : Identifier) → element_of p op ≡ Some x → IsIn p (op ∷ older) x
IsIn-own p op older x e = record { op = op; held = holder-own op older x (element_own p op x e); place = e }

-- an element is the newest, or one of the older history
pub IsIn-split : (p : Place) (op : Op) (older : List Op) (x : Identifier) → IsIn p (op ∷ older) x → (element_of p op ≡ Some x) ⊎ IsIn p older x
IsIn-split p op older x m =
    elim (cases_Bool (is_own x op)) [
      | inl o ↦ let e : op ≡ m.op = cc (holder-own op older x o, m.held) in inl (ap (element_of p) e ∙ m.place)
      | inr o ↦ inr (record { op = m.op; held = sym (holder-other op older x o) ∙ m.held; place = m.place })
    ]

-- what fits as an origin of an element is an element of its place
place_fits : (p : Place) (op o : Op) (x : Identifier) → element_of p op ≡ Some x → fits (origin_role op) o ≡ true → element_of p o ≡ id_of o
place_fits p op o x e f =
    let role : origin_role op ≡ role_in p = ap role_by (element_stands p op x e).0 in
    fits_element p o (ap (λ r. fits r o) (sym role) ∙ f)

-- an origin of the newest element that is held and fits is in its place
origin_in : (p : Place) (op : Op) (older : List Op) (x y : Identifier) → element_of p op ≡ Some x → Fits older (y, origin_role op) → IsIn p older y
origin_in p op older x y e f = record { op = f.0; held = f.1; place = place_fits p op f.0 x e f.2 ∙ own_id f.0 y (holder_owns older y f.0 f.1) }

-- the left origin of the newest element is in its place
pub left_in : (p : Place) (op : Op) (older : List Op) (x l : Identifier) → IsReady older op → element_of p op ≡ Some x → left_of op ≡ Some l → IsIn p older l
left_in p op older x l w e f = origin_in p op older x l e (left_fits older op l w f)

-- so is its right origin
pub right_in : (p : Place) (op : Op) (older : List Op) (x r : Identifier) → IsReady older op → element_of p op ≡ Some x → right_of op ≡ Some r → IsIn p older r
right_in p op older x r w e f = origin_in p op older x r e (right_fits older op r w f)

-- what the operations before the newest have in a place stays there
pub further : (p : Place) (h : List Op) (r : Identifier) → Lawful h → IsIn p (older_of h) r → IsIn p h r
further p [] r w m = m
further p (op ∷ older) r w m = IsIn-older p op older r (when_ready older op w.0) m

-- a right origin was in the place before the newest operation
pub right_at_in : (p : Place) (h : List Op) (x r : Identifier) → Lawful h → IsIn p h x → right_at h x ≡ Some r → IsIn p (older_of h) r
right_at_in p [] x r w m e = cc (m.held)
right_at_in p (op ∷ older) x r w m e =
    let ready = when_ready older op w.0 in
    elim (IsIn-split p op older x m) [
      | inl k ↦ right_in p op older x r ready k (sym (ap right_by (holder-own op older x (element_own p op x k))) ∙ e)
      | inr k ↦ further p older r w.1 (right_at_in p older x r w.1 k (sym (ap right_by (holder-other op older x (held_not_own op older x ready (IsIn-held p older x k)))) ∙ e))
    ]

-- what stands in a place stays there
stay_in : (p : Place) (op : Op) (older : List Op) → IsReady older op → (xs : List Identifier) → All (IsIn p older) xs → All (IsIn p (op ∷ older)) xs
stay_in p op older ready = All-weaker (IsIn p older) (IsIn p (op ∷ older)) (λ y. IsIn-older p op older y ready)

-- chains of members that are in the place when the next one comes
module _ (p : Place) (next : List Op → Op → Option Identifier)
    (inside : (op : Op) (older : List Op) (x y : Identifier) → IsReady older op → element_of p op ≡ Some x → next older op ≡ Some y → IsIn p older y) where
  -- the chain stays in its place
  chain-in : (h : List Op) (x : Identifier) → Lawful h → IsIn p h x → All (IsIn p h) (chain next h x)
  chain-in [] x w m = cc (m.held)
  chain-in (op ∷ older) x w m =
      let ready = when_ready older op w.0 in
      let P : Identifier → Type 0 = IsIn p (op ∷ older) in
      elim (IsIn-split p op older x m) [
        | inl k ↦ subst (All P) (sym (chain-own next op older x (element_own p op x k)))
            (All-push P (chain_above next older (next older op)) x
            (above-all next P older (next older op) (λ y f. stay_in p op older ready (chain next older y) (chain-in older y w.1 (inside op older x y ready k f)))) m)
        | inr k ↦ subst (All P) (sym (chain-other next op older x (held_not_own op older x ready (IsIn-held p older x k))))
            (stay_in p op older ready (chain next older x) (chain-in older x w.1 k))
      ]

-- a chain of left origins stays in its place
pub lefts-in : (p : Place) (h : List Op) (x : Identifier) → Lawful h → IsIn p h x → All (IsIn p h) (lefts h x)
lefts-in p = chain-in p next_left (left_in p)

-- a chain of right origins stays in its place
pub rights-in : (p : Place) (h : List Op) (x : Identifier) → Lawful h → IsIn p h x → All (IsIn p h) (rights h x)
rights-in p = chain-in p next_right (λ op older x r ready e f. right_in p op older x r ready e (beside_is older (left_of op) (right_of op) r f).0)

-- the order lists each element of its place
pub order-has : (p : Place) (h : List Op) (x : Identifier) → IsIn p h x → Contains (order p h) x
order-has p [] x m = cc (m.held)
order-has p (op ∷ older) x m =
    elim (IsIn-split p op older x m) [
      | inl k ↦ subst (λ l. Contains l x) (sym (order-some p op older x k))
          (contains_inserted (order p older) (count_by (λ e. before_in (order p older) (op ∷ older) e x) (order p older)) x)
      | inr k ↦ elim (cases_origin (element_of p op)) [
        | inl f ↦ subst (λ l. Contains l x) (sym (order-none p op older f)) (order-has p older x k)
        | inr f ↦ subst (λ l. Contains l x) (sym (order-some p op older f.0 f.1))
            (contains_insert (order p older) (count_by (λ e. before_in (order p older) (op ∷ older) e f.0) (order p older)) f.0 x (order-has p older x k))
      ]
    ]

-- the order lists only elements of its place
pub order-in : (p : Place) (h : List Op) → Lawful h → All (IsIn p h) (order p h)
unfolding order
order-in p [] w = All-nil (IsIn p [])
order-in p (op ∷ older) w =
    let o : List Identifier = order p older in
    let h : List Op = op ∷ older in
    let old : All (IsIn p h) o = stay_in p op older (when_ready older op w.0) o (order-in p older w.1) in
    elim (cases_origin (element_of p op)) [
      | inl e ↦ subst (All (IsIn p h)) (sym (order-none p op older e)) old
      | inr f ↦ subst (All (IsIn p h)) (sym (order-some p op older f.0 f.1))
          (all_insert (IsIn p h) o (count_by (λ e. before_in o h e f.0) o) f.0 (IsIn-own p op older f.0 f.1) old)
    ]

-- a member of the order is an element of its place
pub order-member : (p : Place) (h : List Op) (x : Identifier) → Lawful h → Contains (order p h) x → IsIn p h x
order-member p h x w m = All-contains (IsIn p h) (order p h) x (order-in p h w) m

-- older elements stay in order beside a newest operation
pub older-ordered : (p : Place) (h : List Op) → Lawful h → IsOrderedBy (before_in (order p (older_of h)) h) (order p (older_of h))
unfolding order
older-ordered p [] w = all_pairs_nil (λ x y. before_in [] [] x y ≡ true)
older-ordered p (op ∷ older) w = stay_ordered p op older w (order-ordered p older w.1)

module _ (R : Identifier → Identifier → Bool) (trans : (a b c : Identifier) → R a b ≡ true → R b c ≡ true → R a c ≡ true) (x d : Identifier) where
  abbrev T : Identifier → Identifier → Type 0
  T a b = R a b ≡ true

  -- what stands before x is among the first that are counted
  counted_in : (xs : List Identifier) (i : ℕ) → IsOrderedBy R xs → i < length xs → R (get_or xs i d) x ≡ true → i < count_by (λ e. R e x) xs
  counted_in [] i o l h = absurd (omega (arith, l))
  counted_in (e ∷ es) zero o l h = let n = count-yes (λ y. R y x) e es h in omega arith
  counted_in (e ∷ es) (suc i) o l h =
      let below : i < length es = omega (arith, l) in
      let n = count-yes (λ y. R y x) e es (trans e (get_or es i d) x (all_pairs_head T e es o i d below) h) in
      let k = counted_in es i (all_pairs_tail T e es o) below h in
      omega arith

  -- what does not stand before x is after them
  counted_out : (xs : List Identifier) (i : ℕ) → IsOrderedBy R xs → i < length xs → R (get_or xs i d) x ≡ false → count_by (λ e. R e x) xs ≤ i
  counted_out [] i o l h = absurd (omega (arith, l))
  counted_out (e ∷ es) zero o l h = let n = none_pass (λ y. R y x) (e ∷ es) (none_before R trans x e es h o) in omega arith
  counted_out (e ∷ es) (suc i) o l h =
      elim (cases_Bool (R e x)) [
        | inl t ↦ let n = count-yes (λ y. R y x) e es t in let k = counted_out es i (all_pairs_tail T e es o) (omega (arith, l)) h in omega arith
        | inr f ↦ let n = none_pass (λ y. R y x) (e ∷ es) (none_before R trans x e es f o) in omega arith
      ]

module _ (finished : List Identifier) (h : List Op) (x d : Identifier) (i : ℕ) (o : IsOrderedBy (before_in finished h) finished) (l : i < length finished) where
  -- a search that found an element before x goes on after it
  pub stands_before : before_in finished h (get_or finished i d) x ≡ true → i < count_by (λ e. before_in finished h e x) finished
  stands_before = counted_in (before_in finished h) (before_in-trans finished h) x d finished i o l

  -- a search that found another goes on in front of it
  pub stands_after : before_in finished h (get_or finished i d) x ≡ false → count_by (λ e. before_in finished h e x) finished ≤ i
  stands_after = counted_out (before_in finished h) (before_in-trans finished h) x d finished i o l
