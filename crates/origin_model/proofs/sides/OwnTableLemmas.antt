-- Each lawful history has tables of children: those of a slot are the elements of the order that hang there. In them
-- each walk down ends, since chains get longer on the way.
use Rattle.origin_model.proofs.Words.{Bool, Contains, Identifier, IsIn, IsOrderedBy, Lawful, List, Op, Place, Some, [], all_from_contains, ap, arith, cases_id, chain_before}
use Rattle.origin_model.proofs.Words.{contains_filter_from, contains_here, contains_middle, false, false≢true, filter, fork_before, id_eq-refl, id_eq-true, inl, inr, lefts, length}
use Rattle.origin_model.proofs.Words.{next_left, next_right, older_of, order, origin_eq-true, refl, rights, sibling, subst, suc, sym, true, zero, ℕ, ◌++◌, ◌+◌, ◌∙◌, ◌∷◌, ◌≡◌, ◌≤◌}
use Rattle.origin_model.proofs.Words.{◌⊎◌}
use Rattle.std.proofs.lemmas.List.Kept.{AllPairs-filter}
use Rattle.fugue_ids.proofs.IdentifierLemmas.{origin_eq-refl}
use Rattle.fugue_ids.proofs.ListLemmas.{contains_filter}
use Rattle.origin_model.specs.declared.sides.Slot.{Slot}
use Rattle.origin_model.specs.declared.sides.Slot.TheVariants.{LeftOf, RightOf}
use Rattle.origin_model.specs.sides.KeyLaws.{EndsBlock}
use Rattle.origin_model.specs.sides.Slot.{BeforeBlock, IsChild, IsTable, slot_of}
use Rattle.origin_model.specs.sides.Walk.{hangs, hangs_by, slot_eq}
use Rattle.origin_model.proofs.order.{Ordered-agree, before_at, before_in-irrefl, chain_above, chain_before-fork, common, fork-irrefl, fork_moved, order-has, order-member}
use Rattle.origin_model.proofs.order.{order-ordered}
use Rattle.origin_model.proofs.sides.ChainLengthLemmas.{chain-bound, len, more}
use Rattle.origin_model.proofs.sides.SlotLemmas.{child-in, child-lefts, child-rights, over, slot_left}

-- a slot is equal to itself
pub slot_eq-refl : (s : Slot) → slot_eq s s ≡ true
slot_eq-refl (RightOf a) = origin_eq-refl a
slot_eq-refl (LeftOf a) = id_eq-refl a

-- equal slots are one
pub slot_eq-true : (a b : Slot) → slot_eq a b ≡ true → a ≡ b
slot_eq-true (RightOf a) (RightOf b) e = ap RightOf (origin_eq-true a b e)
slot_eq-true (RightOf a) (LeftOf b) e = absurd (false≢true e)
slot_eq-true (LeftOf a) (RightOf b) e = absurd (false≢true e)
slot_eq-true (LeftOf a) (LeftOf b) e = ap LeftOf (id_eq-true a b e)

-- the elements that hang in the slot, in order
abbrev pub table_of : Place → List Op → Slot → List Identifier
table_of p h s = filter (hangs h s) (order p h)

-- a list is empty or has a last member
pub last_split : (xs : List Identifier) → (xs ≡ []) ⊎ ((front : List Identifier) × (v : Identifier) × (xs ≡ front ++ v ∷ []))
last_split [] = inl refl
last_split (x ∷ xs) = inr (elim (last_split xs) [ inl e ↦ ([], x, ap (λ t. x ∷ t) e) | inr r ↦ (x ∷ r.0, r.1, ap (λ t. x ∷ t) r.2) ])

-- a list is empty or has a first member
pub first_split : (xs : List Identifier) → (xs ≡ []) ⊎ ((v : Identifier) × (rest : List Identifier) × (xs ≡ v ∷ rest))
first_split [] = inl refl
first_split (x ∷ xs) = inr (x, xs, refl)

module _ (p : Place) (h : List Op) (w : Lawful h) where
  -- children of one slot stand as at a fork
  pub child-ahead : (s : Slot) (u v : Identifier) → IsChild p h s u → IsChild p h s v → before_at p h u v ≡ fork_before (order p h) h u v
  child-ahead s u v k j =
      let F : Identifier → Identifier → Bool = fork_before (order p (older_of h)) h in
      let S : Identifier → Identifier → Bool = sibling (order p (older_of h)) h in
      let A : List Identifier = chain_above next_left h (slot_left h s) in
      elim (cases_id u v) [
        | inl d ↦ ap (before_at p h u) (sym d) ∙ before_in-irrefl (order p (older_of h)) h u ∙ sym (fork-irrefl (order p h) h u) ∙ ap (fork_before (order p h) h u) d
        | inr n ↦
            (λ i. chain_before true S (child-lefts p h s u w k i) (child-lefts p h s v w j i)) ∙ common true S A (u ∷ []) (v ∷ []) ∙ chain_before-fork true S u v [] [] n
            ∙ (λ i. chain_before false F (child-rights p h s u w k i) (child-rights p h s v w j i)) ∙ common false F (over h s) (u ∷ []) (v ∷ [])
            ∙ chain_before-fork false F u v [] [] n
            ∙ sym (fork_moved p h u v w)
      ]

  -- a list of children of one slot that is in order is so as at forks
  pub children-sorted : (s : Slot) (xs : List Identifier) → ((v : Identifier) → Contains xs v → IsChild p h s v) → IsOrderedBy (before_at p h) xs
      → IsOrderedBy (fork_before (order p h) h) xs
  children-sorted s xs f o = Ordered-agree (before_at p h) (fork_before (order p h) h) (IsChild p h s) (child-ahead s) xs (all_from_contains (IsChild p h s) xs f) o

  -- a member of the table is a child
  table_sound : (s : Slot) (v : Identifier) → Contains (table_of p h s) v → IsChild p h s v
  table_sound s v m =
      let r = contains_filter_from (hangs h s) (order p h) v m in
      let n : IsIn p h v = order-member p h v w r.0 in
      record { op = n.op; held = n.held; place = n.place; slot = slot_eq-true (slot_of h n.op) s (sym (ap (hangs_by h s) n.held) ∙ r.1) }

  -- a child is a member of the table
  table_full : (s : Slot) (v : Identifier) → IsChild p h s v → Contains (table_of p h s) v
  table_full s v k =
      contains_filter (hangs h s) (order p h) v (order-has p h v (child-in p h s v k)) (ap (hangs_by h s) k.held ∙ ap (λ z. slot_eq z s) k.slot ∙ slot_eq-refl s)

  -- these are the tables of the history
  pub has_table : IsTable p h (table_of p h)
  has_table = record {
    sound = table_sound;
    full = table_full;
    sorted = λ s. children-sorted s (table_of p h s) (table_sound s) (AllPairs-filter (λ x y. before_at p h x y ≡ true) (hangs h s) (order p h) (order-ordered p h w));
  }

  -- the tables of a lawful history
  module _ (children : Slot → List Identifier) (t : IsTable p h children) where
    -- a last right child is a child, with a longer chain
    last_child : (s v : Identifier) (front : List Identifier) → children (RightOf (Some s)) ≡ front ++ v ∷ [] → IsIn p h v × (len (lefts h v) ≡ suc (len (lefts h s)))
    last_child s v front e =
        let k : IsChild p h (RightOf (Some s)) v = t.sound (RightOf (Some s)) v (subst (λ l. Contains l v) (sym e) (contains_middle front v [])) in
        (child-in p h (RightOf (Some s)) v k, ap len (child-lefts p h (RightOf (Some s)) v w k) ∙ more (lefts h s) v)

    -- a first left child is a child, with a longer chain
    first_child : (q v : Identifier) (rest : List Identifier) → children (LeftOf q) ≡ v ∷ rest → IsIn p h v × (len (rights h v) ≡ suc (len (rights h q)))
    first_child q v rest e =
        let k : IsChild p h (LeftOf q) v = t.sound (LeftOf q) v (subst (λ l. Contains l v) (sym e) (contains_here v rest)) in
        (child-in p h (LeftOf q) v k, ap len (child-rights p h (LeftOf q) v w k) ∙ more (rights h q) v)

    -- the walk by last right children ends, in no more steps than a chain can get longer
    last_steps : (n : ℕ) (s : Identifier) → length {A = Op} h ≤ n + len (lefts h s) → (y : Identifier) × EndsBlock children s y
    last_steps zero s b =
        elim (last_split (children (RightOf (Some s)))) [
          | inl e ↦ (s, record { path = []; below = (e, refl) })
          | inr r ↦ let l = (last_child s r.1 r.0 r.2).1 in let a = chain-bound next_left h r.1 in absurd (omega arith)
        ]
    last_steps (suc n) s b =
        elim (last_split (children (RightOf (Some s)))) [
          | inl e ↦ (s, record { path = []; below = (e, refl) })
          | inr r ↦
              let l = (last_child s r.1 r.0 r.2).1 in
              let z = last_steps n r.1 (omega arith) in
              (z.0, record { path = r.1 ∷ z.1.path; below = ((r.0, r.2), z.1.below) })
        ]

    -- the walk by first left children ends
    first_steps : (n : ℕ) (q : Identifier) → length {A = Op} h ≤ n + len (rights h q) → (y : Identifier) × BeforeBlock children q y
    first_steps zero q b =
        elim (first_split (children (LeftOf q))) [
          | inl e ↦ (q, record { path = []; below = (e, refl) })
          | inr r ↦ let l = (first_child q r.0 r.1 r.2).1 in let a = chain-bound next_right h r.0 in absurd (omega arith)
        ]
    first_steps (suc n) q b =
        elim (first_split (children (LeftOf q))) [
          | inl e ↦ (q, record { path = []; below = (e, refl) })
          | inr r ↦
              let l = (first_child q r.0 r.1 r.2).1 in
              let z = first_steps n r.0 (omega arith) in
              (z.0, record { path = r.0 ∷ z.1.path; below = ((r.1, r.2), z.1.below) })
        ]

    -- each node has a last one below it
    pub last_walk : (s : Identifier) → (y : Identifier) × EndsBlock children s y
    last_walk s = last_steps (length {A = Op} h) s (omega arith)

    -- and a first one
    pub first_walk : (q : Identifier) → (y : Identifier) × BeforeBlock children q y
    first_walk q = first_steps (length {A = Op} h) q (omega arith)
