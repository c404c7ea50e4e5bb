-- The children of the slots, sorted, are a table of the place.
use Rattle.origin_model.proofs.Words.{All, All-contains, AllPairs, Bool, Contains, Contains-append_right, Identifier, IsIn, IsOrderedBy, Lawful, List, None, Op, Option, Place}
use Rattle.origin_model.proofs.Words.{Some, [], all_from_contains, all_pairs_head, all_pairs_nil, all_pairs_tail, ap, arith, contains_cases, contains_filter_from, contains_here}
use Rattle.origin_model.proofs.Words.{contains_none, contains_there, count_by, element_of, false, filter, fork_before, id_lt, index_of_origin, inl, inr, is_own, left_of, ne-id_eq}
use Rattle.origin_model.proofs.Words.{older_of, option_to_list, order, precedes, refl, right_at, right_of, subst, sym, true, true≢false, ℕ, ◌++◌, ◌∙◌, ◌∷◌, ◌≡◌, ◌≢◌, ◌⊎◌}
use Rattle.origin_model.proofs.order.{IsIn-held, IsIn-older, IsIn-own, IsIn-split, Ordered-agree, fork-total, fork-trans, fork_moved}
use Rattle.origin_model.proofs.order.OrderedListLemmas.{placed-ordered}
use Rattle.origin_model.proofs.order.StrictOrderLemmas.{ranked-total, ranked-trans}
use Rattle.origin_model.proofs.operations.LookupLemmas.{held_not_own, right_by, when_ready}
use Rattle.origin_model.proofs.operations.ElementLemmas.{element_own}
use Rattle.origin_model.proofs.sides.OwnTableLemmas.{slot_eq-refl, slot_eq-true}
use Rattle.origin_model.proofs.sides.SidedGapLemmas.{left_parent}
use Rattle.origin_model.proofs.sides.SlotLemmas.{child-in}
use Rattle.std.proofs.lemmas.Bool.Decides.{nat_tests}
use Rattle.std.proofs.lemmas.List.Kept.{AllPairs-cons, AllPairs-filter}
use Rattle.fugue_ids.proofs.ListLemmas.{contains_filter, contains_insert, contains_insert_cases, contains_inserted}
use Rattle.origin_model.specs.declared.sides.Slot.{Slot}
use Rattle.origin_model.specs.declared.sides.Slot.TheVariants.{LeftOf, RightOf}
use Rattle.origin_model.specs.sides.Slot.{IsChild, IsTable, slot_of}
use Rattle.origin_model.specs.sides.Walk.{child_before, children_of, elements, hangs, hangs_by, slot_eq, sorted}

-- members, sorted
module _ (R : Identifier → Identifier → Bool) where
  -- a member is one of the sorted ones
  pub sorted-has : (xs : List Identifier) (y : Identifier) → Contains xs y → Contains (sorted R xs) y
  sorted-has [] y m = m
  sorted-has (x ∷ xs) y m =
      let n = count_by (λ e. R e x) (sorted R xs) in
      elim (contains_cases x xs y m) [
        | inl d ↦ subst (Contains (sorted R (x ∷ xs))) d (contains_inserted (sorted R xs) n x)
        | inr k ↦ contains_insert (sorted R xs) n x y (sorted-has xs y k)
      ]

  -- and a sorted one is a member
  pub sorted-from : (xs : List Identifier) (y : Identifier) → Contains (sorted R xs) y → Contains xs y
  sorted-from [] y m = m
  sorted-from (x ∷ xs) y m =
      elim (contains_insert_cases (sorted R xs) (count_by (λ e. R e x) (sorted R xs)) x y m) [
        | inl d ↦ subst (Contains (x ∷ xs)) d (contains_here x xs)
        | inr k ↦ contains_there x xs y (sorted-from xs y k)
      ]

  -- distinct members are in order, where that is transitive, and total on distinct ones
  pub sorted-ordered : (trans : (a b c : Identifier) → R a b ≡ true → R b c ≡ true → R a c ≡ true)
      (total : (a b : Identifier) → a ≢ b → R a b ≡ false → R b a ≡ true) → (xs : List Identifier)
      → AllPairs (λ a b. a ≢ b) xs → IsOrderedBy R (sorted R xs)
  sorted-ordered trans total [] d = all_pairs_nil (λ a b. R a b ≡ true)
  sorted-ordered trans total (x ∷ xs) d =
      let apart : All (λ b. x ≢ b) xs = all_pairs_head (λ a b. a ≢ b) x xs d in
      placed-ordered R trans x (sorted R xs)
      (all_from_contains (λ e. R e x ≡ false → R x e ≡ true) (sorted R xs) (λ e m k.
      total e x (λ c. All-contains (λ b. x ≢ b) xs e apart (sorted-from xs e m) (sym c)) k))
      (sorted-ordered trans total xs (all_pairs_tail (λ a b. a ≢ b) x xs d))

-- the newest element, where there is one, before the others
newest_first : (o : Option Identifier) (xs : List Identifier) → AllPairs (λ a b. a ≢ b) xs
    → ((x : Identifier) → o ≡ Some x → All (λ b. x ≢ b) xs) → AllPairs (λ a b. a ≢ b) (option_to_list o ++ xs)
newest_first None xs d f = d
newest_first (Some x) xs d f = AllPairs-cons (λ a b. a ≢ b) x xs (f x refl) d

-- a member is the newest or one of the others
newest_cases : (o : Option Identifier) (xs : List Identifier) (y : Identifier) → Contains (option_to_list o ++ xs) y
    → (o ≡ Some y) ⊎ Contains xs y
newest_cases None xs y m = inr m
newest_cases (Some x) xs y m = elim (contains_cases x xs y m) [ inl d ↦ inl (ap Some d) | inr k ↦ inr k ]

module _ (p : Place) where
  -- what is listed is an element
  pub elements-in : (h : List Op) (x : Identifier) → Lawful h → Contains (elements p h) x → IsIn p h x
  elements-in [] x w m = absurd (contains_none x m)
  elements-in (op ∷ older) x w m =
      elim (newest_cases (element_of p op) (elements p older) x m) [
        | inl e ↦ IsIn-own p op older x e
        | inr k ↦ IsIn-older p op older x (when_ready older op w.0) (elements-in older x w.1 k)
      ]

  -- each element is listed
  pub elements-has : (h : List Op) (x : Identifier) → IsIn p h x → Contains (elements p h) x
  elements-has [] x m = cc (m.held)
  elements-has (op ∷ older) x m =
      elim (IsIn-split p op older x m) [
        | inl e ↦ subst (λ o. Contains (option_to_list o ++ elements p older) x) (sym e)
            (contains_here x (elements p older))
        | inr k ↦ Contains-append_right (option_to_list (element_of p op)) (elements p older) x (elements-has older x k)
      ]

  -- once
  pub elements-once : (h : List Op) → Lawful h → AllPairs (λ a b. a ≢ b) (elements p h)
  elements-once [] w = all_pairs_nil (λ a b. a ≢ b)
  elements-once (op ∷ older) w =
      newest_first (element_of p op) (elements p older) (elements-once older w.1) (λ x e.
      all_from_contains (λ b. x ≢ b) (elements p older) (λ b m d.
      true≢false (sym (element_own p op x e) ∙ ap (λ z. is_own z op) d
      ∙ held_not_own op older b (when_ready older op w.0) (IsIn-held p older b (elements-in older b w.1 m)))))

-- children compare as the rule says
module _ (o : List Identifier) (h : List Op) where
  -- transitively
  child-trans : (s : Slot) (a b c : Identifier) → child_before o h s a b ≡ true → child_before o h s b c ≡ true
      → child_before o h s a c ≡ true
  child-trans (RightOf l) = fork-trans o h
  child-trans (LeftOf q) = ranked-trans 0 0 0

  -- and totally
  child-total : (s : Slot) (a b : Identifier) → a ≢ b → child_before o h s a b ≡ false → child_before o h s b a ≡ true
  child-total (RightOf l) = fork-total o h
  child-total (LeftOf q) = λ a b n. ranked-total 0 0 a b (ne-id_eq a b n)

  -- at one rank the identifier decides
  same_rank : (n : ℕ) (a b : Identifier) → id_lt a b ≡ precedes n n a b
  same_rank n a b = grind (arith, nat_tests)

  -- left children have one right origin
  child-right : (p : Place) (q u : Identifier) → IsChild p h (LeftOf q) u → right_at h u ≡ Some q
  child-right p q u k = ap right_by k.held ∙ (left_parent h (left_of k.op) (right_of k.op) q k.slot).0

  -- that is the comparison at a fork
  child-fork : (p : Place) (s : Slot) (u v : Identifier) → IsChild p h s u → IsChild p h s v
      → child_before o h s u v ≡ fork_before o h u v
  child-fork p (RightOf l) u v k j = refl
  child-fork p (LeftOf q) u v k j =
      same_rank (index_of_origin o (Some q)) u v
      ∙ (λ i. precedes (index_of_origin o (sym (child-right p q u k) i))
      (index_of_origin o (sym (child-right p q v j) i)) u v)

-- the children of the slots of a lawful history
module _ (p : Place) (h : List Op) (w : Lawful h) where
  -- the order before the newest operation
  abbrev o : List Identifier
  o = order p (older_of h)

  -- the children of a slot, in no order
  abbrev hang : Slot → List Identifier
  hang s = filter (hangs h s) (elements p h)

  -- a listed one is a child
  listed_sound : (s : Slot) (v : Identifier) → Contains (children_of o p h s) v → IsChild p h s v
  listed_sound s v m =
      let r = contains_filter_from (hangs h s) (elements p h) v (sorted-from (child_before o h s) (hang s) v m) in
      let n : IsIn p h v = elements-in p h v w r.0 in
      record {
        op = n.op;
        held = n.held;
        place = n.place;
        slot = slot_eq-true (slot_of h n.op) s
            (sym (ap (hangs_by h s) n.held) ∙ r.1);
      }

  -- a child is listed
  listed_full : (s : Slot) (v : Identifier) → IsChild p h s v → Contains (children_of o p h s) v
  listed_full s v k =
      sorted-has (child_before o h s) (hang s) v
      (contains_filter (hangs h s) (elements p h) v (elements-has p h v (child-in p h s v k))
      (ap (hangs_by h s) k.held ∙ ap (λ z. slot_eq z s) k.slot ∙ slot_eq-refl s))

  -- they are in order
  listed_sorted : (s : Slot) → IsOrderedBy (fork_before (order p h) h) (children_of o p h s)
  listed_sorted s =
      Ordered-agree (child_before o h s) (fork_before (order p h) h) (IsChild p h s)
      (λ a b k j. child-fork o h p s a b k j ∙ sym (fork_moved p h a b w)) (children_of o p h s)
      (all_from_contains (IsChild p h s) (children_of o p h s) (listed_sound s))
      (sorted-ordered (child_before o h s) (child-trans o h s) (child-total o h s) (hang s)
      (AllPairs-filter (λ a b. a ≢ b) (hangs h s) (elements p h) (elements-once p h w)))

  -- these are tables of the place
  pub children-table : IsTable p h (children_of o p h)
  children-table = record { sound = listed_sound; full = listed_full; sorted = listed_sorted }
