-- Where an element lands whose left origin is no other element's.
use Rattle.origin_model.proofs.Words.{All-contains, Bool, Contains, Contains-append_cases, Contains-append_left, Contains-append_right, Identifier, IsIn, IsOrderedBy, Lawful, List}
use Rattle.origin_model.proofs.Words.{None, Op, Place, Some, [], all_from_contains, all_pairs_after, ap, append-nil, append_assoc, before_in, cases_Bool, chain_before}
use Rattle.origin_model.proofs.Words.{contains_here, contains_middle, element_of, false, false_from_ne_true, holder, inl, inr, is_own, left_at, left_of, lefts, next_left, order}
use Rattle.origin_model.proofs.Words.{placed, sibling, subst, sym, true, true≢false, ◌++◌, ◌∙◌, ◌∷◌, ◌≡◌, ◌≢◌}
use Rattle.origin_model.proofs.order.{IsIn-held, before_in-irrefl, before_in-trans, chain-other, chain-own, chain_above, common, first_before, front_before, left_by}
use Rattle.origin_model.proofs.order.{left_origin_held, lefts-in, lefts-prefix, order-in, order-ordered, order-some, parts_late, same_chain, stay_ordered}
use Rattle.origin_model.proofs.operations.LookupLemmas.{IsHeld, cases_held, held_not_own, holder-other, holder-own, left_named, when_ready}
use Rattle.origin_model.proofs.operations.ElementLemmas.{element_own}
use Rattle.origin_model.proofs.sides.SlotLemmas.{left_from}
use Rattle.origin_model.proofs.edits.LandsBehindLemmas.{placed_between}
use Rattle.fugue_ids.proofs.ListLemmas.{contains_around, contains_cases, contains_none}
use Rattle.origin_model.specs.edits.Landing.{IsLeaf, LandsBehindLeaf, LandsBehindNewest}

module _ (p : Place) (op : Op) (older : List Op) (x l : Identifier) (front back : List Identifier) (w : Lawful (op ∷ older)) (at : element_of p op ≡ Some x)
    (left : left_of op ≡ Some l) (leaf : IsLeaf older l) (whole : order p older ≡ front ++ l ∷ back) where
  abbrev h : List Op
  h = op ∷ older

  abbrev Sx : Identifier → Identifier → Bool
  Sx = sibling (order p older) h

  abbrev Bx : Identifier → Identifier → Bool
  Bx = before_in (order p older) h

  own : is_own x op ≡ true
  own = element_own p op x at

  l_held : IsHeld older l
  l_held = left_named older op l (when_ready older op w.0) left

  not_own : (e : Identifier) → IsHeld older e → is_own e op ≡ false
  not_own e k = held_not_own op older e (when_ready older op w.0) k

  le : (e : Identifier) → IsHeld older e → lefts h e ≡ lefts older e
  le e k = chain-other next_left op older e (not_own e k)

  lx : lefts h x ≡ lefts older l ++ x ∷ []
  lx = chain-own next_left op older x own ∙ ap (λ o. chain_above next_left older o ++ x ∷ []) left

  sorted : IsOrderedBy Bx (front ++ l ∷ back)
  sorted = subst (IsOrderedBy Bx) whole (stay_ordered p op older w (order-ordered p older w.1))

  loop : (a b : Identifier) → Bx a b ≡ true → Bx b a ≡ true → ⊥
  loop a b k j = true≢false (sym (before_in-trans (order p older) h a b a k j) ∙ before_in-irrefl (order p older) h a)

  old_in : (e : Identifier) → Contains (front ++ l ∷ back) e → IsIn p older e
  old_in e m = All-contains (IsIn p older) (order p older) e (order-in p older w.1) (subst (λ z. Contains z e) (sym whole) m)

  -- the left origin goes before the new element
  left_goes : Bx l x ≡ true
  left_goes =
      let ll : lefts h l ≡ lefts older l ++ [] = le l l_held ∙ sym (append-nil (lefts older l)) in
      (λ i. chain_before true Sx (ll i) (lx i)) ∙ common true Sx (lefts older l) [] (x ∷ [])

  -- no chain goes on from the left origin
  ends_there : (e : Identifier) → IsIn p older e → (u : Identifier) (more : List Identifier) → lefts older e ≡ lefts older l ++ u ∷ more → ⊥
  ends_there e m u more q =
      let mu : IsIn p older u =
      All-contains (IsIn p older) (lefts older e) u (lefts-in p older e w.1 m) (subst (λ z. Contains z u) (sym q) (contains_middle (lefts older l) u more)) in
      leaf u (left_from older u (Some l) w.1 (IsIn-held p older u mu) l_held (lefts-prefix older e u (lefts older l) more w.1 (IsIn-held p older e m) q))

  -- every other element stands to the new one as to its left origin
  as_left : (e : Identifier) → IsIn p older e → e ≢ l → Bx e x ≡ Bx e l
  as_left e m d =
      elim (parts_late true Sx (lefts older l) (lefts older e)) [
        | inr same ↦ (λ i. chain_before true Sx (le e (IsIn-held p older e m) i) (lx i)) ∙ same (x ∷ [])
            ∙ (λ i. chain_before true Sx (sym (le e (IsIn-held p older e m)) i) (sym (le l l_held) i))
        | inl z ↦ absurd ((elim z.0 as (λ more. lefts older e ≡ lefts older l ++ more → ⊥) [
          | [] ↦ (λ q. d (same_chain next_left older e l (IsIn-held p older e m) l_held (q ∙ append-nil (lefts older l))))
          | u ∷ more ↦ ends_there e m u more
        ]) z.1)
      ]

  front_goes : (e : Identifier) → Contains front e → Bx e x ≡ true
  front_goes e m =
      let goes : Bx e l ≡ true = front_before Bx front (l ∷ back) e l sorted m (contains_here l back) in
      as_left e (old_in e (Contains-append_left front (l ∷ back) e m)) (λ d. true≢false (sym goes ∙ ap (λ z. Bx z l) d ∙ before_in-irrefl (order p older) h l)) ∙ goes

  back_stays : (e : Identifier) → Contains back e → Bx e x ≡ false
  back_stays e m =
      let comes : Bx l e ≡ true = first_before Bx l e back (all_pairs_after (λ a b. Bx a b ≡ true) front (l ∷ back) sorted) m in
      as_left e (old_in e (contains_around front l back e (Contains-append_right front back e m)))
      (λ d. true≢false (sym comes ∙ ap (Bx l) d ∙ before_in-irrefl (order p older) h l))
      ∙ false_from_ne_true (Bx e l) (λ j. loop l e comes j)

  -- those up to the left origin go before the new element
  goes_first : (e : Identifier) → Contains (front ++ l ∷ []) e → Bx e x ≡ true
  goes_first e m = elim (Contains-append_cases front (l ∷ []) e m) [
    | inl k ↦ front_goes e k
    | inr k ↦ ap (λ z. Bx z x) (only_member l e k) ∙ left_goes
  ]
    where
      only_member : (l e : Identifier) → Contains (l ∷ []) e → e ≡ l
      only_member l e k = elim (contains_cases l [] e k) [ inl d ↦ sym d | inr n ↦ absurd (contains_none e n) ]

  pub lands : order p h ≡ front ++ l ∷ x ∷ back
  lands =
      order-some p op older x at
      ∙ ap (λ o. placed (λ e. Bx e x) o x) (whole ∙ sym (append_assoc front (l ∷ []) back))
      ∙ placed_between (λ e. Bx e x) (front ++ l ∷ []) back x (all_from_contains (λ e. Bx e x ≡ true) (front ++ l ∷ []) goes_first)
      (all_from_contains (λ e. Bx e x ≡ false) back back_stays)
      ∙ append_assoc front (l ∷ []) (x ∷ back)

-- an element whose left origin is no other element's lands directly after that
pub lands_behind_leaf : LandsBehindLeaf
lands_behind_leaf p op older x l front back w at left leaf whole = lands p op older x l front back w at left leaf whole

-- the newest element is no other element's left origin
pub newest_is_leaf : (p : Place) (op : Op) (older : List Op) (l : Identifier) → Lawful (op ∷ older) → element_of p op ≡ Some l → IsLeaf (op ∷ older) l
newest_is_leaf p op older l w at u e =
    let own : is_own l op ≡ true = element_own p op l at in
    let ready = when_ready older op w.0 in
    let fresh : IsHeld older l → ⊥ = λ k. true≢false (sym own ∙ held_not_own op older l ready k) in
    elim (cases_Bool (is_own u op)) [
      | inl k ↦ fresh (left_named older op l ready (sym (ap left_by (holder-own op older u k)) ∙ e))
      | inr k ↦
          let there : left_at older u ≡ Some l = sym (ap left_by (holder-other op older u k)) ∙ e in
          elim (cases_held (holder older u)) [
            | inl n ↦ never_some (sym there ∙ ap left_by n)
            | inr f ↦ fresh (left_origin_held older u f.0 l w.1 f.1 (sym (ap left_by f.1) ∙ there))
          ]
    ]
  where
    never_some : Some l ≡ None → ⊥
    never_some d = cc d

-- an element that was accepted directly after its left origin lands directly after it
pub lands_behind_newest : LandsBehindNewest
lands_behind_newest p next op older x l front back w at_op at left whole =
    lands_behind_leaf p next (op ∷ older) x l front back w at left (newest_is_leaf p op older l w.1 at_op) whole
