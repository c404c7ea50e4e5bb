-- Where an element lands whose origins stand next to each other.
use Rattle.origin_model.proofs.Words.{All, All-contains, All-head, All-tail, Bool, Contains, Contains-append_cases, Contains-append_left, Contains-append_right, Identifier, IsIn}
use Rattle.origin_model.proofs.Words.{IsOrderedBy, Lawful, List, None, Op, Option, Place, Some, [], all_from_contains, all_pairs_before, all_pairs_after, ap, append-nil}
use Rattle.origin_model.proofs.Words.{append_assoc, arith, before_in, cases_Bool, cases_origin, chain_before, contains_here, contains_middle, element_of, false, false_from_ne_true}
use Rattle.origin_model.proofs.Words.{false≢true, fork_before, has_left, holder, if◌then◌else◌, inl, inr, is_own, is_some, left_at, left_of, lefts, length, next_left, next_right}
use Rattle.origin_model.proofs.Words.{order, origin_eq, placed, refl, right_beside, right_of, rights, same_from_push, sibling, slice_index_or, subst, suc, sym, true, true≢false}
use Rattle.origin_model.proofs.Words.{zero, ℕ, ◌++◌, ◌<◌, ◌∙◌, ◌∷◌, ◌≡◌, ◌≢◌, ◌⊎◌}
use Rattle.std.specs.Prelude.{IfSome}
use Rattle.origin_model.specs.declared.sides.Slot.TheVariants.{RightOf}
use Rattle.origin_model.proofs.order.{IsIn-held, before_in-irrefl, before_in-trans, chain-ends, chain-other, chain-own, chain_above, chain_before-fork, chain_before-same, common}
use Rattle.origin_model.proofs.order.{first_of, front_before, has_left-at, has_left_by, last_of, left_by, lefts-above, lefts-in, lefts-prefix, never_none, no_member, order-has}
use Rattle.origin_model.proofs.order.{order-in, order-ordered, order-some, order_total, parts, placed-behind, placed-first, same_chain, stay_ordered}
use Rattle.origin_model.proofs.operations.LookupLemmas.{IsHeld, held_not_own, left_named, when_ready}
use Rattle.origin_model.proofs.operations.ElementLemmas.{element_own}
use Rattle.origin_model.proofs.sides.SlotLemmas.{IsThere, left_from, there}
use Rattle.origin_model.specs.edits.Landing.{LandsBehind, LandsBehindOrigin, following, first_after}
use Rattle.fugue_ids.specs.Listed.{last_before}
use Rattle.origin_model.proofs.edits.SplitLemmas.{Distinct, end_none, end_push, end_split, following_end, head_none, head_split}
use Rattle.fugue_ids.proofs.IdentifierLemmas.{origin_eq-refl}

-- a look-up whose left origin is known says so
pub has_left_from : (o : Option Op) (l : Option Identifier) → is_some o ≡ true → left_by o ≡ l → has_left_by l o ≡ true
has_left_from None l k e = absurd (false≢true k)
has_left_from (Some op) l k e = ap (λ z. origin_eq z l) e ∙ origin_eq-refl l

-- an element goes in after those that stand before it, and before the others
pub placed_between : (q : Identifier → Bool) (front back : List Identifier) (x : Identifier) → All (λ e. q e ≡ true) front → All (λ e. q e ≡ false) back
    → placed q (front ++ back) x ≡ front ++ x ∷ back
placed_between q [] back x f g = placed-first q back x g
placed_between q (e ∷ es) back x f g =
    placed-behind q e (es ++ back) x (All-head (λ z. q z ≡ true) e es f) ∙ ap (λ l. e ∷ l) (placed_between q es back x (All-tail (λ z. q z ≡ true) e es f) g)

-- the empty chain is a proper prefix of any other
nonempty : (F : Identifier → Identifier → Bool) (xs : List Identifier) → (xs ≡ [] → ⊥) → chain_before true F [] xs ≡ true
nonempty F [] n = absurd (n refl)
nonempty F (x ∷ xs) n = refl

module _ (p : Place) (op : Op) (older : List Op) (x : Identifier) (front back : List Identifier) (w : Lawful (op ∷ older)) (at : element_of p op ≡ Some x)
    (whole : order p older ≡ front ++ back) (at_end : left_of op ≡ last_before front) (at_head : right_of op ≡ first_after back) where
  abbrev h : List Op
  h = op ∷ older

  abbrev Fx : Identifier → Identifier → Bool
  Fx = fork_before (order p older) h

  abbrev Sx : Identifier → Identifier → Bool
  Sx = sibling (order p older) h

  abbrev Bx : Identifier → Identifier → Bool
  Bx = before_in (order p older) h

  abbrev A : List Identifier
  A = chain_above next_left older (left_of op)

  own : is_own x op ≡ true
  own = element_own p op x at

  not_own : (e : Identifier) → IsHeld older e → is_own e op ≡ false
  not_own e k = held_not_own op older e (when_ready older op w.0) k

  is_old : (e : Identifier) → IsHeld older e → e ≢ x
  is_old e k d = true≢false (sym own ∙ ap (λ z. is_own z op) (sym d) ∙ not_own e k)

  lx : lefts h x ≡ A ++ x ∷ []
  lx = chain-own next_left op older x own

  le : (e : Identifier) → IsIn p older e → lefts h e ≡ lefts older e
  le e m = chain-other next_left op older e (not_own e (IsIn-held p older e m))

  re : (e : Identifier) → IsIn p older e → rights h e ≡ rights older e
  re e m = chain-other next_right op older e (not_own e (IsIn-held p older e m))

  sorted : IsOrderedBy Bx (front ++ back)
  sorted = subst (IsOrderedBy Bx) whole (stay_ordered p op older w (order-ordered p older w.1))

  loop : (a b : Identifier) → Bx a b ≡ true → Bx b a ≡ true → ⊥
  loop a b k j = true≢false (sym (before_in-trans (order p older) h a b a k j) ∙ before_in-irrefl (order p older) h a)

  old_in : (e : Identifier) → Contains (front ++ back) e → IsIn p older e
  old_in e m = All-contains (IsIn p older) (order p older) e (order-in p older w.1) (subst (λ l. Contains l e) (sym whole) m)

  -- the left origin
  left_goes : (l : Identifier) → left_of op ≡ Some l → IsIn p older l → Bx l x ≡ true
  left_goes l e m =
      let ll : lefts h l ≡ A ++ [] = le l m ∙ sym (ap (chain_above next_left older) e) ∙ sym (append-nil A) in
      (λ i. chain_before true Sx (ll i) (lx i)) ∙ common true Sx A [] (x ∷ [])

  left_last : (l : Identifier) → left_of op ≡ Some l → (e : Identifier) → Contains front e → (e ≡ l) ⊎ (Bx e l ≡ true)
  left_last l e z m =
      let s = end_split front l (sym at_end ∙ e) in
      last_of Bx s.0 l z (subst (IsOrderedBy Bx) s.1 (all_pairs_before (λ a b. Bx a b ≡ true) front back sorted)) (subst (λ l. Contains l z) s.1 m)

  left_in_front : (l : Identifier) → left_of op ≡ Some l → Contains front l
  left_in_front l e = let s = end_split front l (sym at_end ∙ e) in subst (λ c. Contains c l) (sym s.1) (contains_middle s.0 l [])

  front_goes : (e : Identifier) → Contains front e → Bx e x ≡ true
  front_goes e m =
      elim (cases_origin (left_of op)) [
        | inl n ↦ absurd (no_member front e (end_none front (sym at_end ∙ n)) m)
        | inr f ↦
            let g = left_goes f.0 f.1 (old_in f.0 (Contains-append_left front back f.0 (left_in_front f.0 f.1))) in
            elim (left_last f.0 f.1 e m) [ inl d ↦ ap (λ z. Bx z x) d ∙ g | inr k ↦ before_in-trans (order p older) h e f.0 x k g ]
      ]

  -- the right origin
  module _ (r : Identifier) (rest : List Identifier) (is_right : right_of op ≡ Some r) (is_back : back ≡ r ∷ rest) where
    r_back : Contains back r
    r_back = subst (λ l. Contains l r) (sym is_back) (contains_here r rest)

    mr : IsIn p older r
    mr = old_in r (Contains-append_right front back r r_back)

    nr : x ≢ r
    nr d = is_old r (IsIn-held p older r mr) (sym d)

    -- a node between the origins
    none_between : (u v : Identifier) (vs : List Identifier) → lefts h r ≡ A ++ u ∷ v ∷ vs → ⊥
    none_between u v vs q =
        let q' : lefts older r ≡ A ++ u ∷ v ∷ vs = sym (le r mr) ∙ q in
        let mu : IsIn p older u = All-contains (IsIn p older) (lefts older r) u (lefts-in p older r w.1 mr) (subst (λ l. Contains l u) (sym q') (contains_middle A u (v ∷ vs))) in
        let lu : lefts h u ≡ A ++ u ∷ [] = le u mu ∙ lefts-prefix older r u A (v ∷ vs) w.1 (IsIn-held p older r mr) q' in
        let ur : Bx u r ≡ true = (λ i. chain_before true Sx (lu i) (q i)) ∙ common true Sx A (u ∷ []) (u ∷ v ∷ vs) ∙ chain_before-same true Sx u [] (v ∷ vs) in
        elim (Contains-append_cases front back u (subst (λ l. Contains l u) whole (order-has p older u mu))) [
          | inl m ↦ elim (cases_origin (left_of op)) [
            | inl n ↦ no_member front u (end_none front (sym at_end ∙ n)) m
            | inr f ↦
                let ml : IsIn p older f.0 = old_in f.0 (Contains-append_left front back f.0 (left_in_front f.0 f.1)) in
                let ll : lefts h f.0 ≡ A ++ [] = le f.0 ml ∙ sym (ap (chain_above next_left older) f.1) ∙ sym (append-nil A) in
                let lu' : Bx f.0 u ≡ true = (λ i. chain_before true Sx (ll i) (lu i)) ∙ common true Sx A [] (u ∷ []) in
                elim (left_last f.0 f.1 u m) [ inl d ↦ loop f.0 u lu' (ap (λ z. Bx z f.0) d ∙ sym (ap (λ z. Bx f.0 z) d) ∙ lu') | inr k ↦ loop f.0 u lu' k ]
          ]
          | inr m ↦ elim (first_of Bx r u rest (subst (IsOrderedBy Bx) is_back (all_pairs_after (λ a b. Bx a b ≡ true) front back sorted)) (subst (λ l. Contains l u) is_back m)) [
            | inl d ↦ true≢false (sym ur ∙ ap (λ z. Bx z r) d ∙ before_in-irrefl (order p older) h r)
            | inr k ↦ loop u r ur k
          ]
        ]

    before_end : (l : Option Identifier) → left_of op ≡ l → chain_before true Sx A (lefts h r) ≡ true
    before_end None e =
        ap (λ a. chain_before true Sx a (lefts h r)) (ap (chain_above next_left older) e)
        ∙ nonempty Sx (lefts h r) (λ d. never_none next_left older r (IsIn-held p older r mr) (sym (le r mr) ∙ d))
    before_end (Some l) e =
        let m : Contains front l = left_in_front l e in
        ap (λ a. chain_before true Sx a (lefts h r)) (ap (chain_above next_left older) e ∙ sym (le l (old_in l (Contains-append_left front back l m))))
        ∙ front_before Bx front back l r sorted m r_back

    not_end : (l : Option Identifier) → left_of op ≡ l → lefts h r ≡ A → ⊥
    not_end None e q = never_none next_left older r (IsIn-held p older r mr) (sym (le r mr) ∙ q ∙ ap (chain_above next_left older) e)
    not_end (Some l) e q =
        let m : Contains front l = left_in_front l e in
        let ml : IsIn p older l = old_in l (Contains-append_left front back l m) in
        let d : r ≡ l = same_chain next_left older r l (IsIn-held p older r mr) (IsIn-held p older l ml) (sym (le r mr) ∙ q ∙ ap (chain_above next_left older) e) in
        true≢false (sym (front_before Bx front back l r sorted m r_back) ∙ ap (Bx l) d ∙ before_in-irrefl (order p older) h l)

    left_held' : IsThere older (RightOf (left_of op))
    left_held' = there older (left_of op) (λ q e. left_named older op q (when_ready older op w.0) e)

    right_goes : Bx x r ≡ true
    right_goes =
        elim (cases_Bool (has_left older r (left_of op))) [
          | inl k ↦
              let rr : rights h r ≡ rights older r ++ [] = re r mr ∙ sym (append-nil (rights older r)) in
              let rx : rights h x ≡ rights older r ++ x ∷ [] = chain-own next_right op older x own
              ∙ ap (λ o. chain_above next_right older (right_beside older (left_of op) o) ++ x ∷ []) is_right
              ∙ ap (λ b. chain_above next_right older (if b then Some r else None) ++ x ∷ []) k in
              let lr : lefts h r ≡ A ++ r ∷ [] =
              le r mr ∙ lefts-above older r w.1 (IsIn-held p older r mr) ∙ ap (λ l. chain_above next_left older l ++ r ∷ []) (has_left-at older r (left_of op) k) in
              (λ i. chain_before true Sx (lx i) (lr i)) ∙ common true Sx A (x ∷ []) (r ∷ []) ∙ chain_before-fork true Sx x r [] [] nr
              ∙ (λ i. chain_before false Fx (rx i) (rr i)) ∙ common false Fx (rights older r) (x ∷ []) []
          | inr k ↦ elim (parts true Sx A (lefts h r)) [
            | inr z ↦ ap (λ l. chain_before true Sx l (lefts h r)) lx ∙ z (x ∷ []) ∙ before_end (left_of op) refl
            | inl z ↦ (elim z.0 as (λ m. lefts h r ≡ A ++ m → Bx x r ≡ true) [
              | [] ↦ (λ q. absurd (not_end (left_of op) refl (q ∙ append-nil A)))
              | u ∷ more ↦ (elim more as (λ more. lefts h r ≡ A ++ u ∷ more → Bx x r ≡ true) [
                | [] ↦ (λ q.
                    let q' : lefts older r ≡ A ++ u ∷ [] = sym (le r mr) ∙ q in
                    let e = chain-ends next_left older r (IsIn-held p older r mr) in
                    let d : r ≡ u = (same_from_push e.0 A r u (sym e.1 ∙ q')).1 in
                    let l : left_at older r ≡ left_of op = left_from older r (left_of op) w.1 (IsIn-held p older r mr) left_held' (q' ∙ ap (λ z. A ++ z ∷ []) (sym d)) in
                    absurd (true≢false (sym (has_left_from (holder older r) (left_of op) (IsIn-held p older r mr) l) ∙ k)))
                | v ∷ vs ↦ (λ q. absurd (none_between u v vs q))
              ])
            ]) z.1
          ]
        ]

    back_stays : (e : Identifier) → Contains back e → Bx e x ≡ false
    back_stays e m =
        false_from_ne_true (Bx e x) (λ j. loop x e
        (elim (first_of Bx r e rest (subst (IsOrderedBy Bx) is_back (all_pairs_after (λ a b. Bx a b ≡ true) front back sorted)) (subst (λ l. Contains l e) is_back m)) [
          | inl d ↦ ap (Bx x) d ∙ right_goes
          | inr k ↦ before_in-trans (order p older) h x r e right_goes k
        ]) j)

  back_by : (r : Option Identifier) → right_of op ≡ r → (e : Identifier) → Contains back e → Bx e x ≡ false
  back_by None f e m = absurd (no_member back e (head_none back (sym at_head ∙ f)) m)
  back_by (Some r) f e m = let s = head_split back r (sym at_head ∙ f) in back_stays r s.0 f s.1 e m

  pub lands : order p h ≡ front ++ x ∷ back
  lands =
      order-some p op older x at
      ∙ ap (λ o. placed (λ e. Bx e x) o x) whole
      ∙ placed_between (λ e. Bx e x) front back x (all_from_contains (λ e. Bx e x ≡ true) front front_goes)
      (all_from_contains (λ e. Bx e x ≡ false) back (back_by (right_of op) refl))

-- an element whose right origin stands directly after its left origin lands between them
pub lands_behind : LandsBehind
lands_behind p op older x front back w at e l r = lands p op older x front back w at e l r

-- a list, cut after an origin
record CutAfter (o : List Identifier) (l : Option Identifier) : Type 0 where
  front : List Identifier
  back : List Identifier
  whole : o ≡ front ++ back
  ends : last_before front ≡ l

-- after a member
pub cut_member : (o : List Identifier) (x : Identifier) (k : ℕ) → k < length o → slice_index_or o k x ≡ x → (f : List Identifier) × (b : List Identifier) × (o ≡ f ++ x ∷ b)
cut_member [] x k l e = absurd (omega arith)
cut_member (e ∷ es) x zero l d = ([], es, ap (λ z. z ∷ es) d)
cut_member (e ∷ es) x (suc k) l d = let r = cut_member es x k (omega (arith, l)) d in (e ∷ r.0, r.1, ap (λ z. e ∷ z) r.2)

-- after an origin
cut_after : (o : List Identifier) (l : Option Identifier) → IfSome l (λ x. Contains o x) → CutAfter o l
cut_after o None m = record { front = []; back = o; whole = refl; ends = refl }
cut_after o (Some x) m =
    let r = cut_member o x m.0 m.1 m.2 in
    record { front = r.0 ++ x ∷ []; back = r.1; whole = r.2 ∙ sym (append_assoc r.0 (x ∷ []) r.1); ends = end_push r.0 x }

-- the law by the element that follows
pub lands_behind_origin : LandsBehindOrigin
lands_behind_origin p op older x w at l r =
    let c = cut_after (order p older) (left_of op) l in
    let e : left_of op ≡ last_before c.front = sym c.ends in
    let head : right_of op ≡ first_after c.back =
    r ∙ (λ i. following (c.whole i) (e i)) ∙ following_end c.front c.back (subst Distinct c.whole (order_total p older w.1).once) in
    record {
      front = c.front;
      back = c.back;
      was = c.whole;
      origin = c.ends;
      is = lands_behind p op older x c.front c.back w at c.whole e head ∙ sym (append_assoc c.front (x ∷ []) c.back);
    }
