-- The gap that the sided tree gives is the place of the new element: what stands before it there stands before it by
-- the chains, and what stands after it stands after it.
use Rattle.origin_model.proofs.Words.{All-contains, Bool, Contains, Contains-append_cases, Contains-append_left, Identifier, IsIn, IsOrderedBy, Lawful, List, None, Op, Option}
use Rattle.origin_model.proofs.Words.{Place, Some, [], all_pairs_before, ap, append-nil, append_assoc, append_cancel_left, before_in, cases_Bool, cases_id, chain_before}
use Rattle.origin_model.proofs.Words.{contains_here, contains_middle, element_of, false, false≢true, fork_before, has_left, index_of_origin, inl, inr, is_own, left_at, left_of}
use Rattle.origin_model.proofs.Words.{lefts, next_left, next_right, order, placed, precedes, refl, right_of, rights, same_from_push, sibling, subst, sym, true, true≢false, ◌++◌}
use Rattle.origin_model.proofs.Words.{◌∙◌, ◌∷◌, ◌≡◌, ◌≢◌, ◌⊎◌}
use Rattle.fugue_ids.specs.declared.key.Gap.{Gap}
use Rattle.fugue_ids.specs.declared.key.Gap.TheVariants.{After, Alone, Before}
use Rattle.origin_model.specs.sides.Slot.{BeforeBlock, BeforeFirst, AfterEarlierSibling, FirstBelow, HasEarlierSibling, IsBeside, IsChild, IsGap}
use Rattle.origin_model.specs.sides.Slot.{IsParted, IsPlace, IsTable, NoEarlierSibling, at_gap}
use Rattle.origin_model.specs.sides.Slot.{slot_by, slot_of}
use Rattle.origin_model.specs.declared.sides.Slot.{Slot}
use Rattle.origin_model.specs.declared.sides.Slot.TheVariants.{LeftOf, RightOf}
use Rattle.origin_model.proofs.order.{IsIn-held, before_at, before_in-irrefl, before_in-older, before_in-total, before_in-trans, chain-ends, chain-held, chain-other, chain-own}
use Rattle.origin_model.proofs.order.{chain_above, chain_before-fork, chain_before-same, common, empty_from, first_of, fork-irrefl, fork-trans, has_left-at, heads, last_of}
use Rattle.origin_model.proofs.order.{left_in, longer, never_none, no_member, order-has, order-in, order-ordered, order-some, parts, parts_late, right-older, right_in, same_chain}
use Rattle.origin_model.proofs.order.{stay_ordered, turns, turns_off}
use Rattle.origin_model.proofs.sides.GapLemmas.{placed-after, placed-before}
use Rattle.origin_model.proofs.operations.LookupLemmas.{IsHeld, held_not_own, holds-older, holds-own, left_named, right_named, when_ready}
use Rattle.origin_model.proofs.operations.ElementLemmas.{element_own}
use Rattle.origin_model.proofs.sides.SiblingLemmas.{elders_first, youngers_last}
use Rattle.origin_model.proofs.sides.SlotLemmas.{IsThere, Under, child-held, child-in, child-left, child-lefts, child-rights, child_under, over, rooted, slot-no, slot-yes}
use Rattle.origin_model.proofs.sides.SlotLemmas.{slot_by-left, slot_by-over, slot_left, there, under_left}
use Rattle.origin_model.proofs.sides.SpineLemmas.{first_child, spine_first, spine_last}

-- the parent of a left child is its right origin, and has the same left origin
pub left_parent : (h : List Op) (l r : Option Identifier) (q : Identifier) → slot_by h l r ≡ LeftOf q → (r ≡ Some q) × (has_left h q l ≡ true)
left_parent h l None q e = cc
left_parent h l (Some a) q e =
    elim (cases_Bool (has_left h a l)) [
      | inl k ↦ let d : a ≡ q = cc (sym (slot-yes h l a k) ∙ e) in (ap Some d, ap (λ z. has_left h z l) (sym d) ∙ k)
      | inr k ↦ let d : RightOf l ≡ LeftOf q = sym (slot-no h l a k) ∙ e in cc
    ]

-- the block of a node begins at the node, or below a left child of it
block_starts : (p : Place) (h : List Op) (children : Slot → List Identifier) (w : Lawful h) (t : IsTable p h children) (path : List Identifier) (q y : Identifier)
    (my : List Identifier)
    → IsIn p h q → FirstBelow children path q y → rights h y ≡ rights h q ++ my → (my ≡ []) ⊎ ((v : Identifier) × (m : List Identifier) × (my ≡ v ∷ m) × IsChild p h (LeftOf q) v)
block_starts p h children w t [] q y my mq k e =
    inl (append_cancel_left (rights h q) my [] (sym e ∙ ap (rights h) (sym k.1) ∙ sym (append-nil (rights h q))))
block_starts p h children w t (v ∷ vs) q y my mq k e =
    let kv : IsChild p h (LeftOf q) v = first_child p h w children t (LeftOf q) v k.0.0 k.0.1 in
    let f = spine_first p h w children t vs v y (child-in p h (LeftOf q) v kv) k.1 in
    inr (
      v,
      f.under.0,
      append_cancel_left (rights h q) my (v ∷ f.under.0)
          (sym e ∙ f.under.1 ∙ ap (λ a. a ++ f.under.0) (child-rights p h (LeftOf q) v w kv) ∙ append_assoc (rights h q) (v ∷ []) f.under.0),
      kv,
    )

-- a new element x of the place, the tables of the older history, and the siblings of x, parted where x goes in
module _ (p : Place) (op : Op) (older : List Op) (x : Identifier) (w : Lawful (op ∷ older)) (at : element_of p op ≡ Some x) (children : Slot → List Identifier)
    (t : IsTable p older children)
    (earlier later : List Identifier) (c : IsParted (order p older) older op x (children (slot_of older op)) earlier later) where
  -- the longer history
  abbrev h : List Op
  h = op ∷ older

  -- the comparison at a fork
  abbrev F : Identifier → Identifier → Bool
  F = fork_before (order p older) h

  -- the comparison of siblings
  abbrev S : Identifier → Identifier → Bool
  S = sibling (order p older) h

  -- the comparison of elements
  abbrev B : Identifier → Identifier → Bool
  B = before_in (order p older) h

  -- where x hangs
  abbrev slot : Slot
  slot = slot_of older op

  -- the chain of left origins above x
  abbrev A : List Identifier
  A = chain_above next_left older (left_of op)

  -- the chain of right origins above x
  abbrev O : List Identifier
  O = over older slot

  -- x is the operation's own identifier
  own : is_own x op ≡ true
  own = element_own p op x at

  -- the chain of left origins of x
  lx : lefts h x ≡ A ++ x ∷ []
  lx = chain-own next_left op older x own

  -- the chain of right origins of x
  rx : rights h x ≡ O ++ x ∷ []
  rx = chain-own next_right op older x own ∙ slot_by-over older x (left_of op) (right_of op)

  -- a held element is not the newest
  not_own : (e : Identifier) → IsHeld older e → is_own e op ≡ false
  not_own e k = held_not_own op older e (when_ready older op w.0) k

  -- a held element is not x
  is_old : (e : Identifier) → IsHeld older e → e ≢ x
  is_old e k d = true≢false (sym own ∙ ap (λ z. is_own z op) (sym d) ∙ not_own e k)

  -- older elements keep their chain of left origins
  le : (e : Identifier) → IsIn p older e → lefts h e ≡ lefts older e
  le e m = chain-other next_left op older e (not_own e (IsIn-held p older e m))

  -- older elements keep their chain of right origins
  re : (e : Identifier) → IsIn p older e → rights h e ≡ rights older e
  re e m = chain-other next_right op older e (not_own e (IsIn-held p older e m))

  -- older elements compare as before
  be : (e f : Identifier) → IsIn p older e → IsIn p older f → B e f ≡ before_at p older e f
  be e f m n = before_in-older p op older w e f (IsIn-held p older e m) (IsIn-held p older f n)

  -- the slot of x tells its left origin
  slot_left-is : slot_left older slot ≡ left_of op
  slot_left-is = slot_by-left older (left_of op) (right_of op)

  -- the slot of an element is held where its origins are
  there_by : (r : Option Identifier) → ((q : Identifier) → r ≡ Some q → IsHeld older q) → IsThere older (RightOf (left_of op)) → IsThere older (slot_by older (left_of op) r)
  there_by None f z = z
  there_by (Some q) f z =
      elim (cases_Bool (has_left older q (left_of op))) [
        | inl k ↦ subst (IsThere older) (sym (slot-yes older (left_of op) q k)) (f q refl)
        | inr k ↦ subst (IsThere older) (sym (slot-no older (left_of op) q k)) z
      ]

  -- a left origin is held
  left_there : IsThere older (RightOf (left_of op))
  left_there = there older (left_of op) (λ q e. left_named older op q (when_ready older op w.0) e)

  -- the slot of x is held
  slot_there : IsThere older slot
  slot_there = there_by (right_of op) (λ q e. right_named older op q (when_ready older op w.0) e) left_there

  -- the chain of left origins of a sibling of x
  child_chain : (v : Identifier) → IsChild p older slot v → lefts older v ≡ A ++ v ∷ []
  child_chain v k = child-lefts p older slot v w.1 k ∙ ap (λ l. chain_above next_left older l ++ v ∷ []) slot_left-is

  -- the chain of right origins of a sibling of x
  child_rights : (v : Identifier) → IsChild p older slot v → rights h v ≡ O ++ v ∷ []
  child_rights v k = re v (child-in p older slot v k) ∙ child-rights p older slot v w.1 k

  -- the first after the left origin of x in a chain has that left origin too
  under_gap : (e u : Identifier) (more : List Identifier) → IsIn p older e → lefts h e ≡ A ++ u ∷ more → Under p older (left_of op) u
  under_gap e u more m q = under_left p older (left_of op) e u more w.1 left_there m (sym (le e m) ∙ q)

  -- no two stand before each other
  loop : (a b : Identifier) → F a b ≡ true → F b a ≡ true → ⊥
  loop a b k j = true≢false (sym (fork-trans (order p older) h a b a k j) ∙ fork-irrefl (order p older) h a)

  -- older elements compare at a fork as before
  fork-old : (a b : Identifier) → IsHeld older a → IsHeld older b → F a b ≡ fork_before (order p older) older a b
  fork-old a b k j = λ i. precedes (index_of_origin (order p older) (right-older p op older w a k i)) (index_of_origin (order p older) (right-older p op older w b j i)) a b

  -- a sibling of x is an earlier or a later one
  in_slot : (z : Identifier) → IsChild p older slot z → Contains earlier z ⊎ Contains later z
  in_slot z k = Contains-append_cases earlier later z (subst (λ l. Contains l z) c.whole (t.full slot z k))

  -- the siblings of x are held
  slot_held : (v : Identifier) → Contains (children slot) v → IsHeld older v
  slot_held v m = child-held p older slot v (t.sound slot v m)

  -- an earlier sibling goes before x
  earlier_first : (z : Identifier) → Contains earlier z → F z x ≡ true
  earlier_first z m = All-contains (λ v. F v x ≡ true) earlier z (elders_first p op older x w at (children slot) earlier later slot_held c) m

  -- x goes before a later sibling
  younger_first : (z : Identifier) → Contains later z → F x z ≡ true
  younger_first z m = All-contains (λ v. F x v ≡ true) later z (youngers_last p op older x w at (children slot) earlier later slot_held c) m

  -- where x has no earlier sibling, it goes before all siblings
  no_earlier_sibling : earlier ≡ [] → (z : Identifier) → IsChild p older slot z → F x z ≡ true
  no_earlier_sibling e z k = elim (in_slot z k) [ inl m ↦ absurd (no_member earlier z e m) | inr m ↦ younger_first z m ]

  -- x stands in no chain of left origins of an older element
  not_under : (e : Identifier) → IsIn p older e → Contains (lefts h e) x → ⊥
  not_under e m n = is_old x (All-contains (IsHeld older) (lefts older e) x (chain-held next_left older e) (subst (λ l. Contains l x) (le e m) n)) refl

  -- y is the last of the elements that stand before x
  record IsAfter (y : Identifier) : Type 0 where
    pub member : IsIn p older y
    pub goes : B y x ≡ true
    pub last : (e : Identifier) → IsIn p older e → B e x ≡ true → (e ≡ y) ⊎ (B e y ≡ true)

  -- y is the first of the elements that stand after x
  record IsInFront (y : Identifier) : Type 0 where
    pub member : IsIn p older y
    pub goes : B x y ≡ true
    pub first : (e : Identifier) → IsIn p older e → B x e ≡ true → (e ≡ y) ⊎ (B y e ≡ true)

  -- the last earlier sibling stands after all siblings that go before x
  elders_last : (front : List Identifier) (s z : Identifier) → earlier ≡ front ++ s ∷ [] → IsChild p older slot s → IsChild p older slot z → F z x ≡ true → (z ≡ s) ⊎ (F z s ≡ true)
  elders_last front s z e ks kz k =
      elim (in_slot z kz) [
        | inr m ↦ absurd (loop z x k (younger_first z m))
        | inl m ↦
            let R : Identifier → Identifier → Bool = fork_before (order p older) older in
            let o : IsOrderedBy R earlier = all_pairs_before (λ a b. R a b ≡ true) earlier later (subst (IsOrderedBy R) c.whole (t.sorted slot)) in
            elim (last_of R front s z (subst (IsOrderedBy R) e o) (subst (λ l. Contains l z) e m)) [
              | inl d ↦ inl d
              | inr j ↦ inr (fork-old z s (child-held p older slot z kz) (child-held p older slot s ks) ∙ j)
            ]
      ]

  -- what goes before x among the elements of its left origin goes before the last earlier sibling, or is it
  sibs : (front : List Identifier) (s u : Identifier) → earlier ≡ front ++ s ∷ [] → IsChild p older slot s → IsIn p older u → left_at older u ≡ left_of op → u ≢ s → S u x ≡ true
      → S u s ≡ true
  sibs front s u g ks m lu n k =
      let rs : rights h s ≡ O ++ s ∷ [] = child_rights s ks in
      elim (turns_off false F (rights h u) O x (ap (chain_before false F (rights h u)) (sym rx) ∙ k)) [
        | inl z ↦ ap (chain_before false F (rights h u)) rs ∙ z s []
        | inr z ↦
            let kz = child_under p older slot u z.0 z.1 w.1 slot_there m (lu ∙ sym slot_left-is) (sym (re u m) ∙ z.2) in
            let from : chain_before false F (z.0 ∷ z.1) (s ∷ []) ≡ true → S u s ≡ true = λ e.
            (λ i. chain_before false F (z.2 i) (rs i)) ∙ common false F O (z.0 ∷ z.1) (s ∷ []) ∙ e in
            elim z.3 [
              | inl d ↦ absurd (is_old z.0 (child-held p older slot z.0 kz) d)
              | inr f ↦ elim (cases_id z.0 s) [
                | inl d ↦ from (ap (λ a. chain_before false F (a ∷ z.1) (s ∷ [])) d ∙ chain_before-same false F s z.1 [] ∙ longer F z.1 (λ e.
                    let r = chain-ends next_right older u (IsIn-held p older u m) in
                    let q : r.0 ++ u ∷ [] ≡ O ++ z.0 ∷ [] = sym r.1 ∙ sym (re u m) ∙ z.2 ∙ ap (λ a. O ++ z.0 ∷ a) e in
                    n ((same_from_push r.0 O u z.0 q).1 ∙ d)))
                | inr d ↦ from (chain_before-fork false F z.0 s z.1 [] d ∙ elim (elders_last front s z.0 g ks kz f.1) [ inl e ↦ absurd (d e) | inr e ↦ e ])
              ]
            ]
      ]

  -- with an earlier sibling: the last node below the last of them is the last before x
  earlier_case : (y : Identifier) → AfterEarlierSibling children earlier y → IsAfter y
  earlier_case y b =
      let s : Identifier = b.earlier_sibling in
      let inel : Contains earlier s = subst (λ l. Contains l s) (sym b.is_last) (contains_middle b.front s []) in
      let ks : IsChild p older slot s = t.sound slot s (subst (λ l. Contains l s) (sym c.whole) (Contains-append_left earlier later s inel)) in
      let ms : IsIn p older s = child-in p older slot s ks in
      let l = spine_last p older w.1 children t b.path s y ms b.below in
      let m : List Identifier = l.under.0 in
      let ly : lefts h y ≡ A ++ s ∷ m = le y l.member ∙ l.under.1 ∙ ap (λ a. a ++ m) (child_chain s ks) ∙ append_assoc A (s ∷ []) m in
      let rs : rights h s ≡ O ++ s ∷ [] = child_rights s ks in
      let ns : s ≢ x = is_old s (child-held p older slot s ks) in
      let sx : S s x ≡ true = (λ i. chain_before false F (rs i) (rx i)) ∙ common false F O (s ∷ []) (x ∷ []) ∙ chain_before-fork false F s x [] [] ns ∙ earlier_first s inel in
      record {
        member = l.member;
        goes = (λ i. chain_before true S (ly i) (lx i)) ∙ common true S A (s ∷ m) (x ∷ []) ∙ chain_before-fork true S s x m [] ns ∙ sx;
        last = λ e n k. elim (turns S (lefts h e) A x (ap (chain_before true S (lefts h e)) (sym lx) ∙ k) (not_under e n)) [
          | inl z ↦ inr (ap (chain_before true S (lefts h e)) ly ∙ z s m)
          | inr z ↦
              let d = under_gap e z.0 z.1 n z.2 in
              elim (cases_id z.0 s) [
                | inl q ↦ elim (l.last e n (z.1, sym (le e n) ∙ z.2 ∙ ap (λ a. A ++ a ∷ z.1) q ∙ sym (append_assoc A (s ∷ []) z.1) ∙ ap (λ a. a ++ z.1) (sym (child_chain s ks)))) [
                  | inl i ↦ inl i
                  | inr i ↦ inr (be e y n l.member ∙ i)
                ]
                | inr q ↦ inr ((λ i. chain_before true S (z.2 i) (ly i)) ∙ common true S A (z.0 ∷ z.1) (s ∷ m) ∙ chain_before-fork true S z.0 s z.1 m q
                    ∙ sibs b.front s z.0 b.is_last ks d.member d.left_u q z.3)
              ]
        ];
      }

  -- a left child without an earlier sibling: the first node below its parent is the first after x
  left_case : (q y : Identifier) → slot ≡ LeftOf q → earlier ≡ [] → BeforeBlock children q y → IsInFront y
  left_case q y es none b =
      let par = left_parent older (left_of op) (right_of op) q es in
      let mq : IsIn p older q = right_in p op older x q (when_ready older op w.0) at par.0 in
      let lq : left_at older q ≡ left_of op = has_left-at older q (left_of op) par.1 in
      let f = spine_first p older w.1 children t b.path q y mq b.below in
      let my : List Identifier = f.under.0 in
      let oq : O ≡ rights older q = ap (over older) es in
      let ly : lefts h y ≡ A ++ y ∷ [] = le y f.member ∙ f.same_left ∙ ap (λ l. chain_above next_left older l ++ y ∷ []) lq in
      let ry : rights h y ≡ O ++ my = re y f.member ∙ f.under.1 ∙ ap (λ a. a ++ my) (sym oq) in
      let ny : x ≢ y = λ d. is_old y (IsIn-held p older y f.member) (sym d) in
      let start : chain_before false F (x ∷ []) my ≡ true =
      elim (block_starts p older children w.1 t b.path q y my mq b.below f.under.1) [
        | inl e ↦ ap (chain_before false F (x ∷ [])) e
        | inr e ↦
            let kv : IsChild p older slot e.0 = subst (λ s. IsChild p older s e.0) (sym es) e.3 in
            ap (chain_before false F (x ∷ [])) e.2 ∙ chain_before-fork false F x e.0 [] e.1 (λ d. is_old e.0 (child-held p older slot e.0 kv) (sym d))
            ∙ no_earlier_sibling none e.0 kv
      ] in
      let sxy : S x y ≡ true = (λ i. chain_before false F (rx i) (ry i)) ∙ common false F O (x ∷ []) my ∙ start in
      record {
        member = f.member;
        goes = (λ i. chain_before true S (lx i) (ly i)) ∙ common true S A (x ∷ []) (y ∷ []) ∙ chain_before-fork true S x y [] [] ny ∙ sxy;
        first = λ e n k.
            let inside : (u : Identifier) (more ms : List Identifier) → lefts h e ≡ A ++ u ∷ more → rights older u ≡ rights older q ++ ms
            → (e ≡ y) ⊎ (B y e ≡ true) = λ u more ms z j.
            elim (f.first e u more ms n (sym (le e n) ∙ z ∙ ap (λ l. chain_above next_left older l ++ u ∷ more) (sym lq)) j)
            [ inl d ↦ inl d | inr d ↦ inr (be y e f.member n ∙ d) ] in
            elim (parts true S A (lefts h e)) [
              | inr z ↦ inr (ap (λ l. chain_before true S l (lefts h e)) ly ∙ z (y ∷ []) ∙ sym (z (x ∷ [])) ∙ ap (λ l. chain_before true S l (lefts h e)) (sym lx) ∙ k)
              | inl z ↦ (elim z.0 as (λ m. lefts h e ≡ A ++ m → (e ≡ y) ⊎ (B y e ≡ true)) [
                | [] ↦ (λ j. absurd (false≢true (sym ((λ i. chain_before true S (lx i) (j i)) ∙ common true S A (x ∷ []) []) ∙ k)))
                | u ∷ more ↦ (λ j.
                    let d = under_gap e u more n j in
                    let nu : x ≢ u = λ c. is_old u (IsIn-held p older u d.member) (sym c) in
                    let sxu : S x u ≡ true = sym ((λ i. chain_before true S (lx i) (j i)) ∙ common true S A (x ∷ []) (u ∷ more) ∙ chain_before-fork true S x u [] more nu) ∙ k in
                    elim (parts false F O (rights h u)) [
                      | inl g ↦ inside u more g.0 j (sym (re u d.member) ∙ g.1 ∙ ap (λ a. a ++ g.0) oq)
                      | inr g ↦ elim (cases_id y u) [
                        | inl c ↦ inside u more my j (ap (rights older) (sym c) ∙ f.under.1)
                        | inr c ↦ inr ((λ i. chain_before true S (ly i) (j i)) ∙ common true S A (y ∷ []) (u ∷ more) ∙ chain_before-fork true S y u [] more c
                            ∙ ap (λ a. chain_before false F a (rights h u)) ry ∙ g my ∙ sym (g (x ∷ [])) ∙ ap (λ a. chain_before false F a (rights h u)) (sym rx) ∙ sxu)
                      ]
                    ])
              ]) z.1
            ];
      }

  -- a chain of left origins has a first member
  chain_head : (e : Identifier) → IsIn p older e → (u : Identifier) × (more : List Identifier) × (lefts older e ≡ u ∷ more)
  chain_head e m =
      let from : (l : List Identifier) → lefts older e ≡ l → (u : Identifier) × (more : List Identifier) × (lefts older e ≡ u ∷ more) = λ l.
      elim l as (λ l. lefts older e ≡ l → (u : Identifier) × (more : List Identifier) × (lefts older e ≡ u ∷ more)) [
        | [] ↦ (λ k. absurd (never_none next_left older e (IsIn-held p older e m) k))
        | u ∷ more ↦ (λ k. (u, more, k))
      ] in
      from (lefts older e) refl

  -- a right child hangs under its left origin
  right_left : (l : Option Identifier) → slot ≡ RightOf l → left_of op ≡ l
  right_left l e = sym slot_left-is ∙ ap (slot_left older) e

  -- the first right child of the start: the first node below its next sibling is the first after x
  first_case : (y : Identifier) → slot ≡ RightOf None → earlier ≡ [] → BeforeFirst children later y → IsInFront y
  first_case y es none b =
      let l0 : left_of op ≡ None = right_left None es in
      let a0 : A ≡ [] = ap (chain_above next_left older) l0 in
      let o0 : O ≡ [] = ap (over older) es in
      let v : Identifier = b.later_sibling in
      let whole : children slot ≡ v ∷ b.rest = c.whole ∙ ap (λ a. a ++ later) none ∙ b.is_first in
      let kv : IsChild p older slot v = t.sound slot v (subst (λ l. Contains l v) (sym whole) (contains_here v b.rest)) in
      let f = spine_first p older w.1 children t b.block.path v y (child-in p older slot v kv) b.block.below in
      let lv : left_at older v ≡ None = child-left p older slot v kv ∙ slot_left-is ∙ l0 in
      let rv : rights older v ≡ v ∷ [] = child-rights p older slot v w.1 kv ∙ ap (λ a. a ++ v ∷ []) o0 in
      let ly : lefts h y ≡ y ∷ [] = le y f.member ∙ f.same_left ∙ ap (λ l. chain_above next_left older l ++ y ∷ []) lv in
      let ry : rights h y ≡ v ∷ f.under.0 = re y f.member ∙ f.under.1 ∙ ap (λ a. a ++ f.under.0) rv in
      let lx0 : lefts h x ≡ x ∷ [] = lx ∙ ap (λ a. a ++ x ∷ []) a0 in
      let rx0 : rights h x ≡ x ∷ [] = rx ∙ ap (λ a. a ++ x ∷ []) o0 in
      let sxy : S x y ≡ true =
      (λ i. chain_before false F (rx0 i) (ry i)) ∙ chain_before-fork false F x v [] f.under.0 (λ d. is_old v (child-held p older slot v kv) (sym d))
      ∙ no_earlier_sibling none v kv in
      record {
        member = f.member;
        goes = (λ i. chain_before true S (lx0 i) (ly i)) ∙ chain_before-fork true S x y [] [] (λ d. is_old y (IsIn-held p older y f.member) (sym d)) ∙ sxy;
        first = λ e n k.
            let z = chain_head e n in
            let d = under_left p older None e z.0 z.1 w.1 tt n z.2 in
            let r = rooted p older None z.0 w.1 tt d.member d.left_u in
            let kr : IsChild p older slot r.root = subst (λ s. IsChild p older s r.root) (sym es) r.is_child in
            elim (cases_id r.root v) [
              | inl q ↦ elim (f.first e z.0 z.1 r.below n (z.2 ∙ ap (λ l. chain_above next_left older l ++ z.0 ∷ z.1) (sym lv))
                  (r.path ∙ ap (λ a. a ∷ r.below) q ∙ ap (λ a. a ++ r.below) (sym rv))) [
                    | inl i ↦ inl i
                    | inr i ↦ inr (be y e f.member n ∙ i)
                  ]
              | inr q ↦
                  let ru : rights h z.0 ≡ r.root ∷ r.below = re z.0 d.member ∙ r.path in
                  let fv : F v r.root ≡ true = fork-old v r.root (child-held p older slot v kv) (child-held p older slot r.root kr)
                  ∙ elim (first_of (fork_before (order p older) older) v r.root b.rest (subst (IsOrderedBy (fork_before (order p older) older)) whole (t.sorted slot))
                  (subst (λ l. Contains l r.root) whole (t.full slot r.root kr))) [
                    | inl i ↦ absurd (q i)
                    | inr i ↦ i
                  ] in
                  let nyu : y ≢ z.0 = λ i. q (sym (heads v r.root f.under.0 r.below (sym ry ∙ ap (rights h) i ∙ ru))) in
                  inr ((λ i. chain_before true S (ly i) ((le e n ∙ z.2) i)) ∙ chain_before-fork true S y z.0 [] z.1 nyu
                  ∙ (λ i. chain_before false F (ry i) (ru i)) ∙ chain_before-fork false F v r.root f.under.0 r.below (λ i. q (sym i)) ∙ fv)
            ];
      }

  -- a right child without an earlier sibling: its parent is the last before x
  parent_case : (l : Identifier) → slot ≡ RightOf (Some l) → earlier ≡ [] → IsAfter l
  parent_case l es none =
      let l0 : left_of op ≡ Some l = right_left (Some l) es in
      let a0 : A ≡ lefts older l = ap (chain_above next_left older) l0 in
      let o0 : O ≡ [] = ap (over older) es in
      let ml : IsIn p older l = left_in p op older x l (when_ready older op w.0) at l0 in
      let ll : lefts h l ≡ A = le l ml ∙ sym a0 in
      let rx0 : rights h x ≡ x ∷ [] = rx ∙ ap (λ a. a ++ x ∷ []) o0 in
      record {
        member = ml;
        goes = (λ i. chain_before true S ((ll ∙ sym (append-nil A)) i) (lx i)) ∙ common true S A [] (x ∷ []);
        last = λ e n k. elim (parts_late true S A (lefts h e)) [
          | inr z ↦ inr (ap (chain_before true S (lefts h e)) ll ∙ sym (z (x ∷ [])) ∙ ap (chain_before true S (lefts h e)) (sym lx) ∙ k)
          | inl z ↦ (elim z.0 as (λ m. lefts h e ≡ A ++ m → (e ≡ l) ⊎ (B e l ≡ true)) [
            | [] ↦ (λ j. inl (same_chain next_left older e l (IsIn-held p older e n) (IsIn-held p older l ml) (sym (le e n) ∙ j ∙ append-nil A ∙ a0)))
            | u ∷ more ↦ (λ j.
                let d = under_gap e u more n j in
                let nu : u ≢ x = is_old u (IsIn-held p older u d.member) in
                let r = rooted p older (left_of op) u w.1 left_there d.member d.left_u in
                let kr : IsChild p older slot r.root = subst (λ s. IsChild p older s r.root) (ap RightOf l0 ∙ sym es) r.is_child in
                let sux : S u x ≡ true = sym ((λ i. chain_before true S (j i) (lx i)) ∙ common true S A (u ∷ more) (x ∷ []) ∙ chain_before-fork true S u x more [] nu) ∙ k in
                let frx : F r.root x ≡ true =
                sym ((λ i. chain_before false F ((re u d.member ∙ r.path) i) (rx0 i))
                ∙ chain_before-fork false F r.root x r.below [] (is_old r.root (child-held p older slot r.root kr))) ∙ sux in
                absurd (loop r.root x frx (no_earlier_sibling none r.root kr)))
          ]) z.1
        ];
      }

  -- the only right child of the start: there is no other element
  alone_case : slot ≡ RightOf None → earlier ≡ [] → later ≡ [] → order p older ≡ []
  alone_case es none no_younger =
      empty_from (order p older) (λ e i.
      let n : IsIn p older e = All-contains (IsIn p older) (order p older) e (order-in p older w.1) i in
      let z = chain_head e n in
      let d = under_left p older None e z.0 z.1 w.1 tt n z.2 in
      let r = rooted p older None z.0 w.1 tt d.member d.left_u in
      let kr : IsChild p older slot r.root = subst (λ s. IsChild p older s r.root) (sym es) r.is_child in
      elim (in_slot r.root kr) [ inl m ↦ no_member earlier r.root none m | inr m ↦ no_member later r.root no_younger m ])

  -- the finished order is in order with x too
  ordered : IsOrderedBy B (order p older)
  ordered = stay_ordered p op older w (order-ordered p older w.1)

  -- the members of the finished order are elements
  old_in : (e : Identifier) → Contains (order p older) e → IsIn p older e
  old_in e m = All-contains (IsIn p older) (order p older) e (order-in p older w.1) m

  -- x stands in a gap beside an element y
  beside_element : (g : Gap) (y : Identifier) → (g ≡ Alone → ⊥) → IsIn p older y → IsBeside g (order p older) → order p h ≡ at_gap g x (order p older)
      → IsPlace g x (order p older) (order p h)
  beside_element g y n m s e = record {
    place = e;
    beside = s;
    alone = ((λ d. absurd (n d)), (λ d. absurd (no_member (order p older) y d (order-has p older y m))));
  }

  -- x stands directly after y
  place_after : (y : Identifier) → IsAfter y → IsPlace (After y) x (order p older) (order p h)
  place_after y g = beside_element (After y) y (λ e. cc) g.member (order-has p older y g.member) (
      order-some p op older x at
      ∙ placed-after B (before_in-irrefl (order p older) h) (before_in-trans (order p older) h) x y (order p older) ordered (order-has p older y g.member) g.goes
      (λ e m k. g.last e (old_in e m) k))

  -- x stands directly before y
  place_in_front : (y : Identifier) → IsInFront y → IsPlace (Before y) x (order p older) (order p h)
  place_in_front y g = beside_element (Before y) y (λ e. cc) g.member (order-has p older y g.member) (
      order-some p op older x at
      ∙ placed-before B (before_in-irrefl (order p older) h) (before_in-trans (order p older) h) x y (order p older) ordered (order-has p older y g.member) g.goes
      (λ e m k.
      let j = IsIn-held p older e (old_in e m) in
      before_in-total (order p older) h e x (holds-older op older e j) (holds-own op older x own) (is_old e j) k)
      (λ e m k. g.first e (old_in e m) k))

  -- x stands alone
  place_alone : order p older ≡ [] → IsPlace Alone x (order p older) (order p h)
  place_alone e = record {
    place = order-some p op older x at ∙ ap (λ o. placed (λ e. before_in (order p older) h e x) o x) e ∙ ap (λ o. x ∷ o) (sym e);
    beside = tt;
    alone = ((λ d. e), (λ d. refl));
  }

  -- the gap without an earlier sibling
  no_earlier_gap : (s : Slot) (g : Gap) → slot ≡ s → earlier ≡ [] → NoEarlierSibling children s later g → IsPlace g x (order p older) (order p h)
  no_earlier_gap (RightOf None) Alone e n k = place_alone (alone_case e n k)
  no_earlier_gap (RightOf None) (Before y) e n k = place_in_front y (first_case y e n k)
  no_earlier_gap (RightOf (Some l)) (After y) e n k = subst (λ z. IsPlace (After z) x (order p older) (order p h)) k (place_after l (parent_case l e n))
  no_earlier_gap (LeftOf q) (Before y) e n k = place_in_front y (left_case q y e n k)
  no_earlier_gap _ _ e n k = absurd k

  -- the gap with an earlier sibling
  earlier_gap : (g : Gap) → HasEarlierSibling children earlier g → IsPlace g x (order p older) (order p h)
  earlier_gap (After y) k = place_after y (earlier_case y k)
  earlier_gap _ k = absurd k

  -- the gap, by whether there is an earlier sibling
  gap_by : (es : List Identifier) (g : Gap) → earlier ≡ es → IsGap children slot es later g → IsPlace g x (order p older) (order p h)
  gap_by [] g e k = no_earlier_gap slot g refl e k
  gap_by (z ∷ zs) g e k = earlier_gap g (subst (λ l. HasEarlierSibling children l g) (sym e) k)

-- the gap that the tree gives is the place of the order
pub gap_is_place :
    (p : Place) (op : Op) (older : List Op) (x : Identifier) (children : Slot → List Identifier) (earlier later : List Identifier) (g : Gap)
    → Lawful (op ∷ older) → element_of p op ≡ Some x → IsTable p older children
    → IsParted (order p older) older op x (children (slot_of older op)) earlier later
    → IsGap children (slot_of older op) earlier later g
    → IsPlace g x (order p older) (order p (op ∷ older))
gap_is_place p op older x children earlier later g w at t c k = gap_by p op older x w at children t earlier later c earlier g refl k
