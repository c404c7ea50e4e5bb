-- The gap that is found by keys is the one that the sided tree has, and so the place of the new element.
use Rattle.origin_model.proofs.Words.{Bool, Contains, Contains-append_left, Identifier, IsIn, IsOrderedBy, Lawful, List, None, Op, Place, Some, [], ap, cases_id, cases_origin}
use Rattle.origin_model.proofs.Words.{chain_before, contains_cases, contains_here, contains_middle, element_of, false, fork_before, index_of_origin, inl, inr, left_at, left_of}
use Rattle.origin_model.proofs.Words.{lefts, next_left, older_of, order, refl, right_at, right_of, rights, sibling, subst, sym, true, ◌++◌, ◌∙◌, ◌∷◌, ◌≡◌, ◌≢◌, ◌⊎◌}
use Rattle.fugue_ids.proofs.ListLemmas.{all_pairs_weaker}
use Rattle.fugue_ids.specs.Keys.{Keyed, first_id}
use Rattle.fugue_ids.specs.Listed.{last_before}
use Rattle.fugue_ids.specs.Passing.{Falls}
use Rattle.fugue_ids.specs.declared.key.Gap.{Gap}
use Rattle.origin_model.specs.declared.sides.Slot.{Slot}
use Rattle.origin_model.specs.declared.sides.Slot.TheVariants.{LeftOf, RightOf}
use Rattle.origin_model.specs.sides.KeyLaws.{AllFit, BlockEndByKeys, BlockStartByKeys, EndsBlock, GapByKeys, StandsAt}
use Rattle.origin_model.specs.sides.KeyedGap.{before_all, block_end, gap_after, gap_by_keys, no_earlier_gap, siblings, slot_key}
use Rattle.origin_model.specs.sides.Keys.{with_keys}
use Rattle.origin_model.specs.sides.Slot.{BeforeBlock, HasEarlierSibling, IsChild, IsGap, NoEarlierSibling, goes_before, slot_of}
use Rattle.origin_model.proofs.edits.SplitLemmas.{end_none, end_split}
use Rattle.origin_model.proofs.operations.LookupLemmas.{when_ready}
use Rattle.origin_model.proofs.order.{IsIn-held, before_at, chain_above, chain_before-fork, first_before, first_of, fork_moved, heads, left_in, never_none, no_member, order-has}
use Rattle.origin_model.proofs.order.{order-member, order-ordered, right_in}
use Rattle.origin_model.proofs.order.StrictOrderLemmas.{ranked-trans}
use Rattle.origin_model.proofs.sides.BlockLemmas.{To, loop}
use Rattle.origin_model.proofs.sides.KeyedBlockLemmas.{end_found, start_found}
use Rattle.origin_model.proofs.sides.KeyedPartLemmas.{child-depth, found-sorted, siblings_by_keys}
use Rattle.origin_model.proofs.sides.OwnTableLemmas.{first_split, first_walk, has_table, last_walk, table_of}
use Rattle.origin_model.proofs.sides.PassingLemmas.{falls_apart}
use Rattle.origin_model.proofs.sides.SidedGapLemmas.{gap_is_place, left_parent}
use Rattle.origin_model.proofs.sides.SlotLemmas.{child-in, child-left, child-rights, rooted, slot_by-left, slot_left, under_left}
use Rattle.origin_model.proofs.sides.SpineLemmas.{spine_first, spine_last}

-- the search by the depth ends at the last node below
pub block_end_by_keys : BlockEndByKeys
block_end_by_keys p h children s w fit t m =
    let z = last_walk p h w children t s in
    subst (EndsBlock children s) (sym (end_found p h w fit s z.0 m (spine_last p h w children t z.1.path s z.0 m z.1.below))) z.1

-- the search by the key ends at the first node below
pub block_start_by_keys : BlockStartByKeys
block_start_by_keys p h children q w fit t m =
    let z = first_walk p h w children t q in
    subst (BeforeBlock children q) (sym (start_found p h w fit q z.0 m (spine_first p h w children t z.1.path q z.0 m z.1.below))) z.1

-- a lawful history whose keys fit
module _ (p : Place) (h : List Op) (w : Lawful h) (fit : AllFit p h) where
  abbrev children : Slot → List Identifier
  children = table_of p h

  abbrev keys : List Keyed
  keys = with_keys h (order p h)

  -- the first below the first child of the start stands before all
  first_all : (v y : Identifier) (rest : List Identifier) → children (RightOf None) ≡ v ∷ rest → BeforeBlock children v y → (e : Identifier) → IsIn p h e → To p h w y e
  first_all v y rest c b e m =
      let t = has_table p h w in
      let F : Identifier → Identifier → Bool = fork_before (order p (older_of h)) h in
      let S : Identifier → Identifier → Bool = sibling (order p (older_of h)) h in
      let kv : IsChild p h (RightOf None) v = t.sound (RightOf None) v (subst (λ l. Contains l v) (sym c) (contains_here v rest)) in
      let f = spine_first p h w children t b.path v y (child-in p h (RightOf None) v kv) b.below in
      let lv : left_at h v ≡ None = child-left p h (RightOf None) v kv in
      let rv : rights h v ≡ v ∷ [] = child-rights p h (RightOf None) v w kv in
      let ly : lefts h y ≡ y ∷ [] = f.same_left ∙ ap (λ l. chain_above next_left h l ++ y ∷ []) lv in
      let ry : rights h y ≡ v ∷ f.under.0 = f.under.1 ∙ ap (λ a. a ++ f.under.0) rv in
      let turned : (e ≡ y) ⊎ (before_at p h y e ≡ true) → To p h w y e = λ r. elim r [ inl d ↦ inl (sym d) | inr k ↦ inr k ] in
      (elim (lefts h e) as (λ l. lefts h e ≡ l → To p h w y e) [
        | [] ↦ (λ i. absurd (never_none next_left h e (IsIn-held p h e m) i))
        | u ∷ more ↦ (λ i.
            let d = under_left p h None e u more w tt m i in
            let r = rooted p h None u w tt d.member d.left_u in
            elim (cases_id r.root v) [
              | inl q ↦ turned (f.first e u more r.below m (i ∙ ap (λ l. chain_above next_left h l ++ u ∷ more) (sym lv))
                  (r.path ∙ ap (λ a. a ∷ r.below) q ∙ ap (λ a. a ++ r.below) (sym rv)))
              | inr q ↦
                  let fv : F v r.root ≡ true = sym (fork_moved p h v r.root w)
                  ∙ elim (first_of (fork_before (order p h) h) v r.root rest (subst (IsOrderedBy (fork_before (order p h) h)) c (t.sorted (RightOf None)))
                  (subst (λ l. Contains l r.root) c (t.full (RightOf None) r.root r.is_child))) [
                    | inl z ↦ absurd (q z)
                    | inr z ↦ z
                  ] in
                  let nyu : y ≢ u = λ z. q (sym (heads v r.root f.under.0 r.below (sym ry ∙ ap (rights h) z ∙ r.path))) in
                  inr ((λ z. chain_before true S (ly z) (i z)) ∙ chain_before-fork true S y u [] more nyu
                  ∙ (λ z. chain_before false F (ry z) (r.path z)) ∙ chain_before-fork false F v r.root f.under.0 r.below (λ z. q (sym z)) ∙ fv)
            ])
      ]) refl

  -- what stands before all is the first of the list
  head_is : (y e : Identifier) (es : List Identifier) → order p h ≡ e ∷ es → IsIn p h y → To p h w y e → y ≡ e
  head_is y e es c m (inl d) = d
  head_is y e es c m (inr k) =
      elim (contains_cases e es y (subst (λ l. Contains l y) c (order-has p h y m))) [
        | inl d ↦ sym d
        | inr j ↦ absurd (loop p h w y e k (first_before (before_at p h) e y es (subst (IsOrderedBy (before_at p h)) c (order-ordered p h w)) j))
      ]

  -- an element has a chain that begins at a child of the start
  no_root : (e : Identifier) → IsIn p h e → children (RightOf None) ≡ [] → ⊥
  no_root e m n =
      (elim (lefts h e) as (λ l. lefts h e ≡ l → ⊥) [
        | [] ↦ (λ i. never_none next_left h e (IsIn-held p h e m) i)
        | u ∷ more ↦ (λ i.
            let d = under_left p h None e u more w tt m i in
            let r = rooted p h None u w tt d.member d.left_u in
            no_member (children (RightOf None)) r.root n ((has_table p h w).full (RightOf None) r.root r.is_child))
      ]) refl

  -- at the start, without an earlier sibling
  at_start : (es : List Identifier) → order p h ≡ es → NoEarlierSibling children (RightOf None) (children (RightOf None)) (before_all (first_id (with_keys h es)))
  at_start [] c =
      elim (first_split (children (RightOf None))) [
        | inl e ↦ e
        | inr r ↦ absurd (no_member (order p h) r.0 c
            (order-has p h r.0 (child-in p h (RightOf None) r.0 ((has_table p h w).sound (RightOf None) r.0 (subst (λ l. Contains l r.0) (sym r.2) (contains_here r.0 r.1))))))
      ]
  at_start (e ∷ es) c =
      let me : IsIn p h e = order-member p h e w (subst (λ l. Contains l e) (sym c) (contains_here e es)) in
      elim (first_split (children (RightOf None))) [
        | inl n ↦ absurd (no_root e me n)
        | inr r ↦
            let kv = (has_table p h w).sound (RightOf None) r.0 (subst (λ l. Contains l r.0) (sym r.2) (contains_here r.0 r.1)) in
            let z = first_walk p h w children (has_table p h w) r.0 in
            let f = spine_first p h w children (has_table p h w) z.1.path r.0 z.0 (child-in p h (RightOf None) r.0 kv) z.1.below in
            let d : z.0 ≡ e = head_is z.0 e es c f.member (first_all r.0 z.0 r.1 r.2 z.1 e me) in
            record { later_sibling = r.0; rest = r.1; is_first = r.2; block = subst (BeforeBlock children r.0) d z.1 }
      ]

  -- the gap without an earlier sibling
  no_earlier_sibling : (s : Slot) → StandsAt p h s → NoEarlierSibling children s (children s) (no_earlier_gap keys s (slot_key h s))
  no_earlier_sibling (RightOf None) m = at_start (order p h) refl
  no_earlier_sibling (RightOf (Some l)) m = refl
  no_earlier_sibling (LeftOf q) m = block_start_by_keys p h children q w fit (has_table p h w) m

  -- the gap with earlier siblings
  with_elders : (s : Slot) (es ys front : List Identifier) (e : Identifier) (g : Gap) → es ≡ front ++ e ∷ [] → HasEarlierSibling children es g → IsGap children s es ys g
  with_elders s [] ys front e g i k = absurd (no_member [] e refl (subst (λ l. Contains l e) (sym i) (contains_middle front e [])))
  with_elders s (z ∷ zs) ys front e g i k = k

  -- the gap, by the last earlier sibling
  gap_by : (s : Slot) → StandsAt p h s → (es ys : List Identifier) → children s ≡ es ++ ys → IsGap children s es ys (gap_after keys s (slot_key h s) (last_before es))
  gap_by s m es ys c =
      elim (cases_origin (last_before es)) [
        | inl l ↦
            let none : es ≡ [] = end_none es l in
            let g : Gap = no_earlier_gap keys s (slot_key h s) in
            let here : NoEarlierSibling children s ys g = subst (λ t. NoEarlierSibling children s t g) (c ∙ ap (λ t. t ++ ys) none) (no_earlier_sibling s m) in
            subst (λ o. IsGap children s es ys (gap_after keys s (slot_key h s) o)) (sym l) (subst (λ t. IsGap children s t ys g) (sym none) here)
        | inr l ↦
            let t = has_table p h w in
            let e : Identifier = l.0 in
            let split = end_split es e l.1 in
            let ine : Contains es e = subst (λ x. Contains x e) (sym split.1) (contains_middle split.0 e []) in
            let ke : IsChild p h s e = t.sound s e (subst (λ x. Contains x e) (sym c) (Contains-append_left es ys e ine)) in
            let b = block_end_by_keys p h children e w fit t (child-in p h s e ke) in
            let at = subst (λ n. EndsBlock children e (block_end keys n e)) (child-depth p h w fit s e m ke) b in
            subst (λ o. IsGap children s es ys (gap_after keys s (slot_key h s) o)) (sym l.1)
            (with_elders s es ys split.0 e (gap_after keys s (slot_key h s) (Some e)) split.1
            (record { front = split.0; earlier_sibling = e; is_last = split.1; path = at.path; below = at.below }))
      ]

-- the slot of a Ready element is in the place, by whichever history its right origin is looked up in
pub slot_stands_by : (p : Place) (h : List Op) (op : Op) (older : List Op) (x : Identifier) → Lawful (op ∷ older) → element_of p op ≡ Some x → StandsAt p older (slot_of h op)
slot_stands_by p h op older x w at = by (slot_of h op) refl
  where
    by : (s : Slot) → slot_of h op ≡ s → StandsAt p older s
    by (RightOf None) e = tt
    by (RightOf (Some l)) e = left_in p op older x l (when_ready older op w.0) at (sym (slot_by-left h (left_of op) (right_of op)) ∙ ap (slot_left h) e)
    by (LeftOf q) e = right_in p op older x q (when_ready older op w.0) at (left_parent h (left_of op) (right_of op) q e).0

-- the slot of a Ready element is in the place
pub slot_stands : (p : Place) (op : Op) (older : List Op) (x : Identifier) → Lawful (op ∷ older) → element_of p op ≡ Some x → StandsAt p older (slot_of older op)
slot_stands p op older = slot_stands_by p older op older

-- siblings that go before the new element stand before those that do not
goes_up : (o : List Identifier) (older : List Op) (op : Op) (x a b : Identifier) → fork_before o older a b ≡ true → goes_before o older op x b ≡ true
    → goes_before o older op x a ≡ true
goes_up o older op x a b k j = ranked-trans (index_of_origin o (right_at older a)) (index_of_origin o (right_at older b)) (index_of_origin o (right_of op)) a b x k j

-- so the siblings of a new element fall
pub fall : (p : Place) (op : Op) (older : List Op) (x : Identifier) → Lawful (op ∷ older) → element_of p op ≡ Some x → AllFit p older
    → Falls (goes_before (order p older) older op x) (siblings (with_keys older (order p older)) (slot_of older op) (slot_key older (slot_of older op)))
fall p op older x w at fit =
    let s : Slot = slot_of older op in
    let o : List Identifier = order p older in
    let g : Identifier → Bool = goes_before o older op x in
    all_pairs_weaker (λ a b. fork_before o older a b ≡ true) (λ a b. g b ≡ true → g a ≡ true) (goes_up o older op x) (siblings (with_keys older o) s (slot_key older s))
    (found-sorted p older w.1 fit s (slot_stands p op older x w at))

-- the gap found by keys is the place of the new element
pub gap_by_keys_is_place : GapByKeys
gap_by_keys_is_place p op older x w at fit =
    let s : Slot = slot_of older op in
    let o : List Identifier = order p older in
    let g : Identifier → Bool = goes_before o older op x in
    let t = has_table p older w.1 in
    let m = slot_stands p op older x w at in
    let found : List Identifier = siblings (with_keys older o) s (slot_key older s) in
    let r = falls_apart g found (fall p op older x w at fit) in
    let same : found ≡ table_of p older s = siblings_by_keys p older (table_of p older) s w.1 fit t m in
    let whole : table_of p older s ≡ r.earlier ++ r.later = sym same ∙ r.whole in
    gap_is_place p op older x (table_of p older) r.earlier r.later (gap_by_keys (with_keys older o) s (slot_key older s) g) w at t
    (record { whole = whole; earlier_sibling = r.earlier_sibling; later_sibling = r.later_sibling })
    (subst (λ e. IsGap (table_of p older) s r.earlier r.later (gap_after (with_keys older o) s (slot_key older s) e)) (sym r.last)
    (gap_by p older w.1 fit s m r.earlier r.later whole))
