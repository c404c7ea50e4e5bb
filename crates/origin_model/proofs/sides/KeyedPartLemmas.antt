-- The part of the list in which the children of a slot stand: they are its elements with the least key.
use Rattle.origin_model.proofs.Words.{Contains, Contains-append_cases, Contains-append_left, Contains-append_right, Identifier, IsIn, IsOrderedBy, Lawful, List, None, Op, Passes}
use Rattle.origin_model.proofs.Words.{Place, Some, [], all_pairs_before, all_pairs_after, ap, append-nil, append_assoc, arith, chain_before, contains_cases, contains_filter_from}
use Rattle.origin_model.proofs.Words.{contains_here, contains_middle, contains_there, false, filter, fork_before, inl, inr, left_at, lefts, next_left, next_right, older_of, order}
use Rattle.origin_model.proofs.Words.{refl, rights, sibling, subst, suc, sym, true, true≢false, Bool, ℕ, ◌++◌, ◌∙◌, ◌∷◌, ◌≡◌, ◌≢◌}
use Rattle.std.proofs.lemmas.Bool.Decides.{nat_tests}
use Rattle.std.proofs.lemmas.List.Kept.{AllPairs-filter}
use Rattle.fugue_ids.proofs.ListLemmas.{contains_filter}
use Rattle.fugue_ids.specs.Keys.{Keyed, front_of, is_low, key_lt, low_ids, rest_of}
use Rattle.fugue_ids.specs.Listed.{HoldsOrigin, last_before}
use Rattle.fugue_ids.specs.declared.key.Key.{Key}
use Rattle.origin_model.specs.declared.sides.Slot.{Slot}
use Rattle.origin_model.specs.declared.sides.Slot.TheVariants.{LeftOf, RightOf}
use Rattle.origin_model.specs.edits.Landing.{first_after}
use Rattle.origin_model.specs.sides.KeyLaws.{AllFit, SiblingsByKeys, StandsAt}
use Rattle.origin_model.specs.sides.KeyedGap.{child_key, part_from, part_to, siblings, slot_key, slot_part}
use Rattle.origin_model.specs.sides.Keys.{depth_of, forest_of, search_key_of, with_keys, keyed_as}
use Rattle.origin_model.specs.sides.Slot.{IsChild}
use Rattle.origin_model.proofs.edits.SplitLemmas.{end_push}
use Rattle.origin_model.proofs.order.{IsIn-held, before_at, chain-ends, chain_above, chain_before-fork, common, first_before, fork-irrefl, fork-trans, front_before, lefts-above}
use Rattle.origin_model.proofs.order.{order-has, order-member}
use Rattle.origin_model.proofs.order.OrderedListLemmas.{same_ordered}
use Rattle.origin_model.proofs.sides.BlockLemmas.{To, in_block, deep_block, in_forest, irrefl, loop, no_turn}
use Rattle.origin_model.proofs.sides.ChainLengthLemmas.{forest-rights, len, more, pass_one}
use Rattle.origin_model.proofs.sides.KeyedBlockLemmas.{deep_between, end_low, end_parts, inner_over, sorted, start_low, start_parts, start_rest, start_whole}
use Rattle.origin_model.proofs.sides.KeyedListLemmas.{front_head, front_ids, is_deep, low_ids-keyed, parted_low, rest_ids}
use Rattle.origin_model.proofs.sides.OwnTableLemmas.{children-sorted, first_walk, has_table, last_walk, table_of}
use Rattle.origin_model.proofs.sides.SlotLemmas.{IsThere, child-in, child-lefts, child-rights, child_under, left_there, over, slot_left, under_left}
use Rattle.origin_model.proofs.sides.SpineLemmas.{IsFirstIn, IsLastIn, spine_first, spine_last}

-- a key that is at most another and not less is that
low_is : (k : Key) (e : Keyed) → is_low k e ≡ true → key_lt e.key k ≡ false → (e.key.depth ≡ k.depth) × (e.key.forest ≡ k.forest)
low_is k e i j = (grind (arith, nat_tests), grind (arith, nat_tests))

-- a key of these numbers is at most the key of them
is_low_by : (k : Key) (e : Keyed) → e.key.depth ≡ k.depth → e.key.forest ≡ k.forest → is_low k e ≡ true
is_low_by k e i j = grind (arith, nat_tests)

-- no key with a depth has one less than the first of the next depth
deep_least : (d : ℕ) (e : Keyed) → is_deep d e ≡ true → key_lt e.key (record { depth = suc d; forest = 0 }) ≡ false
deep_least d e i = grind (arith, nat_tests)

-- one that is deeper is not less than a key of the depth
deep_not_less : (d f : ℕ) (e : Keyed) → is_deep d e ≡ true → key_lt e.key (record { depth = d; forest = f }) ≡ false
deep_not_less d f e i = grind (arith, nat_tests)

-- between a key and the one of the next forest there is none
over_least : (k : Key) (e : Keyed) → key_lt k e.key ≡ true → key_lt e.key (record { depth = k.depth; forest = suc k.forest }) ≡ false
over_least k e i = grind (arith, nat_tests)

-- a key that is at most one is at most a greater one
low_next : (k : Key) (e : Keyed) → is_low k e ≡ true → is_low (record { depth = k.depth; forest = suc k.forest }) e ≡ true
low_next k e i = grind (arith, nat_tests)

-- what is no deeper is at most the first of the next depth
flat_next : (d : ℕ) (e : Keyed) → is_deep d e ≡ false → is_low (record { depth = suc d; forest = 0 }) e ≡ true
flat_next d e i = grind (arith, nat_tests)

-- no depth is less than itself
not_deep : (d : ℕ) (e : Keyed) → e.key.depth ≡ d → is_deep d e ≡ false
not_deep d e i = grind (arith, nat_tests)

-- a positive depth
deep_start : (d : ℕ) (e : Keyed) → e.key.depth ≡ suc d → is_deep 0 e ≡ true
deep_start d e i = grind (arith, nat_tests)

-- a lawful history whose keys fit
module _ (p : Place) (h : List Op) (w : Lawful h) (fit : AllFit p h) where
  abbrev o : List Identifier
  o = order p h

  abbrev T : Identifier → Identifier → Type 0
  T a b = before_at p h a b ≡ true

  -- the key of the children of a slot
  abbrev pub ck : Slot → Key
  ck s = child_key s (slot_key h s)

  -- an element of the place is held
  there : (s : Slot) → StandsAt p h s → IsThere h s
  there (RightOf None) m = tt
  there (RightOf (Some l)) m = IsIn-held p h l m
  there (LeftOf q) m = IsIn-held p h q m

  -- so is the left origin of the children
  left_is_there : (s : Slot) → StandsAt p h s → IsThere h (RightOf (slot_left h s))
  left_is_there (RightOf None) m = tt
  left_is_there (RightOf (Some l)) m = IsIn-held p h l m
  left_is_there (LeftOf q) m = left_there p h q w m

  -- the depth of the children
  pub depth-is : (s : Slot) → StandsAt p h s → (ck s).depth ≡ suc (len (chain_above next_left h (slot_left h s)))
  depth-is (RightOf None) m = refl
  depth-is (RightOf (Some l)) m = refl
  depth-is (LeftOf q) m = ap len (lefts-above h q w (IsIn-held p h q m)) ∙ more (chain_above next_left h (left_at h q)) q

  -- the forest of the children
  pub forest-is : (s : Slot) → StandsAt p h s → (ck s).forest ≡ len (over h s)
  forest-is (RightOf None) m = refl
  forest-is (RightOf (Some l)) m = refl
  forest-is (LeftOf q) m = forest-rights h q (IsIn-held p h q m)

  -- a child has that depth
  pub child-depth : (s : Slot) (v : Identifier) → StandsAt p h s → IsChild p h s v → depth_of h v ≡ (ck s).depth
  child-depth s v m k = ap len (child-lefts p h s v w k) ∙ more (chain_above next_left h (slot_left h s)) v ∙ sym (depth-is s m)

  -- and that forest
  pub child-forest : (s : Slot) (v : Identifier) → StandsAt p h s → IsChild p h s v → forest_of h v ≡ (ck s).forest
  child-forest s v m k =
      let a = forest-rights h v (IsIn-held p h v (child-in p h s v k)) in
      let b : len (rights h v) ≡ suc (len (over h s)) = ap len (child-rights p h s v w k) ∙ more (over h s) v in
      let c : forest_of h v ≡ len (over h s) = omega arith in
      c ∙ sym (forest-is s m)

  -- so its key is at most that
  child-low : (s : Slot) (v : Identifier) → StandsAt p h s → IsChild p h s v → is_low (ck s) (keyed_as h v) ≡ true
  child-low s v m k = is_low_by (ck s) (keyed_as h v) (child-depth s v m k) (child-forest s v m k)

  -- what has that key, and chains that begin as those of the slot, is a child
  key-child : (s : Slot) (v : Identifier) → StandsAt p h s → IsIn p h v → depth_of h v ≡ (ck s).depth → forest_of h v ≡ (ck s).forest
      → Passes (chain_above next_left h (slot_left h s)) (lefts h v) → Passes (over h s) (rights h v) → IsChild p h s v
  key-child s v m n d f a b =
      let hv = IsIn-held p h v n in
      let lv = pass_one v (lefts h v) (chain_above next_left h (slot_left h s)) (chain-ends next_left h v hv) a (d ∙ depth-is s m) in
      let rv = pass_one v (rights h v) (over h s) (chain-ends next_right h v hv) b (sym (forest-rights h v hv) ∙ ap suc (f ∙ forest-is s m)) in
      let u = under_left p h (slot_left h s) v v [] w (left_is_there s m) n lv in
      child_under p h s v v [] w (there s m) n u.left_u rv

  -- the last of the block of l
  last_of_block : (l : Identifier) → IsIn p h l → (y : Identifier) × IsLastIn p h l y
  last_of_block l m =
      let z = last_walk p h w (table_of p h) (has_table p h w) l in
      (z.0, spine_last p h w (table_of p h) (has_table p h w) z.1.path l z.0 m z.1.below)

  -- the first of the block of q
  first_of_block : (q : Identifier) → IsIn p h q → (y : Identifier) × IsFirstIn p h q y
  first_of_block q m =
      let z = first_walk p h w (table_of p h) (has_table p h w) q in
      (z.0, spine_first p h w (table_of p h) (has_table p h w) z.1.path q z.0 m z.1.below)

  -- the part of the list for the slot s
  pub record IsPart (s : Slot) (part : List Identifier) : Type 0 where
    pub is_part : slot_part (with_keys h o) s (slot_key h s) ≡ with_keys h part
    pub in_order : IsOrderedBy (before_at p h) part
    pub inside : (v : Identifier) → Contains part v → Contains o v
    pub least : (v : Identifier) → Contains part v → key_lt (search_key_of h v) (ck s) ≡ false
    pub is_child : (v : Identifier) → Contains part v → is_low (ck s) (keyed_as h v) ≡ true → IsChild p h s v
    pub full : (v : Identifier) → IsChild p h s v → Contains part v
    pub from : HoldsOrigin (low_ids (ck s) (with_keys h o)) (part_from (with_keys h o) s (slot_key h s))
    pub to : HoldsOrigin (low_ids (ck s) (rest_of (part_from (with_keys h o) s (slot_key h s)) (with_keys h o))) (part_to (with_keys h o) s (slot_key h s))

  -- an element of a list with a low key
  low_in : (k : Key) (xs : List Identifier) (x : Identifier) → Contains xs x → is_low k (keyed_as h x) ≡ true → Contains (low_ids k (with_keys h xs)) x
  low_in k xs x m j = subst (λ t. Contains t x) (sym (low_ids-keyed h k xs)) (contains_filter (λ z. is_low k (keyed_as h z)) xs x m j)

  -- each element is deeper than the start
  start_deep : (v : Identifier) → IsIn p h v → is_deep 0 (keyed_as h v) ≡ true
  start_deep v m =
      let r = chain-ends next_left h v (IsIn-held p h v m) in
      deep_start (len r.0) (keyed_as h v) (ap len r.1 ∙ more r.0 v)

  -- at the start: the whole list
  start_part : IsPart (RightOf None) o
  start_part = record {
    is_part = refl;
    in_order = sorted p h w;
    inside = λ v m. m;
    least = λ v m. deep_least 0 (keyed_as h v) (start_deep v (order-member p h v w m));
    is_child = λ v m j.
        let n = order-member p h v w m in
        let k = low_is (ck (RightOf None)) (keyed_as h v) j (deep_least 0 (keyed_as h v) (start_deep v n)) in
        key-child (RightOf None) v tt n k.0 k.1 (lefts h v, refl) (rights h v, refl);
    full = λ v k. order-has p h v (child-in p h (RightOf None) v k);
    from = tt;
    to = tt;
  }

  -- after l: its block
  right_part : (l : Identifier) → IsIn p h l → (part : List Identifier) × IsPart (RightOf (Some l)) part
  right_part l m =
      let b = last_of_block l m in
      let r = end_parts p h w l b.0 m b.1 in
      let front : List Identifier = r.front in
      let s : Slot = RightOf (Some l) in
      let whole : o ≡ front ++ (l ∷ (r.back ++ r.after)) = r.whole ∙ append_assoc front (l ∷ r.back) r.after in
      let so : IsOrderedBy (before_at p h) (front ++ (l ∷ (r.back ++ r.after))) = subst (IsOrderedBy (before_at p h)) whole (sorted p h w) in
      let lo : IsOrderedBy (before_at p h) (l ∷ (r.back ++ r.after)) = all_pairs_after T front (l ∷ (r.back ++ r.after)) so in
      let bo : IsOrderedBy (before_at p h) (r.back ++ r.after) = all_pairs_after T (l ∷ []) (r.back ++ r.after) lo in
      let rest : rest_of (Some l) (with_keys h o) ≡ with_keys h (r.back ++ r.after) =
      ap (λ t. rest_of (Some l) (with_keys h t)) whole ∙ rest_ids h (before_at p h) (irrefl p h w) front (r.back ++ r.after) l so in
      let to : part_to (with_keys h o) s (slot_key h s) ≡ first_after r.after = end_low p h w fit l b.0 m b.1 r in
      let in_back : (v : Identifier) → Contains r.back v → Contains o v = λ v n.
      subst (λ t. Contains t v) (sym r.whole) (Contains-append_left (front ++ l ∷ r.back) r.after v (Contains-append_right front (l ∷ r.back) v (contains_there l r.back v n))) in
      let deep : (v : Identifier) → Contains r.back v → is_deep (depth_of h l) (keyed_as h v) ≡ true = λ v n. let i = r.inside v n in deep_block p h w l b.0 m b.1 v i.0 i.1 in (
        r.back,
        record {
          is_part = ap (front_of (part_to (with_keys h o) s (slot_key h s))) rest ∙ ap (λ t. front_of t (with_keys h (r.back ++ r.after))) to
              ∙ front_head h (before_at p h) (irrefl p h w) r.back r.after bo;
          in_order = all_pairs_before T r.back r.after bo;
          inside = in_back;
          least = λ v n. deep_least (depth_of h l) (keyed_as h v) (deep v n);
          is_child = λ v n j.
              let k = low_is (ck s) (keyed_as h v) j (deep_least (depth_of h l) (keyed_as h v) (deep v n)) in
              let i = r.inside v n in
              key-child s v m (order-member p h v w (in_back v n)) k.0 k.1 (in_block p h w l b.0 m b.1 v i.0 i.1) (rights h v, refl);
          full = λ v k.
              let lv : lefts h v ≡ lefts h l ++ v ∷ [] = child-lefts p h s v w k in
              let mv = child-in p h s v k in
              let lr : T l v = (λ i. chain_before true (sibling (order p (older_of h)) h) (sym (append-nil (lefts h l)) i) (lv i))
              ∙ common true (sibling (order p (older_of h)) h) (lefts h l) [] (v ∷ []) in
              let up : To p h w v b.0 = b.1.last v mv (v ∷ [], lv) in
              let zo : IsOrderedBy (before_at p h) ((front ++ l ∷ r.back) ++ r.after) = subst (IsOrderedBy (before_at p h)) r.whole (sorted p h w) in
              elim (Contains-append_cases (front ++ l ∷ r.back) r.after v (subst (λ t. Contains t v) r.whole (order-has p h v mv))) [
                | inr n ↦
                    let yz : Contains (front ++ l ∷ r.back) b.0 = subst (λ t. Contains t b.0) (sym r.last.1) (contains_middle r.last.0 b.0 []) in
                    absurd (no_turn p h w v b.0 up (front_before (before_at p h) (front ++ l ∷ r.back) r.after b.0 v zo yz n))
                | inl n ↦ elim (Contains-append_cases front (l ∷ r.back) v n) [
                  | inl i ↦ absurd (loop p h w l v lr (front_before (before_at p h) front (l ∷ (r.back ++ r.after)) v l so i (contains_here l (r.back ++ r.after))))
                  | inr i ↦ elim (contains_cases l r.back v i) [
                    | inl d ↦ absurd (true≢false (sym lr ∙ ap (before_at p h l) (sym d) ∙ irrefl p h w l))
                    | inr j ↦ j
                  ]
                ]
              ];
          from = low_in (ck s) o l (order-has p h l m) (flat_next (depth_of h l) (keyed_as h l) (not_deep (depth_of h l) (keyed_as h l) refl));
          to = subst (HoldsOrigin (low_ids (ck s) (rest_of (Some l) (with_keys h o)))) (sym to) (
              subst (λ t. HoldsOrigin (low_ids (ck s) t) (first_after r.after)) (sym rest)
              (head_low r.back r.after (λ c cs e. flat_next (depth_of h l) (keyed_as h c) (r.stop c cs e))));
        },
      )
    where
      head_low : (xs ys : List Identifier) → ((c : Identifier) (cs : List Identifier) → ys ≡ c ∷ cs → is_low (ck (RightOf (Some l))) (keyed_as h c) ≡ true)
          → HoldsOrigin (low_ids (ck (RightOf (Some l))) (with_keys h (xs ++ ys))) (first_after ys)
      head_low xs [] f = tt
      head_low xs (c ∷ cs) f = low_in (ck (RightOf (Some l))) (xs ++ c ∷ cs) c (contains_middle xs c cs) (f c cs refl)

  -- before q: after the last whose key is no greater
  left_part : (q : Identifier) → IsIn p h q → (part : List Identifier) × IsPart (LeftOf q) part
  left_part q m =
      let b = first_of_block q m in
      let r = start_parts p h w q b.0 m b.1 in
      let z = parted_low h (search_key_of h q) r.front in
      let s : Slot = LeftOf q in
      let part : List Identifier = z.back ++ r.inner in
      let whole : o ≡ z.front ++ (part ++ q ∷ r.back) = start_whole p h w fit q b.0 m b.1 r z in
      let so : IsOrderedBy (before_at p h) (z.front ++ (part ++ q ∷ r.back)) = subst (IsOrderedBy (before_at p h)) whole (sorted p h w) in
      let po : IsOrderedBy (before_at p h) (part ++ q ∷ r.back) = all_pairs_after T z.front (part ++ q ∷ r.back) so in
      let rest : rest_of (part_from (with_keys h o) s (slot_key h s)) (with_keys h o) ≡ with_keys h (part ++ q ∷ r.back) = start_rest p h w fit q b.0 m b.1 r z in
      let in_part : (v : Identifier) → Contains part v → Contains o v = λ v n.
      subst (λ t. Contains t v) (sym whole) (Contains-append_right z.front (part ++ q ∷ r.back) v (Contains-append_left part (q ∷ r.back) v n)) in
      let least : (v : Identifier) → Contains part v → key_lt (search_key_of h v) (ck s) ≡ false = λ v n. elim (Contains-append_cases z.back r.inner v n) [
        | inl i ↦ deep_not_less (depth_of h q) (suc (forest_of h q)) (keyed_as h v) (deep_between p h w fit q b.0 m b.1 r z v i)
        | inr i ↦ over_least (search_key_of h q) (keyed_as h v) (inner_over p h w fit q b.0 m b.1 r z v i)
      ] in (
        part,
        record {
          is_part = ap (front_of (Some q)) rest ∙ front_ids h (before_at p h) (irrefl p h w) part r.back q po;
          in_order = all_pairs_before T part (q ∷ r.back) po;
          inside = in_part;
          least = least;
          is_child = λ v n j.
              let k = low_is (ck s) (keyed_as h v) j (least v n) in
              let mv = order-member p h v w (in_part v n) in
              elim (Contains-append_cases z.back r.inner v n) [
                | inl i ↦ absurd (true≢false (sym (deep_between p h w fit q b.0 m b.1 r z v i) ∙ not_deep (depth_of h q) (keyed_as h v) k.0))
                | inr i ↦
                    let t = r.inside v i in
                    elim (in_forest p h w q b.0 m b.1 v mv t.0 t.1) [
                      | inl lt ↦ absurd (omega (arith, lt, k.0))
                      | inr c ↦ key-child s v m mv k.0 k.1 (v ∷ [], c.0) c.1
                    ]
              ];
          full = λ v k.
              let F : Identifier → Identifier → Bool = fork_before (order p (older_of h)) h in
              let S : Identifier → Identifier → Bool = sibling (order p (older_of h)) h in
              let A : List Identifier = chain_above next_left h (left_at h q) in
              let mv = child-in p h s v k in
              let lv : lefts h v ≡ A ++ v ∷ [] = child-lefts p h s v w k in
              let rv : rights h v ≡ rights h q ++ v ∷ [] = child-rights p h s v w k in
              let lq : lefts h q ≡ A ++ q ∷ [] = lefts-above h q w (IsIn-held p h q m) in
              let up : To p h w b.0 v = elim (b.1.first v v [] (v ∷ []) mv lv rv) [ inl d ↦ inl (sym d) | inr j ↦ inr j ] in
              let n : v ≢ q = λ d.
              let a : len (rights h v) ≡ len (rights h q) = ap (λ z. len (rights h z)) d in
              let c : len (rights h v) ≡ suc (len (rights h q)) = ap len rv ∙ more (rights h q) v in
              omega (arith, a, c) in
              let vq : T v q = (λ i. chain_before true S (lv i) (lq i)) ∙ common true S A (v ∷ []) (q ∷ []) ∙ chain_before-fork true S v q [] [] n
              ∙ (λ i. chain_before false F (rv i) (sym (append-nil (rights h q)) i)) ∙ common false F (rights h q) (v ∷ []) [] in
              let ro : IsOrderedBy (before_at p h) ((r.front ++ r.inner) ++ q ∷ r.back) = subst (IsOrderedBy (before_at p h)) r.whole (sorted p h w) in
              elim (Contains-append_cases (r.front ++ r.inner) (q ∷ r.back) v (subst (λ t. Contains t v) r.whole (order-has p h v mv))) [
                | inr i ↦ absurd (elim (contains_cases q r.back v i) [
                  | inl d ↦ true≢false (sym vq ∙ ap (λ x. before_at p h x q) (sym d) ∙ irrefl p h w q)
                  | inr j ↦ loop p h w v q vq (first_before (before_at p h) q v r.back (all_pairs_after T (r.front ++ r.inner) (q ∷ r.back) ro) j)
                ])
                | inl i ↦ elim (Contains-append_cases r.front r.inner v i) [
                  | inr j ↦ Contains-append_right z.back r.inner v j
                  | inl j ↦
                      let yo : IsOrderedBy (before_at p h) (r.front ++ b.0 ∷ r.first.0) =
                      subst (IsOrderedBy (before_at p h)) (append_assoc r.front r.inner (q ∷ r.back) ∙ ap (λ t. r.front ++ t) r.first.1) ro in
                      absurd (no_turn p h w b.0 v up (front_before (before_at p h) r.front (b.0 ∷ r.first.0) v b.0 yo j (contains_here b.0 r.first.0)))
                ]
              ];
          from = subst (HoldsOrigin (low_ids (ck s) (with_keys h o))) (sym (start_low p h w fit q b.0 m b.1 r z)) (elim z.low [
            | inl n ↦ subst (λ t. HoldsOrigin (low_ids (ck s) (with_keys h o)) (last_before t)) (sym n) tt
            | inr n ↦ subst (HoldsOrigin (low_ids (ck s) (with_keys h o))) (sym (ap last_before n.2 ∙ end_push n.0 n.1))
                (low_in (ck s) o n.1 (subst (λ t. Contains t n.1) (sym whole)
                (Contains-append_left z.front (part ++ q ∷ r.back) n.1 (subst (λ t. Contains t n.1) (sym n.2) (contains_middle n.0 n.1 []))))
                (low_next (search_key_of h q) (keyed_as h n.1) n.3))
          ]);
          to = subst (λ t. Contains (low_ids (ck s) t) q) (sym rest)
              (low_in (ck s) (part ++ q ∷ r.back) q (contains_middle part q r.back)
              (low_next (search_key_of h q) (keyed_as h q) (is_low_by (search_key_of h q) (keyed_as h q) refl refl)));
        },
      )

  -- each slot has its part
  pub part_of : (s : Slot) → StandsAt p h s → (part : List Identifier) × IsPart s part
  part_of (RightOf None) m = (o, start_part)
  part_of (RightOf (Some l)) m = right_part l m
  part_of (LeftOf q) m = left_part q m

  -- the elements of the part that have the key of a child
  abbrev pub found : Slot → List Identifier
  found s = siblings (with_keys h o) s (slot_key h s)

  found-is : (s : Slot) (part : List Identifier) → IsPart s part → found s ≡ filter (λ v. is_low (ck s) (keyed_as h v)) part
  found-is s part k = ap (low_ids (ck s)) k.is_part ∙ low_ids-keyed h (ck s) part

  -- they are children
  pub found-child : (s : Slot) (v : Identifier) → StandsAt p h s → Contains (found s) v → IsChild p h s v
  found-child s v m n =
      let k = part_of s m in
      let r = contains_filter_from (λ z. is_low (ck s) (keyed_as h z)) k.0 v (subst (λ t. Contains t v) (found-is s k.0 k.1) n) in
      k.1.is_child v r.0 r.1

  -- each child is one of them
  pub child-found : (s : Slot) (v : Identifier) → StandsAt p h s → IsChild p h s v → Contains (found s) v
  child-found s v m c =
      let k = part_of s m in
      subst (λ t. Contains t v) (sym (found-is s k.0 k.1)) (contains_filter (λ z. is_low (ck s) (keyed_as h z)) k.0 v (k.1.full v c) (child-low s v m c))

  -- they stand in the order of siblings
  pub found-sorted : (s : Slot) → StandsAt p h s → IsOrderedBy (fork_before o h) (found s)
  found-sorted s m =
      let k = part_of s m in
      children-sorted p h w s (found s) (λ v n. found-child s v m n)
      (subst (IsOrderedBy (before_at p h)) (sym (found-is s k.0 k.1)) (AllPairs-filter T (λ z. is_low (ck s) (keyed_as h z)) k.0 k.1.in_order))

-- they are the children of the slot
pub siblings_by_keys : SiblingsByKeys
siblings_by_keys p h children s w fit t m =
    same_ordered (fork_before (order p h) h) (fork-irrefl (order p h) h) (fork-trans (order p h) h) (found p h w fit s) (children s)
    (found-sorted p h w fit s m) (t.sorted s) (λ v n. t.full s v (found-child p h w fit s v m n)) (λ v n. child-found p h w fit s v m (t.sound s v n))
