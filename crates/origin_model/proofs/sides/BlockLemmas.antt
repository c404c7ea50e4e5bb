-- The ends of a block, by the keys of the elements around it.
use Rattle.origin_model.proofs.Words.{All-contains, Bool, Contains, Identifier, IsIn, Lawful, List, None, Op, Option, Passes, Place, Some, [], ap, append-nil, append_assoc, arith}
use Rattle.origin_model.proofs.Words.{chain_before, contains_middle, false, false≢true, fork_before, inl, inr, left_at, lefts, next_left, next_right, older_of, order, refl, rights}
use Rattle.origin_model.proofs.Words.{same_from_push, sibling, subst, suc, sym, true, true≢false, ℕ, ◌++◌, ◌<◌, ◌∙◌, ◌∷◌, ◌≡◌, ◌≢◌, ◌⊎◌}
use Rattle.std.proofs.lemmas.Bool.Decides.{nat_tests}
use Rattle.fugue_ids.specs.Keys.{key_lt}
use Rattle.fugue_ids.specs.declared.key.Key.{Key}
use Rattle.origin_model.specs.declared.sides.Slot.TheVariants.{RightOf}
use Rattle.origin_model.specs.sides.Keys.{depth_of, forest_of, search_key_of, keyed_as}
use Rattle.origin_model.proofs.operations.LookupLemmas.{IsHeld}
use Rattle.origin_model.proofs.order.{IsIn-held, before_at, before_in-irrefl, before_in-trans, chain-ends, chain_above, chain_before-fork, common, lefts-above, lefts-in}
use Rattle.origin_model.proofs.order.{lefts-prefix, order-has, parts, parts_late, rights-in, rights-prefix, same_chain, sibling-irrefl, sibling-trans}
use Rattle.origin_model.proofs.sides.ChainLengthLemmas.{cut, forest-rights, len, len-append, more, common_prefix}
use Rattle.origin_model.proofs.sides.KeyedListLemmas.{is_deep}
use Rattle.origin_model.proofs.sides.SlotLemmas.{IsThere, left_there}
use Rattle.origin_model.proofs.sides.SpineLemmas.{IsFirstIn, IsLastIn}

-- a lawful history
module _ (p : Place) (h : List Op) (w : Lawful h) where
  -- the comparison at a fork
  abbrev F : Identifier → Identifier → Bool
  F = fork_before (order p (older_of h)) h

  -- the comparison of siblings
  abbrev S : Identifier → Identifier → Bool
  S = sibling (order p (older_of h)) h

  -- the comparison of elements
  abbrev R : Identifier → Identifier → Bool
  R = before_at p h

  pub irrefl : (a : Identifier) → R a a ≡ false
  irrefl = before_in-irrefl (order p (older_of h)) h

  pub trans : (a b c : Identifier) → R a b ≡ true → R b c ≡ true → R a c ≡ true
  trans = before_in-trans (order p (older_of h)) h

  -- no two stand before each other
  pub loop : (a b : Identifier) → R a b ≡ true → R b a ≡ true → ⊥
  loop a b k j = true≢false (sym (trans a b a k j) ∙ irrefl a)

  -- a stands before b, or is b
  abbrev pub To : Identifier → Identifier → Type 0
  To a b = (a ≡ b) ⊎ (R a b ≡ true)

  -- what does not stand before b does not stand after it
  pub no_turn : (a b : Identifier) → To a b → R b a ≡ true → ⊥
  no_turn a b (inl d) k = true≢false (sym k ∙ ap (R b) d ∙ irrefl b)
  no_turn a b (inr j) k = loop a b j k

  -- some element stands between y and e
  pub record Between (y e : Identifier) : Type 0 where
    pub middle : Identifier
    pub member : Contains (order p h) middle
    pub behind : R y middle ≡ true
    pub before : R middle e ≡ true

  -- some element whose key is at most k stands between e and y
  pub record Lower (k : Key) (e y : Identifier) : Type 0 where
    pub middle : Identifier
    pub member : Contains (order p h) middle
    pub behind : R e middle ≡ true
    pub before : R middle y ≡ true
    pub low : key_lt k (search_key_of h middle) ≡ false

  -- s, and the last element of its block
  module _ (s y : Identifier) (ms : IsIn p h s) (l : IsLastIn p h s y) where
    held_s : IsHeld h s
    held_s = IsIn-held p h s ms

    -- s does not stand after the last
    pub from_s : To s y
    from_s = l.last s ms ([], sym (append-nil (lefts h s)))

    -- what stands in the block begins with the chain of s
    pub in_block : (e : Identifier) → R s e ≡ true → To e y → Passes (lefts h s) (lefts h e)
    in_block e k (inl d) = subst (λ z. Passes (lefts h s) (lefts h z)) (sym d) l.under
    in_block e k (inr j) =
        elim (parts_late true S (lefts h s) (lefts h e)) [
          | inl q ↦ q
          | inr g ↦ absurd (loop s e k (sym (g l.under.0) ∙ ap (chain_before true S (lefts h e)) (sym l.under.1) ∙ j))
        ]

    -- it is deeper than s
    pub deep_block : (e : Identifier) → R s e ≡ true → To e y → is_deep (depth_of h s) (keyed_as h e) ≡ true
    deep_block e k j =
        let q = in_block e k j in
        (elim q.0 as (λ m. lefts h e ≡ lefts h s ++ m → is_deep (depth_of h s) (keyed_as h e) ≡ true) [
          | [] ↦ (λ i. absurd (true≢false (sym k ∙ (λ z. chain_before true S (lefts h s) ((i ∙ append-nil (lefts h s)) z)) ∙ irrefl s)))
          | x ∷ xs ↦ (λ i.
              let c = len-append (lefts h s) (x ∷ xs) in
              let d : len (lefts h e) ≡ len (lefts h s ++ x ∷ xs) = ap len i in
              let n : depth_of h s < depth_of h e = omega arith in
              grind (arith, nat_tests))
        ]) q.1

    -- what is deeper than s after the block stands after another that is after the block
    pub next_block : (e : Identifier) → IsIn p h e → R y e ≡ true → is_deep (depth_of h s) (keyed_as h e) ≡ true → Between y e
    next_block e m k j =
        let le : lefts h s ≡ chain_above next_left h (left_at h s) ++ s ∷ [] = lefts-above h s w held_s in
        let n : ℕ = len (chain_above next_left h (left_at h s)) in
        let ls : len (lefts h s) ≡ suc n = ap len le ∙ more (chain_above next_left h (left_at h s)) s in
        let lt : depth_of h s < depth_of h e = grind (arith, nat_tests) in
        let c = cut n (lefts h e) (omega arith) in
        let z : Identifier = c.member in
        let lz : lefts h z ≡ c.front ++ z ∷ [] = lefts-prefix h e z c.front c.more w (IsIn-held p h e m) c.whole in
        let mz : IsIn p h z = All-contains (IsIn p h) (lefts h e) z (lefts-in p h e w m) (subst (λ t. Contains t z) (sym c.whole) (contains_middle c.front z c.more)) in
        let whole : lefts h e ≡ lefts h z ++ c.more = c.whole ∙ sym (append_assoc c.front (z ∷ []) c.more) ∙ ap (λ t. t ++ c.more) (sym lz) in
        let size : len (lefts h z) ≡ len (lefts h s) = ap len lz ∙ more c.front z ∙ ap suc c.size ∙ sym ls in
        let same : lefts h z ≡ lefts h s → ⊥ = λ i. no_turn e y (l.last e m (c.more, whole ∙ ap (λ t. t ++ c.more) i)) k in
        let ze : R z e ≡ true = (elim c.more as (λ o. lefts h e ≡ lefts h z ++ o → R z e ≡ true) [
          | [] ↦ (λ i.
              let a : len (lefts h e) ≡ len (lefts h z) = ap len (i ∙ append-nil (lefts h z)) in
              absurd (omega arith))
          | x ∷ xs ↦ (λ i. (λ q. chain_before true S (sym (append-nil (lefts h z)) q) (i q)) ∙ common true S (lefts h z) [] (x ∷ xs))
        ]) whole in
        let yz : R y z ≡ true = elim (parts_late true S (lefts h z) (lefts h y)) [
          | inl q ↦ absurd (same (common_prefix (lefts h z) (lefts h s) q.0 l.under.0 size (sym q.1 ∙ l.under.1)))
          | inr g ↦ sym (g c.more) ∙ ap (chain_before true S (lefts h y)) (sym whole) ∙ k
        ] in
        record { middle = z; member = order-has p h z mz; behind = yz; before = ze }

  -- q, and the first element of its block
  module _ (q y : Identifier) (mq : IsIn p h q) (f : IsFirstIn p h q y) where
    pub held_q : IsHeld h q
    held_q = IsIn-held p h q mq

    held_y : IsHeld h y
    held_y = IsIn-held p h y f.member

    -- the chain above q
    abbrev A : List Identifier
    A = chain_above next_left h (left_at h q)

    -- the chain of right origins of y goes on after that of q
    abbrev my : List Identifier
    my = f.under.0

    pub lq : lefts h q ≡ A ++ q ∷ []
    lq = lefts-above h q w held_q

    -- the depth of q
    pub depth_q : depth_of h q ≡ suc (len A)
    depth_q = ap len lq ∙ more A q

    -- what has the chain of q above it has the depth of q
    pub depth_like : (e : Identifier) → lefts h e ≡ A ++ e ∷ [] → depth_of h e ≡ depth_of h q
    depth_like e i = ap len i ∙ more A e ∙ sym depth_q

    -- the first is not after q
    pub to_q : To y q
    to_q = elim (f.first q q [] [] mq lq (sym (append-nil (rights h q)))) [ inl d ↦ inl (sym d) | inr k ↦ inr k ]

    -- the first is no deeper than q
    pub flat_y : is_deep (depth_of h q) (keyed_as h y) ≡ false
    flat_y = let d : depth_of h y ≡ depth_of h q = depth_like y f.same_left in grind (arith, nat_tests)

    -- what stands in the forest below q has a greater key
    over_forest : (e : Identifier) (m : List Identifier) → IsHeld h e → lefts h e ≡ A ++ e ∷ [] → rights h e ≡ rights h q ++ m → e ≢ q
        → key_lt (search_key_of h q) (search_key_of h e) ≡ true
    over_forest e [] k i j n = absurd (n (same_chain next_right h e q k held_q (j ∙ append-nil (rights h q))))
    over_forest e (x ∷ xs) k i j n =
        let d : depth_of h e ≡ depth_of h q = depth_like e i in
        let a = forest-rights h e k in
        let b = forest-rights h q held_q in
        let c = len-append (rights h q) (x ∷ xs) in
        let g : len (rights h e) ≡ len (rights h q ++ x ∷ xs) = ap len j in
        let lt : forest_of h q < forest_of h e = omega arith in
        grind (arith, nat_tests)

    -- what stands from the first on and before q is deeper than q, or stands in the forest below q
    pub in_forest : (e : Identifier) → IsIn p h e → To y e → R e q ≡ true
        → (depth_of h q < depth_of h e) ⊎ ((lefts h e ≡ A ++ e ∷ []) × Passes (rights h q) (rights h e))
    in_forest e m (inl d) j = inr (subst (λ z. lefts h z ≡ A ++ z ∷ []) d f.same_left, (my, ap (rights h) (sym d) ∙ f.under.1))
    in_forest e m (inr k) j =
        elim (parts true S A (lefts h e)) [
          | inr g ↦ absurd (loop e q j (ap (λ c. chain_before true S c (lefts h e)) lq ∙ g (q ∷ []) ∙ sym (g (y ∷ []))
              ∙ ap (λ c. chain_before true S c (lefts h e)) (sym f.same_left) ∙ k))
          | inl c ↦ (elim c.0 as (λ o. lefts h e ≡ A ++ o → (depth_of h q < depth_of h e) ⊎ ((lefts h e ≡ A ++ e ∷ []) × Passes (rights h q) (rights h e))) [
            | [] ↦ (λ i. absurd (false≢true (sym ((λ z. chain_before true S (f.same_left z) (i z)) ∙ common true S A (y ∷ []) []) ∙ k)))
            | u ∷ us ↦ (λ i. forest_by u us i)
          ]) c.1
        ]
      where
        forest_by : (u : Identifier) (us : List Identifier) → lefts h e ≡ A ++ u ∷ us
            → (depth_of h q < depth_of h e) ⊎ ((lefts h e ≡ A ++ e ∷ []) × Passes (rights h q) (rights h e))
        forest_by u [] i =
            let r = chain-ends next_left h e (IsIn-held p h e m) in
            let d : e ≡ u = (same_from_push r.0 A e u (sym r.1 ∙ i)).1 in
            let le : lefts h e ≡ A ++ e ∷ [] = i ∙ ap (λ z. A ++ z ∷ []) (sym d) in
            let ne : e ≢ q = λ c. true≢false (sym j ∙ ap (λ z. R z q) c ∙ irrefl q) in
            let ny : y ≢ e = λ c. true≢false (sym k ∙ ap (λ z. R z e) c ∙ irrefl e) in
            let sye : S y e ≡ true = sym ((λ z. chain_before true S (f.same_left z) (le z)) ∙ common true S A (y ∷ []) (e ∷ []) ∙ chain_before-fork true S y e [] [] ny) ∙ k in
            let seq : S e q ≡ true = sym ((λ z. chain_before true S (le z) (lq z)) ∙ common true S A (e ∷ []) (q ∷ []) ∙ chain_before-fork true S e q [] [] ne) ∙ j in
            elim (parts false F (rights h q) (rights h e)) [
              | inr g ↦
                  let sqe : S q e ≡ true =
                  ap (λ c. chain_before false F c (rights h e)) (sym (append-nil (rights h q))) ∙ g [] ∙ sym (g my)
                  ∙ ap (λ c. chain_before false F c (rights h e)) (sym f.under.1) ∙ sye in
                  absurd (true≢false (sym (sibling-trans (order p (older_of h)) h e q e seq sqe) ∙ sibling-irrefl (order p (older_of h)) h e))
              | inl c ↦ inr (le, c)
            ]
        forest_by u (x ∷ xs) i =
            let b = len-append A (u ∷ x ∷ xs) in
            let g : len (lefts h e) ≡ len (A ++ u ∷ x ∷ xs) = ap len i in
            let dq = depth_q in
            inl (omega arith)

    -- what stands from the first on and before q has a greater key
    pub over_block : (e : Identifier) → IsIn p h e → To y e → R e q ≡ true → key_lt (search_key_of h q) (search_key_of h e) ≡ true
    over_block e m k j =
        elim (in_forest e m k j) [
          | inl lt ↦ over_deep e lt
          | inr c ↦ over_forest e c.1.0 (IsIn-held p h e m) c.0 c.1.1 (λ i. true≢false (sym j ∙ ap (λ z. R z q) i ∙ irrefl q))
        ]
      where
        over_deep : (e : Identifier) → depth_of h q < depth_of h e → key_lt (search_key_of h q) (search_key_of h e) ≡ true
        over_deep e lt = grind (arith, nat_tests)

    -- the left origin of q is in the place
    left_in : (l : Identifier) → left_at h q ≡ Some l → IsIn p h l
    left_in l i =
        let there = subst (λ o. IsThere h (RightOf o)) i (left_there p h q w mq) in
        let r = chain-ends next_left h l there in
        All-contains (IsIn p h) (lefts h q) l (lefts-in p h q w mq)
        (subst (λ t. Contains t l) (sym (lq ∙ ap (λ o. chain_above next_left h o ++ q ∷ []) i ∙ ap (λ c. c ++ q ∷ []) r.1 ∙ append_assoc r.0 (l ∷ []) (q ∷ [])))
        (contains_middle r.0 l (q ∷ [])))

    -- what stands before the block and not after the left origin of q stands before that left origin
    below_left : (e : Identifier) → R e y ≡ true → ((zs : List Identifier) → chain_before true S (lefts h e) (A ++ zs) ≡ chain_before true S (lefts h e) A)
        → (o : Option Identifier) → left_at h q ≡ o → Lower (search_key_of h q) e y
    below_left e k g o i =
        let ea : chain_before true S (lefts h e) A ≡ true = sym (g (y ∷ [])) ∙ ap (chain_before true S (lefts h e)) (sym f.same_left) ∙ k in
        (elim o as (λ o. left_at h q ≡ o → Lower (search_key_of h q) e y) [
          | None ↦ (λ i. absurd (false≢true (sym (never_before (lefts h e)) ∙ ap (λ o. chain_before true S (lefts h e) (chain_above next_left h o)) (sym i) ∙ ea)))
          | Some l ↦ (λ i.
              let ml = left_in l i in
              let al : A ≡ lefts h l = ap (chain_above next_left h) i in
              let dl : depth_of h l ≡ len A = ap len (sym al) in
              let dq = depth_q in
              let lt : depth_of h l < depth_of h q = omega arith in
              record {
                middle = l;
                member = order-has p h l ml;
                behind = ap (chain_before true S (lefts h e)) (sym al) ∙ ea;
                before = (λ z. chain_before true S ((sym al ∙ sym (append-nil A)) z) (f.same_left z)) ∙ common true S A [] (y ∷ []);
                low = grind (arith, nat_tests);
              })
        ]) i
      where
        never_before : (c : List Identifier) → chain_before true S c [] ≡ false
        never_before [] = refl
        never_before (x ∷ xs) = refl

    -- an element with the left origin of q that stands before the block: the one of its chain of right origins that is as long as that of q
    beside_own : (e : Identifier) → IsIn p h e → R e y ≡ true → lefts h e ≡ A ++ e ∷ [] → forest_of h q < forest_of h e
        → Lower (search_key_of h q) e y
    beside_own e m k le lt =
        let he : IsHeld h e = IsIn-held p h e m in
        let n : ℕ = forest_of h q in
        let fq : suc n ≡ len (rights h q) = forest-rights h q held_q in
        let fe : suc (forest_of h e) ≡ len (rights h e) = forest-rights h e he in
        let c = cut n (rights h e) (omega arith) in
        let u : Identifier = c.member in
        let pre = rights-prefix h e u c.front c.more w he c.whole in
        let ru : rights h u ≡ c.front ++ u ∷ [] = pre.0 in
        let mu : IsIn p h u = All-contains (IsIn p h) (rights h e) u (rights-in p h e w m) (subst (λ t. Contains t u) (sym c.whole) (contains_middle c.front u c.more)) in
        let hu : IsHeld h u = IsIn-held p h u mu in
        let ae : chain_above next_left h (left_at h e) ≡ A = (same_from_push (chain_above next_left h (left_at h e)) A e e (sym (lefts-above h e w he) ∙ le)).0 in
        let lu : lefts h u ≡ A ++ u ∷ [] = lefts-above h u w hu ∙ ap (λ o. chain_above next_left h o ++ u ∷ []) pre.1 ∙ ap (λ a. a ++ u ∷ []) ae in
        let whole : rights h e ≡ rights h u ++ c.more = c.whole ∙ sym (append_assoc c.front (u ∷ []) c.more) ∙ ap (λ t. t ++ c.more) (sym ru) in
        let size : len (rights h u) ≡ len (rights h q) = ap len ru ∙ more c.front u ∙ ap suc c.size ∙ fq in
        let seu : S e u ≡ true = (elim c.more as (λ o. rights h e ≡ rights h u ++ o → S e u ≡ true) [
          | [] ↦ (λ i.
              let a : len (rights h e) ≡ len (rights h u) = ap len (i ∙ append-nil (rights h u)) in
              absurd (omega arith))
          | x ∷ xs ↦ (λ i. (λ z. chain_before false F (i z) (sym (append-nil (rights h u)) z)) ∙ common false F (rights h u) (x ∷ xs) [])
        ]) whole in
        let same : rights h u ≡ rights h q → ⊥ = λ i.
        no_turn y e (elim (f.first e e [] c.more m le (whole ∙ ap (λ t. t ++ c.more) i)) [ inl d ↦ inl (sym d) | inr d ↦ inr d ]) k in
        let ne : e ≢ y = λ d. true≢false (sym k ∙ ap (λ z. R z y) d ∙ irrefl y) in
        let sey : S e y ≡ true = sym ((λ z. chain_before true S (le z) (f.same_left z)) ∙ common true S A (e ∷ []) (y ∷ []) ∙ chain_before-fork true S e y [] [] ne) ∙ k in
        let suy : S u y ≡ true = elim (parts false F (rights h u) (rights h y)) [
          | inl r ↦ absurd (same (common_prefix (rights h u) (rights h q) r.0 my size (sym r.1 ∙ f.under.1)))
          | inr g ↦ ap (λ t. chain_before false F t (rights h y)) (sym (append-nil (rights h u))) ∙ g [] ∙ sym (g c.more)
              ∙ ap (λ t. chain_before false F t (rights h y)) (sym whole) ∙ sey
        ] in
        let neu : e ≢ u = λ d. true≢false (sym seu ∙ ap (λ z. S z u) d ∙ sibling-irrefl (order p (older_of h)) h u) in
        let nuy : u ≢ y = λ d. true≢false (sym suy ∙ ap (λ z. S z y) d ∙ sibling-irrefl (order p (older_of h)) h y) in
        let du : depth_of h u ≡ depth_of h q = depth_like u lu in
        let fu : suc (forest_of h u) ≡ len (rights h u) = forest-rights h u hu in
        let fs : forest_of h u ≡ forest_of h q = omega arith in
        record {
          middle = u;
          member = order-has p h u mu;
          behind = (λ z. chain_before true S (le z) (lu z)) ∙ common true S A (e ∷ []) (u ∷ []) ∙ chain_before-fork true S e u [] [] neu ∙ seu;
          before = (λ z. chain_before true S (lu z) (f.same_left z)) ∙ common true S A (u ∷ []) (y ∷ []) ∙ chain_before-fork true S u y [] [] nuy ∙ suy;
          low = grind (arith, nat_tests);
        }

    -- the same for what stands after the left origin of q
    beside : (e : Identifier) → IsIn p h e → R e y ≡ true → is_deep (depth_of h q) (keyed_as h e) ≡ false → key_lt (search_key_of h q) (search_key_of h e) ≡ true
        → (o : List Identifier) → lefts h e ≡ A ++ o → Lower (search_key_of h q) e y
    beside e m k j v [] i =
        let b : len (lefts h e) ≡ len A = ap len (i ∙ append-nil A) in
        let dq = depth_q in
        let lt : depth_of h e < depth_of h q = omega arith in
        absurd (grind (arith, nat_tests))
    beside e m k j v (u ∷ []) i =
        let r = chain-ends next_left h e (IsIn-held p h e m) in
        let d : e ≡ u = (same_from_push r.0 A e u (sym r.1 ∙ i)).1 in
        let lt : forest_of h q < forest_of h e = grind (arith, nat_tests) in
        beside_own e m k (i ∙ ap (λ z. A ++ z ∷ []) (sym d)) lt
    beside e m k j v (u ∷ x ∷ xs) i =
        let b = len-append A (u ∷ x ∷ xs) in
        let g : len (lefts h e) ≡ len (A ++ u ∷ x ∷ xs) = ap len i in
        let dq = depth_q in
        let lt : depth_of h q < depth_of h e = omega arith in
        absurd (grind (arith, nat_tests))

    -- what stands before the first is no deeper than q only where an element between them has no greater key
    pub lower_block : (e : Identifier) → IsIn p h e → R e y ≡ true → is_deep (depth_of h q) (keyed_as h e) ≡ false → key_lt (search_key_of h q) (search_key_of h e) ≡ true
        → Lower (search_key_of h q) e y
    lower_block e m k j o =
        elim (parts_late true S A (lefts h e)) [
          | inr g ↦ below_left e k g (left_at h q) refl
          | inl c ↦ beside e m k j o c.0 c.1
        ]
