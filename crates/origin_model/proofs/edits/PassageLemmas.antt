-- Subtrees stand together, what hangs on an element's left stands directly before it, ties go by identifier, and passages are never mixed.
use Rattle.origin_model.proofs.Words.{All, AllByRecursion, Bool, Contains, Identifier, IsIn, Lawful, List, Op, Passes, Place, Some, [], ap, append-nil, append_assoc}
use Rattle.origin_model.proofs.Words.{append_cancel_left, arith, before, before_in, cases_id, chain_before, false, fork_before, has_left, holder, id_lt, index_of_origin, inl, inr}
use Rattle.origin_model.proofs.Words.{left_at, left_of, lefts, next_left, next_right, older_of, order, precedes, refl, right_at, right_of, rights, sibling, subst, sym, true}
use Rattle.origin_model.proofs.Words.{true≢false, ℕ, ◌++◌, ◌∙◌, ◌∷◌, ◌≡◌, ◌≢◌}
use Rattle.std.proofs.lemmas.Bool.Decides.{nat_tests}
use Rattle.std.proofs.lemmas.List.Elements.{All-from_recursion}
use Rattle.origin_model.specs.sides.Slot.{slot_by}
use Rattle.origin_model.specs.edits.Passages.{BeforeRight, ByIdentifier, GoesBackward, GoesForward, IsOnLeft, IsPassage, NeverMixed, Together}
use Rattle.origin_model.proofs.order.{IsIn-held, before_in-irrefl, before_in-trans, chain_above, chain_before-fork, common, heads, left_at-is, lefts-above, lefts-prefix, parts}
use Rattle.origin_model.proofs.order.{rights-at, same_chain, sibling-irrefl, sibling-trans, turns}
use Rattle.origin_model.proofs.operations.LookupLemmas.{IsHeld, found, right_by}
use Rattle.origin_model.proofs.sides.SlotLemmas.{left_there, over, slot-yes, slot_by-over, under_left}
use Rattle.origin_model.proofs.edits.LandsBehindLemmas.{has_left_from, cut_member}

-- the comparison of two elements, by the order before the newest operation
before-is : (p : Place) (h : List Op) (x y : Identifier) → before p h x y ≡ before_in (order p (older_of h)) h x y
unfolding before
before-is p h x y = refl

-- what stands between an element and one whose chain passes it has a chain that passes it
between : (o : List Identifier) (h : List Op) (x a b : Identifier) → ((u v : Identifier) → before_in o h u v ≡ true → before_in o h v u ≡ true → ⊥)
    → before_in o h x a ≡ true → before_in o h a b ≡ true → Passes (lefts h x) (lefts h b) → Passes (lefts h x) (lefts h a)
between o h x a b loop p q r =
    elim (parts true (sibling o h) (lefts h x) (lefts h a)) [
      | inl k ↦ k
      | inr e ↦ absurd (loop b a (ap (λ c. chain_before true (sibling o h) c (lefts h a)) r.1 ∙ e r.0 ∙ p) q)
    ]

-- for one history
module _ (p : Place) (h : List Op) (w : Lawful h) where
  -- the comparison at a fork of right origins
  abbrev F : Identifier → Identifier → Bool
  F = fork_before (order p (older_of h)) h

  -- the comparison of siblings
  abbrev S : Identifier → Identifier → Bool
  S = sibling (order p (older_of h)) h

  -- the comparison of elements
  abbrev B : Identifier → Identifier → Bool
  B = before_in (order p (older_of h)) h

  -- no two elements stand before each other
  no_loop : (a b : Identifier) → B a b ≡ true → B b a ≡ true → ⊥
  no_loop a b k j = true≢false (sym (before_in-trans (order p (older_of h)) h a b a k j) ∙ before_in-irrefl (order p (older_of h)) h a)

  -- nor do two siblings
  no_loop_S : (a b : Identifier) → S a b ≡ true → S b a ≡ true → ⊥
  no_loop_S a b k j = true≢false (sym (sibling-trans (order p (older_of h)) h a b a k j) ∙ sibling-irrefl (order p (older_of h)) h a)

  -- what the comparison gives
  is : (a b : Identifier) (v : Bool) → B a b ≡ v → before p h a b ≡ v
  is a b v e = before-is p h a b ∙ e

  -- and the other way round
  si : (a b : Identifier) (v : Bool) → before p h a b ≡ v → B a b ≡ v
  si a b v e = sym (before-is p h a b) ∙ e

  -- the right origin of a held element
  right_at-is : (x : Identifier) (o : Op) → holder h x ≡ Some o → right_at h x ≡ right_of o
  right_at-is x o e = ap right_by e

  -- the chain of right origins above x
  abbrev O : Identifier → List Identifier
  O x = over h (slot_by h (left_at h x) (right_at h x))

  -- the chain of right origins is the one above, with the element at its end
  rights_over : (x : Identifier) → IsHeld h x → rights h x ≡ O x ++ x ∷ []
  rights_over x k =
      let o = found (holder h x) k in
      rights-at h x o.0 w o.1 ∙ slot_by-over h x (left_of o.0) (right_of o.0)
      ∙ (λ i. over h (slot_by h (sym (left_at-is h x o.0 o.1) i) (sym (right_at-is x o.0 o.1) i)) ++ x ∷ [])

  -- with equal right origins the identifiers decide
  fork_same : (n : ℕ) (x y : Identifier) → precedes n n x y ≡ id_lt x y
  fork_same n x y = grind (arith, nat_tests)

  -- so it is at a fork
  fork_by_id : (x y : Identifier) → right_at h x ≡ right_at h y → F x y ≡ id_lt x y
  fork_by_id x y e =
      (λ i. precedes (index_of_origin (order p (older_of h)) (e i)) (index_of_origin (order p (older_of h)) (right_at h y)) x y)
      ∙ fork_same (index_of_origin (order p (older_of h)) (right_at h y)) x y

  -- e stands at or below u, whose chain of right origins goes through x, which has the same left origin
  record IsFrom (x e : Identifier) : Type 0 where
    top : Identifier
    more : List Identifier
    ms : List Identifier
    lefts_e : lefts h e ≡ chain_above next_left h (left_at h x) ++ top ∷ more
    rights_top : rights h top ≡ O x ++ x ∷ ms

  -- an element stands so itself
  from_self : (x : Identifier) → IsIn p h x → IsFrom x x
  from_self x m = record { top = x; more = []; ms = []; lefts_e = lefts-above h x w (IsIn-held p h x m); rights_top = rights_over x (IsIn-held p h x m) }

  -- so do the elements of a forward passage
  forward : (x y : Identifier) (ys : List Identifier) → IsFrom x y → GoesForward p h y ys → AllByRecursion (IsFrom x) ys
  forward x y [] f g = tt
  forward x y (z ∷ zs) f g =
      let lz : lefts h z ≡ lefts h y ++ z ∷ [] = lefts-above h z w (IsIn-held p h z g.0) ∙ ap (λ l. chain_above next_left h l ++ z ∷ []) g.1 in
      let fz : IsFrom x z = record {
        top = f.top;
        more = f.more ++ z ∷ [];
        ms = f.ms;
        lefts_e = lz ∙ ap (λ a. a ++ z ∷ []) f.lefts_e ∙ append_assoc (chain_above next_left h (left_at h x)) (f.top ∷ f.more) (z ∷ []);
        rights_top = f.rights_top;
      } in
      (fz, forward x z zs fz g.2)

  -- a right origin with the same left origin is passed
  rights_through : (y z : Identifier) → IsIn p h y → IsIn p h z → left_at h z ≡ left_at h y → right_at h z ≡ Some y → rights h z ≡ rights h y ++ z ∷ []
  rights_through y z m n e f =
      let k : has_left h y (left_at h z) ≡ true = has_left_from (holder h y) (left_at h z) (IsIn-held p h y m) (sym e) in
      rights_over z (IsIn-held p h z n) ∙ ap (λ r. over h (slot_by h (left_at h z) r) ++ z ∷ []) f ∙ ap (λ s. over h s ++ z ∷ []) (slot-yes h (left_at h z) y k)

  -- and those of a backward passage
  backward : (x y : Identifier) (ys : List Identifier) (my : List Identifier) → IsIn p h y → left_at h y ≡ left_at h x → rights h y ≡ O x ++ x ∷ my → GoesBackward p h y ys
      → AllByRecursion (IsFrom x) ys
  backward x y [] my m e r g = tt
  backward x y (z ∷ zs) my m e r g =
      let lz : left_at h z ≡ left_at h x = g.1 ∙ e in
      let rz : rights h z ≡ O x ++ x ∷ (my ++ z ∷ []) = rights_through y z m g.0 g.1 g.2 ∙ ap (λ a. a ++ z ∷ []) r ∙ append_assoc (O x) (x ∷ my) (z ∷ []) in (
        record {
          top = z;
          more = [];
          ms = my ++ z ∷ [];
          lefts_e = lefts-above h z w (IsIn-held p h z g.0) ∙ ap (λ l. chain_above next_left h l ++ z ∷ []) lz;
          rights_top = rz;
        },
        backward x z zs (my ++ z ∷ []) g.0 lz rz g.3,
      )

  -- so all of a passage do
  passage : (x : Identifier) (xs : List Identifier) → IsIn p h x → IsPassage p h x xs → AllByRecursion (IsFrom x) (x ∷ xs)
  passage x xs m (inl g) = (from_self x m, forward x x xs (from_self x m) g)
  passage x xs m (inr g) = (from_self x m, backward x x xs [] m refl (rights_over x (IsIn-held p h x m)) g)

  -- elements from two elements with the same origins compare as these
  from_apart : (x y e f : Identifier) → x ≢ y → left_at h x ≡ left_at h y → right_at h x ≡ right_at h y → IsFrom x e → IsFrom y f → B e f ≡ id_lt x y
  from_apart x y e f n l r a b =
      let oy : O y ≡ O x = λ i. over h (slot_by h (sym l i) (sym r i)) in
      let lf : lefts h f ≡ chain_above next_left h (left_at h x) ++ b.top ∷ b.more = b.lefts_e ∙ ap (λ z. chain_above next_left h z ++ b.top ∷ b.more) (sym l) in
      let rf : rights h b.top ≡ O x ++ y ∷ b.ms = b.rights_top ∙ ap (λ z. z ++ y ∷ b.ms) oy in
      let d : a.top ≢ b.top = λ i. n (heads x y a.ms b.ms (append_cancel_left (O x) (x ∷ a.ms) (y ∷ b.ms) (sym a.rights_top ∙ ap (rights h) i ∙ rf))) in
      (λ i. chain_before true S (a.lefts_e i) (lf i)) ∙ common true S (chain_above next_left h (left_at h x)) (a.top ∷ a.more) (b.top ∷ b.more)
      ∙ chain_before-fork true S a.top b.top a.more b.more d
      ∙ (λ i. chain_before false F (a.rights_top i) (rf i)) ∙ common false F (O x) (x ∷ a.ms) (y ∷ b.ms) ∙ chain_before-fork false F x y a.ms b.ms n
      ∙ fork_by_id x y r

  -- for each of a list
  each_apart : (x y e : Identifier) (fs : List Identifier) → x ≢ y → left_at h x ≡ left_at h y → right_at h x ≡ right_at h y → IsFrom x e → AllByRecursion (IsFrom y) fs
      → AllByRecursion (λ f. before p h e f ≡ id_lt x y) fs
  each_apart x y e [] n l r a b = tt
  each_apart x y e (f ∷ fs) n l r a b = (is e f (id_lt x y) (from_apart x y e f n l r a b.0), each_apart x y e fs n l r a b.1)

  -- for each pair
  all_apart : (x y : Identifier) (es fs : List Identifier) → x ≢ y → left_at h x ≡ left_at h y → right_at h x ≡ right_at h y → AllByRecursion (IsFrom x) es
      → AllByRecursion (IsFrom y) fs → AllByRecursion (λ e. AllByRecursion (λ f. before p h e f ≡ id_lt x y) fs) es
  all_apart x y [] fs n l r a b = tt
  all_apart x y (e ∷ es) fs n l r a b = (each_apart x y e fs n l r a.0 b, all_apart x y es fs n l r a.1 b)

  -- an element stands before all whose chains pass it
  first_together : (x e : Identifier) → IsIn p h x → IsIn p h e → e ≢ x → Passes (lefts h x) (lefts h e) → B x e ≡ true
  first_together x e m k n q =
      (elim q.0 as (λ more. lefts h e ≡ lefts h x ++ more → B x e ≡ true) [
        | [] ↦ (λ j. absurd (n (same_chain next_left h e x (IsIn-held p h e k) (IsIn-held p h x m) (j ∙ append-nil (lefts h x)))))
        | u ∷ ms ↦ (λ j. (λ i. chain_before true S (sym (append-nil (lefts h x)) i) (j i)) ∙ common true S (lefts h x) [] (u ∷ ms))
      ]) q.1

  -- a sibling whose chain of right origins passes r stands before r
  top_before : (r u : Identifier) → IsIn p h r → IsIn p h u → u ≢ r → Passes (rights h r) (rights h u) → S u r ≡ true
  top_before r u m k n q =
      (elim q.0 as (λ ms. rights h u ≡ rights h r ++ ms → S u r ≡ true) [
        | [] ↦ (λ j. absurd (n (same_chain next_right h u r (IsIn-held p h u k) (IsIn-held p h r m) (j ∙ append-nil (rights h r)))))
        | v ∷ ms ↦ (λ j. (λ i. chain_before false F (j i) (sym (append-nil (rights h r)) i)) ∙ common false F (rights h r) (v ∷ ms) [])
      ]) q.1

  -- what is on the left of r stands before r
  last_before : (r e : Identifier) → IsIn p h r → IsOnLeft p h r e → B e r ≡ true
  last_before r e m g =
      let hr : IsHeld h r = IsIn-held p h r m in
      let lr : lefts h r ≡ chain_above next_left h (left_at h r) ++ r ∷ [] = lefts-above h r w hr in
      let lt : lefts h g.top ≡ chain_above next_left h (left_at h r) ++ g.top ∷ [] =
      lefts-above h g.top w (IsIn-held p h g.top g.member) ∙ ap (λ l. chain_above next_left h l ++ g.top ∷ []) g.same_left in
      let le : lefts h e ≡ chain_above next_left h (left_at h r) ++ g.top ∷ g.below.0 =
      g.below.1 ∙ ap (λ a. a ++ g.below.0) lt ∙ append_assoc (chain_above next_left h (left_at h r)) (g.top ∷ []) g.below.0 in
      (λ i. chain_before true S (le i) (lr i)) ∙ common true S (chain_above next_left h (left_at h r)) (g.top ∷ g.below.0) (r ∷ [])
      ∙ chain_before-fork true S g.top r g.below.0 [] g.other
      ∙ top_before r g.top m g.member g.other g.through

  -- no element before r has a chain that passes r
  passed_before : (r z : Identifier) → IsIn p h r → IsIn p h z → B z r ≡ true → Contains (lefts h z) r → ⊥
  passed_before r z m n k i =
      let s = cut_member (lefts h z) r i.0 i.1 i.2 in
      let lr : lefts h r ≡ s.0 ++ r ∷ [] = lefts-prefix h z r s.0 s.1 w (IsIn-held p h z n) s.2 in
      elim (cases_id z r) [
        | inl d ↦ true≢false (sym k ∙ ap (λ a. B a r) d ∙ before_in-irrefl (order p (older_of h)) h r)
        | inr d ↦ no_loop z r k (first_together r z m n d (s.1, s.2 ∙ sym (append_assoc s.0 (r ∷ []) s.1) ∙ ap (λ a. a ++ s.1) (sym lr)))
      ]

  -- what stands between such an element and r is one, too
  gap_before : (r e z : Identifier) → IsIn p h r → IsIn p h e → IsIn p h z → IsOnLeft p h r e → B e z ≡ true → B z r ≡ true → IsOnLeft p h r z
  gap_before r e z m me mz g k j =
      let A : List Identifier = chain_above next_left h (left_at h r) in
      let lr : lefts h r ≡ A ++ r ∷ [] = lefts-above h r w (IsIn-held p h r m) in
      let lt : lefts h g.top ≡ A ++ g.top ∷ [] = lefts-above h g.top w (IsIn-held p h g.top g.member) ∙ ap (λ l. chain_above next_left h l ++ g.top ∷ []) g.same_left in
      let le : lefts h e ≡ A ++ g.top ∷ g.below.0 = g.below.1 ∙ ap (λ a. a ++ g.below.0) lt ∙ append_assoc A (g.top ∷ []) g.below.0 in
      elim (turns S (lefts h z) A r (ap (chain_before true S (lefts h z)) (sym lr) ∙ j) (passed_before r z m mz j)) [
        | inl t ↦ absurd (no_loop e z k (ap (chain_before true S (lefts h z)) le ∙ t g.top g.below.0))
        | inr t ↦
            let u : Identifier = t.0 in
            let b = under_left p h (left_at h r) z u t.1 w (left_there p h r w m) mz t.2 in
            let below : Passes (lefts h u) (lefts h z) = (t.1, t.2 ∙ sym (append_assoc A (u ∷ []) t.1) ∙ ap (λ a. a ++ t.1) (sym b.lefts_u)) in
            elim (parts false F (rights h r) (rights h u)) [
              | inl q ↦ record {
                top = u;
                member = b.member;
                other = λ d. true≢false (sym t.3 ∙ ap (λ a. S a r) d ∙ sibling-irrefl (order p (older_of h)) h r);
                same_left = b.left_u;
                through = q;
                below = below;
              }
              | inr q ↦ elim (cases_id g.top u) [
                | inl d ↦ record {
                  top = g.top;
                  member = g.member;
                  other = g.other;
                  same_left = g.same_left;
                  through = g.through;
                  below = subst (λ a. Passes (lefts h a) (lefts h z)) (sym d) below;
                }
                | inr d ↦ absurd (no_loop_S r u
                    (sym (q g.through.0) ∙ ap (λ a. chain_before false F a (rights h u)) (sym g.through.1)
                    ∙ sym ((λ i. chain_before true S (le i) (t.2 i)) ∙ common true S A (g.top ∷ g.below.0) (u ∷ t.1) ∙ chain_before-fork true S g.top u g.below.0 t.1 d) ∙ k)
                    t.3)
              ]
            ]
      ]

-- subtrees stand together
pub together : Together
together p h x w m =
    record {
      first = λ e n d q. is p h w x e true (first_together p h w x e m n d q);
      no_gap = λ z e n k q a b. between (order p (older_of h)) h x z e (no_loop p h w) (si p h w x z true a) (si p h w z e true b) q;
    }

-- what hangs on the left of an element stands directly before it
pub before_right : BeforeRight
before_right p h r w m =
    record {
      last = λ e n g. is p h w e r true (last_before p h w r e m g);
      no_gap = λ e z n k g a b. gap_before p h w r e z m n k g (si p h w e z true a) (si p h w z r true b);
    }

-- elements with the same origins stand by identifier
pub by_identifier : ByIdentifier
by_identifier p h x y w t = is p h w x y (id_lt x y) (from_apart p h w x y x y t.apart t.same_left t.same_right (from_self p h w x t.first) (from_self p h w y t.second))

-- what holds of each pair, by std's word
all_pairs : (f : Identifier → Identifier → Type 0) (es fs : List Identifier) → AllByRecursion (λ e. AllByRecursion (λ g. f e g) fs) es
    → AllByRecursion (λ e. All (λ g. f e g) fs) es
all_pairs f [] fs a = tt
all_pairs f (e ∷ es) fs a = (All-from_recursion (λ g. f e g) fs a.0, all_pairs f es fs a.1)

-- passages are never mixed
pub never_mixed : NeverMixed
never_mixed p h x y xs ys w t a b =
    All-from_recursion (λ e. All (λ f. before p h e f ≡ id_lt x y) (y ∷ ys)) (x ∷ xs)
    (all_pairs (λ e f. before p h e f ≡ id_lt x y) (x ∷ xs) (y ∷ ys)
    (all_apart p h w x y (x ∷ xs) (y ∷ ys) t.apart t.same_left t.same_right (passage p h w x xs t.first a) (passage p h w y ys t.second b)))
