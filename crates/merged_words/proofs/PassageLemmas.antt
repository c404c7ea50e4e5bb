-- Where passages stand that were put in one go, in a history that has operations of others.
use Rattle.std.proofs.Common.{Bool, List, [], ap, append_assoc, false, inl, inr, not, refl, subst, sym, true, ◌++◌, ◌∙◌, ◌∷◌, ◌≡◌, ◌≢◌, ◌⊎◌}
use Rattle.std.specs.Prelude.{Some, if◌then◌else◌}
use Rattle.std.specs.List.{All, AllPairs, Contains}
use Rattle.std.proofs.lemmas.Bool.{cases_Bool, false≢true, true≢false}
use Rattle.std.proofs.lemmas.List.Elements.{All-contains, Contains-append_cases, Contains-append_left, Contains-append_right}
use Rattle.fugue_ids.specs.Identifiers.{Identifier}
use Rattle.fugue_ids.specs.Listed.{last_before}
use Rattle.fugue_ids.specs.declared.op.Op.{Op}
use Rattle.fugue_ids.proofs.IdentifierLemmas.{not_some}
use Rattle.fugue_ids.proofs.ListLemmas.{all_from_contains, all_pairs_across, all_pairs_append, all_pairs_before, all_pairs_after, all_pairs_head, all_pairs_tail, contains_cases}
use Rattle.fugue_ids.proofs.ListLemmas.{contains_here, contains_middle_cases, contains_none, contains_there}
use Rattle.origin_model.specs.declared.operations.Place.{Place}
use Rattle.origin_model.specs.edits.Passages.{GoesForward, Relation}
use Rattle.origin_model.specs.operations.History.{holds}
use Rattle.origin_model.specs.operations.Verdict.{Lawful}
use Rattle.origin_model.specs.order.Laws.{IsIn, IsPartOf}
use Rattle.origin_model.specs.order.Order.{Passes, before, left_at, lefts, next_left, order}
use Rattle.origin_model.proofs.SharedLemmas.{IsIn-held, Ordered-agree, Within-part, chain_above, lefts-above, lefts-in, lefts-within, order_total, parts_keep_order}
use Rattle.origin_model.proofs.edits.PassageLemmas.{together}
use Rattle.merged_words.specs.Drafts.{IsDirectlyAfter}
use Rattle.merged_words.proofs.ListLemmas.{StandsAt}
use Rattle.origin_model.proofs.edits.SplitLemmas.{end_in}

-- it is a given member, or stands after it
abbrev pub IsAtEnd : Relation → List Identifier → Identifier → Type 0
IsAtEnd R xs z = (l : Identifier) × (last_before xs ≡ Some l) × ((z ≡ l) ⊎ (R z l ≡ true))

pub at_end : (R : Relation) (xs : List Identifier) (z : Identifier) → AllPairs (λ x y. R x y ≡ true) xs → Contains xs z → IsAtEnd R xs z
at_end R [] z o m = absurd (contains_none z m)
at_end R (x ∷ []) z o m = elim (contains_cases x [] z m) [ inl e ↦ (x, refl, inl (sym e)) | inr k ↦ absurd (contains_none z k) ]
at_end R (x ∷ y ∷ xs) z o m =
    let T : Identifier → Identifier → Type 0 = λ a b. R a b ≡ true in
    let rest = all_pairs_tail T x (y ∷ xs) o in
    elim (contains_cases x (y ∷ xs) z m) [
      | inl e ↦
          let k = at_end R (y ∷ xs) y rest (contains_here y xs) in
          let before_it : R x k.0 ≡ true = All-contains (T x) (y ∷ xs) k.0 (all_pairs_head T x (y ∷ xs) o) (end_in (y ∷ xs) k.0 k.1) in
          (k.0, k.1, inr (subst (λ q. R q k.0 ≡ true) e before_it))
      | inr n ↦ at_end R (y ∷ xs) z rest n
    ]

-- an element of a part is one of the whole
pub in_whole : (p : Place) (part whole : List Op) → Lawful whole → IsPartOf part whole → (x : Identifier) → IsIn p part x → IsIn p whole x
in_whole p part whole w f x m = record { op = m.op; held = Within-part part whole w f x m.op m.held; place = m.place }

-- a chain of left origins that passes an element has it as a member
passed_member : (h : List Op) (x e : Identifier) → Lawful h → holds h x ≡ true → Passes (lefts h x) (lefts h e) → Contains (lefts h e) x
passed_member h x e w k q =
    let front : List Identifier = chain_above next_left h (left_at h x) in
    subst (λ l. Contains l x) (sym (q.1 ∙ ap (λ l. l ++ q.0) (lefts-above h x w k)))
    (Contains-append_left (front ++ x ∷ []) q.0 x (Contains-append_right front (x ∷ []) x (contains_here x [])))

-- the chain of left origins of each member of a forward passage passes its first element
passage_passes : (p : Place) (h : List Op) (x : Identifier) (xs : List Identifier) → Lawful h → GoesForward p h x xs → (e : Identifier) → Contains xs e
    → Passes (lefts h x) (lefts h e)
passage_passes p h x [] w g e m = absurd (contains_none e m)
passage_passes p h x (y ∷ ys) w g e m =
    let one : lefts h y ≡ lefts h x ++ y ∷ [] = lefts-above h y w (IsIn-held p h y g.0) ∙ ap (λ o. chain_above next_left h o ++ y ∷ []) g.1 in
    elim (contains_cases y ys e m) [
      | inl d ↦ subst (λ q. Passes (lefts h x) (lefts h q)) d (y ∷ [], one)
      | inr k ↦
          let more = passage_passes p h y ys w g.2 e k in
          (y ∷ more.0, more.1 ∙ ap (λ l. l ++ more.0) one ∙ append_assoc (lefts h x) (y ∷ []) more.0)
    ]

-- in a history that has another one as a part
module _ (p : Place) (whole : List Op) (w : Lawful whole) where
  abbrev R : Relation
  R = before p whole

  abbrev T : Identifier → Identifier → Type 0
  T x y = before p whole x y ≡ true

  -- of two elements one stands first
  pub turned : (x y : Identifier) → IsIn p whole x → IsIn p whole y → x ≢ y → R x y ≡ false → R y x ≡ true
  turned x y m n d e = (order_total p whole w).one_first y x n m (λ i. d (sym i)) ∙ ap not e

  -- and the other does not
  pub no_loop : (x y : Identifier) → R x y ≡ true → R y x ≡ true → ⊥
  no_loop x y a b = true≢false (sym ((order_total p whole w).transitive x y x a b) ∙ (order_total p whole w).irreflexive x)

  -- the elements of a part, in their order
  pub part_ordered : (part : List Op) → Lawful part → IsPartOf part whole → AllPairs T (order p part)
  part_ordered part v f =
      let t = order_total p part v in
      Ordered-agree (before p part) R (IsIn p part) (parts_keep_order p part whole v w f).same_before (order p part)
      (all_from_contains (IsIn p part) (order p part) (λ x m. (t.lists x).1 m)) t.agrees

  -- what a part holds hangs on nothing that it lacks
  pub foreign : (part : List Op) → Lawful part → IsPartOf part whole → (x e : Identifier) → holds whole x ≡ true → IsIn p part e → (holds part x ≡ true → ⊥)
      → Passes (lefts whole x) (lefts whole e) → ⊥
  foreign part v f x e k m n q =
      let same : lefts part e ≡ lefts whole e = lefts-within part whole e v w (Within-part part whole w f) (IsIn-held p part e m) in
      n (IsIn-held p part x (All-contains (IsIn p part) (lefts part e) x (lefts-in p part e v m) (subst (λ l. Contains l x) (sym same) (passed_member whole x e w k q))))

  -- what one author puts in one go
  module _ (own : List Op) (v : Lawful own) (f : IsPartOf own whole) (x : Identifier) (xs : List Identifier)
      (each : (e : Identifier) → Contains (x ∷ xs) e → IsIn p own e) (ordered : AllPairs T (x ∷ xs)) (g : GoesForward p own x xs) where
    -- it is of the whole
    pub here : (e : Identifier) → Contains (x ∷ xs) e → IsIn p whole e
    here e m = in_whole p own whole w f e (each e m)

    first_here : IsIn p whole x
    first_here = here x (contains_here x xs)

    -- what stands after the first and hangs on nothing of it stands after all
    pub all_before : (e : Identifier) → IsIn p whole e → (Contains (x ∷ xs) e → ⊥) → (Passes (lefts whole x) (lefts whole e) → ⊥) → R x e ≡ true → (z : Identifier)
        → Contains (x ∷ xs) z → R z e ≡ true
    all_before e m other n a z k =
        elim (contains_cases x xs z k) [
          | inl d ↦ subst (λ q. R q e ≡ true) d a
          | inr j ↦
              let same : (q : Identifier) → Contains (x ∷ xs) q
              → lefts own q ≡ lefts whole q = λ q t. lefts-within own whole q v w (Within-part own whole w f) (IsIn-held p own q (each q t)) in
              let pass : Passes (lefts whole x) (lefts whole z) =
              subst (λ l. Passes l (lefts whole z)) (same x (contains_here x xs)) (subst (Passes (lefts own x)) (same z k) (passage_passes p own x xs v g z j)) in
              elim (cases_Bool (R e z)) [
                | inl b ↦ absurd (n ((together p whole x w first_here).no_gap e z m (here z k) pass a b))
                | inr b ↦ turned e z m (here z k) (λ d. other (subst (Contains (x ∷ xs)) (sym d) k)) b
              ]
        ]

    -- what stands before the first stands before all
    pub before_all : (e : Identifier) → R e x ≡ true → (z : Identifier) → Contains (x ∷ xs) z → R e z ≡ true
    before_all e a z k =
        elim (contains_cases x xs z k) [
          | inl d ↦ subst (λ q. R e q ≡ true) d a
          | inr j ↦ (order_total p whole w).transitive e x z a (All-contains (T x) xs z (all_pairs_head T x xs ordered) j)
        ]

    -- it stands after what is in front of it in the base, and before all others of the base
    pub stands : (base : List Op) (u : Lawful base) (b : IsPartOf base own) (c : IsPartOf base whole) (front back : List Identifier) → AllPairs T (front ++ back)
        → ((e : Identifier) → Contains (front ++ back) e → IsIn p base e) → ((e : Identifier) → Contains (x ∷ xs) e → holds base e ≡ false)
        → IsDirectlyAfter p own (last_before front) x → (z : Identifier) → Contains (x ∷ xs) z → StandsAt R front back z
    stands base u b c front back sorted old fresh d z k = (
      λ e m. before_all e (in_front e m) z k,
      λ e m. all_before e (in_whole p base whole w c e (of_back e m)) (λ n. false≢true (sym (fresh e n) ∙ IsIn-held p base e (of_back e m)))
          (foreign base u c x e (IsIn-held p whole x first_here) (of_back e m) (λ i. false≢true (sym (fresh x (contains_here x xs)) ∙ i))) (behind e m) z k,
    )
      where
        own_ordered : AllPairs T (d.0 ++ x ∷ d.1)
        own_ordered = subst (AllPairs T) d.2 (part_ordered own v f)

        of_front : (e : Identifier) → Contains front e → IsIn p base e
        of_front e m = old e (Contains-append_left front back e m)

        of_back : (e : Identifier) → Contains back e → IsIn p base e
        of_back e m = old e (Contains-append_right front back e m)

        across : (xs ys : List Identifier) → AllPairs T (xs ++ ys) → (s t : Identifier) → Contains xs s → Contains ys t → R s t ≡ true
        across xs ys o s t m n = All-contains (T s) ys t (All-contains (λ a. All (T a) ys) xs s (all_pairs_across T xs ys o) m) n

        in_front : (e : Identifier) → Contains front e → R e x ≡ true
        in_front e m =
            let l = at_end R front e (all_pairs_before T front back sorted) m in
            let before_it : R l.0 x ≡ true = across d.0 (x ∷ d.1) own_ordered l.0 x (end_in d.0 l.0 (d.3 ∙ l.1)) (contains_here x d.1) in
            elim l.2 [ inl i ↦ subst (λ q. R q x ≡ true) (sym i) before_it | inr i ↦ (order_total p whole w).transitive e l.0 x i before_it ]

        behind : (e : Identifier) → Contains back e → R x e ≡ true
        behind e m =
            let listed : Contains (d.0 ++ x ∷ d.1) e = subst (λ l. Contains l e) d.2 (((order_total p own v).lists e).0 (in_whole p base own v b e (of_back e m))) in
            elim (contains_middle_cases d.0 x d.1 e listed) [
              | inl i ↦ absurd (false≢true (sym (fresh e (subst (Contains (x ∷ xs)) i (contains_here x xs))) ∙ IsIn-held p base e (of_back e m)))
              | inr i ↦ elim (Contains-append_cases d.0 d.1 e i) [
                | inl j ↦
                    let l = at_end R d.0 e (all_pairs_before T d.0 (x ∷ d.1) own_ordered) j in
                    let turn : R l.0 e ≡ true = across front back sorted l.0 e (end_in front l.0 (sym d.3 ∙ l.1)) m in
                    absurd (elim l.2 [ inl q ↦ true≢false (sym turn ∙ ap (R l.0) q ∙ (order_total p whole w).irreflexive l.0) | inr q ↦ no_loop l.0 e turn q ])
                | inr j ↦ All-contains (T x) d.1 e (all_pairs_head T x d.1 (all_pairs_after T d.0 (x ∷ d.1) own_ordered)) j
              ]
            ]

-- which of two passages goes first
abbrev pub goes_first : Relation → (xs ys : List Identifier) → Bool
goes_first R [] ys = true
goes_first R (x ∷ xs) [] = true
goes_first R (x ∷ xs) (y ∷ ys) = R x y

-- both, one after the other
abbrev pub both : Relation → (xs ys : List Identifier) → List Identifier
both R xs ys = if goes_first R xs ys then xs ++ ys else ys ++ xs

-- the members of both
pub both_from : (R : Relation) (xs ys : List Identifier) (z : Identifier) → Contains (both R xs ys) z → Contains xs z ⊎ Contains ys z
both_from R xs ys z m = by_test (goes_first R xs ys) m
  where
    by_test : (b : Bool) → Contains (if b then xs ++ ys else ys ++ xs) z → Contains xs z ⊎ Contains ys z
    by_test true k = Contains-append_cases xs ys z k
    by_test false k = elim (Contains-append_cases ys xs z k) [ inl j ↦ inr j | inr j ↦ inl j ]

pub both_first : (R : Relation) (xs ys : List Identifier) (z : Identifier) → Contains xs z → Contains (both R xs ys) z
both_first R xs ys z m = by_test (goes_first R xs ys)
  where
    by_test : (b : Bool) → Contains (if b then xs ++ ys else ys ++ xs) z
    by_test true = Contains-append_left xs ys z m
    by_test false = Contains-append_right ys xs z m

pub both_second : (R : Relation) (xs ys : List Identifier) (z : Identifier) → Contains ys z → Contains (both R xs ys) z
both_second R xs ys z m = by_test (goes_first R xs ys)
  where
    by_test : (b : Bool) → Contains (if b then xs ++ ys else ys ++ xs) z
    by_test true = Contains-append_right xs ys z m
    by_test false = Contains-append_left ys xs z m

-- each has the one before as left origin
abbrev pub IsForward : Place → List Op → List Identifier → Type 0
IsForward p h [] = Unit {0}
IsForward p h (x ∷ xs) = GoesForward p h x xs

-- one author's passage, of which the other one holds nothing
pub record IsOwn (p : Place) (whole own other : List Op) (xs : List Identifier) : Type 0 where
  pub lawful : Lawful own
  pub part : IsPartOf own whole
  pub each : (e : Identifier) → Contains xs e → IsIn p own e
  pub ordered : AllPairs (λ x y. before p whole x y ≡ true) xs
  pub forward : IsForward p own xs
  pub apart : (e : Identifier) → Contains xs e → holds other e ≡ true → ⊥

-- passages of two authors are not mixed
module _ (p : Place) (whole : List Op) (w : Lawful whole) where
  -- where the first of one goes first, all of it stands before all of the other
  stand_apart : (a b : List Op) (x y : Identifier) (xs ys : List Identifier) → IsOwn p whole a b (x ∷ xs) → IsOwn p whole b a (y ∷ ys) → before p whole x y ≡ true
      → (z t : Identifier) → Contains (x ∷ xs) z → Contains (y ∷ ys) t → before p whole z t ≡ true
  stand_apart a b x y xs ys m n k z t i j =
      let there : IsIn p b y = n.each y (contains_here y ys) in
      let first : before p whole z y ≡ true =
      all_before p whole w a m.lawful m.part x xs m.each m.ordered m.forward y (in_whole p b whole w n.part y there)
      (λ q. m.apart y q (IsIn-held p b y there))
      (foreign p whole w b n.lawful n.part x y (IsIn-held p whole x (in_whole p a whole w m.part x (m.each x (contains_here x xs)))) there (m.apart x (contains_here x xs)))
      k z i in
      before_all p whole w b n.lawful n.part y ys n.each n.ordered n.forward z first t j

  across : (a b : List Op) (xs ys : List Identifier) → IsOwn p whole a b xs → IsOwn p whole b a ys → goes_first (before p whole) xs ys ≡ true
      → (z t : Identifier) → Contains xs z → Contains ys t → before p whole z t ≡ true
  across a b [] ys m n k z t i j = absurd (contains_none z i)
  across a b (x ∷ xs) [] m n k z t i j = absurd (contains_none t j)
  across a b (x ∷ xs) (y ∷ ys) m n k z t i j = stand_apart a b x y xs ys m n k z t i j

  across_back : (a b : List Op) (xs ys : List Identifier) → IsOwn p whole a b xs → IsOwn p whole b a ys → goes_first (before p whole) xs ys ≡ false
      → (z t : Identifier) → Contains ys z → Contains xs t → before p whole z t ≡ true
  across_back a b [] ys m n k z t i j = absurd (true≢false k)
  across_back a b (x ∷ xs) [] m n k z t i j = absurd (true≢false k)
  across_back a b (x ∷ xs) (y ∷ ys) m n k z t i j =
      let mx : IsIn p a x = m.each x (contains_here x xs) in
      let my : IsIn p b y = n.each y (contains_here y ys) in
      let d : x ≢ y = λ e. m.apart x (contains_here x xs) (subst (λ q. holds b q ≡ true) (sym e) (IsIn-held p b y my)) in
      stand_apart b a y x ys xs n m (turned p whole w x y (in_whole p a whole w m.part x mx) (in_whole p b whole w n.part y my) d k) z t i j

  -- both are in order
  pub both_ordered : (a b : List Op) (xs ys : List Identifier) → IsOwn p whole a b xs → IsOwn p whole b a ys
      → AllPairs (λ x y. before p whole x y ≡ true) (both (before p whole) xs ys)
  both_ordered a b xs ys m n =
      let T : Identifier → Identifier → Type 0 = λ x y. before p whole x y ≡ true in
      elim (cases_Bool (goes_first (before p whole) xs ys)) [
        | inl k ↦ subst (λ (q : Bool). AllPairs T (if q then xs ++ ys else ys ++ xs)) (sym k)
            (all_pairs_append T xs ys m.ordered n.ordered (all_from_contains (λ x. All (T x) ys) xs (λ x i. all_from_contains (T x) ys (λ y j. across a b xs ys m n k x y i j))))
        | inr k ↦ subst (λ (q : Bool). AllPairs T (if q then xs ++ ys else ys ++ xs)) (sym k)
            (all_pairs_append T ys xs n.ordered m.ordered
            (all_from_contains (λ y. All (T y) xs) ys (λ y j. all_from_contains (T y) xs (λ x i. across_back a b xs ys m n k y x j i))))
      ]
