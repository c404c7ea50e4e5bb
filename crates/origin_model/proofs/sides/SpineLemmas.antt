-- The first and the last node below a node, found by first left and by last right children, are the first and the last by the order.
use Rattle.origin_model.proofs.Words.{Bool, Contains, Identifier, IsIn, IsOrderedBy, Lawful, List, Op, Passes, Place, Some, [], ap, append-nil, append_assoc, append_cancel_left}
use Rattle.origin_model.proofs.Words.{cases_id, chain_before, contains_here, contains_middle, false, fork_before, inl, inr, left_at, lefts, next_left, next_right, older_of, order}
use Rattle.origin_model.proofs.Words.{rights, sibling, subst, sym, true, ◌++◌, ◌∙◌, ◌∷◌, ◌≡◌, ◌≢◌, ◌⊎◌}
use Rattle.origin_model.specs.sides.Slot.{FirstBelow, IsChild, IsTable, LastBelow}
use Rattle.origin_model.specs.declared.sides.Slot.{Slot}
use Rattle.origin_model.specs.declared.sides.Slot.TheVariants.{LeftOf, RightOf}
use Rattle.origin_model.proofs.order.{IsIn-held, before_at, chain_above, chain_before-fork, chain_before-same, common, first_of, fork_moved, heads, last_of, lefts-above, longer}
use Rattle.origin_model.proofs.order.{no_member, not_longer, same_chain}
use Rattle.origin_model.proofs.operations.LookupLemmas.{IsHeld}
use Rattle.origin_model.proofs.sides.SlotLemmas.{child-in, child-left, child-lefts, child-rights, child_under, left_there, rooted, under_left}

-- a goes before b at a fork
abbrev pub goes_first : Place → List Op → Identifier → Identifier → Bool
goes_first p h = fork_before (order p (older_of h)) h

-- y is the last of the elements whose chains of left origins begin with that of s
pub record IsLastIn (p : Place) (h : List Op) (s y : Identifier) : Type 0 where
  pub member : IsIn p h y
  pub under : Passes (lefts h s) (lefts h y)
  pub last : (e : Identifier) → IsIn p h e → Passes (lefts h s) (lefts h e) → (e ≡ y) ⊎ (before_at p h e y ≡ true)

-- y is the first of the elements that stand in the forest of right origins below q, or below those
pub record IsFirstIn (p : Place) (h : List Op) (q y : Identifier) : Type 0 where
  pub member : IsIn p h y
  pub same_left : lefts h y ≡ chain_above next_left h (left_at h q) ++ y ∷ []
  pub under : Passes (rights h q) (rights h y)
  pub first : (e u : Identifier) (more ms : List Identifier) → IsIn p h e → lefts h e ≡ chain_above next_left h (left_at h q) ++ u ∷ more → rights h u ≡ rights h q ++ ms
      → (e ≡ y) ⊎ (before_at p h y e ≡ true)

-- the tables of a lawful history
module _ (p : Place) (h : List Op) (w : Lawful h) (children : Slot → List Identifier) (t : IsTable p h children) where
  -- the comparison at a fork
  abbrev F : Identifier → Identifier → Bool
  F = goes_first p h

  -- the comparison of siblings
  abbrev S : Identifier → Identifier → Bool
  S = sibling (order p (older_of h)) h

  -- the last child stands after all others
  last_is : (s : Slot) (front : List Identifier) (v r : Identifier) → children s ≡ front ++ v ∷ [] → Contains (children s) r → (r ≡ v) ⊎ (F r v ≡ true)
  last_is s front v r e m =
      elim (last_of (fork_before (order p h) h) front v r (subst (IsOrderedBy (fork_before (order p h) h)) e (t.sorted s)) (subst (λ l. Contains l r) e m)) [
        | inl d ↦ inl d
        | inr k ↦ inr (sym (fork_moved p h r v w) ∙ k)
      ]

  -- the first child stands before all others
  first_is : (s : Slot) (v r : Identifier) (rest : List Identifier) → children s ≡ v ∷ rest → Contains (children s) r → (r ≡ v) ⊎ (F v r ≡ true)
  first_is s v r rest e m =
      elim (first_of (fork_before (order p h) h) v r rest (subst (IsOrderedBy (fork_before (order p h) h)) e (t.sorted s)) (subst (λ l. Contains l r) e m)) [
        | inl d ↦ inl d
        | inr k ↦ inr (sym (fork_moved p h v r w) ∙ k)
      ]

  -- the last child is a child
  last_child : (s : Slot) (front : List Identifier) (v : Identifier) → children s ≡ front ++ v ∷ [] → IsChild p h s v
  last_child s front v e = t.sound s v (subst (λ l. Contains l v) (sym e) (contains_middle front v []))

  -- the first child is a child
  pub first_child : (s : Slot) (v : Identifier) (rest : List Identifier) → children s ≡ v ∷ rest → IsChild p h s v
  first_child s v rest e = t.sound s v (subst (λ l. Contains l v) (sym e) (contains_here v rest))

  -- what has the chain of s is s
  passes_end : (s e : Identifier) → IsHeld h s → IsHeld h e → lefts h e ≡ lefts h s ++ [] → e ≡ s
  passes_end s e k j q = same_chain next_left h e s j k (q ∙ append-nil (lefts h s))

  -- the walk by last right children ends at the last element below
  pub spine_last : (vs : List Identifier) (s y : Identifier) → IsIn p h s → LastBelow children vs s y → IsLastIn p h s y
  spine_last [] s y m k =
      subst (IsLastIn p h s) k.1
      (record {
        member = m;
        under = ([], sym (append-nil (lefts h s)));
        last = λ e n q. elim q.0 as (λ more. lefts h e ≡ lefts h s ++ more → (e ≡ s) ⊎ (before_at p h e s ≡ true)) [
          | [] ↦ (λ j. inl (passes_end s e (IsIn-held p h s m) (IsIn-held p h e n) j))
          | u ∷ ms ↦ (λ j.
              let d = under_left p h (Some s) e u ms w (IsIn-held p h s m) n j in
              let r = rooted p h (Some s) u w (IsIn-held p h s m) d.member d.left_u in
              absurd (no_member (children (RightOf (Some s))) r.root k.0 (t.full (RightOf (Some s)) r.root r.is_child)))
        ] q.1;
      })
  spine_last (v ∷ vs) s y m k =
      let kv : IsChild p h (RightOf (Some s)) v = last_child (RightOf (Some s)) k.0.0 v k.0.1 in
      let l = spine_last vs v y (child-in p h (RightOf (Some s)) v kv) k.1 in
      let lv : lefts h v ≡ lefts h s ++ v ∷ [] = child-lefts p h (RightOf (Some s)) v w kv in
      let rv : rights h v ≡ v ∷ [] = child-rights p h (RightOf (Some s)) v w kv in
      let ly : lefts h y ≡ lefts h s ++ v ∷ l.under.0 = l.under.1 ∙ ap (λ a. a ++ l.under.0) lv ∙ append_assoc (lefts h s) (v ∷ []) l.under.0 in
      record {
        member = l.member;
        under = (v ∷ l.under.0, ly);
        last = λ e n q. elim q.0 as (λ more. lefts h e ≡ lefts h s ++ more → (e ≡ y) ⊎ (before_at p h e y ≡ true)) [
          | [] ↦ (λ j. inr ((λ i. chain_before true S (j i) (ly i)) ∙ common true S (lefts h s) [] (v ∷ l.under.0)))
          | u ∷ ms ↦ (λ j. elim (cases_id u v) [
            | inl d ↦ l.last e n (ms, j ∙ ap (λ z. lefts h s ++ z ∷ ms) d ∙ sym (append_assoc (lefts h s) (v ∷ []) ms) ∙ ap (λ a. a ++ ms) (sym lv))
            | inr d ↦
                let b = under_left p h (Some s) e u ms w (IsIn-held p h s m) n j in
                let r = rooted p h (Some s) u w (IsIn-held p h s m) b.member b.left_u in
                let suv : S u v ≡ true = elim (cases_id r.root v) [
                  | inl c ↦ (λ i. chain_before false F ((r.path ∙ ap (λ z. z ∷ r.below) c) i) (rv i)) ∙ chain_before-same false F v r.below []
                      ∙ longer F r.below (λ z. d (r.own z ∙ c))
                  | inr c ↦ (λ i. chain_before false F (r.path i) (rv i)) ∙ chain_before-fork false F r.root v r.below [] c
                      ∙ elim (last_is (RightOf (Some s)) k.0.0 v r.root k.0.1 (t.full (RightOf (Some s)) r.root r.is_child)) [ inl z ↦ absurd (c z) | inr z ↦ z ]
                ] in
                inr ((λ i. chain_before true S (j i) (ly i)) ∙ common true S (lefts h s) (u ∷ ms) (v ∷ l.under.0) ∙ chain_before-fork true S u v ms l.under.0 d ∙ suv)
          ])
        ] q.1;
      }

  -- the walk by first left children ends at the first element below
  pub spine_first : (vs : List Identifier) (q y : Identifier) → IsIn p h q → FirstBelow children vs q y → IsFirstIn p h q y
  spine_first [] q y m k =
      let A : List Identifier = chain_above next_left h (left_at h q) in
      let hq : IsHeld h q = IsIn-held p h q m in
      let lq : lefts h q ≡ A ++ q ∷ [] = lefts-above h q w hq in
      subst (IsFirstIn p h q) k.1
      (record {
        member = m;
        same_left = lq;
        under = ([], sym (append-nil (rights h q)));
        first = λ e u more ms n j i.
            let b = under_left p h (left_at h q) e u more w (left_there p h q w m) n j in
            (elim ms as (λ ms. rights h u ≡ rights h q ++ ms → (e ≡ q) ⊎ (before_at p h q e ≡ true)) [
              | [] ↦ (λ z.
                  let d : u ≡ q = same_chain next_right h u q (IsIn-held p h u b.member) hq (z ∙ append-nil (rights h q)) in
                  (elim more as (λ more. lefts h e ≡ A ++ u ∷ more → (e ≡ q) ⊎ (before_at p h q e ≡ true)) [
                    | [] ↦ (λ f. inl (same_chain next_left h e q (IsIn-held p h e n) hq (f ∙ ap (λ x. A ++ x ∷ []) d ∙ sym lq)))
                    | x ∷ xs ↦ (λ f. inr ((λ i. chain_before true S (lq i) ((f ∙ ap (λ y. A ++ y ∷ x ∷ xs) d) i)) ∙ common true S A (q ∷ []) (q ∷ x ∷ xs)
                        ∙ chain_before-same true S q [] (x ∷ xs)))
                  ]) j)
              | x ∷ xs ↦ (λ z. absurd (no_member (children (LeftOf q)) x k.0 (t.full (LeftOf q) x (child_under p h (LeftOf q) u x xs w hq b.member b.left_u z))))
            ]) i;
      })
  spine_first (v ∷ vs) q y m k =
      let A : List Identifier = chain_above next_left h (left_at h q) in
      let hq : IsHeld h q = IsIn-held p h q m in
      let kv : IsChild p h (LeftOf q) v = first_child (LeftOf q) v k.0.0 k.0.1 in
      let f = spine_first vs v y (child-in p h (LeftOf q) v kv) k.1 in
      let lv : left_at h v ≡ left_at h q = child-left p h (LeftOf q) v kv in
      let rv : rights h v ≡ rights h q ++ v ∷ [] = child-rights p h (LeftOf q) v w kv in
      let ly : lefts h y ≡ A ++ y ∷ [] = f.same_left ∙ ap (λ l. chain_above next_left h l ++ y ∷ []) lv in
      let ry : rights h y ≡ rights h q ++ v ∷ f.under.0 = f.under.1 ∙ ap (λ a. a ++ f.under.0) rv ∙ append_assoc (rights h q) (v ∷ []) f.under.0 in
      record {
        member = f.member;
        same_left = ly;
        under = (v ∷ f.under.0, ry);
        first = λ e u more ms n j i.
            let b = under_left p h (left_at h q) e u more w (left_there p h q w m) n j in
            let turn : y ≢ u → S y u ≡ true → before_at p h y e ≡ true =
            λ d s. (λ i. chain_before true S (ly i) (j i)) ∙ common true S A (y ∷ []) (u ∷ more) ∙ chain_before-fork true S y u [] more d ∙ s in
            (elim ms as (λ ms. rights h u ≡ rights h q ++ ms → (e ≡ y) ⊎ (before_at p h y e ≡ true)) [
              | [] ↦ (λ z.
                  inr (turn (λ d. not_longer (rights h q) v f.under.0 (sym (append-nil (rights h q)) ∙ sym z ∙ ap (rights h) (sym d) ∙ ry))
                  ((λ i. chain_before false F (ry i) (z i)) ∙ common false F (rights h q) (v ∷ f.under.0) [])))
              | x ∷ xs ↦ (λ z. elim (cases_id x v) [
                | inl d ↦ f.first e u more xs n (j ∙ ap (λ l. chain_above next_left h l ++ u ∷ more) (sym lv))
                    (z ∙ ap (λ c. rights h q ++ c ∷ xs) d ∙ sym (append_assoc (rights h q) (v ∷ []) xs) ∙ ap (λ a. a ++ xs) (sym rv))
                | inr d ↦
                    let kx = child_under p h (LeftOf q) u x xs w hq b.member b.left_u z in
                    let vx : F v x ≡ true = elim (first_is (LeftOf q) v x k.0.0 k.0.1 (t.full (LeftOf q) x kx)) [ inl c ↦ absurd (d c) | inr c ↦ c ] in
                    inr (turn (λ c. d (sym (heads v x f.under.0 xs (append_cancel_left (rights h q) (v ∷ f.under.0) (x ∷ xs) (sym ry ∙ ap (rights h) c ∙ z)))))
                    ((λ i. chain_before false F (ry i) (z i)) ∙ common false F (rights h q) (v ∷ f.under.0) (x ∷ xs) ∙ chain_before-fork false F v x f.under.0 xs (λ c. d (sym c))
                    ∙ vx))
              ])
            ]) i;
      }
