-- A chain of origins is passed where the way by origins goes up to its element.
use Rattle.std.proofs.Common.{List, [], ap, append_assoc, arith, inl, inr, length, refl, suc, sym, zero, ℕ, ◌++◌, ◌∙◌, ◌∷◌, ◌≡◌, ◌≤◌, ◌⊎◌}
use Rattle.std.proofs.lemmas.List.{append-nil, length-append}
use Rattle.fugue_ids.specs.Identifiers.{Identifier}
use Rattle.fugue_ids.specs.declared.op.Op.{Op}
use Rattle.fugue_ids.proofs.IdentifierLemmas.{cases_origin}
use Rattle.origin_model.specs.declared.operations.Place.{Place}
use Rattle.origin_model.specs.operations.Verdict.{Lawful}
use Rattle.origin_model.specs.order.Laws.{IsIn}
use Rattle.origin_model.specs.order.Order.{Passes, left_at, lefts, next_left, next_right, rights}
use Rattle.origin_model.specs.edits.Passages.{IsOnLeft, Relation}
use Rattle.origin_model.proofs.SharedLemmas.{chain-ends, chain_above, IsHeld, IsIn-held, lefts-above, not_nil, same_chain}
use Rattle.only_order.specs.TextOrder.{HangsOn, IsLeft, IsRightSibling, IsTextOrder, LeadsUp, LeansOn, WasPutBefore}
use Rattle.only_order.specs.Chains.{ByChains, IsOrderByChains}
use Rattle.only_order.proofs.HeldLemmas.{is_sibling, left_held, right_held, right_sibling, rights_above, sibling_is}

-- how a list with the last member e is split after c
split_end : (xs c : List Identifier) (e u : Identifier) (more : List Identifier) → xs ++ e ∷ [] ≡ c ++ u ∷ more
    → (rest : List Identifier) × (xs ≡ c ++ rest) × (u ∷ more ≡ rest ++ e ∷ [])
split_end xs [] e u more h = (xs, refl, sym h)
split_end [] (y ∷ c) e u more h = absurd (not_nil c u more (cc h))
split_end (x ∷ xs) (y ∷ c) e u more h =
    let a : x ≡ y = cc h in
    let r = split_end xs c e u more (cc h) in
    (r.0, (λ i. a i ∷ r.1 i), r.2)

-- a list of one member has no other after it
too_long : (a : List Identifier) (x m e : Identifier) (ms : List Identifier) → e ∷ [] ≡ (a ++ x ∷ []) ++ m ∷ ms → ⊥
too_long [] x m e ms h = cc h
too_long (y ∷ a) x m e ms h = not_nil (a ++ x ∷ []) m ms (cc h)

-- chains c, which go on from the chain of what is above
module _ (P : Identifier → Type 0) (IsAbove : Identifier → Identifier → Type 0) (c : Identifier → List Identifier)
    (closed : (y e : Identifier) → P e → IsAbove y e → P y) (longer : (y e : Identifier) → P e → IsAbove y e → c e ≡ c y ++ e ∷ [])
    (decided : (e : Identifier) → P e → ((y : Identifier) × IsAbove y e) ⊎ (c e ≡ e ∷ []))
    (ends : (e : Identifier) → P e → (front : List Identifier) × (c e ≡ front ++ e ∷ []))
    (once : (a b : Identifier) → P a → P b → c a ≡ c b → a ≡ b) where
  -- the chain of x is passed by what leads up to x
  pub passed : (x e : Identifier) (way : List Identifier) → P e → LeadsUp IsAbove x e way → Passes (c x) (c e)
  passed x e [] k g = ([], ap c g ∙ sym (append-nil (c x)))
  passed x e (y ∷ way) k g =
      let r = passed x y way (closed y e k g.0) g.1 in
      (r.0 ++ e ∷ [], longer y e k g.0 ∙ ap (λ l. l ++ e ∷ []) r.1 ∙ append_assoc (c x) r.0 (e ∷ []))

  -- what passes it leads up to x
  way_up : (n : ℕ) (x e : Identifier) (more : List Identifier) → length more ≤ n → P x → P e → c e ≡ c x ++ more → (way : List Identifier) × LeadsUp IsAbove x e way
  way_up n x e [] l k j q = ([], once e x j k (q ∙ append-nil (c x)))
  way_up zero x e (m ∷ ms) l k j q = absurd (omega (arith, l))
  way_up (suc n) x e (m ∷ ms) l k j q =
      elim (decided e j) [
        | inr a ↦ let f = ends x k in absurd (too_long f.0 x m e ms (sym a ∙ q ∙ ap (λ l. l ++ m ∷ ms) f.1))
        | inl a ↦
            let s = split_end (c a.0) (c x) e m ms (sym (longer a.0 e j a.1) ∙ q) in
            let shorter : length s.0 ≤ n = omega (arith, l, ap length s.2, length-append s.0 (e ∷ [])) in
            let r = way_up n x a.0 s.0 shorter k (closed a.0 e j a.1) s.1 in
            (a.0 ∷ r.0, (a.1, r.1))
      ]

  pub goes_up : (x e : Identifier) → P x → P e → Passes (c x) (c e) → (way : List Identifier) × LeadsUp IsAbove x e way
  goes_up x e k j q = way_up (length q.0) x e q.0 (omega arith) k j q.1

module _ (h : List Op) (w : Lawful h) where
  -- chains of left origins go on from that of the left origin
  left_longer : (y e : Identifier) → IsHeld h e → IsLeft h y e → lefts h e ≡ lefts h y ++ e ∷ []
  left_longer y e k q = lefts-above h e w k ∙ ap (λ o. chain_above next_left h o ++ e ∷ []) q

  left_decided : (e : Identifier) → IsHeld h e → ((y : Identifier) × IsLeft h y e) ⊎ (lefts h e ≡ e ∷ [])
  left_decided e k =
      elim (cases_origin (left_at h e)) [
        | inl n ↦ inr (lefts-above h e w k ∙ ap (λ o. chain_above next_left h o ++ e ∷ []) n)
        | inr s ↦ inl (s.0, s.1)
      ]

  -- chains of right origins go on from that of the right sibling
  right_longer : (y e : Identifier) → IsHeld h e → IsRightSibling h y e → rights h e ≡ rights h y ++ e ∷ []
  right_longer y e k q = rights_above h w e k ∙ ap (λ o. chain_above next_right h o ++ e ∷ []) (is_sibling h w y e k q)

  right_decided : (e : Identifier) → IsHeld h e → ((y : Identifier) × IsRightSibling h y e) ⊎ (rights h e ≡ e ∷ [])
  right_decided e k =
      elim (cases_origin (right_sibling h e)) [
        | inl n ↦ inr (rights_above h w e k ∙ ap (λ o. chain_above next_right h o ++ e ∷ []) n)
        | inr s ↦ inl (s.0, sibling_is h w s.0 e s.1)
      ]

module _ (p : Place) (h : List Op) (w : Lawful h) where
  -- the chain of left origins is passed by what hangs on its element
  lefts_passed : (x e : Identifier) → IsIn p h e → HangsOn h x e → Passes (lefts h x) (lefts h e)
  lefts_passed x e n g =
      passed (IsHeld h) (IsLeft h) (lefts h) (λ y e k q. left_held h w e y k q) (left_longer h w) (left_decided h w) (chain-ends next_left h) (same_chain next_left h) x e g.0
      (IsIn-held p h e n) g.1

  -- and by nothing else
  hangs_on : (x e : Identifier) → IsIn p h x → IsIn p h e → Passes (lefts h x) (lefts h e) → HangsOn h x e
  hangs_on x e m n =
      goes_up (IsHeld h) (IsLeft h) (lefts h) (λ y e k q. left_held h w e y k q) (left_longer h w) (left_decided h w) (chain-ends next_left h) (same_chain next_left h) x e
      (IsIn-held p h x m) (IsIn-held p h e n)

  -- the chain of right origins is passed by what was put before its element
  rights_passed : (r u : Identifier) → IsIn p h u → WasPutBefore h r u → Passes (rights h r) (rights h u)
  rights_passed r u n g =
      passed (IsHeld h) (IsRightSibling h) (rights h) (λ y e k q. right_held h w e y k q.0) (right_longer h w) (right_decided h w) (chain-ends next_right h)
      (same_chain next_right h) r u g.0 (IsIn-held p h u n) g.1

  put_before : (r u : Identifier) → IsIn p h r → IsIn p h u → Passes (rights h r) (rights h u) → WasPutBefore h r u
  put_before r u m n =
      goes_up (IsHeld h) (IsRightSibling h) (rights h) (λ y e k q. right_held h w e y k q.0) (right_longer h w) (right_decided h w) (chain-ends next_right h)
      (same_chain next_right h) r u (IsIn-held p h r m) (IsIn-held p h u n)

  -- what was put before r has its left origin
  put_left : (r u : Identifier) (way : List Identifier) → LeadsUp (IsRightSibling h) r u way → left_at h u ≡ left_at h r
  put_left r u [] g = ap (left_at h) g
  put_left r u (q ∷ way) g = sym g.0.1 ∙ put_left r q way g.1

  -- what leans on r is on its left
  on_left_from : (r e : Identifier) → IsIn p h e → LeansOn p h r e → IsOnLeft p h r e
  on_left_from r e n g = record {
    top = g.top;
    member = g.member;
    other = g.other;
    same_left = put_left r g.top g.put.0 g.put.1;
    through = rights_passed r g.top g.member g.put;
    below = lefts_passed g.top e n g.hangs;
  }

  leans_on : (r e : Identifier) → IsIn p h r → IsIn p h e → IsOnLeft p h r e → LeansOn p h r e
  leans_on r e m n g = record {
    top = g.top;
    member = g.member;
    other = g.other;
    put = put_before r g.top m g.member g.through;
    hangs = hangs_on g.top e g.member n g.below;
  }

  module _ (R : Relation) where
    with_chains : IsTextOrder p h R → IsOrderByChains p h R
    with_chains t =
        record {
          strict = t.strict;
          together = λ x m.
              let b = t.together x m in
              record { first = λ e n d q. b.first e n d (hangs_on x e m n q); no_gap = λ z e k n q i j. lefts_passed x z k (b.no_gap z e k n (hangs_on x e m n q) i j) };
          before_right = λ r m.
              let b = t.before_right r m in
              record { last = λ e n g. b.last e n (leans_on r e m n g); no_gap = λ e z n k g i j. on_left_from r z k (b.no_gap e z n k (leans_on r e m n g) i j) };
          by_identifier = t.by_identifier;
          later_right_first = t.later_right_first;
        }

    without_chains : IsOrderByChains p h R → IsTextOrder p h R
    without_chains t =
        record {
          strict = t.strict;
          together = λ x m.
              let b = t.together x m in
              record { first = λ e n d q. b.first e n d (lefts_passed x e n q); no_gap = λ z e k n q i j. hangs_on x z m k (b.no_gap z e k n (lefts_passed x e n q) i j) };
          before_right = λ r m.
              let b = t.before_right r m in
              record { last = λ e n g. b.last e n (on_left_from r e n g); no_gap = λ e z n k g i j. leans_on r z m k (b.no_gap e z n k (on_left_from r e n g) i j) };
          by_identifier = t.by_identifier;
          later_right_first = t.later_right_first;
        }

-- the sentences by origins say the same as those by chains
pub by_chains : ByChains
by_chains p h R w = (with_chains p h w R, without_chains p h w R)
