-- The fronts of chains of left and of right origins: each is the chain of its last member.
use Rattle.origin_model.proofs.Words.{All, All-contains, All-push, Contains, Identifier, Lawful, List, None, Op, Option, Some, [], all_from_contains, ap, cases_Bool, chain}
use Rattle.origin_model.proofs.Words.{contains_middle, false≢true, has_left, holder, inl, inr, is_own, left_at, left_of, lefts, next_left, next_right, origin_eq-true, refl}
use Rattle.origin_model.proofs.Words.{right_of, rights, same_from_push, subst, sym, true, ◌++◌, ◌∙◌, ◌∷◌, ◌≡◌}
use Rattle.origin_model.proofs.order.ListPartLemmas.{split_end}
use Rattle.origin_model.proofs.operations.LookupLemmas.{IsHeld, found, held_not_own, holder-other, holder-own, holds-other, right_named, when_ready}
use Rattle.origin_model.proofs.order.PartLemmas.{has_left_by, lefts-at, RestsOn, left_held, ready_rests, right_held}
use Rattle.origin_model.proofs.order.ChainLemmas.{above-all, above_some, beside_is, chain-ends, chain-held, chain-other, chain-own, chain_above}

-- chains, where the next one is held
module _ (next : List Op → Op → Option Identifier) (held : (h : List Op) (op : Op) (y : Identifier) → RestsOn h op → next h op ≡ Some y → IsHeld h y) where
  -- each beginning of a chain is the chain of its last member
  chain-prefix : (h : List Op) (e u : Identifier) (c more : List Identifier) → Lawful h → IsHeld h e → chain next h e ≡ c ++ u ∷ more → chain next h u ≡ c ++ u ∷ []
  chain-prefix [] e u c more w p q = absurd (false≢true p)
  chain-prefix (op ∷ older) e u c more w p q =
      let rd = when_ready older op w.0 in
      let h : List Op = op ∷ older in
      let down : (y : Identifier) (m : List Identifier) → IsHeld older y → chain next older y ≡ c ++ u ∷ m → chain next h u ≡ c ++ u ∷ [] = λ y m k j.
      let in_older : IsHeld older u = All-contains (IsHeld older) (chain next older y) u (chain-held next older y) (subst (λ l. Contains l u) (sym j) (contains_middle c u m)) in
      chain-other next op older u (held_not_own op older u rd in_older) ∙ chain-prefix older y u c m w.1 k j in
      elim (cases_Bool (is_own e op)) [
        | inr k ↦ down e more (sym (holds-other op older e k) ∙ p) (sym (chain-other next op older e k) ∙ q)
        | inl k ↦ elim (split_end (chain_above next older (next older op)) c e u more (sym (chain-own next op older e k) ∙ q)) [
          | inl s ↦ ap (chain next h) s.1 ∙ q ∙ ap (λ m. c ++ u ∷ m) s.0
          | inr s ↦ let y = above_some next older (next older op) c s.0 u s.1 in down y.0 s.0 (held older op y.0 (ready_rests older op rd) y.1) y.2
        ]
      ]

-- each beginning of a chain of left origins is the chain of its last member
pub lefts-prefix : (h : List Op) (e u : Identifier) (c more : List Identifier) → Lawful h → IsHeld h e → lefts h e ≡ c ++ u ∷ more → lefts h u ≡ c ++ u ∷ []
lefts-prefix = chain-prefix next_left left_held

-- a chain of right origins of one member is its element
pub only_one : (h : List Op) (u r : Identifier) (below : List Identifier) → IsHeld h u → rights h u ≡ r ∷ below → below ≡ [] → u ≡ r
only_one h u r below k e b =
    let p = chain-ends next_right h u k in
    (same_from_push p.0 [] u r (sym p.1 ∙ e ∙ ap (λ z. r ∷ z) b)).1

-- the left origin of what a look-up found
abbrev pub left_by : Option Op → Option Identifier
left_by o = elim o [ None ↦ None | Some op ↦ left_of op ]

-- an element that has this left origin
pub has_left-at : (h : List Op) (r : Identifier) (l : Option Identifier) → has_left h r l ≡ true → left_at h r ≡ l
has_left-at h r l =
    elim (holder h r) as (λ o. has_left_by l o ≡ true → left_by o ≡ l) [ None ↦ (λ e. absurd (false≢true e)) | Some op ↦ origin_eq-true (left_of op) l ]

-- the left origin, by the operation
pub left_at-is : (h : List Op) (v : Identifier) (op : Op) → holder h v ≡ Some op → left_at h v ≡ left_of op
left_at-is h v op e = ap left_by e

-- the chain of left origins, by the left origin
pub lefts-above : (h : List Op) (v : Identifier) → Lawful h → IsHeld h v → lefts h v ≡ chain_above next_left h (left_at h v) ++ v ∷ []
lefts-above h v w k =
    let o = found (holder h v) k in
    lefts-at h v o.0 w o.1 ∙ ap (λ l. chain_above next_left h l ++ v ∷ []) (sym (left_at-is h v o.0 o.1))

-- the members of a chain of right origins have one left origin
rights-left : (h : List Op) (u : Identifier) → Lawful h → IsHeld h u → All (λ z. left_at h z ≡ left_at h u) (rights h u)
rights-left [] u w p = absurd (false≢true p)
rights-left (op ∷ older) u w p =
    let rd = when_ready older op w.0 in
    let h : List Op = op ∷ older in
    let down : (l : Option Identifier) (r : Identifier) → IsHeld older r → left_at older r ≡ l → All (λ z. left_at h z ≡ l) (rights older r) = λ l r k e.
    all_from_contains (λ z. left_at h z ≡ l) (rights older r) (λ z m.
    ap left_by (holder-other op older z (held_not_own op older z rd (All-contains (IsHeld older) (rights older r) z (chain-held next_right older r) m)))
    ∙ All-contains (λ y. left_at older y ≡ left_at older r) (rights older r) z (rights-left older r w.1 k) m ∙ e) in
    elim (cases_Bool (is_own u op)) [
      | inr k ↦ subst (All (λ z. left_at h z ≡ left_at h u)) (sym (chain-other next_right op older u k))
          (down (left_at h u) u (sym (holds-other op older u k) ∙ p) (sym (ap left_by (holder-other op older u k))))
      | inl k ↦
          let own : left_at h u ≡ left_of op = left_at-is h u op (holder-own op older u k) in
          subst (All (λ z. left_at h z ≡ left_at h u)) (sym (chain-own next_right op older u k))
          (All-push (λ z. left_at h z ≡ left_at h u) (chain_above next_right older (next_right older op)) u
          (above-all next_right (λ z. left_at h z ≡ left_at h u) older (next_right older op) (λ r f.
          let b = beside_is older (left_of op) (right_of op) r f in
          down (left_at h u) r (right_named older op r rd b.0) (has_left-at older r (left_of op) b.1 ∙ sym own))) refl)
    ]

-- each beginning of a chain of right origins is the chain of its last member, which has the same left origin
pub rights-prefix : (h : List Op) (u z : Identifier) (c ws : List Identifier) → Lawful h → IsHeld h u → rights h u ≡ c ++ z ∷ ws
    → (rights h z ≡ c ++ z ∷ []) × (left_at h z ≡ left_at h u)
rights-prefix h u z c ws w p q = (
  chain-prefix next_right right_held h u z c ws w p q,
  All-contains (λ y. left_at h y ≡ left_at h u) (rights h u) z (rights-left h u w p) (subst (λ l. Contains l z) (sym q) (contains_middle c z ws)),
)
