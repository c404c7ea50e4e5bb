-- Chains of origins: one more operation leaves those of older elements, each ends in its element, and its members are held.
use Rattle.origin_model.proofs.Words.{All, All-nil, All-push, All-weaker, Identifier, List, None, Op, Option, Some, [], ap, cases_Bool, chain, false, false≢true, has_left}
use Rattle.origin_model.proofs.Words.{if◌then◌else◌, inl, inr, is_own, not_some, refl, right_beside, same_from_push, subst, sym, true, ◌++◌, ◌∙◌, ◌∷◌, ◌≡◌}
use Rattle.origin_model.proofs.operations.LookupLemmas.{IsHeld, holds-older, holds-other, holds-own}
use Rattle.origin_model.proofs.order.ListPartLemmas.{no_end, not_nil}

-- a chain ends in x
abbrev pub EndsIn : Identifier → List Identifier → Type 0
EndsIn x xs = (c : List Identifier) × (xs ≡ c ++ x ∷ [])

-- what an older history holds, the longer one holds
lifted : (op : Op) (older : List Op) (xs : List Identifier) → All (IsHeld older) xs → All (IsHeld (op ∷ older)) xs
lifted op older = All-weaker (IsHeld older) (IsHeld (op ∷ older)) (holds-older op older)

-- the chains by what is next to an operation's element
module _ (next : List Op → Op → Option Identifier) where
  -- the chain above an element, by the one that is next to it
  abbrev pub chain_above : List Op → Option Identifier → List Identifier
  chain_above h None = []
  chain_above h (Some y) = chain next h y

  -- the chain at the newest element
  pub chain-own : (op : Op) (older : List Op) (x : Identifier) → is_own x op ≡ true → chain next (op ∷ older) x ≡ chain_above older (next older op) ++ x ∷ []
  unfolding chain
  chain-own op older x e = rw (e, chain) (
      elim (next older op) as (λ o. (elim o [ None ↦ x ∷ [] | Some y ↦ chain next older y ++ x ∷ [] ]) ≡ chain_above older o ++ x ∷ []) [ None ↦ refl | Some y ↦ refl ])

  -- older elements keep their chain
  pub chain-other : (op : Op) (older : List Op) (x : Identifier) → is_own x op ≡ false → chain next (op ∷ older) x ≡ chain next older x
  unfolding chain
  chain-other op older x e = rw (e, chain)

  -- a chain ends in its element
  pub chain-ends : (h : List Op) (x : Identifier) → IsHeld h x → EndsIn x (chain next h x)
  chain-ends [] x p = absurd (false≢true p)
  chain-ends (op ∷ older) x p =
      elim (cases_Bool (is_own x op)) [
        | inl e ↦ (chain_above older (next older op), chain-own op older x e)
        | inr e ↦ subst (EndsIn x) (sym (chain-other op older x e)) (chain-ends older x (sym (holds-other op older x e) ∙ p))
      ]

  -- an element is fixed by its chain
  pub same_chain : (h : List Op) (a b : Identifier) → IsHeld h a → IsHeld h b → chain next h a ≡ chain next h b → a ≡ b
  same_chain h a b k j e =
      let p = chain-ends h a k in
      let q = chain-ends h b j in
      (same_from_push p.0 q.0 a b (sym p.1 ∙ e ∙ q.1)).1

  -- no chain of a held element is empty
  pub never_none : (h : List Op) (x : Identifier) → IsHeld h x → chain next h x ≡ [] → ⊥
  never_none h x k e = let r = chain-ends h x k in no_end r.0 x (sym r.1 ∙ e)

  -- where a chain above has a member, it is that of the one that is next
  pub above_some : (h : List Op) (o : Option Identifier) (c more : List Identifier) (u : Identifier) → chain_above h o ≡ c ++ u ∷ more
      → (y : Identifier) × (o ≡ Some y) × (chain next h y ≡ c ++ u ∷ more)
  above_some h None c more u e = absurd (not_nil c u more e)
  above_some h (Some y) c more u e = (y, refl, e)

  -- chains above are the same where those of the one that is next are
  pub above-same : (s h : List Op) (o : Option Identifier) → ((y : Identifier) → o ≡ Some y → chain next s y ≡ chain next h y) → chain_above s o ≡ chain_above h o
  above-same s h None f = refl
  above-same s h (Some y) f = f y refl

  -- what holds of the chain of the one that is next holds of the chain above
  pub above-all : (P : Identifier → Type 0) (h : List Op) (o : Option Identifier) → ((y : Identifier) → o ≡ Some y → All P (chain next h y)) → All P (chain_above h o)
  above-all P h None f = All-nil P
  above-all P h (Some y) f = f y refl

  -- the members of a chain are held
  pub chain-held : (h : List Op) (x : Identifier) → All (IsHeld h) (chain next h x)
  unfolding chain
  chain-held [] x = All-nil (IsHeld [])
  chain-held (op ∷ older) x =
      let h : List Op = op ∷ older in
      elim (cases_Bool (is_own x op)) [
        | inl e ↦ subst (All (IsHeld h)) (sym (chain-own op older x e))
            (All-push (IsHeld h) (chain_above older (next older op)) x
            (above-all (IsHeld h) older (next older op) (λ y _. lifted op older (chain next older y) (chain-held older y))) (holds-own op older x e))
        | inr e ↦ subst (All (IsHeld h)) (sym (chain-other op older x e)) (lifted op older (chain next older x) (chain-held older x))
      ]

-- what is beside a left origin is the right origin, and has that left origin
pub beside_is : (h : List Op) (l o : Option Identifier) (r : Identifier) → right_beside h l o ≡ Some r → (o ≡ Some r) × (has_left h r l ≡ true)
beside_is h l None r e = absurd (not_some r (sym e))
beside_is h l (Some q) r e =
    elim (cases_Bool (has_left h q l)) [
      | inl k ↦ let d : Some q ≡ Some r = sym (ap (λ b. if b then Some q else None) k) ∙ e in (d, subst (λ z. has_left h z l ≡ true) (cc) k)
      | inr k ↦ absurd (not_some r (sym e ∙ ap (λ b. if b then Some q else None) k))
    ]

-- what is beside a left origin, by which right origins have it
pub beside-same : (s h : List Op) (l o : Option Identifier) → ((r : Identifier) → o ≡ Some r → has_left s r l ≡ has_left h r l) → right_beside s l o ≡ right_beside h l o
beside-same s h l None f = refl
beside-same s h l (Some r) f = ap (λ b. if b then Some r else None) (f r refl)
