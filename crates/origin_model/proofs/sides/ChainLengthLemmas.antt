-- The lengths of the chains of origins, which keys tell, and chains that are cut at a given length.
use Rattle.origin_model.proofs.Words.{Identifier, List, Op, Option, [], ap, append-nil, arith, cases_Bool, chain, inl, inr, is_own, length, length-append, next_right, None, Some}
use Rattle.origin_model.proofs.Words.{refl, rights, same_from_push, suc, sym, zero, ℕ, ◌++◌, ◌+◌, ◌-◌, ◌<◌, ◌∙◌, ◌∷◌, ◌≡◌, ◌≤◌}
use Rattle.origin_model.specs.order.Order.{Passes}
use Rattle.origin_model.specs.sides.Keys.{forest_of}
use Rattle.origin_model.proofs.operations.LookupLemmas.{IsHeld}
use Rattle.origin_model.proofs.order.{chain-other, chain-own, chain_above, never_none}
use Rattle.origin_model.proofs.order.ChainLemmas.{EndsIn}

-- the length of a chain
abbrev pub len : List Identifier → ℕ
len xs = length {A = Identifier} xs

-- a list with one more
pub more : (xs : List Identifier) (x : Identifier) → len (xs ++ x ∷ []) ≡ suc (len xs)
more xs x = omega (arith, length-append xs (x ∷ []))

-- the length of joined lists
pub len-append : (xs ys : List Identifier) → len (xs ++ ys) ≡ len xs + len ys
len-append xs ys = length-append xs ys

-- a list that is not empty
not_empty : (xs : List Identifier) → (xs ≡ [] → ⊥) → suc (len xs - 1) ≡ len xs
not_empty [] n = absurd (n refl)
not_empty (x ∷ xs) n = omega arith

-- the chain of right origins is longer than the forest by one
pub forest-rights : (h : List Op) (x : Identifier) → IsHeld h x → suc (forest_of h x) ≡ len (rights h x)
forest-rights h x k = not_empty (rights h x) (never_none next_right h x k)

-- chains by what is next to an operation's element
module _ (next : List Op → Op → Option Identifier) where
  -- a chain above is no longer than the chains of the history
  above-bound : (n : ℕ) (h : List Op) (o : Option Identifier) → ((y : Identifier) → len (chain next h y) ≤ n) → len (chain_above next h o) ≤ n
  above-bound n h None f = omega arith
  above-bound n h (Some y) f = f y

  -- no chain is longer than the history
  pub chain-bound : (h : List Op) (x : Identifier) → len (chain next h x) ≤ length {A = Op} h
  unfolding chain
  chain-bound [] x = omega arith
  chain-bound (op ∷ older) x =
      let above = above-bound (length {A = Op} older) older (next older op) (chain-bound older) in
      elim (cases_Bool (is_own x op)) [
        | inl k ↦ omega (arith, ap len (chain-own next op older x k), more (chain_above next older (next older op)) x, above)
        | inr k ↦ omega (arith, ap len (chain-other next op older x k), chain-bound older x)
      ]

-- a list with n members and one more after them
pub record Cut (n : ℕ) (xs : List Identifier) : Type 0 where
  pub front : List Identifier
  pub member : Identifier
  pub more : List Identifier
  pub whole : xs ≡ front ++ member ∷ more
  pub size : len front ≡ n

-- a longer list is cut so
pub cut : (n : ℕ) (xs : List Identifier) → n < len xs → Cut n xs
cut n [] k = absurd (omega arith)
cut zero (x ∷ xs) k = record { front = []; member = x; more = xs; whole = refl; size = refl }
cut (suc n) (x ∷ xs) k =
    let c = cut n xs (omega arith) in
    record { front = x ∷ c.front; member = c.member; more = c.more; whole = ap (λ t. x ∷ t) c.whole; size = ap suc c.size }

-- fronts of one length of one list are equal
pub common_prefix : (xs ys as' bs : List Identifier) → len xs ≡ len ys → xs ++ as' ≡ ys ++ bs → xs ≡ ys
common_prefix [] [] as' bs l e = refl
common_prefix [] (y ∷ ys) as' bs l e = absurd (omega arith)
common_prefix (x ∷ xs) [] as' bs l e = absurd (omega arith)
common_prefix (x ∷ xs) (y ∷ ys) as' bs l e =
    let a : x ≡ y = cc in
    let b : xs ++ as' ≡ ys ++ bs = cc in
    let r : xs ≡ ys = common_prefix xs ys as' bs (omega arith) b in
    λ i. a i ∷ r i

-- a chain that ends in v and is longer by one than a front of it is that front and v
pub pass_one : (v : Identifier) (xs a : List Identifier) → EndsIn v xs → Passes a xs → len xs ≡ suc (len a) → xs ≡ a ++ v ∷ []
pass_one v xs a r q l = one q.0 q.1
  where
    one : (m : List Identifier) → xs ≡ a ++ m → xs ≡ a ++ v ∷ []
    one [] e = let k : len xs ≡ len a = ap len (e ∙ append-nil a) in absurd (omega arith)
    one (z ∷ []) e = let d : v ≡ z = (same_from_push r.0 a v z (sym r.1 ∙ e)).1 in e ∙ ap (λ c. a ++ c ∷ []) (sym d)
    one (z ∷ y ∷ ys) e = let k : len xs ≡ len (a ++ z ∷ y ∷ ys) = ap len e in let j = len-append a (z ∷ y ∷ ys) in absurd (omega arith)
